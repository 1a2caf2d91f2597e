-- The entry in the place that is looked at first is the one of the id.
use Rattle.std.proofs.Common.{sym, ◌∙◌, ap}
use Rattle.std.proofs.lemmas.Bool.{eqb-true}
use Rattle.sockets.specs.declared.entry.Entry.{Entry}
use Rattle.sockets.proofs.Ascending.{place_at}
use Rattle.sockets.proofs.table.place_near.Goals as goal

pub returns-in-Some : goal.returns-in-Some
returns-in-Some c =
    sym (place_at c.args.entries.now c.requires c.args.id c.in-Some.place c.index-entries-place.result c.if-place-entries.true c.index-entries-place.is
    (ap (λ (e : Entry). e.id.0) c.index-entries-place.is ∙ eqb-true _ _ (sym c.if-eq.ensures)))
