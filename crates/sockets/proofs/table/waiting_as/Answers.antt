-- The one entry of the id passes the test of its role, or none does.
use Rattle.std.proofs.Common.{◌∙◌, sym, ap, Bool}
use Rattle.std.specs.Bool.{then_some}
use Rattle.sockets.specs.declared.entry.Entry.{Entry}
use Rattle.sockets.specs.Entries.{waits_at}
use Rattle.sockets.proofs.Ascending.{place_of_id, none_of_id}
use Rattle.sockets.proofs.table.waiting_as.Goals as goal

pub returns : goal.returns
returns c =
    c.then_some.ensures
    ∙ ap (λ (b : Bool). then_some b c.in_ok-place.place) (c.waits_at.ensures ∙ ap (λ (e : Entry). waits_at c.args.listener e.role) (sym c.index-entries-place.is))
    ∙ sym (place_of_id c.args.entries.now c.requires c.args.id (waits_at c.args.listener) c.in_ok-place.place c.index-entries-place.result (sym c.place_near.ensures ∙ c.in_ok-place.was) c.index-entries-place.is)

pub returns-in_err-place : goal.returns-in_err-place
returns-in_err-place c = rw c.from_residual.ensures (sym (none_of_id (waits_at c.args.listener) c.args.id c.args.entries.now (sym c.place_near.ensures ∙ c.in_err-place.was)))
