-- The one entry of the id may give way, or none does.
use Rattle.std.proofs.Common.{◌∙◌, ◌&&◌, ◌||◌, sym, ap, Bool, is_some}
use Rattle.std.specs.Bool.{then_some}
use Rattle.sockets.specs.declared.entry.Entry.{Entry}
use Rattle.sockets.specs.declared.role.Role.{Role}
use Rattle.sockets.specs.Entries.{is_pending, is_half_open}
use Rattle.sockets.specs.GiveWay.{left_since}
use Rattle.sockets.proofs.Ascending.{place_of_id, none_of_id}
use Rattle.sockets.proofs.table.giving_way.Goals as goal

abbrev may : Role → Bool
may r = (is_pending r && is_half_open r) || is_some (left_since r)

pub returns : goal.returns
returns c =
    c.then_some.ensures
    ∙ ap (λ (b : Bool). then_some b c.in_ok-place.place) (c.may_give_way.ensures ∙ ap (λ (e : Entry). may e.role) (sym c.index-entries-place.is))
    ∙ sym (place_of_id c.args.entries.now c.requires c.args.id may c.in_ok-place.place c.index-entries-place.result (sym c.place_of.ensures ∙ c.in_ok-place.was) c.index-entries-place.is)

pub returns-in_err-place : goal.returns-in_err-place
returns-in_err-place c = rw c.from_residual.ensures (sym (none_of_id may c.args.id c.args.entries.now (sym c.place_of.ensures ∙ c.in_err-place.was)))
