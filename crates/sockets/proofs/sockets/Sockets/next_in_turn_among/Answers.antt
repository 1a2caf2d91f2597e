-- The first behind the one that sent last, or else the first of all.
use Rattle.std.proofs.Common.{◌≡◌, ℕ, Option, Some, None, option_map, sym, ◌∙◌, ap}
use Rattle.std.specs.Option.{option_or}
use Rattle.marks.specs.First.{first_from}
use Rattle.sockets.specs.declared.emission.NextDue.{NextDue}
use Rattle.sockets.specs.Outlook.{has_due}
use Rattle.sockets.proofs.InTurn.{turn_is}
use Rattle.sockets.proofs.sockets.Sockets.next_in_turn_among.Goals as goal

abbrev place_of : Option NextDue → Option ℕ
place_of o = option_map (λ (due : NextDue). due.place) o

pub returns-in-Some-clause-place : goal.returns-in-Some-clause-place
returns-in-Some-clause-place c =
    let behind : first_from has_due c.turn_place.result c.args.self.now.entries ≡ Some c.in-Some.due.place = sym c.next_due_among.ensures.place ∙ ap place_of c.in-Some.is in
    sym (turn_is c.args.self.now has_due c.turn_place.result c.turn_place.ensures ∙ ap (λ (o : Option ℕ). option_or o (first_from has_due 0 c.args.self.now.entries)) behind)

pub returns-in-None-clause-place : goal.returns-in-None-clause-place
returns-in-None-clause-place c =
    let behind : first_from has_due c.turn_place.result c.args.self.now.entries ≡ None = sym c.next_due_among.ensures.place ∙ ap place_of c.in-None.is in
    c.next_due_among-in-None.ensures.place
    ∙ sym (turn_is c.args.self.now has_due c.turn_place.result c.turn_place.ensures ∙ ap (λ (o : Option ℕ). option_or o (first_from has_due 0 c.args.self.now.entries)) behind)
