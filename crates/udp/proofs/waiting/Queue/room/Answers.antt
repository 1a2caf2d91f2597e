use Rattle.std.proofs.Common.{ℕ, ◌≤◌, ◌↔◌, sym, ◌∙◌, subst}
use Rattle.std.specs.Option.{IfSome, IfNone}
use Rattle.udp.specs.Waiting.{Line, HasRoom}
use Rattle.udp.proofs.Storing.{not_full, no_place, most_stored, none_stored}
use Rattle.udp.proofs.waiting.Queue.room.Goals as goal

pub returns-then-is_full-clause-none : goal.returns-then-is_full-clause-none
returns-then-is_full-clause-none c = λ len room.
    no_place c.self.inside.entries c.self.inside.octets len c.self.invariant (sym c.is_full.ensures ∙ c.if-is_full.true)
    (subst (λ (line : Line). HasRoom line len) (sym c.self.view_is) room)

pub returns-clause-some : goal.returns-clause-some
returns-clause-some c =
    let few = not_full c.self.inside.entries c.self.inside.octets c.self.invariant (sym c.is_full.ensures ∙ c.if-is_full.false) in
    subst (λ (line : Line). IfSome c.checked_sub.result (λ most. (len : ℕ) → HasRoom line len ↔ (len ≤ most))) c.self.view_is
    (most_stored c.self.inside.entries c.self.inside.octets c.capacity.result c.len.result c.len-2.result c.checked_sub.result c.self.invariant few
    c.capacity.ensures.capacity c.len.ensures.len c.len-2.ensures.len c.checked_sub.ensures)

pub returns-clause-none : goal.returns-clause-none
returns-clause-none c =
    subst (λ (line : Line). IfNone c.checked_sub.result ((len : ℕ) → HasRoom line len → ⊥)) c.self.view_is
    (none_stored c.self.inside.entries c.self.inside.octets c.capacity.result c.len.result c.len-2.result c.checked_sub.result c.self.invariant
    c.capacity.ensures.capacity c.len.ensures.len c.len-2.ensures.len c.checked_sub.ensures)
