use Rattle.std.proofs.Common.{rules, ◌≡◌, ◌||◌, not, if◌then◌else◌, true, false, refl, sym, ◌∙◌, ap, subst}
use denote.Enum.Bare.{sameb}
use Rattle.tcp_state.specs.contracts.state.State.{the_type}
use Rattle.tcp_state.specs.declared.state.State.{State}
use Rattle.tcp_state.specs.declared.state.State.TheVariants.{Closed}
use Rattle.tcp_state.specs.contracts.connection.Fate.{the_type as fate_type}
use Rattle.tcp_state.specs.declared.connection.Fate.{Fate}
use Rattle.tcp_state.specs.declared.connection.Fate.TheVariants.{Rejected}
use Rattle.tcp_state.specs.View.{View, is_closed}
use Rattle.tcp_state.specs.Arrival.{after_heard, is_rejected, before, timed_by, fate}
use Rattle.tcp_state.proofs.Rejecting.{heard_at}
use Rattle.tcp_state.proofs.Unchanged.{rejected_leaves, rejected_leaves_at}
use Rattle.tcp_state.proofs.connection.Connection.take_any.Goals as goal

-- no other state is CLOSED
going : (t : State) → sameb the_type t Closed ≡ false → is_closed t ≡ false
going Closed e = cc
going _ e = refl

closes : (t : State) → sameb the_type t Closed ≡ true → is_closed t ≡ true
closes Closed e = refl
closes _ e = cc

refuses : (f : Fate) → not (sameb fate_type f Rejected) ≡ false → f ≡ Rejected
refuses Rejected e = refl
refuses _ e = cc

pub returns-then-eq-clause-after : goal.returns-then-eq-clause-after
returns-then-eq-clause-after c =
    let v : View = c.args.self.now in
    let closed : is_closed v.state ≡ true = subst (λ (w : View). is_closed w.state ≡ true) c.self.view_is (closes c.self.inside.state (sym c.eq.ensures ∙ c.if-eq.true)) in
    sym (ap (λ b. if b || is_rejected v c.args.segment.now then v else timed_by (before v c.args.segment.now) (after_heard v c.args.segment.now) c.args.now) closed)

-- a segment that is not rejected is heard, and the clock notes it
pub returns-then-ne-clause-after : goal.returns-then-ne-clause-after
returns-then-ne-clause-after c =
    let lives : is_closed c.args.self.now.state ≡ false = subst (λ (v : View). is_closed v.state ≡ false) c.self.view_is (going c.self.inside.state (sym c.eq.ensures ∙ c.if-eq.false)) in
    let heard : fate c.args.self.now c.args.segment.now ≡ Rejected → ⊥ = search rules in
    c.note_heard.ensures
    ∙ ap (λ b. timed_by b c.hear-fate.new.self c.args.now) c.before-before.ensures
    ∙ ap (λ w. timed_by (before c.args.self.now c.args.segment.now) w c.args.now) c.hear-fate.ensures.after
    ∙ sym (heard_at c.args.self.now c.args.segment.now c.args.now lives heard)

pub returns-else-ne-clause-after : goal.returns-else-ne-clause-after
returns-else-ne-clause-after c =
    let rejected : fate c.args.self.now c.args.segment.now ≡ Rejected = sym c.hear-fate.ensures.fate ∙ refuses c.hear-fate.result (sym c.ne.ensures ∙ c.if-ne.false) in
    c.hear-fate.ensures.after ∙ (rejected_leaves c.args.self.now c.args.segment.now rejected ∙ sym (rejected_leaves_at c.args.self.now c.args.segment.now c.args.now rejected))
