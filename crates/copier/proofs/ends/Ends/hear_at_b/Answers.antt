use Rattle.std.proofs.Common.{◌≡◌, ◌||◌, ◌⊎◌, inl, inr, Bool, false, None, refl, sym, ◌∙◌, ap, arith}
use Rattle.host.specs.Arrival.{foreseen}
use Rattle.sides.specs.declared.side.Side.TheVariants.{B}
use Rattle.copy_law.specs.Course.{holds_pair_of}
use Rattle.copier.specs.declared.ends.Ends.{Ends}
use Rattle.copier.proofs.Passing.{none_of}
use Rattle.copier.proofs.Moving.{passes, hears-at_b}
use Rattle.copier.proofs.ends.Ends.hear_at_b.Goals as goal
use Rattle.copier.proofs.ends.Ends.hear_at_b.Goals.{else-self-via-then-self+else-is_some, else-self-via-else-self, then-self-2, else-self-2}

pub returns-then-is_some-clause-hears : goal.returns-then-is_some-clause-hears
returns-then-is_some-clause-hears c = passes c.args.self.now _ B c.args.frame.now c.sound.ensures.a c.sound.ensures.b refl

pub returns-clause-hears : goal.returns-clause-hears
returns-clause-hears c =
    let e : Ends = c.args.self.now in
    let once : (e.opened ≡ false) ⊎ (foreseen e.b c.args.frame.now ≡ None) = elim c.else-self.branch [
      | else-self-via-then-self+else-is_some w ↦ inr (sym w.would_open.ensures ∙ none_of w.would_open.result (sym w.is_some.ensures ∙ w.if-is_some.false))
      | else-self-via-else-self w ↦ inl w.if-self.false
    ]
    in
    let now : c.if-self-2.self ≡ (e.opened || holds_pair_of c.deliver.new.self c.args.frame.now) = elim c.if-self-2.branch [
      | then-self-2 w ↦ w.self-is ∙ (w.if-self-2.true ∙ sym (ap (λ b. b || holds_pair_of c.deliver.new.self c.args.frame.now) w.if-self-2.true))
      | else-self-2 w ↦ w.self-is ∙ (w.b_holds_pair_of-self.ensures ∙ sym (ap (λ b. b || holds_pair_of c.deliver.new.self c.args.frame.now) w.if-self-2.false))
    ]
    in
    hears-at_b e _ (record { 0 = 2000 }) c.args.frame.now c.deliver.result c.deliver.new.self c.sound.ensures.a c.sound.ensures.b (omega arith) once c.deliver.ensures
    (ap (λ (x : Bool). let y : Ends = record e { b = c.deliver.new.self; opened = x } in y) now)
