-- An error that has no name is not one of the hard ones.
use Rattle.std.proofs.Common.{◌≡◌, ◌==◌, ◌&&◌, ◌||◌, Bool, true, false, Option, IfNone, refl, sym, subst}
use Rattle.std.proofs.lemmas.Bool.{eqb-true}
use Rattle.icmp.specs.declared.error.Reason.{Reason}
use Rattle.icmp.specs.declared.error.Reason.TheVariants.{ProtocolUnreachable, PortUnreachable, FragmentationNeeded}
use Rattle.icmp.specs.Errors.{kind_of, code_of}
use Rattle.icmp.specs.Message.{Message}
use Rattle.host.specs.Messages.{is_hard}
use Rattle.host.proofs.arrival.is_hard.Goals as goal

nameless : (m : Message) → ((reason : Reason) → kind_of reason ≡ m.kind → code_of reason ≡ m.code → ⊥) → false ≡ is_hard m
nameless m none = by_tests (m.kind == 3) (m.code == 2) (m.code == 3) (m.code == 4) refl refl refl refl
  where
    by_tests : (kind two three four : Bool) → (m.kind == 3) ≡ kind → (m.code == 2) ≡ two → (m.code == 3) ≡ three → (m.code == 4) ≡ four → false ≡ (kind && (two || three || four))
    by_tests false two three four k a b d = refl
    by_tests true true three four k a b d = absurd (none ProtocolUnreachable (sym (eqb-true m.kind 3 k)) (sym (eqb-true m.code 2 a)))
    by_tests true false true four k a b d = absurd (none PortUnreachable (sym (eqb-true m.kind 3 k)) (sym (eqb-true m.code 3 b)))
    by_tests true false false true k a b d = absurd (none FragmentationNeeded (sym (eqb-true m.kind 3 k)) (sym (eqb-true m.code 4 d)))
    by_tests true false false false k a b d = refl

pub returns-in_default-2 : goal.returns-in_default-2
returns-in_default-2 c =
    let m : Message = c.args.message.now in
    nameless m (subst (λ (o : Option Reason). IfNone o ((reason : Reason) → kind_of reason ≡ m.kind → code_of reason ≡ m.code → ⊥)) c.in_default.is c.reason.ensures.none)
