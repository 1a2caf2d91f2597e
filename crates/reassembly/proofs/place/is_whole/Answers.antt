use Rattle.std.proofs.Common.{Bool, ◌≡◌, ◌≤◌, true, false, nat_eq, length, Some, None, IfSome, refl, sym, ◌∙◌, ap, subst, arith}
use Rattle.std.specs.Bool.{OnTrue, OnFalse}
use Rattle.reassembly.specs.Octets.{whole_of, filled}
use Rattle.reassembly.proofs.Outcomes.{whole_none, whole_covered, whole_short, whole_holed}
use Rattle.reassembly.proofs.place.is_whole.Goals as goal

on_true : (b : Bool) (P : Type 0) → (b ≡ true → P) → OnTrue b P
on_true true P h = h refl
on_true false P h = tt

on_false : (b : Bool) (P : Type 0) → (b ≡ false → P) → OnFalse b P
on_false true P h = tt
on_false false P h = h refl

pub returns-in-None-clause-waits : goal.returns-in-None-clause-waits
returns-in-None-clause-waits c = ap (λ end. whole_of end c.args.octets.now.octets) c.in-None.is ∙ whole_none c.args.octets.now.octets

pub returns-then-reach-end-clause-whole : goal.returns-then-reach-end-clause-whole
returns-then-reach-end-clause-whole c =
    on_true c.is_covered.result (whole_of c.args.end c.args.octets.now.octets ≡ Some (filled c.args.octets.now.octets))
    (λ h. ap (λ end. whole_of end c.args.octets.now.octets) c.in-Some.is
    ∙ whole_covered c.in-Some.end c.args.octets.now.octets (sym c.reach.ensures.value ∙ c.if-reach-end.true) (sym c.is_covered.ensures ∙ h))

pub returns-then-reach-end-clause-waits : goal.returns-then-reach-end-clause-waits
returns-then-reach-end-clause-waits c =
    on_false c.is_covered.result (whole_of c.args.end c.args.octets.now.octets ≡ None)
    (λ h. ap (λ end. whole_of end c.args.octets.now.octets) c.in-Some.is
    ∙ whole_holed c.in-Some.end c.args.octets.now.octets (sym c.reach.ensures.value ∙ c.if-reach-end.true) (sym c.is_covered.ensures ∙ h))

pub returns-else-reach-end-clause-waits : goal.returns-else-reach-end-clause-waits
returns-else-reach-end-clause-waits c =
    on_false (nat_eq c.reach.result c.in-Some.end) (whole_of c.args.end c.args.octets.now.octets ≡ None)
    (λ h. let long : length c.args.octets.now.octets ≤ c.in-Some.end = subst (λ end. IfSome end (λ e. length c.args.octets.now.octets ≤ e)) c.in-Some.is c.requires in
    ap (λ end. whole_of end c.args.octets.now.octets) c.in-Some.is
    ∙ whole_short c.in-Some.end c.args.octets.now.octets (omega (arith, c.reach.ensures.value, c.if-reach-end.false, long)))
