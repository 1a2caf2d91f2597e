-- Why what brings nothing is heard.
use Rattle.std.proofs.Common.{◌≡◌, ℕ, ◌+◌, ◌-◌, ◌≤◌, if◌then◌else◌, true, false, inl, inr, arith, sym, ◌∙◌, ap, subst}
use Rattle.std.proofs.lemmas.Bool.Decides.{leb_tells, nat_tests}
use Rattle.tcp_segment.specs.Wire.{past}
use Rattle.tcp_halves.specs.Halves.{Sending, Receiving}
use Rattle.tcp_halves.specs.Stream.{outstanding, number_before, bare_number, receive_window, is_acceptable}
use Rattle.tcp_halves.specs.Heard.{HaveMet, settled}
use Rattle.tcp_halves.proofs.Choices.{by}

-- a number from RCV.NXT up to the edge
within : (r : Receiving) (number : ℕ) → past number r.rnext ≤ receive_window r → is_acceptable r number 0 ≡ true
within r number few = grind (arith, nat_tests, few)

before : (r : Receiving) (number : ℕ) → past r.rnext number ≡ 1 → is_acceptable r number 0 ≡ true
before r number one = grind (arith, nat_tests, one)

all_settled : (s : Sending) → s.probed ≡ false → settled s ≡ outstanding s
all_settled s none = ap (λ b. outstanding s - (if b then 1 else 0)) none ∙ omega arith

pub heard : (s : Sending) (r : Receiving) → HaveMet s r → settled s ≤ past r.rnext s.una + receive_window r → is_acceptable r (bare_number s) 0 ≡ true
heard s r met told =
    by (is_acceptable r (bare_number s) 0 ≡ true) s.probed
    (λ probed.
    let one = met.probed probed in
    let at : bare_number s ≡ s.una = ap (λ b. if b then number_before s.nxt else s.nxt) probed ∙ omega (arith, one, met.una, met.nxt) in
    subst (λ n. is_acceptable r n 0 ≡ true) (sym at) (elim (leb_tells 1 (past r.rnext s.una)) [
      | inl taken ↦ let most = met.between in before r s.una (omega (arith, one, taken.1, most))
      | inr refused ↦ within r s.una (omega (arith, refused.1, met.una, met.rnext))
    ]))
    (λ none.
    let at : bare_number s ≡ s.nxt = ap (λ b. if b then number_before s.nxt else s.nxt) none in
    let most = met.between in
    subst (λ n. is_acceptable r n 0 ≡ true) (sym at) (within r s.nxt (omega (arith, all_settled s none, told, most, met.una, met.nxt, met.rnext))))
