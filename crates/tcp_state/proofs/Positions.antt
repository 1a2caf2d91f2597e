-- Why the segments that are acceptable are those that meet the window.
use Rattle.std.proofs.Common.{◌≡◌, ℕ, zero, suc, ◌+◌, ◌-◌, ◌%◌, ◌^◌, ◌<◌, ◌≤◌, ◌⊎◌, ◌↔◌, nat_le, true, false, inl, inr, arith, sym, ◌∙◌, ap, subst}
use Rattle.std.proofs.lemmas.Bool.{eqb-true, leb-true, le-leb, eq-eqb}
use Rattle.std.proofs.lemmas.Bool.Decides.{leb_tells}
use Rattle.tcp_segment.specs.Wire.{wire, past}
use Rattle.tcp_segment.specs.Segment.{Segment, span_of}
use Rattle.tcp_halves.specs.Halves.{Receiving}
use Rattle.tcp_halves.specs.Stream.{receive_window, is_in_window, stands_before, is_acceptable}
use Rattle.tcp_state.specs.Positions.{ReceivesAt, IsNear, MeetsWindow}
use Rattle.tcp_state.specs.View.{View}
use Rattle.tcp_state.specs.Arrival.{is_acceptable_to}
use Rattle.tcp_halves.proofs.Choices.{clash, or_left, or_right, or_else}

-- the window told is as long as the positions say
pub window_at : (initial next edge : ℕ) (r : Receiving) → ReceivesAt initial next edge r → receive_window r ≡ edge - next
window_at initial next edge r at = omega (arith, at.next_number, at.edge_number, at.order, at.near)

-- the test of a number against the window, by its position
pub window_tells : (initial next edge p : ℕ) (r : Receiving) → ReceivesAt initial next edge r → next < p + 2 ^ 31 → p < next + 2 ^ 31
    → ((is_in_window r (wire initial p) ≡ true) × (next ≤ p) × (p < edge)) ⊎ ((is_in_window r (wire initial p) ≡ false) × (next ≤ p → edge ≤ p))
window_tells initial next edge p r at behind ahead =
    let window = window_at initial next edge r at in
    elim (leb_tells (suc (past (wire initial p) r.rnext)) (receive_window r)) [
      | inl t ↦ inl (t.0, omega (arith, at.next_number, at.near, window, t.1), omega (arith, at.next_number, at.near, window, t.1))
      | inr t ↦ inr (t.0, λ reached. omega (arith, at.next_number, at.near, window, t.1))
    ]

pub in_window : (initial next edge p : ℕ) (r : Receiving) → ReceivesAt initial next edge r → next < p + 2 ^ 31 → p < next + 2 ^ 31 → next ≤ p → p < edge → is_in_window r (wire initial p) ≡ true
in_window initial next edge p r at behind ahead reached below =
    elim (window_tells initial next edge p r at behind ahead) [ inl t ↦ t.0 | inr t ↦ let out = t.1 reached in absurd (omega (arith, out, below)) ]

pub window_holds : (initial next edge p : ℕ) (r : Receiving) → ReceivesAt initial next edge r → next < p + 2 ^ 31 → p < next + 2 ^ 31 → is_in_window r (wire initial p) ≡ true → (next ≤ p) × (p < edge)
window_holds initial next edge p r at behind ahead e =
    elim (window_tells initial next edge p r at behind ahead) [ inl t ↦ (t.1, t.2) | inr t ↦ clash (is_in_window r (wire initial p)) e t.0 ]

-- a segment that takes numbers
filled : (initial next edge first len : ℕ) (r : Receiving) → ReceivesAt initial next edge r → IsNear next first len → 0 < len → (is_acceptable r (wire initial first) len ≡ true) ↔ MeetsWindow next edge first len
filled initial next edge first zero r at near some = absurd (omega (arith, some))
filled initial next edge first (suc more) r at near some =
    let ahead : first < next + 2 ^ 31 = omega (arith, near.ahead) in
    let last_behind : next < (first + more) + 2 ^ 31 = omega (arith, near.behind) in
    let last_ahead : first + more < next + 2 ^ 31 = omega (arith, near.ahead) in
    let last : (wire initial first + more) % 2 ^ 32 ≡ wire initial (first + more) = omega arith in
    let one = is_in_window r (wire initial first) in
    let other = is_in_window r ((wire initial first + more) % 2 ^ 32) in (
      λ e. elim (or_else one other e) [
        | inl t ↦ let in_it = window_holds initial next edge first r at near.behind ahead t in
            record { common = (first, omega arith, omega arith, in_it.0, in_it.1); within = inl in_it.0 }
        | inr t ↦ let in_it = window_holds initial next edge (first + more) r at last_behind last_ahead (sym (ap (is_in_window r) last) ∙ t) in
            record { common = (first + more, omega arith, omega arith, in_it.0, in_it.1); within = inr (omega (arith, in_it.1)) }
      ],
      λ m. elim m.within [
        | inl begins ↦ or_left one other (in_window initial next edge first r at near.behind ahead begins (omega (arith, m.common.1, m.common.4)))
        | inr ends ↦ or_right one other (ap (is_in_window r) last
            ∙ in_window initial next edge (first + more) r at last_behind last_ahead (omega (arith, m.common.2, m.common.3)) (omega (arith, ends)))
      ],
    )

-- a segment that takes none
pub empty : (initial next edge first : ℕ) (r : Receiving) → ReceivesAt initial next edge r → IsNear next first 0 → (is_acceptable r (wire initial first) 0 ≡ true) ↔ ((next ≤ first + 1) × (first ≤ edge))
empty initial next edge first r at near =
    let window = window_at initial next edge r at in
    let number = wire initial first in
    let inside = nat_le (past number r.rnext) (receive_window r) in
    let before = stands_before r number in (
      λ e. elim (or_else inside before e) [
        | inl is ↦
            let far = leb-true (past number r.rnext) (receive_window r) is in
            (omega (arith, at.next_number, at.order, at.near, window, far, near.behind, near.ahead), omega (arith, at.next_number, at.order, at.near, window, far, near.behind, near.ahead))
        | inr is ↦
            let one = eqb-true (past r.rnext number) 1 is in
            (omega (arith, at.next_number, one, near.behind, near.ahead), omega (arith, at.next_number, at.order, one, near.behind, near.ahead))
      ],
      λ m. elim (leb_tells next first) [
        | inl le ↦ or_left inside before (le-leb (past number r.rnext) (receive_window r) (omega (arith, at.next_number, at.near, window, le.1, m.1, near.ahead)))
        | inr lt ↦ or_right inside before (eq-eqb (past r.rnext number) 1 (omega (arith, at.next_number, lt.1, m.0)))
      ],
    )

pub accepted_filled : (initial next edge first : ℕ) (v : View) (s : Segment) → ReceivesAt initial next edge v.receiving → s.number ≡ wire initial first → IsNear next first (span_of s) → 0 < span_of s
    → (is_acceptable_to v s ≡ true) ↔ MeetsWindow next edge first (span_of s)
accepted_filled initial next edge first v s at number near some =
    subst (λ n. (is_acceptable v.receiving n (span_of s) ≡ true) ↔ MeetsWindow next edge first (span_of s)) (sym number) (filled initial next edge first (span_of s) v.receiving at near some)

pub accepted_empty : (initial next edge first : ℕ) (v : View) (s : Segment) → ReceivesAt initial next edge v.receiving → s.number ≡ wire initial first → IsNear next first 0 → span_of s ≡ 0
    → (is_acceptable_to v s ≡ true) ↔ ((next ≤ first + 1) × (first ≤ edge))
accepted_empty initial next edge first v s at number near none =
    subst (λ n. (is_acceptable v.receiving s.number n ≡ true) ↔ ((next ≤ first + 1) × (first ≤ edge))) (sym none)
    (subst (λ n. (is_acceptable v.receiving n 0 ≡ true) ↔ ((next ≤ first + 1) × (first ≤ edge))) (sym number) (empty initial next edge first v.receiving at near))
