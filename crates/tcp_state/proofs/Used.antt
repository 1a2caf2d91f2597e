-- Which segments are read beyond their acknowledgement, and which bring octets that are new, by positions.
use Rattle.std.proofs.Common.{◌≡◌, ℕ, suc, ◌+◌, ◌%◌, ◌^◌, ◌<◌, ◌≤◌, ◌==◌, ◌||◌, ◌&&◌, not, nat_lt, if◌then◌else◌, Bool, true, false, length, inl, inr, arith, refl, sym, ◌∙◌, ap}
use Rattle.std.proofs.lemmas.Bool.{lt-ltb, lt-leb}
use Rattle.std.proofs.lemmas.Bool.Decides.{leb_tells}
use Rattle.tcp_segment.specs.Wire.{wire, past}
use Rattle.tcp_segment.specs.Segment.{Segment}
use Rattle.tcp_halves.specs.Numbers.{is_before}
use Rattle.tcp_halves.specs.Stream.{is_new_ack}
use Rattle.tcp_state.specs.View.{View, IsSound, is_syn_received}
use Rattle.tcp_state.specs.Arrival.{is_off, is_read_on, is_read, brings_more}
use Rattle.tcp_state.specs.Duties.{Places, StandsAt, acknowledges, is_out_of_reach, is_in_reach, is_used, brings_new}
use Rattle.tcp_halves.proofs.Choices.{by, and_right}
use Rattle.tcp_state.proofs.Standing.{AckOrder, ack_stands}

and_true : (b : Bool) → (b && true) ≡ b
and_true true = refl
and_true false = refl

on_as_used : (beyond within received above new before : Bool) → AckOrder beyond within above new before → (if received then new else new || not before) ≡ (within && (not received || above))
on_as_used beyond within true above new before o = sym o.fresh
on_as_used beyond within false above new before o = sym (and_true within ∙ o.sent)

pub read_as_used : (at : Places) (v : View) (s : Segment) → IsSound v → StandsAt at v s → is_read v s ≡ is_used at v s
read_as_used at v s sound stands = by (is_read v s ≡ is_used at v s) (acknowledges v s)
    (λ says.
    let order = ack_stands at v s sound stands (and_right _ s.flags.ack says) in
    let within = is_in_reach at v in
    let right = not (is_syn_received v.state) || nat_lt at.una at.ack in
    ap (λ b. b && is_read_on v s.acknowledgement) says
    ∙ (on_as_used (is_out_of_reach at v) within (is_syn_received v.state) (nat_lt at.una at.ack) (is_new_ack v.sending s.acknowledgement) (is_off v s.acknowledgement) order
    ∙ sym (ap (λ b. b && within && right) says)))
    (λ none. ap (λ b. b && is_read_on v s.acknowledgement) none ∙ sym (ap (λ b. b && is_in_reach at v && (not (is_syn_received v.state) || nat_lt at.una at.ack)) none))

-- the end of the octets against RCV.NXT
past_end : (peer next first len : ℕ) → next < first + 2 ^ 31 → first + len < next + 2 ^ 31 → next < first + len → 2 ^ 31 ≤ past (wire peer next) ((wire peer first + len) % 2 ^ 32)
past_end peer next first len behind ahead new = omega (arith, behind, ahead, new)

before_end : (peer next first len : ℕ) → next < first + 2 ^ 31 → first + len < next + 2 ^ 31 → first + len ≤ next → past (wire peer next) ((wire peer first + len) % 2 ^ 32) < 2 ^ 31
before_end peer next first len behind ahead old = omega (arith, behind, ahead, old)

end_tells : (peer next first len : ℕ) → next < first + 2 ^ 31 → first + len < next + 2 ^ 31 → is_before (wire peer next) ((wire peer first + len) % 2 ^ 32) ≡ nat_lt next (first + len)
end_tells peer next first len behind ahead = elim (leb_tells (2 ^ 31) (past (wire peer next) ((wire peer first + len) % 2 ^ 32))) [
  | inl t ↦ t.0 ∙ sym (elim (leb_tells (first + len) next) [
    | inl old ↦ let bad = before_end peer next first len behind ahead old.1 in absurd (omega (arith, bad, t.1))
    | inr new ↦ lt-ltb next (first + len) new.1
  ])
  | inr t ↦ t.0 ∙ sym (elim (leb_tells (first + len) next) [
    | inl old ↦ lt-leb (suc next) (first + len) (omega (arith, old.1))
    | inr new ↦ let bad = past_end peer next first len behind ahead new.1 in absurd (omega (arith, bad, t.1))
  ])
]

pub more_as_new : (at : Places) (v : View) (s : Segment) → StandsAt at v s → brings_more v s ≡ brings_new at s
more_as_new at v s stands =
    let some = not (length s.octets == 0) in
    ap (λ n. some && is_before n ((s.number + length s.octets) % 2 ^ 32)) stands.receives.next_number
    ∙ (ap (λ n. some && is_before (wire at.peer at.next) ((n + length s.octets) % 2 ^ 32)) stands.first_number
    ∙ ap (λ b. some && b) (end_tells at.peer at.next at.first (length s.octets) stands.first_near.behind stands.first_near.ahead))
