-- What is told of a connection as it stands, and when it may give way.
use Rattle.std.proofs.Common.{◌≡◌, ◌↔◌, ℕ, ◌<◌, ◌^◌, ◌&&◌, inl, inr, not, nat_lt, true, false, List, Option, Some, None, Err, refl, ap, sym, ◌∙◌, arith}
use Rattle.std.proofs.lemmas.Bool.Decides.{leb_tells}
use Rattle.clock.specs.declared.moment.Moment.{Moment}
use Rattle.tcp_segment.specs.Segment.{Segment}
use Rattle.tcp_segment.specs.Wire.{past}
use Rattle.tcp_halves.specs.Windows.{window_in, updates_window}
use Rattle.tcp_halves.proofs.Choices.{and_left, and_right, either}
use Rattle.tcp_state.specs.declared.calls.Refusal.{Refusal}
use Rattle.tcp_state.specs.declared.state.State.{State}
use Rattle.tcp_state.specs.declared.state.State.TheVariants.{SynReceived, TimeWait}
use Rattle.tcp_state.specs.Arrival.{after_window}
use Rattle.tcp_state.specs.Calls.{send_answer}
use Rattle.tcp_state.specs.Info.{info_of}
use Rattle.tcp_state.specs.View.{View, is_syn_received, is_time_wait}
use Rattle.tcp_state.specs.Way.{is_unanswered, left_since, lies_past}

pub error_told : (v : View) (octets : List ℕ) (error : Refusal) → (info_of v).error ≡ Some error → send_answer v octets ≡ Err error
error_told v octets error is = rw is refl

pub window_told : (v : View) (s : Segment) → updates_window v.sending s.number s.acknowledgement ≡ true → (info_of (after_window v s)).peer_window ≡ window_in v.sending s.window
window_told v s newer = rw newer refl

pub received : (t : State) → is_syn_received t ≡ true → t ≡ SynReceived
received SynReceived is = refl
received _ is = cc

pub waits : (t : State) → is_time_wait t ≡ true → t ≡ TimeWait
waits TimeWait is = refl
waits _ is = cc

expired : {n : ℕ} → nat_lt 0 n ≡ true → 0 < n
expired {n} is = elim (leb_tells 1 n) [ inl some ↦ some.1 | inr none ↦ let bad : true ≡ false = sym is ∙ none.0 in cc ]

pub half_open : (v : View) → is_unanswered v ≡ true → (v.state ≡ SynReceived) × (v.passive ≡ true) × (0 < v.resend.expiries)
half_open v is =
    let opening = and_left (v.passive && is_syn_received v.state) (nat_lt 0 v.resend.expiries) is in
    (received v.state (and_right v.passive (is_syn_received v.state) opening), and_left v.passive (is_syn_received v.state) opening, expired (and_right (v.passive && is_syn_received v.state) (nat_lt 0 v.resend.expiries) is))

pub left_so : (v : View) (since : Moment) → (left_since v ≡ Some since) ↔ ((v.state ≡ TimeWait) × (v.released ≡ true) × (v.since ≡ since))
left_so v since = (to, from)
  where
    to : left_since v ≡ Some since → (v.state ≡ TimeWait) × (v.released ≡ true) × (v.since ≡ since)
    to = either (Option Moment) (λ o. o ≡ Some since → (v.state ≡ TimeWait) × (v.released ≡ true) × (v.since ≡ since)) (is_time_wait v.state && v.released) (Some v.since) None
        (λ so is. (waits v.state (and_left (is_time_wait v.state) v.released so), and_right (is_time_wait v.state) v.released so, (let same : v.since ≡ since = cc in same)))
        (λ no is. cc)

    from : (v.state ≡ TimeWait) × (v.released ≡ true) × (v.since ≡ since) → left_since v ≡ Some since
    from (state, released, at) = rw (state, released, at) refl

pub lies_so : (v : View) (s : Segment) → (lies_past v s ≡ true) ↔ (past s.number v.receiving.rnext < 2 ^ 31)
lies_so v s = elim (leb_tells (2 ^ 31) (past s.number v.receiving.rnext)) [
  | inl behind ↦ (λ is. let bad : false ≡ true = sym (ap not behind.0) ∙ is in cc, λ less. absurd (omega (arith, less, behind.1)))
  | inr within ↦ (λ is. within.1, λ less. ap not within.0)
]
