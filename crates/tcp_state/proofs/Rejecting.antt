-- A segment that is rejected is answered by a reset, and no other.
use Rattle.std.proofs.Common.{◌≡◌, ◌||◌, ◌&&◌, not, true, false, if◌then◌else◌, inl, inr, refl, ◌∙◌, ap}
use Rattle.tcp_segment.specs.Segment.{Segment}
use Rattle.clock.specs.declared.moment.Moment.{Moment}
use Rattle.tcp_state.specs.declared.connection.Fate.TheVariants.{Stays, Removed, Rejected}
use Rattle.tcp_state.specs.declared.state.State.{State}
use Rattle.tcp_state.specs.declared.state.State.TheVariants.{SynSent, SynReceived}
use Rattle.tcp_state.specs.View.{View, is_syn_sent, is_syn_received, is_closed, is_over}
use Rattle.tcp_state.specs.Arrival.{is_receiving, is_acceptable_to, is_read, brings_more, is_lost, after_segment, after_heard, before, timed_by, after_segment_at, acknowledges_unsent, is_rejected, ends_opening, fate}
use Rattle.tcp_halves.proofs.Choices.{by, clash, and_left, and_right, or_else}
use Rattle.tcp_state.proofs.Unchanged.{unsent, unsent_leaves}

opening_receives_not : (t : State) → is_syn_sent t ≡ true → is_receiving t ≡ false
opening_receives_not SynSent e = refl
opening_receives_not _ e = cc

answering_receives_not : (t : State) → is_syn_received t ≡ true → is_receiving t ≡ false
answering_receives_not SynReceived e = refl
answering_receives_not _ e = cc

-- while the connection opens, no octets come to it
rejected_receives_not : (v : View) (s : Segment) → is_rejected v s ≡ true → is_receiving v.state ≡ false
rejected_receives_not v s rejected =
    let received = is_syn_received v.state in
    let late = received && is_acceptable_to v s && not s.flags.syn in
    elim (or_else (is_syn_sent v.state) late (and_right (acknowledges_unsent v s) (is_syn_sent v.state || late) rejected)) [
      | inl sent ↦ opening_receives_not v.state sent
      | inr l ↦ answering_receives_not v.state (and_left received (is_acceptable_to v s) (and_left (received && is_acceptable_to v s) (not s.flags.syn) l))
    ]

loses_nothing : (v : View) (s : Segment) → is_receiving v.state ≡ false → is_lost v s ≡ false
loses_nothing v s shut =
    let two = v.released && is_receiving v.state in
    by (is_lost v s ≡ false) (is_lost v s)
    (λ lost. clash (is_receiving v.state) (and_right v.released (is_receiving v.state) (and_left two (is_read v s) (and_left (two && is_read v s) (brings_more v s) lost))) shut)
    (λ kept. kept)

pub rejected_is_answered : (v : View) (s : Segment) → is_closed v.state ≡ false → is_rejected v s ≡ true → fate v s ≡ Rejected
rejected_is_answered v s lives rejected =
    let same = unsent_leaves v s (unsent v s rejected) in
    let lost = loses_nothing v s (rejected_receives_not v s rejected) in
    let over : is_over (after_segment v s) ≡ false = ap is_over same ∙ ap (λ b. b && v.released && not v.owes_reset) lives in
    let opening = ends_opening v s in
    ap (λ b. if b || is_lost v s then Stays else if is_over (after_segment v s) then Removed else if is_rejected v s then Rejected else if opening then Removed else Stays) lives
    ∙ ap (λ b. if b then Stays else if is_over (after_segment v s) then Removed else if is_rejected v s then Rejected else if opening then Removed else Stays) lost
    ∙ ap (λ b. if b then Removed else if is_rejected v s then Rejected else if opening then Removed else Stays) over
    ∙ ap (λ b. if b then Rejected else if opening then Removed else Stays) rejected

-- what is heard is not rejected
pub heard_at : (v : View) (s : Segment) (now : Moment) → is_closed v.state ≡ false → (fate v s ≡ Rejected → ⊥) → after_segment_at v s now ≡ timed_by (before v s) (after_heard v s) now
heard_at v s now lives heard =
    let kept : is_rejected v s ≡ false = by (is_rejected v s ≡ false) (is_rejected v s) (λ yes. absurd (heard (rejected_is_answered v s lives yes))) (λ no. no) in
    ap (λ b. if b || is_rejected v s then v else timed_by (before v s) (after_heard v s) now) lives ∙ ap (λ b. if b then v else timed_by (before v s) (after_heard v s) now) kept
