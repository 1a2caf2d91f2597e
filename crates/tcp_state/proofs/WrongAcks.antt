-- Which acknowledgements are rejected, and which SYN ends an opening.
use Rattle.std.proofs.Common.{◌≡◌, ℕ, ◌<◌, ◌&&◌, ◌||◌, ◌⊎◌, ◌↔◌, not, nat_lt, nat_le, if◌then◌else◌, Bool, true, false, inl, inr, arith, refl, sym, ◌∙◌, ap}
use Rattle.std.proofs.lemmas.Bool.Decides.{leb_tells}
use Rattle.tcp_segment.specs.Wire.{past}
use Rattle.tcp_segment.specs.Segment.{Segment}
use Rattle.clock.specs.declared.moment.Moment.{Moment}
use Rattle.tcp_state.specs.declared.connection.Fate.TheVariants.{Stays, Removed, Rejected}
use Rattle.tcp_state.specs.declared.state.State.{State}
use Rattle.tcp_state.specs.declared.state.State.TheVariants.{Closed, Listen, SynReceived}
use Rattle.tcp_halves.specs.Stream.{outstanding, is_new_ack}
use Rattle.tcp_halves.proofs.Choices.{and_left, and_right, and_false, both, of_false, not_true, or_else, or_left, or_right}
use Rattle.tcp_state.specs.View.{View, is_syn_sent, is_syn_received, is_closed, is_over}
use Rattle.tcp_state.specs.Arrival.{is_acceptable_to, is_receiving, is_read, brings_more, is_lost, ends_by_reset, ends_by_syn, ends_opening, after_segment, acknowledges_unsent, is_rejected, fate}
use Rattle.tcp_state.specs.Edges.{Hears, after_event, left_by, state_after}
use Rattle.tcp_state.specs.Said.{IsWrongAck, MayReject}
use Rattle.tcp_state.proofs.Unchanged.{unsent, unsent_leaves}
use Rattle.tcp_state.proofs.ResetErrors.{is_sent, taken_out}

is_received : (t : State) → is_syn_received t ≡ true → t ≡ SynReceived
is_received SynReceived e = refl
is_received _ e = cc

-- it acknowledges nothing, or what was not sent
wrong_number : (far out : ℕ) → (nat_lt 0 far && nat_le far out) ≡ false → (far ≡ 0) ⊎ (out < far)
wrong_number far out e = elim (leb_tells 1 far) [
  | inl some ↦ elim (leb_tells far out) [
    | inl within ↦ let bad : true ≡ false = sym (both (nat_lt 0 far) (nat_le far out) some.0 within.0) ∙ e in cc
    | inr beyond ↦ inr beyond.1
  ]
  | inr none ↦ let below = none.1 in inl (omega (arith, below))
]

not_new : (far out : ℕ) → (far ≡ 0) ⊎ (out < far) → (nat_lt 0 far && nat_le far out) ≡ false
not_new far out wrong = elim (leb_tells far out) [
  | inl within ↦ elim wrong [
    | inl none ↦ ap (λ n. nat_lt 0 n && nat_le n out) none
    | inr beyond ↦ let most = within.1 in absurd (omega (arith, beyond, most))
  ]
  | inr beyond ↦ ap (λ b. nat_lt 0 far && b) beyond.0 ∙ and_false (nat_lt 0 far)
]

tells : (v : View) (s : Segment) → is_rejected v s ≡ true → IsWrongAck v s × MayReject v s
tells v s e =
    let u = unsent v s e in
    let late = is_syn_received v.state && is_acceptable_to v s && not s.flags.syn in (
      record { no_rst = u.no_rst; ack = u.ack; wrong = wrong_number (past s.acknowledgement v.sending.una) (outstanding v.sending) u.old },
      elim (or_else (is_syn_sent v.state) late (and_right (acknowledges_unsent v s) (is_syn_sent v.state || late) e)) [
        | inl waits ↦ inl (is_sent v.state waits)
        | inr received ↦
            let two = and_left (is_syn_received v.state && is_acceptable_to v s) (not s.flags.syn) received in
            inr (
              is_received v.state (and_left (is_syn_received v.state) (is_acceptable_to v s) two),
              and_right (is_syn_received v.state) (is_acceptable_to v s) two,
              not_true s.flags.syn (and_right (is_syn_received v.state && is_acceptable_to v s) (not s.flags.syn) received),
            )
      ],
    )

is_rejected_by : (v : View) (s : Segment) → IsWrongAck v s → MayReject v s → is_rejected v s ≡ true
is_rejected_by v s w may =
    let late = is_syn_received v.state && is_acceptable_to v s && not s.flags.syn in
    let old : is_new_ack v.sending s.acknowledgement ≡ false = not_new (past s.acknowledgement v.sending.una) (outstanding v.sending) w.wrong in
    both (acknowledges_unsent v s) (is_syn_sent v.state || late)
    (both (not s.flags.rst && s.flags.ack) (not (is_new_ack v.sending s.acknowledgement)) (both (not s.flags.rst) s.flags.ack (of_false s.flags.rst w.no_rst) w.ack) (of_false (is_new_ack v.sending s.acknowledgement) old))
    (elim may [
      | inl waits ↦ or_left (is_syn_sent v.state) late (ap is_syn_sent waits)
      | inr received ↦ or_right (is_syn_sent v.state) late
          (both (is_syn_received v.state && is_acceptable_to v s) (not s.flags.syn) (both (is_syn_received v.state) (is_acceptable_to v s) (ap is_syn_received received.0) received.1) (of_false s.flags.syn received.2))
    ])

-- while it opens nothing is received, and nothing is closed
plain : (v : View) (s : Segment) → MayReject v s → (is_closed v.state ≡ false) × (is_receiving v.state ≡ false)
plain v s may = elim may [ inl waits ↦ (ap is_closed waits, ap is_receiving waits) | inr received ↦ (ap is_closed received.0, ap is_receiving received.0) ]

unlost : (v : View) (s : Segment) → is_receiving v.state ≡ false → is_lost v s ≡ false
unlost v s idle = ap (λ b. v.released && b && is_read v s && brings_more v s) idle ∙ ap (λ b. b && is_read v s && brings_more v s) (and_false v.released)

-- a fate that rejects comes of the one test
was_rejected : (stays over refused opening : Bool) → (if stays then Stays else if over then Removed else if refused then Rejected else if opening then Removed else Stays) ≡ Rejected → refused ≡ true
was_rejected false false true opening e = refl
was_rejected true over refused opening e = cc
was_rejected false true refused opening e = cc
was_rejected false false false true e = cc
was_rejected false false false false e = cc

pub wrong_acks_rejected : (v : View) (s : Segment) → (fate v s ≡ Rejected) ↔ (IsWrongAck v s × MayReject v s)
wrong_acks_rejected v s = (
  (λ e. tells v s (was_rejected (is_closed v.state || is_lost v s) (is_over (after_segment v s)) (is_rejected v s) (ends_opening v s) e)),
  (λ w.
      let answered = is_rejected_by v s w.0 w.1 in
      let p = plain v s w.1 in
      let leaves : is_over (after_segment v s) ≡ false = ap is_over (unsent_leaves v s (unsent v s answered)) ∙ ap (λ b. b && v.released && not v.owes_reset) p.0 in
      ap (λ b. if b || is_lost v s then Stays else if is_over (after_segment v s) then Removed else if is_rejected v s then Rejected else if ends_opening v s then Removed else Stays) p.0
      ∙ ap (λ b. if b then Stays else if is_over (after_segment v s) then Removed else if is_rejected v s then Rejected else if ends_opening v s then Removed else Stays) (unlost v s p.1)
      ∙ ap (λ b. if b then Removed else if is_rejected v s then Rejected else if ends_opening v s then Removed else Stays) leaves
      ∙ ap (λ b. if b then Rejected else if ends_opening v s then Removed else Stays) answered),
)

-- A SYN ends what a listener opened.

pub syn_goes_back : (v : View) (s : Segment) (now : Moment) → v.state ≡ SynReceived → v.passive ≡ true → is_acceptable_to v s ≡ true → s.flags.syn ≡ true → s.flags.rst ≡ false
    → state_after v (Hears s now) ≡ Listen
syn_goes_back v s now received passive accepted syn no_rst =
    let unsent = acknowledges_unsent v s in
    let ends : ends_by_syn v s ≡ true = both (is_acceptable_to v s && s.flags.syn && v.passive) (is_syn_received v.state)
    (both (is_acceptable_to v s && s.flags.syn) v.passive (both (is_acceptable_to v s) s.flags.syn accepted syn) passive) (ap is_syn_received received) in
    let opening : ends_opening v s ≡ true = both (not (is_syn_sent v.state)) _ (of_false (is_syn_sent v.state) (ap is_syn_sent received)) (ap (λ b. if b then ends_by_reset v s else ends_by_syn v s) no_rst ∙ ends) in
    let waits = is_syn_received v.state && is_acceptable_to v s in
    let answered : is_rejected v s ≡ false = ap (λ b. unsent && (b || (waits && not s.flags.syn))) (ap is_syn_sent received) ∙ (ap (λ b. unsent && (waits && not b)) syn ∙ (ap (λ b. unsent && b) (and_false waits) ∙ and_false unsent)) in
    let out = taken_out (is_closed v.state) (is_lost v s) (is_over (after_segment v s)) (is_rejected v s) (ends_opening v s) (ap is_closed received) (unlost v s (ap is_receiving received)) answered opening in
    let listens : (v.passive && is_syn_received v.state) ≡ true = both v.passive (is_syn_received v.state) passive (ap is_syn_received received) in
    ap (λ b. if b then left_by v else (after_event v (Hears s now)).state) out ∙ ap (λ b. if b then Listen else Closed) listens
