-- When an acknowledgement is due after a segment that brings nothing new.
use Rattle.std.proofs.Common.{◌≡◌, ◌+◌, ◌≤◌, ◌&&◌, ◌⊎◌, inl, inr, not, true, false, length, length-append, arith, ◌∙◌, ap}
use Rattle.std.proofs.lemmas.Bool.{leb-true, le-leb}
use Rattle.clock.specs.declared.moment.Moment.{Moment}
use Rattle.tcp_segment.specs.Segment.{Segment}
use Rattle.tcp_halves.specs.Stream.{receive_window}
use Rattle.tcp_halves.specs.Windows.{has_grown, receive_room}
use Rattle.tcp_halves.proofs.Choices.{by, clash, and_left, and_right, both, or_else, or_right, of_false}
use Rattle.tcp_state.specs.View.{View, is_opening, is_closed}
use Rattle.tcp_state.specs.Due.{is_ack_due}
use Rattle.tcp_state.specs.Arrival.{after_segment_at}
use Rattle.tcp_state.specs.Edges.{Hears}
use Rattle.tcp_state.specs.Most.{one_if}
use Rattle.tcp_state.proofs.Gains.{gains_alone}
use Rattle.tcp_state.proofs.Losses.{past_opening}
use Rattle.tcp_state.proofs.PeerSizes.{sizes_stay}
use Rattle.tcp_state.proofs.Spoken.{speaking}
use Rattle.silence_law.proofs.Emitting.{one_at_most}

-- no octet that can be read is taken away
more_readable : (v : View) (s : Segment) (now : Moment) → length v.receiving.readable ≤ length (after_segment_at v s now).receiving.readable
more_readable v s now = elim (gains_alone v s now) [
  | inl same ↦ let long = ap length same in omega (arith, long)
  | inr more ↦ let long = ap length more ∙ length-append v.receiving.readable _ in omega (arith, long)
]

-- where the window that is told stays, no more has to be told
grown_before : (v : View) (s : Segment) (now : Moment) → is_opening v.state ≡ false → (let w = after_segment_at v s now in receive_window w.receiving ≡ receive_window v.receiving → has_grown w.receiving ≡ true → has_grown v.receiving ≡ true)
grown_before v s now opened window grown =
    let w = after_segment_at v s now in
    let readable = more_readable v s now in
    let size = (sizes_stay v (Hears s now) (past_opening v.state opened).0).1 in
    let more = leb-true (receive_window w.receiving + 1460) (receive_room w.receiving) grown in
    le-leb (receive_window v.receiving + 1460) (receive_room v.receiving) (omega (arith, more, readable, size, window))

spoke_before : (v : View) (s : Segment) (now : Moment) → (after_segment_at v s now).spoke ≡ true → v.spoke ≡ true
spoke_before v s now spoke = elim ((speaking v (Hears s now)).0 spoke) [
  | inl so ↦ so
  | inr speaks ↦ let bad = speaks.2 in cc
]

-- An acknowledgement is owed itself, or due as it was.
pub owing : (v : View) (s : Segment) (now : Moment) → is_closed v.state ≡ false → is_opening v.state ≡ false
    → (let w = after_segment_at v s now in receive_window w.receiving ≡ receive_window v.receiving → (w.owes_ack ≡ true) ⊎ (one_if (is_ack_due w) ≤ one_if (is_ack_due v)))
owing v s now lives opened window =
    let w = after_segment_at v s now in
    by _ w.owes_ack (λ owes. inl owes)
    (λ none. inr (by (one_if (is_ack_due w) ≤ one_if (is_ack_due v)) (is_ack_due w)
    (λ due.
    let told = not (is_opening w.state) && not (is_closed w.state) && w.spoke && has_grown w.receiving in
    let grows : told ≡ true = elim (or_else w.owes_ack told due) [ inl owes ↦ clash w.owes_ack owes none | inr so ↦ so ] in
    let spoke = spoke_before v s now (and_right (not (is_opening w.state) && not (is_closed w.state)) w.spoke (and_left (not (is_opening w.state) && not (is_closed w.state) && w.spoke) (has_grown w.receiving) grows)) in
    let grown = grown_before v s now opened window (and_right (not (is_opening w.state) && not (is_closed w.state) && w.spoke) (has_grown w.receiving) grows) in
    let was : is_ack_due v ≡ true = or_right v.owes_ack _ (both (not (is_opening v.state) && not (is_closed v.state) && v.spoke) (has_grown v.receiving) (both (not (is_opening v.state) && not (is_closed v.state)) v.spoke (both (not (is_opening v.state)) (not (is_closed v.state)) (of_false (is_opening v.state) opened) (of_false (is_closed v.state) lives)) spoke) grown) in
    let one : one_if (is_ack_due v) ≡ 1 = ap one_if was in
    let few = one_at_most (is_ack_due w) in
    omega (arith, one, few))
    (λ quiet. let zero : one_if (is_ack_due w) ≡ 0 = ap one_if quiet in omega (arith, zero))))
