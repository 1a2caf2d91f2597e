-- Why the window of our SYN ends at the right edge that is kept once the peer's SYN has come.
use Rattle.std.proofs.Common.{◌≡◌, ◌≢◌, ℕ, ◌+◌, ◌%◌, ◌^◌, ◌<◌, ◌==◌, ◌&&◌, ◌⊎◌, if◌then◌else◌, true, length, inl, inr, arith, sym, ◌∙◌, ap}
use Rattle.std.proofs.lemmas.Bool.{eqb-true}
use Rattle.clock.specs.declared.moment.Moment.{Moment}
use Rattle.tcp_segment.specs.Segment.{Segment}
use Rattle.tcp_segment.specs.Wire.{past}
use Rattle.tcp_halves.specs.Halves.{Receiving}
use Rattle.tcp_halves.specs.Stream.{outstanding, is_new_ack, receive_window}
use Rattle.tcp_halves.specs.Windows.{syn_window}
use Rattle.tcp_halves.proofs.Choices.{either, clash}
use Rattle.tcp_state.specs.declared.emission.Due.TheVariants.{Syn}
use Rattle.tcp_state.specs.declared.state.State.TheVariants.{SynSent, SynReceived, Established}
use Rattle.tcp_state.specs.View.{View, IsSound, is_syn_sent, is_closed, after_reset}
use Rattle.tcp_state.specs.Arrival.{owing_ack, reset_error, is_acceptable_to, after_rst_in_syn_sent, after_rst, is_right_syn_ack, is_simultaneous_syn, after_simultaneous_syn, after_syn_ack, after_acceptable_segment, after_segment, is_lost, after_lost, after_heard}
use Rattle.tcp_state.specs.Due.{window_of}
use Rattle.tcp_state.specs.Edges.{Hears, after_event}
use Rattle.tcp_state.specs.Opening.{TakesSyn}
use Rattle.tcp_state.proofs.Saying.{first_told, shut_at_first}
use Rattle.tcp_state.proofs.Segments.{opened_by_syn_ack, by_clock}

-- where the connection left SYN-SENT, and not to CLOSED, the window is that of our SYN
abbrev KeepsFirst : View → View → Type 0
KeepsFirst v w = (w.state ≡ SynReceived) ⊎ (w.state ≡ Established) → receive_window w.receiving ≡ window_of v Syn

-- in SYN-SENT our SYN tells as much of the room as one can
tells_room : (v : View) → IsSound v → v.state ≡ SynSent → syn_window v.receiving ≡ window_of v Syn
tells_room v sound waits =
    let r = v.receiving in
    let shut = shut_at_first r.size v.state (receive_window r) (length r.readable) waits sound.untold sound.readable in
    let told = first_told r sound.rnext shut.0 shut.1 sound.terms.receive_least in
    omega (arith, shut.1) ∙ sym told

-- an edge stands as far past RCV.NXT as it was put
put : (number window : ℕ) → window < 2 ^ 32 → past (((number + 1) % 2 ^ 32 + window) % 2 ^ 32) ((number + 1) % 2 ^ 32) ≡ window
put number window few = omega (arith, few)

few_told : (r : Receiving) → syn_window r < 2 ^ 32
few_told r = omega arith

-- what went out is outstanding
flies : (una nxt : ℕ) → una < 2 ^ 32 → nxt < 2 ^ 32 → past nxt una ≡ 0 → nxt ≡ una
flies una nxt a b none = omega (arith, a, b, none)

waits_on : (v : View) → v.state ≡ SynSent → KeepsFirst v v
waits_on v waits opens = elim opens [ inl e ↦ cc | inr e ↦ cc ]

opened : (v : View) (s : Segment) → IsSound v → v.state ≡ SynSent → KeepsFirst v (opened_by_syn_ack v s)
opened v s sound waits opens = put s.number (syn_window v.receiving) (few_told v.receiving) ∙ tells_room v sound waits

crossed : (v : View) (s : Segment) → IsSound v → v.state ≡ SynSent → v.sending.nxt ≢ v.sending.una → KeepsFirst v (after_simultaneous_syn v s)
crossed v s sound waits sent opens =
    let rnext : ℕ = (s.number + 1) % 2 ^ 32 in
    either ℕ (λ n. past ((rnext + n) % 2 ^ 32) rnext ≡ window_of v Syn) (outstanding v.sending == 0) 0 (syn_window v.receiving)
    (λ none. absurd (sent (flies v.sending.una v.sending.nxt sound.una sound.nxt (eqb-true (outstanding v.sending) 0 none))))
    (λ some. put s.number (syn_window v.receiving) (few_told v.receiving) ∙ tells_room v sound waits)

segment_keeps : (v : View) (s : Segment) → IsSound v → v.state ≡ SynSent → v.sending.nxt ≢ v.sending.una → KeepsFirst v (after_segment v s)
segment_keeps v s sound waits sent =
    let P : View → Type 0 = KeepsFirst v in
    let here : is_syn_sent v.state ≡ true = ap is_syn_sent waits in
    either View P (is_closed v.state) v _ (λ closed. waits_on v waits)
    (λ lives. either View P s.flags.rst (if is_syn_sent v.state then after_rst_in_syn_sent v s else after_rst v s) _
    (λ rst. either View P (is_syn_sent v.state) (after_rst_in_syn_sent v s) (after_rst v s)
    (λ same. either View P (s.flags.ack && is_new_ack v.sending s.acknowledgement) (after_reset v (reset_error v.state)) v
    (λ acts opens. elim opens [ inl e ↦ cc | inr e ↦ cc ]) (λ other. waits_on v waits))
    (λ not_sent. clash (is_syn_sent v.state) here not_sent))
    (λ no_rst. either View P (is_syn_sent v.state) (if is_simultaneous_syn v s then after_simultaneous_syn v s else after_syn_ack v s) (if is_acceptable_to v s then after_acceptable_segment v s else owing_ack v)
    (λ same. either View P (is_simultaneous_syn v s) (after_simultaneous_syn v s) (after_syn_ack v s) (λ crosses. crossed v s sound waits sent)
    (λ answers. either View P (is_right_syn_ack v s) (opened_by_syn_ack v s) v (λ right. opened v s sound waits) (λ wrong. waits_on v waits)))
    (λ not_sent. clash (is_syn_sent v.state) here not_sent)))

heard_keeps : (v : View) (s : Segment) → IsSound v → v.state ≡ SynSent → v.sending.nxt ≢ v.sending.una → KeepsFirst v (after_heard v s)
heard_keeps v s sound waits sent =
    either View (KeepsFirst v) (is_lost v s) (after_lost v s) (after_segment v s) (λ lost opens. elim opens [ inl e ↦ cc | inr e ↦ cc ]) (λ kept. segment_keeps v s sound waits sent)

pub first_kept : (v : View) (s : Segment) (now : Moment) → IsSound v → v.state ≡ SynSent → v.sending.nxt ≢ v.sending.una → TakesSyn v s now
    → receive_window (after_event v (Hears s now)).receiving ≡ window_of v Syn
first_kept v s now sound waits sent takes = by_clock (KeepsFirst v) v s now (waits_on v waits) (λ lives. heard_keeps v s sound waits sent) takes
