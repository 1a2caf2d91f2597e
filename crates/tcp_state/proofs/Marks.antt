-- Why the resend mark keeps its number, whatever a segment acknowledges.
use Rattle.std.proofs.Common.{◌≡◌, ℕ, ◌-◌, ◌^◌, ◌<◌, ◌≤◌, ◌==◌, ◌&&◌, ◌||◌, not, nat_lt, if◌then◌else◌, Bool, true, false, length, Option, Some, None, arith, refl, sym, ◌∙◌, ap, inl}
use Rattle.std.proofs.lemmas.Bool.{lt-ltb, ltb-false}
use Rattle.tcp_segment.specs.Segment.{Segment}
use Rattle.tcp_segment.specs.Wire.{past}
use Rattle.clock.specs.declared.moment.Moment.{Moment}
use Rattle.congestion.specs.Window.{third_is_next, goes_on}
use Rattle.tcp_state.specs.declared.state.State.{State}
use Rattle.tcp_state.specs.declared.state.State.TheVariants.{Closed}
use Rattle.tcp_halves.specs.Halves.{Sending}
use Rattle.tcp_halves.specs.Stream.{outstanding, is_new_ack}
use Rattle.tcp_halves.specs.Windows.{updates_window}
use Rattle.tcp_state.specs.Resend.{Resend, stopped, mark_past, mark_left}
use Rattle.tcp_state.specs.View.{View, IsSound, is_opening, is_syn_sent, is_syn_received, is_closed}
use Rattle.tcp_state.specs.Arrival.{owing_ack, is_receiving, is_of_fin, beyond_fin, beyond_end, fin_acknowledged, after_new_ack, is_off, after_ack, after_window, after_text, before, after_heard, after_segment_at, is_counted_duplicate, reports_loss, reopens_by}
use Rattle.tcp_state.proofs.Guarded.{kept_mark}
use Rattle.tcp_state.proofs.Clocked.{mark_heard}
use Rattle.tcp_halves.proofs.Choices.{either, clash}
use Rattle.tcp_state.proofs.Segments.{by_fin, by_hearing, by_clock}
use Rattle.tcp_state.proofs.Congestion.{window_kept}
use Rattle.tcp_state.proofs.Losses.{past_opening, others_unlost}

-- what a connection has of a mark that stood at this distance past this SND.UNA, unless it is CLOSED
abbrev Left : ℕ → ℕ → View → Type 0
Left una distance w = is_closed w.state ≡ false → w.resend.mark ≡ mark_past (distance - past w.sending.una una) (outstanding w.sending)

abbrev value : Option ℕ → ℕ
value (Some n) = n
value None = 0

none_past : (una : ℕ) → una < 2 ^ 32 → past una una ≡ 0
none_past una fits = omega (arith, fits)

-- it stands where it stood, where SND.UNA doesn't move
left_there : (una distance out : ℕ) → una < 2 ^ 32 → distance < out → Some distance ≡ mark_past (distance - past una una) out
left_there una distance out fits within =
    let here : distance - past una una ≡ distance = omega (arith, none_past una fits) in
    sym (ap (λ n. mark_past n out) here ∙ ap (λ b. if b then Some distance else None) (lt-ltb distance out within))

stays : (v : View) (distance : ℕ) → IsSound v → v.resend.mark ≡ Some distance → Left v.sending.una distance v
stays v distance sound mark lives = mark ∙ left_there v.sending.una distance (outstanding v.sending) sound.una (sound.mark distance mark)

ack_leaves : (v : View) (ack distance : ℕ) → IsSound v → is_opening v.state ≡ false → v.resend.mark ≡ Some distance → Left v.sending.una distance (after_ack v ack)
ack_leaves v ack distance sound opened mark =
    let P : View → Type 0 = Left v.sending.una distance in
    let acked = after_new_ack v ack in
    let gained = past ack v.sending.una in
    let out = outstanding acked.sending in
    let moved : acked.resend.mark ≡ mark_past (distance - gained) out = ap (λ m. mark_left m gained out) mark in
    let closed = is_closed (beyond_fin v.state) in
    let same : P v = stays v distance sound mark in
    either View P (is_syn_received v.state) _ _
    (λ received. clash (is_syn_received v.state) received (past_opening v.state opened).1)
    (λ past. either View P (is_new_ack v.sending ack) _ _
    (λ new. either View P (is_of_fin v ack) (fin_acknowledged acked) acked
    (λ fin lives. either Resend (λ q. q.mark ≡ mark_past (distance - gained) out) closed (stopped acked.resend) acked.resend (λ ends. clash closed ends lives) (λ goes_on. moved))
    (λ octets lives. moved))
    (λ old. either View P (is_off v ack) (owing_ack v) v (λ beyond. same) (λ within. same)))

still_closed : (t : State) → is_closed (beyond_end t) ≡ false → is_closed t ≡ false
still_closed Closed e = cc
still_closed _ e = refl

heard_leaves : (v : View) (s : Segment) (distance : ℕ) → IsSound v → is_opening v.state ≡ false → v.resend.mark ≡ Some distance → Left v.sending.una distance (after_heard v s)
heard_leaves v s distance sound opened mark =
    let P : View → Type 0 = Left v.sending.una distance in
    let acked = after_ack v s.acknowledgement in
    let told = after_window acked s in
    let text = after_text told s in
    let waits_not = (past_opening v.state opened).0 in
    let same : P v = stays v distance sound mark in
    let answered : P acked = ack_leaves v s.acknowledgement distance sound opened mark in
    by_hearing P v s (λ lives. cc) (record {
      dropped = same;
      drawn = same;
      reset = λ acts lives. cc;
      crossed = λ waits. clash (is_syn_sent v.state) waits waits_not;
      opened = λ waits right. clash (is_syn_sent v.state) waits waits_not;
      acknowledged = λ taken. answered;
      read = λ on.
          let heard : P told = either Sending (λ t. P (record acked { sending = t })) (updates_window acked.sending s.number s.acknowledgement) _ acked.sending (λ newer. answered) (λ older. answered) in
          let read : P text = either View P ((length s.octets == 0) || not (is_receiving told.state)) told _ (λ none. heard) (λ some. heard) in
          by_fin P text s (λ counts lives. read (still_closed text.state lives)) read read;
    })

-- .. and with the clock
mark_left_by : (v : View) (s : Segment) (now : Moment) (distance : ℕ) → IsSound v → is_opening v.state ≡ false → goes_on v.congestion ≡ false → (is_counted_duplicate v s && third_is_next v.congestion) ≡ false → reports_loss v s ≡ false → reopens_by v s ≡ false → v.resend.mark ≡ Some distance
    → Left v.sending.una distance (after_segment_at v s now)
mark_left_by v s now distance sound opened stands other unreported shut mark =
    let b = before v s in
    let w = after_heard v s in
    by_clock (Left v.sending.una distance) v s now (stays v distance sound mark)
    (λ lives. λ ends_not. kept_mark v s w now (inl (past_opening v.state opened).1) ∙ ap (λ (p : Resend). p.mark) (others_unlost b w now (ap goes_on (window_kept v s) ∙ stands) (ap (λ c. is_counted_duplicate v s && third_is_next c) (window_kept v s) ∙ other) unreported)
    ∙ (mark_heard b w now shut ∙ heard_leaves v s distance sound opened mark ends_not))

stood : (m : Option ℕ) (rest out left : ℕ) → m ≡ mark_past rest out → m ≡ Some left → left ≡ rest
stood m rest out left is some = told (nat_lt rest out) (sym is ∙ some)
  where
    told : (b : Bool) → (if b then Some rest else None) ≡ Some left → left ≡ rest
    told true e = sym (ap value e)
    told false e = cc

passed : (m : Option ℕ) (rest out : ℕ) → m ≡ mark_past rest out → m ≡ None → out ≤ rest
passed m rest out is none = ltb-false rest out (told (nat_lt rest out) (sym is ∙ none))
  where
    told : (b : Bool) → (if b then Some rest else None) ≡ None → b ≡ false
    told true e = cc
    told false e = refl

pub mark_stays : (v : View) (s : Segment) (now : Moment) (distance left : ℕ) → IsSound v → is_opening v.state ≡ false → goes_on v.congestion ≡ false → (is_counted_duplicate v s && third_is_next v.congestion) ≡ false → reports_loss v s ≡ false → reopens_by v s ≡ false → v.resend.mark ≡ Some distance
    → is_closed (after_segment_at v s now).state ≡ false → (after_segment_at v s now).resend.mark ≡ Some left → left ≡ distance - past (after_segment_at v s now).sending.una v.sending.una
mark_stays v s now distance left sound opened stands other unreported shut mark lives some =
    let w = after_segment_at v s now in
    stood w.resend.mark (distance - past w.sending.una v.sending.una) (outstanding w.sending) left (mark_left_by v s now distance sound opened stands other unreported shut mark lives) some

pub mark_goes : (v : View) (s : Segment) (now : Moment) (distance : ℕ) → IsSound v → is_opening v.state ≡ false → goes_on v.congestion ≡ false → (is_counted_duplicate v s && third_is_next v.congestion) ≡ false → reports_loss v s ≡ false → reopens_by v s ≡ false → v.resend.mark ≡ Some distance
    → is_closed (after_segment_at v s now).state ≡ false → (after_segment_at v s now).resend.mark ≡ None → outstanding (after_segment_at v s now).sending ≤ distance - past (after_segment_at v s now).sending.una v.sending.una
mark_goes v s now distance sound opened stands other unreported shut mark lives none =
    let w = after_segment_at v s now in
    passed w.resend.mark (distance - past w.sending.una v.sending.una) (outstanding w.sending) (mark_left_by v s now distance sound opened stands other unreported shut mark lives) none
