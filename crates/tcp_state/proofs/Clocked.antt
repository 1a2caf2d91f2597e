-- What the clock, and what goes out, leave of a connection as it was.
use Rattle.std.proofs.Common.{◌≡◌, ℕ, ◌-◌, ◌<◌, ◌==◌, ◌&&◌, ◌||◌, ◌⊎◌, not, nat_lt, Bool, true, false, if◌then◌else◌, Option, Some, None, is_some, [], length, inl, inr, arith, refl, sym, ◌∙◌, ap, subst, ap₂}
use Rattle.std.proofs.lemmas.Bool.{le-ltb}
use Rattle.std.proofs.lemmas.Bool.Decides.{eqb_tells}
use Rattle.clock.specs.declared.moment.Moment.{Moment}
use Rattle.tcp_state.specs.declared.alive.KeepAlive.{KeepAlive}
use Rattle.retransmit.specs.Deadlines.{next_of}
use Rattle.tcp_state.specs.Alive.{heard_now, after_silence}
use Rattle.tcp_segment.specs.Segment.{Segment}
use Rattle.tcp_state.specs.declared.state.State.{State}
use Rattle.tcp_state.specs.declared.state.State.TheVariants.{FinWait2, TimeWait}
use Rattle.tcp_state.specs.declared.timing.TheConstants.{OVERRIDE_WAIT}
use Rattle.clock.specs.Moments.{has_come}
use Rattle.tcp_state.specs.declared.arrival.Before.{Before}
use Rattle.tcp_state.specs.declared.guard.Guard.{Guard}
use Rattle.tcp_state.specs.declared.emission.Due.{Due}
use Rattle.tcp_state.specs.declared.emission.Due.TheVariants.{Rst, Syn, Text, Probe, Ack, KeepAlive as Asks}
use Rattle.tcp_state.specs.declared.emission.Stretch.{Stretch}
use Rattle.tcp_halves.specs.Stream.{outstanding, after_probed}
use Rattle.tcp_state.specs.View.{View, is_opening, is_syn_received, is_closed}
use Rattle.tcp_state.specs.Resend.{Resend, mark_past, resend_probed, resend_acknowledged, resend_first, resend_lost, resend_ends, excused_by, gives_back}
use Rattle.tcp_state.specs.Timing.{KeepsTime, probes, retransmits, awaits_more, running, retransmission_timer, probe_timer, delayed_ack_timer, override_timer, interval_of, awaits_first, waiting_since, unheard_since, clocked, retransmission_expired, probe_expired, after_expiry, delayed_ack_expired, override_expired, after_timers, after_expiries}
use Rattle.tcp_state.specs.Arrival.{is_opening_syn, is_held_back, answers_again, guarded, after_heard, is_rejected, begins_wait, answers_probe, is_acceptable_to, is_counted_duplicate, blocks_told, before, since_after, is_moved, reopens, reopens_by, resend_answered, resend_heard, resend_told, told, reports_more, resend_after, congestion_event_of, is_partial, behind_ack, told_behind, ends_tail, whole_signal, acknowledged_signal, tells_loss, report_event, resend_counted, resend_signalled, congestion_after, timed_by, after_segment_at, report_signal, came_twice, is_since_loss, tells_needless, given_back, resend_left, congestion_left}
use Rattle.tcp_state.specs.Due.{probe_stretch, end_of, after_syn_ack_paid, after_resent, after_first_sent, after_numbers, after_new_octets, after_new_text, brings_new_octets, after_syn_again, after_syn_out, after_stretch, after_probe, after_going_out, after_emitted}
use Rattle.tcp_state.specs.Edges.{after_first}
use Rattle.tcp_state.specs.Congestion.{Signal, after_signal}
use Rattle.tcp_state.specs.Congestion.Signal.{Begins, Counts, Both, Nothing}
use Rattle.congestion.specs.Control.{repairs, is_selective}
use Rattle.congestion.specs.Window.{Window, third_is_next, is_recovering}
use Rattle.congestion.specs.Events.{Event, after_event}
use Rattle.congestion.specs.Events.Event.{NewAck, PartialAck, Duplicate, Loss}
use Rattle.stream_buf.specs.Ranges.{covered}
use Rattle.tcp_state.specs.Selective.{selects, with_blocks, allowance}
use Rattle.tcp_halves.specs.Windows.{waits_for_more}
use Rattle.tcp_state.specs.New.{waits_no_longer, sends_new, sends_fin}
use Rattle.tcp_halves.proofs.Choices.{either, clash, and_left, and_right, and_false}
use Rattle.tcp_state.proofs.Segments.{by_clock}
use Rattle.tcp_state.proofs.Guarded.{opening_syn_opens}
use Rattle.tcp_state.proofs.Awaited.{waits_on}

-- Timers.

-- nothing changed but what is owed, the retransmission state, the timers, the congestion window, since when a first segment waits, and what is known of a silent peer
abbrev pub KeepsTo : View → View → Type 0
KeepsTo v w = w ≡ record v { owes_ack = w.owes_ack; resend = w.resend; timers = w.timers; congestion = w.congestion; unheard = w.unheard; alive = w.alive }

keeps_on : (v w x : View) → KeepsTo v w → KeepsTo w x → KeepsTo v x
keeps_on v w x first then_kept = then_kept ∙ ap (λ (u : View). record u { owes_ack = x.owes_ack; resend = x.resend; timers = x.timers; congestion = x.congestion; unheard = x.unheard; alive = x.alive }) first

expiry_keeps : (v : View) (now : Moment) → KeepsTo v (after_expiry v now)
expiry_keeps v now =
    let P : View → Type 0 = λ w. KeepsTo v w in
    either View P (has_come v.timers.retransmission now) (retransmission_expired v) _ (λ expired. refl)
    (λ waits. either View P (has_come v.timers.probe now) (probe_expired v now) v (λ probes. refl) (λ other. refl))

delayed_ack_keeps : (v : View) (now : Moment) → KeepsTo v (delayed_ack_expired v now)
delayed_ack_keeps v now = either View (λ w. KeepsTo v w) (has_come v.timers.delayed_ack now) _ v (λ expired. refl) (λ waits. refl)

override_keeps : (v : View) (now : Moment) → KeepsTo v (override_expired v now)
override_keeps v now = either View (λ w. KeepsTo v w) (has_come v.timers.overriding now) _ v (λ expired. refl) (λ waits. refl)

-- timers that act
pub timers_keep : (v : View) (now : Moment) → KeepsTo v (clocked false (after_timers v now) now)
timers_keep v now =
    let first = after_expiry v now in
    let second = delayed_ack_expired first now in
    let third = override_expired second now in
    keeps_on v third (clocked false third now) (keeps_on v second third (keeps_on v first second (expiry_keeps v now) (delayed_ack_keeps first now)) (override_keeps second now)) refl

-- .. once a silent peer is asked
pub ticks_keep : (v : View) (now : Moment) → KeepsTo v (clocked false (after_timers (after_silence v now) now) now)
ticks_keep v now = let asked = after_silence v now in keeps_on v asked (clocked false (after_timers asked now) now) refl (timers_keep asked now)

-- a tick that ends nothing
pub expiries_keep : (v : View) (now : Moment) → KeepsTo v (after_expiries (after_silence v now) now)
expiries_keep v now = let asked = after_silence v now in either View (KeepsTo v) (has_come (next_of v.timers) now) (clocked false (after_timers asked now) now) asked (λ comes. ticks_keep v now) (λ early. refl)

-- the other timers leave the retransmission state, but for the override, and the timers of an expiry
pub by_others : (P : View → Type 0) (v : View) (now : Moment) → P (after_expiry v now) → ((w : View) (owes : Bool) → P w → P (record w { owes_ack = owes }))
    → ((w : View) → P w → P (record w { resend = record w.resend { overridden = true }; timers = record w.timers { overriding = None } })) → P (after_timers v now)
by_others P v now first acks over =
    let one = after_expiry v now in
    let two = delayed_ack_expired one now in
    let second : P two = either View P (has_come one.timers.delayed_ack now) _ one (λ comes. acks one (one.owes_ack || one.delays_ack) first) (λ early. first) in
    either View P (has_come two.timers.overriding now) _ two (λ comes. over two second) (λ early. second)

-- What goes out.

-- nothing changed but the two halves, the acknowledgements that are owed, whether it has spoken, the retransmission state, the timers, since when a first segment waits, and what is known of a silent peer
abbrev pub Emitted : View → View → Type 0
Emitted v w = w ≡ record v { sending = w.sending; receiving = w.receiving; owes_ack = w.owes_ack; delays_ack = w.delays_ack; spoke = w.spoke; resend = w.resend; timers = w.timers; unheard = w.unheard; alive = w.alive }

emits_on : (v w x : View) → Emitted v w → Emitted w x → Emitted v x
emits_on v w x first then_kept =
    then_kept ∙ ap (λ (u : View). record u { sending = x.sending; receiving = x.receiving; owes_ack = x.owes_ack; delays_ack = x.delays_ack; spoke = x.spoke; resend = x.resend; timers = x.timers; unheard = x.unheard; alive = x.alive }) first

numbers_emitted : (v : View) (offset end : ℕ) (now : Moment) → Emitted v (after_numbers v offset end now)
numbers_emitted v offset end now =
    either View (λ w. Emitted v w) (nat_lt offset (outstanding v.sending)) (after_resent v end) (after_first_sent v end now) (λ again. refl) (λ first. refl)

stretch_emitted : (v : View) (stretch : Stretch) (now : Moment) → Emitted v (after_stretch v stretch now)
stretch_emitted v stretch now =
    let sent = after_numbers v stretch.offset (end_of stretch) now in
    let all = numbers_emitted v stretch.offset (end_of stretch) now in
    either View (λ w. Emitted v w) (brings_new_octets v stretch) (after_new_text sent stretch) sent (λ new. emits_on v sent (after_new_text sent stretch) all refl) (λ old. all)

probe_emitted : (v : View) → Emitted v (after_probe v)
probe_emitted v =
    let sent = record v { sending = after_probed v.sending (end_of (probe_stretch v)); resend = resend_probed v.resend } in
    either View (λ w. Emitted v w) (brings_new_octets v (probe_stretch v)) (after_new_octets sent) sent (λ new. refl) (λ old. refl)

-- what holds of a connection whose SYN goes out: it is its number that goes out, and beside that whether it went out again
pub syn_out : (v : View) (now : Moment) (P : View → Type 0) → P (after_numbers v 0 1 now) → P (after_syn_again (after_numbers v 0 1 now)) → P (after_syn_out v now)
syn_out v now P first again = either View P (nat_lt 0 (outstanding v.sending)) (after_syn_again (after_numbers v 0 1 now)) (after_numbers v 0 1 now) (λ before. again) (λ new. first)

syn_emitted : (v : View) (now : Moment) → Emitted v (after_going_out v Syn now)
syn_emitted v now =
    let sent = after_syn_out v now in
    let numbers = after_numbers v 0 1 now in
    let all = syn_out v now (λ w. Emitted v w) (numbers_emitted v 0 1 now) (emits_on v numbers (after_syn_again numbers) (numbers_emitted v 0 1 now) refl) in
    either View (λ w. Emitted v w) (is_syn_received v.state) (after_syn_ack_paid sent) sent (λ received. emits_on v sent (after_syn_ack_paid sent) all refl) (λ waits. all)

-- the reset of an abort goes out, or something else
pub emission : (v : View) (due : Due) (now : Moment) → (due ≡ Rst) ⊎ Emitted v (after_emitted v due now)
emission v Rst now = inl refl
emission v Syn now = let sent = after_going_out v Syn now in inr (emits_on v sent (clocked false sent now) (syn_emitted v now) refl)
emission v (Text stretch) now = let sent = after_stretch v stretch now in inr (emits_on v sent (after_emitted v (Text stretch) now) (stretch_emitted v stretch now) refl)
emission v Probe now = let sent = after_probe v in inr (emits_on v sent (after_emitted v Probe now) (probe_emitted v) refl)
emission v Ack now = inr refl
emission v Asks now = inr refl

-- what is due first goes out, if anything is
pub emission_keeps : (v : View) (due : Option Due) (now : Moment) → Emitted (record v { owes_reset = (after_first v due now).owes_reset }) (after_first v due now)
emission_keeps v None now = refl
emission_keeps v (Some due) now = elim (emission v due now) [
  | inl reset ↦ subst (λ d. Emitted (record v { owes_reset = (after_emitted v d now).owes_reset }) (after_emitted v d now)) (sym reset) refl
  | inr same ↦ ap (λ (u : View). record u { owes_reset = (after_emitted v due now).owes_reset }) same
]

-- Where nothing changed that timers wait for.

runs_on : (runs : Bool) (deadline : Option Moment) (now : Moment) (milliseconds : ℕ) → is_some deadline ≡ runs → (if runs then running deadline now milliseconds else None) ≡ deadline
runs_on true (Some moment) now milliseconds e = refl
runs_on true None now milliseconds e = cc
runs_on false (Some moment) now milliseconds e = cc
runs_on false None now milliseconds e = refl

goes_on : (waits : Bool) (deadline : Option Moment) (now : Moment) (milliseconds : ℕ) → (waits ≡ true → is_some deadline ≡ true)
    → (if waits then running deadline now milliseconds else deadline) ≡ deadline
goes_on true (Some moment) now milliseconds e = refl
goes_on true None now milliseconds e = let bad = e refl in cc
goes_on false deadline now milliseconds e = refl

interval_stays : (probing runs : Bool) (interval timeout : ℕ) → runs ≡ probing → (runs ≡ false → interval ≡ timeout) → (if probing && runs then interval else timeout) ≡ interval
interval_stays true true interval timeout same rest = refl
interval_stays true false interval timeout same rest = cc
interval_stays false true interval timeout same rest = cc
interval_stays false false interval timeout same rest = sym (rest refl)

owed_still : (owes probing : Bool) → (owes ≡ true → probing ≡ true) → (owes && probing) ≡ owes
owed_still true probing e = e refl
owed_still false probing e = refl

-- the parts of the retransmission state and the timers, one by one
parts : (v : View) (owes : Bool) (since : Moment) (alive : KeepAlive) (guard : Guard) (mark : Option ℕ) (interval : ℕ) (probe : Bool) (resending probing ack overriding unheard : Option Moment)
    → interval ≡ v.resend.interval → probe ≡ v.resend.owes_probe → resending ≡ v.timers.retransmission → probing ≡ v.timers.probe → overriding ≡ v.timers.overriding → unheard ≡ v.unheard
    → record v {
      owes_ack = owes;
      since = since;
      resend = record v.resend { mark = mark; interval = interval; owes_probe = probe };
      timers = record { retransmission = resending; probe = probing; delayed_ack = ack; overriding = overriding };
      unheard = unheard;
      alive = alive;
      guard = guard;
    } ≡ record v { owes_ack = owes; since = since; resend = record v.resend { mark = mark }; timers = record v.timers { delayed_ack = ack }; alive = alive; guard = guard }
parts v owes since alive guard mark interval probe resending probing ack overriding unheard a b c d e f = rw a (rw b (rw c (rw d (rw e (rw f refl)))))

-- what goes out again stays, or the connection opens, where no new octets wait and our SYN is all that may be due
abbrev pub Marked : View → Option ℕ → Type 0
Marked v mark = (mark ≡ v.resend.mark) ⊎ (is_opening v.state ≡ true)

marked_waits : (v : View) (mark : Option ℕ) → Marked v mark → (let w : View = record v { resend = record v.resend { mark = mark } } in (awaits_more w ≡ awaits_more v) × (awaits_first w ≡ awaits_first v))
marked_waits v mark (inl same) =
    let P : Option ℕ → Type 0 = λ m. (let w : View = record v { resend = record v.resend { mark = m } } in (awaits_more w ≡ awaits_more v) × (awaits_first w ≡ awaits_first v)) in
    subst P (sym same) (refl, refl)
marked_waits v mark (inr opens) =
    let w : View = record v { resend = record v.resend { mark = mark } } in
    (none_more w opens ∙ sym (none_more v opens), at_first w opens ∙ sym (at_first v opens))
  where
    none_more : (x : View) → is_opening x.state ≡ true → awaits_more x ≡ false
    none_more x e = ap (λ o. not o && waits_for_more x.sending (allowance x) (waits_no_longer x)) e

    at_first : (x : View) → is_opening x.state ≡ true → awaits_first x ≡ ((outstanding x.sending == 0) && true)
    at_first x e = ap (λ o. (outstanding x.sending == 0) && (o || sends_new x || sends_fin x || (x.resend.owes_probe && probes x))) e

-- an acknowledgement that is owed ends the wait of one that is delayed, and leaves the other timers as they run
settles : (v : View) (owes : Bool) (since : Moment) (alive : KeepAlive) (guard : Guard) (mark : Option ℕ) (now : Moment) → KeepsTime v → Marked v mark
    → (let w = record v { owes_ack = owes; since = since; resend = record v.resend { mark = mark }; alive = alive; guard = guard } in clocked false w now ≡ record w { timers = record v.timers { delayed_ack = delayed_ack_timer w now } })
settles v owes since alive guard mark now keeps marked =
    let w = record v { owes_ack = owes; since = since; resend = record v.resend { mark = mark }; alive = alive; guard = guard } in
    let waits = marked_waits v mark marked in
    parts v owes since alive guard mark (interval_of v) (v.resend.owes_probe && probes v) (retransmission_timer v false now) (probe_timer v now) (delayed_ack_timer w now) (override_timer w now) (unheard_since w now)
    (interval_stays (probes v) (is_some v.timers.probe) v.resend.interval v.resend.timeout.rto keeps.probe keeps.interval)
    (owed_still v.resend.owes_probe (probes v) keeps.owed)
    (runs_on (retransmits v) v.timers.retransmission now v.resend.timeout.rto keeps.retransmission)
    (runs_on (probes v) v.timers.probe now v.resend.timeout.rto keeps.probe)
    (ap (λ b. if b then running v.timers.overriding now OVERRIDE_WAIT else v.timers.overriding) waits.0 ∙ goes_on (awaits_more v) v.timers.overriding now OVERRIDE_WAIT keeps.overriding)
    (ap (λ b. if b then Some (waiting_since v.unheard now) else None) waits.1 ∙ waits_on (awaits_first v) v.unheard now keeps.unheard)

-- Segments.

pub equal : (n : ℕ) → (n == n) ≡ true
equal n = elim (eqb_tells n n) [ inl same ↦ same.0 | inr other ↦ absurd (other.1 refl) ]

begins_none : (t : State) → begins_wait t t ≡ false
begins_none FinWait2 = refl
begins_none TimeWait = refl
begins_none _ = refl

apart_from_itself : (b : Bool) → (b && not b) ≡ false
apart_from_itself true = refl
apart_from_itself false = refl

-- no wait begins where the state stays, and none of a reset where that is owed as before
pub starts_none : (v : View) → (begins_wait v.state v.state || (v.owes_reset && not v.owes_reset)) ≡ false
starts_none v = ap (λ b. b || (v.owes_reset && not v.owes_reset)) (begins_none v.state) ∙ apart_from_itself v.owes_reset

-- one that is not rejected comes to a connection that is not CLOSED
pub comes_to : (v : View) (s : Segment) (now : Moment) → is_closed v.state ≡ false → is_rejected v s ≡ false → after_segment_at v s now ≡ timed_by (before v s) (after_heard v s) now
comes_to v s now lives taken =
    ap (λ b. if b || is_rejected v s then v else timed_by (before v s) (after_heard v s) now) lives ∙ ap (λ b. if b then v else timed_by (before v s) (after_heard v s) now) taken

-- what holds of the retransmission state that a segment leaves: it is progress by an ACK, by an answer to a probe, or none ..
pub heard_paced : (b : Before) (w : View) (now : Moment) (P : Resend → Type 0) → P (resend_acknowledged w.resend w.sending.una (is_opening b.state) now) → P (resend_answered w) → P w.resend
    → P (resend_heard b w now)
heard_paced b w now P moved answered same =
    either Resend P (is_moved b w) (resend_acknowledged w.resend w.sending.una (is_opening b.state) now) _ (λ moves. moved)
    (λ stays. either Resend P b.answers_probe (resend_answered w) w.resend (λ answers. answered) (λ other. same))

-- the mark stays, but where the window opens behind a probe
pub mark_heard : (b : Before) (w : View) (now : Moment) → (b.answers_probe && reopens w) ≡ false → (resend_heard b w now).mark ≡ w.resend.mark
mark_heard b w now shut =
    let P : Resend → Type 0 = λ p. p.mark ≡ w.resend.mark in
    either Resend P (is_moved b w) (resend_acknowledged w.resend w.sending.una (is_opening b.state) now) _ (λ moves. refl)
    (λ stays. either Resend P b.answers_probe (resend_answered w) w.resend
    (λ answers. ap (λ t. if t then mark_past 0 (outstanding w.sending) else w.resend.mark) (ap (λ a. a && reopens w) (sym answers) ∙ shut))
    (λ other. refl))

-- what a segment is to the congestion window: nothing, the beginning, an ACK, a partial one, a duplicate one, a report that counts, such a report behind an ACK, or an ACK that ends a probe of the tail
pub signalled : (b : Before) (w : View) (P : Signal → Type 0) → P Nothing → P Begins → (is_moved b w ≡ true → is_opening b.state ≡ false → is_partial w ≡ false → P (Counts (NewAck (b.held - length w.sending.held) (outstanding w.sending))))
    → (is_moved b w ≡ true → is_opening b.state ≡ false → is_partial w ≡ true → P (Counts (PartialAck (b.held - length w.sending.held))))
    → (is_moved b w ≡ false → b.is_duplicate ≡ true → P (Counts (Duplicate (outstanding w.sending)))) → (is_moved b w ≡ false → reports_more b w ≡ true → (third_is_next w.congestion && not (tells_loss (told b w))) ≡ false → P (Counts (report_event (told b w))))
    → (is_moved b w ≡ true → is_opening b.state ≡ false → reports_more b w ≡ true → (let n = b.held - length w.sending.held in P (Both (NewAck n (outstanding w.sending)) (report_event (behind_ack (told b w) n)))))
    → (is_moved b w ≡ true → is_opening b.state ≡ false → is_partial w ≡ false → ends_tail b w ≡ true → P (Both (Loss b.tail) (NewAck (b.held - length w.sending.held) (outstanding w.sending)))) → P (congestion_event_of b w)
signalled b w P nothing begins acks parts repeats tells both_count pays =
    let n = b.held - length w.sending.held in
    let acked = acknowledged_signal b (told b w) n (reports_more b w) in
    let ack = NewAck n (outstanding w.sending) in
    either Signal P (is_closed w.state) Nothing _ (λ closed. nothing)
    (λ lives. either Signal P (is_moved b w) (if is_opening b.state then Begins else acked) _
    (λ moves. either Signal P (is_opening b.state) Begins acked (λ opens. begins)
    (λ opened. either Signal P (is_partial w) _ (whole_signal b (told b w) n (reports_more b w))
    (λ goes. either Signal P (selects w) Nothing (Counts (PartialAck n)) (λ rules. nothing) (λ none. parts moves opened goes))
    (λ whole. either Signal P (reports_more b w) (Both ack (report_event (behind_ack (told b w) n))) _ (both_count moves opened)
    (λ alone. either Signal P (ends_tail b w) (Both (Loss b.tail) ack) (Counts ack) (λ ends. pays moves opened whole ends) (λ other. acks moves opened whole)))))
    (λ stays. either Signal P b.is_duplicate (Counts (Duplicate (outstanding w.sending))) _ (λ same. repeats stays same)
    (λ other. either Signal P (reports_more b w) (report_signal (told b w)) Nothing
    (λ more. either Signal P (third_is_next w.congestion && not (tells_loss (told b w))) Nothing (Counts (report_event (told b w))) (λ waits. nothing) (λ counts. tells stays more counts)) (λ none. nothing))))

-- a report finds the window behind the ACK that it comes with, if it does
pub told_moved : (b : Before) (w : View) → is_moved b w ≡ true → told_behind b w ≡ behind_ack (told b w) (b.held - length w.sending.held)
told_moved b w moves = ap (λ t. if t then behind_ack (told b w) (b.held - length w.sending.held) else told b w) moves

pub told_still : (b : Before) (w : View) → is_moved b w ≡ false → told_behind b w ≡ told b w
told_still b w stays = ap (λ t. if t then behind_ack (told b w) (b.held - length w.sending.held) else told b w) stays

-- the third duplicate ACK, or a report that tells a loss
abbrev pub LosesBy : Before → View → Type 0
LosesBy b w = ((is_moved b w ≡ false) × (b.is_duplicate ≡ true) × (third_is_next w.congestion ≡ true)) ⊎ ((reports_more b w ≡ true) × (tells_loss (told_behind b w) ≡ true))

-- what it makes of the retransmission state: the segment at SND.UNA goes out again as lost or as the next of a recovery, or doesn't; and a recovery that reports rule ends
pub by_signal : (b : Before) (w : View) (p : Resend) (P : Resend → Type 0) → P p → (is_moved b w ≡ true → is_opening b.state ≡ false → P (resend_ends p)) → (is_moved b w ≡ true → is_opening b.state ≡ false → is_partial w ≡ true → P (resend_first p (outstanding w.sending)))
    → ((r : Bool) → LosesBy b w → P (resend_lost p r (outstanding w.sending))) → P (resend_signalled p (congestion_event_of b w) w.congestion (outstanding w.sending))
by_signal b w p P same ends next lost =
    signalled b w (λ g. P (resend_signalled p g w.congestion (outstanding w.sending))) same same
    (λ moves opened whole. either Resend P (is_selective w.congestion.control && is_recovering w.congestion) (resend_ends p) p (λ rules. ends moves opened) (λ other. same)) next
    (λ stays twice. either Resend P (third_is_next w.congestion) (resend_lost p (repairs w.congestion.control) (outstanding w.sending)) p (λ third. lost (repairs w.congestion.control) (inl (stays, twice, third))) (λ other. same))
    (λ stays more counts. either Event (λ e. P (resend_signalled p (Counts e) w.congestion (outstanding w.sending))) (tells_loss (told b w)) (Loss (outstanding w.sending)) (Duplicate (outstanding w.sending))
    (λ loss. lost true (inr (more, ap tells_loss (told_still b w stays) ∙ loss)))
    (λ early. either Resend P (third_is_next w.congestion) (resend_lost p (repairs w.congestion.control) (outstanding w.sending)) p (λ third. clash (third_is_next w.congestion && not (tells_loss (told b w))) (ap₂ (λ a t. a && not t) third early) counts) (λ other. same)))
    (λ moves opened more.
    let ack = NewAck (b.held - length w.sending.held) (outstanding w.sending) in
    let rules = is_selective w.congestion.control && is_recovering w.congestion in
    let acked = behind_ack (told b w) (b.held - length w.sending.held) in
    either Event (λ e. P (resend_counted (if rules then resend_ends p else p) e (after_event w.congestion ack) (outstanding w.sending))) (tells_loss acked) (Loss (outstanding w.sending)) (Duplicate (outstanding w.sending))
    (λ loss. let lost_so : P (resend_lost p true (outstanding w.sending)) = lost true (inr (more, ap tells_loss (told_moved b w moves) ∙ loss)) in
    either Resend (λ q. P (resend_lost q true (outstanding w.sending))) rules (resend_ends p) p (λ ended. lost_so) (λ other. lost_so))
    (λ early. either Resend P rules (resend_ends p) p (λ ended. ends moves opened) (λ other. same)))
    (λ moves opened whole paid. same)

-- what holds of the retransmission state that is left with the clock
pub after_paced : (b : Before) (w : View) (now : Moment) (P : Resend → Type 0) → P (resend_told b w now) → P (resend_ends (resend_told b w now)) → ((r : Bool) → P (resend_lost (resend_told b w now) r (outstanding w.sending)))
    → P (resend_first (resend_told b w now) (outstanding w.sending)) → P (resend_after b w now)
after_paced b w now P same ends lost next = by_signal b w (resend_told b w now) P same (λ moves opened. ends) (λ moves opened goes. next) (λ r why. lost r)

-- the end of a recovery stays at its number where SND.UNA moves, and no report counts
pub recover_kept : (b : Before) (w : View) (now : Moment) → is_moved b w ≡ true → reports_more b w ≡ false → (resend_after b w now).recover ≡ w.resend.recover
recover_kept b w now moves quiet =
    let P : Resend → Type 0 = λ p. p.recover ≡ w.resend.recover in
    let heard = heard_paced b w now P refl refl refl in
    by_signal b w (resend_told b w now) P heard (λ still_moves opened. heard) (λ still_moves opened goes. heard)
    (λ r why. elim why [ inl twice ↦ clash (is_moved b w) moves twice.0 | inr tells ↦ clash (reports_more b w) tells.0 quiet ])

-- what is reported once more, or nothing, is as it was
pub reports_none : (b : Before) (w : View) → b.blocks ≡ [] → reports_more b w ≡ false
reports_none b w silent = ap (λ bs. b.counts_reports && nat_lt (covered w.resend.reported) (covered (with_blocks w.resend.reported w.sending bs))) silent ∙ ap (λ t. b.counts_reports && t) (le-ltb (covered w.resend.reported) (covered w.resend.reported) (omega arith)) ∙ and_false b.counts_reports

pub told_none : (b : Before) (w : View) (now : Moment) → b.blocks ≡ [] → resend_told b w now ≡ resend_heard b w now
told_none b w now silent =
    ap (λ bs. let p : Resend = record (resend_heard b w now) { reported = with_blocks w.resend.reported w.sending bs } in p) silent
    ∙ heard_paced b w now (λ p. record p { reported = w.resend.reported } ≡ p) refl refl refl

-- past the opening, a segment that moves nothing, reports nothing and is no duplicate ACK tells the congestion window nothing
pub event_none : (b : Before) (w : View) → is_moved b w ≡ false → b.is_duplicate ≡ false → b.blocks ≡ [] → congestion_event_of b w ≡ Nothing
event_none b w same first silent =
    either Signal (λ e. e ≡ Nothing) (is_closed w.state) Nothing _ (λ closed. refl)
    (λ lives. ap (λ t. if t then (if is_opening b.state then Begins else acknowledged_signal b (told b w) (b.held - length w.sending.held) (reports_more b w)) else if b.is_duplicate then Counts (Duplicate (outstanding w.sending)) else if reports_more b w then report_signal (told b w) else Nothing) same
    ∙ ap (λ t. if t then Counts (Duplicate (outstanding w.sending)) else if reports_more b w then report_signal (told b w) else Nothing) first
    ∙ ap (λ t. if t then report_signal (told b w) else Nothing) (reports_none b w silent))

-- .. and puts nothing out again, nor does one that opens the connection
abbrev pub IsStill : Before → View → Type 0
IsStill b w = (is_moved b w ≡ false) ⊎ (is_opening b.state ≡ true)

pub resend_unlost : (b : Before) (w : View) (now : Moment) → IsStill b w → b.is_duplicate ≡ false → b.blocks ≡ [] → resend_after b w now ≡ resend_heard b w now
resend_unlost b w now none first silent =
    let acts_not : (T : Type 0) → is_moved b w ≡ true → is_opening b.state ≡ false → T = λ T moves opened. elim none [
      | inl still ↦ clash (is_moved b w) moves still
      | inr opening ↦ clash (is_opening b.state) opening opened
    ] in
    by_signal b w (resend_told b w now) (λ p. p ≡ resend_told b w now) refl (λ moves opened. acts_not _ moves opened) (λ moves opened goes. acts_not _ moves opened)
    (λ r why. elim why [
      | inl twice ↦ clash b.is_duplicate twice.1 first
      | inr more ↦ clash (reports_more b w) more.0 (reports_none b w silent)
    ])
    ∙ told_none b w now silent

-- what it tells of time leaves what goes out again
pub marks_kept : (b : Before) (w : View) (now : Moment) → IsStill b w → b.answers_probe ≡ false → b.is_duplicate ≡ false → b.blocks ≡ [] → (resend_after b w now).mark ≡ w.resend.mark
marks_kept b w now none quiet first silent = ap (λ (p : Resend). p.mark) (resend_unlost b w now none first silent) ∙ mark_heard b w now (ap (λ a. a && reopens w) quiet)

-- .. and none opens a window that is open
pub open_reopens_none : (v : View) (s : Segment) → 0 < v.sending.window → reopens_by v s ≡ false
open_reopens_none v s wide =
    let opened = not (is_opening v.state) in
    let wide_open : (v.sending.window == 0) ≡ false = elim (eqb_tells v.sending.window 0) [ inl none ↦ let zero = none.1 in absurd (omega (arith, wide, zero)) | inr other ↦ other.0 ] in
    ap (λ c. opened && c && is_acceptable_to v s && s.flags.ack && not s.flags.rst && reopens (after_heard v s)) wide_open
    ∙ ap (λ c. c && is_acceptable_to v s && s.flags.ack && not s.flags.rst && reopens (after_heard v s)) (and_false opened)

-- nothing answers a probe while the connection opens
pub opening_answers_none : (v : View) (s : Segment) → is_opening v.state ≡ true → answers_probe v s ≡ false
opening_answers_none v s opens = ap (λ b. not b && (v.sending.window == 0) && is_acceptable_to v s && s.flags.ack && not s.flags.rst) opens

-- .. and whether a probe is due
pub probes_kept : (b : Before) (w : View) (now : Moment) → (resend_after b w now).owes_probe ≡ w.resend.owes_probe
probes_kept b w now =
    let P : Resend → Type 0 = λ p. p.owes_probe ≡ w.resend.owes_probe in
    let heard = heard_paced b w now P refl refl refl in
    after_paced b w now P heard heard (λ r. heard) heard

-- nothing changed but what is owed
abbrev pub Owing : View → View → Type 0
Owing v w = w ≡ record v { owes_ack = w.owes_ack }

-- .. and at its moment nothing but that, the acknowledgement that is delayed, the moment from which a wait is counted, and that its peer was heard; on guard what is kept for that, and what goes out again
abbrev pub OwingAt : View → View → Type 0
OwingAt v w = w ≡ record v {
  owes_ack = w.owes_ack;
  since = w.since;
  resend = record v.resend { mark = w.resend.mark };
  timers = record v.timers { delayed_ack = w.timers.delayed_ack };
  alive = w.alive;
  guard = w.guard;
}

-- no acknowledgement moved SND.UNA
pub unmoved : (v : View) → not (v.sending.una == v.sending.una) ≡ false
unmoved v = ap not (equal v.sending.una)

-- what reports nothing tells of nothing that came twice
pub silent_needed : (v : View) (s : Segment) → blocks_told v s ≡ [] → tells_needless v s ≡ false
unfolding tells_needless
silent_needed v s silent = ap (λ bs. came_twice s.acknowledgement bs && is_since_loss v bs && (v.resend.tail == 0) && not (probes v)) silent

-- a segment that acknowledges nothing new, reports nothing, does not answer a probe, and is no duplicate ACK changes no timer by itself
pub timed_unmoved : (b : Before) (w : View) (now : Moment) → is_moved b w ≡ false → b.answers_probe ≡ false → b.is_duplicate ≡ false → b.blocks ≡ [] → b.needless ≡ false
    → timed_by b w now ≡ clocked false (guarded b (record w { since = since_after b w now; alive = heard_now w.alive now }) now) now
timed_unmoved b w now same quiet first silent needed =
    let since = since_after b w now in
    let alive = heard_now w.alive now in
    let resend : resend_left b w now ≡ w.resend =
    ap (λ t. excused_by t (resend_after b w now)) needed ∙ resend_unlost b w now (inl same) first silent
    ∙ (ap (λ t. if t then resend_acknowledged w.resend w.sending.una (is_opening b.state) now else if b.answers_probe then resend_answered w else w.resend) same
    ∙ ap (λ t. if t then resend_answered w else w.resend) quiet) in
    let congestion : congestion_left b w now ≡ w.congestion = ap (λ t. given_back (gives_back t (resend_left b w now)) (congestion_after b w)) needed ∙ ap (λ e. after_signal w.congestion e w.sending.smss w.resend.syn_resent) (event_none b w same first silent) in
    ap (λ t. clocked t (guarded b (record w { since = since; resend = resend_left b w now; congestion = congestion_left b w now; alive = alive }) now) now) same
    ∙ (ap (λ (p : Resend). clocked false (guarded b (record w { since = since; resend = p; congestion = congestion_left b w now; alive = alive }) now) now) resend
    ∙ ap (λ (c : Window). clocked false (guarded b (record w { since = since; congestion = c; alive = alive }) now) now) congestion)

timed_owing : (v : View) (s : Segment) (owes : Bool) (now : Moment) → KeepsTime v → answers_probe v s ≡ false → is_counted_duplicate v s ≡ false → blocks_told v s ≡ []
    → OwingAt v (timed_by (before v s) (record v { owes_ack = owes }) now)
timed_owing v s owes now keeps quiet first silent =
    let b = before v s in
    let w = record v { owes_ack = owes } in
    let x = guarded b (record w { since = since_after b w now; alive = heard_now v.alive now }) now in
    subst (λ y. OwingAt v y) (sym (timed_unmoved b w now (unmoved v) quiet first silent (silent_needed v s silent))) (settles v x.owes_ack x.since x.alive x.guard x.resend.mark now keeps
    (either (Option ℕ) (Marked v) (answers_again b w now) (mark_past 0 (outstanding v.sending)) v.resend.mark
    (λ again. inr (opening_syn_opens v s (and_right v.guard.on (is_opening_syn v s) (and_left b.asks_again _ again))))
    (λ none. inl refl)))

-- a segment that draws an acknowledgement, or nothing, and reports nothing
pub owing_timed : (v : View) (s : Segment) (now : Moment) → KeepsTime v → answers_probe v s ≡ false → is_counted_duplicate v s ≡ false → blocks_told v s ≡ [] → Owing v (after_heard v s) → OwingAt v (after_segment_at v s now)
owing_timed v s now keeps quiet first silent same =
    by_clock (OwingAt v) v s now refl
    (λ heard. subst (λ w. OwingAt v (timed_by (before v s) w now)) (sym same) (timed_owing v s (after_heard v s).owes_ack now keeps quiet first silent))

-- what goes out again stays, but where its SYN comes again on guard
pub owing_marks : (v : View) (s : Segment) (now : Moment) → answers_probe v s ≡ false → is_counted_duplicate v s ≡ false → blocks_told v s ≡ [] → Owing v (after_heard v s) → (v.guard.on && is_opening_syn v s) ≡ false
    → (after_segment_at v s now).resend.mark ≡ v.resend.mark
owing_marks v s now quiet first silent same plain =
    let b = before v s in
    let w = record v { owes_ack = (after_heard v s).owes_ack } in
    by_clock (λ x. x.resend.mark ≡ v.resend.mark) v s now refl
    (λ heard. subst (λ x. (timed_by b x now).resend.mark ≡ v.resend.mark) (sym same)
    (ap (λ (x : View). x.resend.mark) (timed_unmoved b w now (unmoved v) quiet first silent (silent_needed v s silent))
    ∙ ap (λ again. if again && not (is_held_back b w now) then mark_past 0 (outstanding v.sending) else v.resend.mark) plain))

-- nothing goes out again where nothing is outstanding
pub unmarked_after : (b : Before) (w : View) (now : Moment) → w.resend.mark ≡ None → outstanding w.sending ≡ 0 → (resend_after b w now).mark ≡ None
unmarked_after b w now none idle =
    let gone : mark_past 0 (outstanding w.sending) ≡ None = ap (mark_past 0) idle in
    let P : Resend → Type 0 = λ p. p.mark ≡ None in
    let answered : P (resend_answered w) = either (Option ℕ) (λ m. m ≡ None) (reopens w) (mark_past 0 (outstanding w.sending)) w.resend.mark (λ opens. gone) (λ shut. none) in
    by_signal b w (resend_told b w now) P (heard_paced b w now P none answered none) (λ moves opened. refl) (λ moves opened goes. gone) (λ r why. gone)
