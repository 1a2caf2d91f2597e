-- Why the end of a recovery keeps its number, and what begins and ends a recovery.
use Rattle.std.proofs.Common.{◌≡◌, ◌≢◌, ℕ, ◌-◌, ◌^◌, ◌<◌, ◌≤◌, ◌==◌, ◌&&◌, ◌||◌, ◌⊎◌, not, nat_lt, Bool, true, false, if◌then◌else◌, length, Option, Some, None, inl, inr, arith, refl, sym, ◌∙◌, ap, ap₂, subst}
use Rattle.std.proofs.lemmas.Bool.{lt-ltb, ltb-true, ltb-false}
use Rattle.std.proofs.lemmas.Bool.Decides.{eqb_tells}
use Rattle.tcp_segment.specs.Segment.{Segment}
use Rattle.tcp_segment.specs.Wire.{past}
use Rattle.clock.specs.declared.moment.Moment.{Moment}
use Rattle.clock.specs.Moments.{has_come}
use Rattle.retransmit.specs.Deadlines.{next_of}
use Rattle.congestion.specs.Control.{repairs}
use Rattle.congestion.specs.Window.{Window, is_recovering, goes_on, third_is_next, after_duplicate}
use Rattle.congestion.specs.Events.Event.{PartialAck, Duplicate}
use Rattle.tcp_state.specs.declared.calls.Refusal.TheVariants.{ETIMEDOUT}
use Rattle.tcp_state.specs.declared.emission.Due.{Due}
use Rattle.tcp_state.specs.declared.emission.Due.TheVariants.{Rst, Syn, Text, Probe, Ack, KeepAlive}
use Rattle.tcp_halves.specs.Halves.{Sending}
use Rattle.tcp_halves.specs.Stream.{outstanding, after_probed}
use Rattle.tcp_halves.specs.Windows.{updates_window}
use Rattle.tcp_state.specs.declared.state.State.{State}
use Rattle.tcp_state.specs.declared.state.State.TheVariants.{SynSent, SynReceived, Established, FinWait1, FinWait2, Closing, LastAck}
use Rattle.tcp_halves.proofs.Choices.{either, by, clash, and_left, and_right, and_false, both, neither, unowed}
use Rattle.tcp_state.specs.Resend.{Resend, stopped, resend_first, resend_lost, resend_probed, recover_noted}
use Rattle.tcp_state.specs.View.{View, IsSound, is_opening, is_syn_sent, is_syn_received, is_closed, awaits_fin_ack, takes_flag_number, after_stop, after_reset}
use Rattle.tcp_state.specs.Alive.{after_silence}
use Rattle.tcp_state.specs.Timing.{probes, clocked, retransmission_expired, probe_expired, after_timers, after_expiries}
use Rattle.tcp_state.specs.Congestion.{Signal, after_signal}
use Rattle.tcp_state.specs.Congestion.Signal.{Begins, Counts, Nothing}
use Rattle.tcp_state.specs.Arrival.{owing_ack, is_receiving, is_of_fin, beyond_fin, beyond_end, after_new_ack, after_ack, after_window, after_text, after_heard, is_rejected, is_duplicate, counts_duplicates, is_counted_duplicate, before, is_moved, resend_heard, resend_told, told, told_behind, whole_signal, reports_more, tells_loss, is_report, reports_loss, acknowledged_signal, congestion_event_of, resend_signalled, resend_after, timed_by, after_segment_at, report_signal}
use Rattle.tcp_state.specs.Counted.{IsDuplicate}
use Rattle.tcp_state.specs.Due.{again, first_due, probe_stretch, end_of, after_resent, after_first_sent, after_numbers, after_new_octets, after_new_text, brings_new_octets, after_syn_ack_paid, after_syn_out, after_emitted}
use Rattle.tcp_state.specs.Edges.{Event, Hears, Ticks, Emits, after_first, after_event, gives_back_by}
use Rattle.stream_buf.specs.Ranges.{AreApart}
use Rattle.tcp_state.specs.Selective.{selects, with_blocks}
use Rattle.tcp_state.proofs.Guarded.{kept_mark}
use Rattle.tcp_state.proofs.Selects.{silent_unselected, more_counts, report_counts}
use Rattle.tcp_state.proofs.Places.{first_at_una}
use Rattle.tcp_state.proofs.Scores.{heard_scores}
use Rattle.tcp_state.proofs.Clocked.{by_others, heard_paced, signalled, by_signal, recover_kept, syn_out}
use Rattle.tcp_state.proofs.TailProbes.{silent_sound}
use Rattle.tcp_state.proofs.Congestion.{window_kept}
use Rattle.tcp_state.proofs.Deadlines.{none_comes}
use Rattle.tcp_state.proofs.Duplicates.{window_stays, repeats, comes_alone, una_stays}
use Rattle.tcp_state.proofs.Events.{by_event}
use Rattle.tcp_state.proofs.Losses.{past_opening}
use Rattle.tcp_state.proofs.Segments.{by_fin, by_ack, by_hearing, by_clock}
use Rattle.tcp_state.proofs.Signals.{duplicates_are, quiet_on, heard_is, heard_selects, moved_hears, is_moved_by, counts_partly, counts_no_part, counts_duplicate, goes_on as ticks_on, others_count_none, gives_none, probe_needed}
use Rattle.tcp_state.proofs.StillStreams.{emissions_leave}

-- Its end keeps its number.

-- it stands where it stood, or nearer to SND.UNA by as much as that moved
abbrev Left : View → View → Type 0
Left v w = w.resend.recover ≡ v.resend.recover - past w.sending.una v.sending.una

-- so does that of a probe of the tail
abbrev pub TailLeft : View → View → Type 0
TailLeft v w = w.resend.tail ≡ v.resend.tail - past w.sending.una v.sending.una

-- .. and SND.NXT stands where it stood
abbrev pub Kept : View → View → Type 0
Kept v w = Left v w × (w.sending.nxt ≡ v.sending.nxt) × TailLeft v w

there : (v : View) → IsSound v → Left v v
there v sound = omega (arith, sound.una)

pub tail_there : (v : View) → IsSound v → TailLeft v v
tail_there v sound = omega (arith, sound.una)

-- nothing is outstanding any longer
pub stops : (v : View) (end nxt : ℕ) → end ≤ outstanding v.sending → nxt ≡ v.sending.nxt → 0 ≡ end - past nxt v.sending.una
stops v end nxt few same =
    let all : past nxt v.sending.una ≡ outstanding v.sending = ap (λ n. past n v.sending.una) same in
    omega (arith, few, all)

-- where our FIN is acknowledged, nothing is outstanding
fin_takes_all : (v : View) (end ack : ℕ) → IsSound v → end ≤ outstanding v.sending → is_of_fin v ack ≡ true → 0 ≡ end - past ack v.sending.una
fin_takes_all v end ack sound few fin =
    let past_all = ltb-true (length v.sending.held) (past ack v.sending.una) (and_right (awaits_fin_ack v.state) (nat_lt (length v.sending.held) (past ack v.sending.una)) fin) in
    let one = one_number (takes_flag_number v.state) in
    let flight = sound.flight in
    omega (arith, few, past_all, one, flight)
  where
    one_number : (b : Bool) → (if b then 1 else 0) ≤ 1
    one_number true = omega arith
    one_number false = omega arith

-- a segment brings it as much nearer
pub heard_left : (v : View) (s : Segment) → IsSound v → Kept v (after_heard v s)
heard_left v s sound =
    let P : View → Type 0 = Kept v in
    let here : P v = (there v sound, refl, tail_there v sound) in
    let gone = after_new_ack v s.acknowledgement in
    let told = after_window (after_ack v s.acknowledgement) s in
    let acked : P (after_ack v s.acknowledgement) = by_ack P v s.acknowledgement (record {
      old = here;
      beyond = here;
      opens = λ received new. (stops v v.resend.recover v.sending.nxt sound.recover refl, refl, stops v v.resend.tail v.sending.nxt sound.tail refl);
      octets = λ new. (refl, refl, refl);
      fin = λ new fin. (
        either Resend (λ p. p.recover ≡ v.resend.recover - past s.acknowledgement v.sending.una) (is_closed (beyond_fin v.state)) (stopped gone.resend) gone.resend
            (λ closed. fin_takes_all v v.resend.recover s.acknowledgement sound sound.recover fin) (λ alive. refl),
        refl,
        either Resend (λ p. p.tail ≡ v.resend.tail - past s.acknowledgement v.sending.una) (is_closed (beyond_fin v.state)) (stopped gone.resend) gone.resend
            (λ closed. fin_takes_all v v.resend.tail s.acknowledgement sound sound.tail fin) (λ alive. refl),
      );
    }) in
    let heard : P told = either Sending (λ t. P (record (after_ack v s.acknowledgement) { sending = t })) (updates_window (after_ack v s.acknowledgement).sending s.number s.acknowledgement) _ (after_ack v s.acknowledgement).sending (λ newer. acked) (λ older. acked) in
    let text : P (after_text told s) = either View P ((length s.octets == 0) || not (is_receiving told.state)) told _ (λ none. heard) (λ some. heard) in
    by_hearing P v s (stops v v.resend.recover told.sending.nxt sound.recover heard.1, heard.1, stops v v.resend.tail told.sending.nxt sound.tail heard.1) (record {
      dropped = here;
      drawn = here;
      reset = λ acts. (stops v v.resend.recover v.sending.nxt sound.recover refl, refl, stops v v.resend.tail v.sending.nxt sound.tail refl);
      crossed = λ waits. here;
      opened = λ waits right. (stops v v.resend.recover v.sending.nxt sound.recover refl, refl, stops v v.resend.tail v.sending.nxt sound.tail refl);
      acknowledged = λ taken. acked;
      read = λ on. by_fin P (after_text told s) s (λ counts. text) text text;
    })

-- a third duplicate ACK, or an expiry, notes another
abbrev Notes : View → Event → Type 0
Notes v e = ((s : Segment) × (now : Moment) × (e ≡ Hears s now) × (((is_counted_duplicate v s ≡ true) × (third_is_next v.congestion ≡ true)) ⊎ (reports_loss v s ≡ true)))
    ⊎ ((now : Moment) × (e ≡ Ticks now) × (has_come v.timers.retransmission now ≡ true))

timed_left : (v : View) (s : Segment) (now : Moment) → IsSound v → Left v (timed_by (before v s) (after_heard v s) now) ⊎ Notes v (Hears s now)
timed_left v s now sound =
    let b = before v s in
    let x = after_heard v s in
    let G : Resend → Type 0 = λ p. (p.recover ≡ v.resend.recover - past x.sending.una v.sending.una) ⊎ Notes v (Hears s now) in
    let heard : (resend_heard b x now).recover ≡ x.resend.recover = heard_paced b x now (λ p. p.recover ≡ x.resend.recover) refl refl refl in
    let same : G (resend_told b x now) = inl (heard ∙ (heard_left v s sound).0) in
    by_signal b x (resend_told b x now) G same (λ moves opened. same) (λ moves opened goes. same)
    (λ r why. inr (inl (
      s,
      now,
      refl,
      elim why [
        | inl twice ↦ inl (twice.1, ap third_is_next (sym (window_kept v s)) ∙ twice.2)
        | inr more ↦ inr (both (reports_more b x) (tells_loss (told_behind b x)) more.0 more.1)
      ],
    )))

-- What goes out leaves it.

-- nor what is reported, the end of a probe of the tail, how late octets came, and what is counted since a loss
abbrev pub KeepsEnds : View → View → Type 0
KeepsEnds v w = (w.resend.recover ≡ v.resend.recover) × (w.resend.reported ≡ v.resend.reported) × (w.resend.tail ≡ v.resend.tail) × (w.resend.reach ≡ v.resend.reach) × (w.resend.excused ≡ v.resend.excused) × (w.resend.since_loss ≡ v.resend.since_loss)

numbers_left : (v : View) (offset end : ℕ) (now : Moment) → KeepsEnds v (after_numbers v offset end now)
numbers_left v offset end now = either View (KeepsEnds v) (nat_lt offset (outstanding v.sending)) (after_resent v end) (after_first_sent v end now) (λ again. (refl, refl, refl, refl, refl, refl)) (λ first. (refl, refl, refl, refl, refl, refl))

emitted_left : (v : View) (due : Due) (now : Moment) → KeepsEnds v (after_emitted v due now)
emitted_left v Rst now = (refl, refl, refl, refl, refl, refl)
emitted_left v Syn now =
    let P : View → Type 0 = KeepsEnds v in
    let sent = numbers_left v 0 1 now in
    let out : P (after_syn_out v now) = syn_out v now P sent sent in
    either View P (is_syn_received v.state) (after_syn_ack_paid (after_syn_out v now)) (after_syn_out v now) (λ received. out) (λ waits. out)
emitted_left v (Text stretch) now =
    let P : View → Type 0 = KeepsEnds v in
    let sent = after_numbers v stretch.offset (end_of stretch) now in
    let all = numbers_left v stretch.offset (end_of stretch) now in
    either View P (brings_new_octets v stretch) (after_new_text sent stretch) sent (λ new. all) (λ old. all)
emitted_left v Probe now =
    let P : View → Type 0 = KeepsEnds v in
    let sent = record v { sending = after_probed v.sending (end_of (probe_stretch v)); resend = resend_probed v.resend } in
    either View P (brings_new_octets v (probe_stretch v)) (after_new_octets sent) sent (λ new. (refl, refl, refl, refl, refl, refl)) (λ old. (refl, refl, refl, refl, refl, refl))
emitted_left v Ack now = (refl, refl, refl, refl, refl, refl)
emitted_left v KeepAlive now = (refl, refl, refl, refl, refl, refl)

pub first_left : (v : View) (o : Option Due) (now : Moment) → KeepsEnds v (after_first v o now)
first_left v None now = (refl, refl, refl, refl, refl, refl)
first_left v (Some due) now = emitted_left v due now

emits_left : (v : View) (now : Moment) → IsSound v → Left v (after_event v (Emits now))
emits_left v now sound =
    let w = after_event v (Emits now) in
    let una : w.sending.una ≡ v.sending.una = ap (λ (t : Sending). t.una) (emissions_leave v now).0 in
    (first_left v (first_due v) now).0 ∙ there v sound ∙ ap (λ n. v.resend.recover - past n v.sending.una) (sym una)

-- Timers.

-- the other timers leave it, and so does that of a probe
acts_left : (v : View) (now : Moment) → IsSound v → has_come v.timers.retransmission now ≡ false → Left v (clocked false (after_timers v now) now)
acts_left v now sound early =
    by_others (Left v) v now
    (either View (Left v) (has_come v.timers.retransmission now) (retransmission_expired v) _ (λ comes. clash (has_come v.timers.retransmission now) comes early)
    (λ late. either View (Left v) (has_come v.timers.probe now) (probe_expired v now) v (λ probes. there v sound) (λ rests. there v sound)))
    (λ w owes left. left) (λ w left. left)

expiry_notes : (v : View) (now : Moment) → repairs v.congestion.control ≡ true → has_come v.timers.retransmission now ≡ true → (clocked false (after_timers v now) now).resend.recover ≡ outstanding v.sending
expiry_notes v now on comes =
    let P : View → Type 0 = λ w. w.resend.recover ≡ outstanding v.sending in
    by_others P v now
    (either View P (has_come v.timers.retransmission now) (retransmission_expired v) _ (λ expires. ap (λ b. recover_noted v.resend b (outstanding v.sending)) on)
    (λ early. clash (has_come v.timers.retransmission now) comes early))
    (λ w owes noted. noted) (λ w noted. noted)

pub noted_at_expiry : (v : View) (now : Moment) → repairs v.congestion.control ≡ true → has_come v.timers.retransmission now ≡ true → is_closed (after_event v (Ticks now)).state ≡ false
    → (after_event v (Ticks now)).resend.recover ≡ outstanding v.sending
noted_at_expiry v now on comes alive =
    let open_yet = ticks_on v now alive in
    let quiet = after_silence v now in
    let acts = clocked false (after_timers quiet now) now in
    let next : has_come (next_of v.timers) now ≡ true = by (has_come (next_of v.timers) now ≡ true) (has_come (next_of v.timers) now) (λ has. has)
    (λ early. clash (has_come v.timers.retransmission now) comes (none_comes v now early)) in
    ap₂ (λ a b. let w = if a then after_stop v else if b then after_reset v (Some ETIMEDOUT) else after_expiries quiet now in w.resend.recover) open_yet.0 open_yet.1
    ∙ ap (λ b. let w = if b then acts else quiet in w.resend.recover) next
    ∙ expiry_notes quiet now on comes

-- Every event.

pub end_stays : (v : View) (e : Event) → IsSound v
    → ((after_event v e).resend.recover ≡ v.resend.recover - past (after_event v e).sending.una v.sending.una)
    ⊎ (((s : Segment) × (now : Moment) × (e ≡ Hears s now) × (((is_counted_duplicate v s ≡ true) × (third_is_next v.congestion ≡ true)) ⊎ (reports_loss v s ≡ true)))
    ⊎ ((now : Moment) × (e ≡ Ticks now) × (has_come v.timers.retransmission now ≡ true)))
end_stays v e sound =
    let here = there v sound in
    let over = stops v v.resend.recover v.sending.nxt sound.recover refl in
    by_event (λ e w. Left v w ⊎ Notes v e) v (record {
      same = λ e. inl here;
      asks = λ e asked. inl here;
      silent = λ now. inl here;
      heard = λ s now lives. timed_left v s now sound;
      over = λ now ends. inl over;
      given_up = λ now waits expired. inl over;
      acts = λ now. by (Left v (clocked false (after_timers (after_silence v now) now) now) ⊎ Notes v (Ticks now)) (has_come v.timers.retransmission now) (λ comes. inr (inr (now, refl, comes)))
          (λ early. inl (acts_left (after_silence v now) now (silent_sound v now sound) early));
      emits = λ now. inl (emits_left v now sound);
      sends = λ octets taken now takes. inl here;
      reads = λ len. inl here;
      shuts = λ now. inl here;
      delays = λ on now. inl here;
      leaves = λ now lives. inl here;
      aborts = λ e now at cause lives. inl over;
      refused = λ number hit. inl over;
      hopless = λ now gone. inl over;
    }) e

-- What ends a recovery.

-- a duplicate ACK ends none
twice_recovers : (c : Window) (flight : ℕ) → is_recovering c ≡ true → is_recovering (after_duplicate c flight) ≡ true
twice_recovers c flight on =
    either Window (λ x. is_recovering x ≡ true) (is_recovering c) _ _ (λ recovers. on) (λ runs. clash (is_recovering c) on runs)

abbrev Ended : View → Event → Type 0
Ended v e = ((s : Segment) × (now : Moment) × (e ≡ Hears s now) × ((after_event v e).sending.una ≢ v.sending.una) × ((after_event v e).resend.recover ≡ 0))
    ⊎ ((now : Moment) × (e ≡ Ticks now) × (has_come v.timers.retransmission now ≡ true))

-- an ACK of new octets does, if it is no partial one
ended_by : (v : View) (s : Segment) (now : Moment) → IsSound v → is_opening v.state ≡ false → goes_on v.congestion ≡ true → is_recovering (after_event v (Hears s now)).congestion ≡ false
    → is_closed (after_event v (Hears s now)).state ≡ false → ((after_event v (Hears s now)).sending.una ≢ v.sending.una) ⊎ ((IsDuplicate v s × (counts_duplicates v ≡ true)) ⊎ (is_report v s ≡ true)) → Ended v (Hears s now)
ended_by v s now sound opened on ends alive how =
    let w = after_event v (Hears s now) in
    let recovers = and_right (repairs v.congestion.control) (is_recovering v.congestion) on in
    elim how [
      | inl moved ↦ by (Ended v (Hears s now)) (goes_on v.congestion && nat_lt 0 w.resend.recover)
          (λ part. by (Ended v (Hears s now)) (selects v)
          (λ rules. clash (is_recovering w.congestion) (ap is_recovering (counts_no_part v s now opened moved alive part rules) ∙ recovers) ends)
          (λ plain. clash (is_recovering w.congestion) (ap is_recovering (counts_partly v s now opened moved alive part plain) ∙ recovers) ends))
          (λ whole.
          let none = ltb-false 0 w.resend.recover (ap (λ b. b && nat_lt 0 w.resend.recover) (sym on) ∙ whole) in
          inl (s, now, refl, moved, omega (arith, none)))
      | inr told_so ↦ elim told_so [
        | inl twice ↦ clash (is_recovering w.congestion) (ap is_recovering (counts_duplicate v s now sound twice.0 twice.1) ∙ twice_recovers v.congestion (past v.sending.nxt v.sending.una) recovers) ends
        | inr reports ↦ clash (is_recovering v.congestion) recovers (report_counts v s reports).runs
      ]
    ]

pub ends_at_end : (v : View) (e : Event) → IsSound v → is_opening v.state ≡ false → goes_on v.congestion ≡ true → is_recovering (after_event v e).congestion ≡ false
    → ((s : Segment) × (now : Moment) × (e ≡ Hears s now) × ((after_event v e).sending.una ≢ v.sending.una) × ((after_event v e).resend.recover ≡ 0))
    ⊎ ((now : Moment) × (e ≡ Ticks now) × (has_come v.timers.retransmission now ≡ true))
ends_at_end v e sound opened on ends =
    elim (others_count_none v e) [
      | inl same ↦ clash (is_recovering v.congestion) (and_right (repairs v.congestion.control) (is_recovering v.congestion) on) (sym (ap is_recovering same) ∙ ends)
      | inr tells ↦ elim tells [
        | inl hears ↦ subst (λ (d : Event). is_recovering (after_event v d).congestion ≡ false → is_closed (after_event v d).state ≡ false
            → ((after_event v d).sending.una ≢ v.sending.una) ⊎ ((IsDuplicate v hears.0 × (counts_duplicates v ≡ true)) ⊎ (is_report v hears.0 ≡ true)) → Ended v d)
            (sym hears.2) (ended_by v hears.0 hears.1 sound opened on) ends hears.3 hears.4
        | inr rest ↦ elim rest [
          | inl expires ↦ inr expires
          | inr gives ↦ clash (is_recovering v.congestion) (and_right (repairs v.congestion.control) (is_recovering v.congestion) on) (sym (ap is_recovering gives.1) ∙ ends)
        ]
      ]
    ]

-- What begins none.

pub none_below : (v : View) (s : Segment) (now : Moment) → repairs v.congestion.control ≡ true → is_recovering v.congestion ≡ false → 0 < v.resend.recover → is_recovering (after_segment_at v s now).congestion ≡ false
none_below v s now on runs some =
    let b = before v s in
    let x = after_heard v s in
    let kept : is_recovering x.congestion ≡ false = ap is_recovering (window_kept v s) ∙ runs in
    let more : (v.resend.recover == 0) ≡ false = elim (eqb_tells v.resend.recover 0) [ inl none ↦ let zero = none.1 in absurd (omega (arith, some, zero)) | inr other ↦ other.0 ] in
    let uncounted : counts_duplicates v ≡ false = ap (λ r. not r || ((is_recovering v.congestion || (v.resend.recover == 0)) && not (probes v) && not (selects v))) on ∙ ap₂ (λ c n. (c || n) && not (probes v) && not (selects v)) runs more in
    by_clock (λ w. is_recovering w.congestion ≡ false) v s now runs
    (λ lives. signalled b x (λ g. is_recovering (after_signal x.congestion g x.sending.smss x.resend.syn_resent) ≡ false) kept refl (λ moves opened whole. refl)
    (λ moves opened goes. clash (is_recovering x.congestion) (and_right (repairs x.congestion.control) (is_recovering x.congestion) (and_left (goes_on x.congestion) (nat_lt 0 x.resend.recover) goes)) kept)
    (λ stays twice. clash (counts_duplicates v) (and_right (is_duplicate v s) (counts_duplicates v) twice) uncounted)
    (λ stays reports counts. clash (v.resend.recover == 0) (more_counts v s x reports).all more)
    (λ moves opened reports. clash (v.resend.recover == 0) (more_counts v s x reports).all more) (λ moves opened whole ends. refl))

-- while a closed window is probed, what moves nothing is nothing to the congestion window
pub unmoved_by_probes : (v : View) (s : Segment) (now : Moment) → repairs v.congestion.control ≡ true → probes v ≡ true → (after_segment_at v s now).sending.una ≡ v.sending.una → (after_segment_at v s now).congestion ≡ v.congestion
unmoved_by_probes v s now on asks still =
    let goes = is_recovering v.congestion || (v.resend.recover == 0) in
    let uncounted : counts_duplicates v ≡ false = ap (λ r. not r || (goes && not (probes v) && not (selects v))) on ∙ ap (λ p. goes && not p && not (selects v)) asks ∙ ap (λ b. b && not (selects v)) (and_false goes) in
    elim (others_count_none v (Hears s now)) [
      | inl same ↦ same
      | inr tells ↦ elim tells [
        | inl hears ↦ elim hears.4 [
          | inl moved ↦ absurd (moved still)
          | inr told_so ↦ elim told_so [
            | inl counted ↦ clash (counts_duplicates v) counted.1 uncounted
            | inr reports ↦ clash (probes v) asks (report_counts v hears.0 reports).unprobed
          ]
        ]
        | inr rest ↦ elim rest [
          | inl expires ↦ let bad = expires.1 in cc
          | inr gives ↦ clash (gives_back_by v (Hears s now) (after_event v (Hears s now))) gives.0 (gives_none v s now (after_event v (Hears s now)) (probe_needed v s asks))
        ]
      ]
    ]

pub none_by_probes : (v : View) (s : Segment) (now : Moment) → IsSound v → repairs v.congestion.control ≡ true → probes v ≡ true → IsDuplicate v s → (after_segment_at v s now).congestion ≡ v.congestion
none_by_probes v s now sound on asks twice = unmoved_by_probes v s now on asks (una_stays v s now sound twice)

-- A third duplicate ACK notes the end.

pub noted_at_third : (v : View) (s : Segment) (now : Moment) → IsSound v → repairs v.congestion.control ≡ true → is_counted_duplicate v s ≡ true → third_is_next v.congestion ≡ true
    → (after_segment_at v s now).resend.recover ≡ outstanding v.sending
noted_at_third v s now sound on is third =
    let b = before v s in
    let x = after_window v s in
    let twice = and_left (is_duplicate v s) (counts_duplicates v) is in
    let d = duplicates_are v s sound in
    let stays = window_stays v s (d.0 twice) in
    let heard = resend_told b x now in
    ap (λ (w : View). w.resend.recover) (comes_alone v s now sound (d.0 twice))
    ∙ ap (λ g. (resend_signalled heard g x.congestion (outstanding x.sending)).recover) (repeats v s sound (d.0 twice) is)
    ∙ ap (λ t. let p = if t then resend_lost heard (repairs v.congestion.control) (outstanding x.sending) else heard in p.recover) third
    ∙ ap (λ r. recover_noted heard r (outstanding x.sending)) on
    ∙ ap₂ past stays.nxt stays.una

-- A partial ACK.

-- past the opening, a reset is owed as before, and SND.UNA is a number of 32 bits where this one is
pub record Goes (v : View) (ack : ℕ) (w : View) : Type 0 where
  pub reset : w.owes_reset ≡ v.owes_reset
  pub opened : is_opening w.state ≡ false
  pub una : ack < 2 ^ 32 → w.sending.una < 2 ^ 32

pub beyond_opened : (t : State) → is_opening t ≡ false → is_opening (beyond_fin t) ≡ false
beyond_opened SynSent e = cc
beyond_opened SynReceived e = cc
beyond_opened FinWait1 e = refl
beyond_opened Closing e = refl
beyond_opened LastAck e = refl
beyond_opened _ e = e

pub ended_opened : (t : State) → is_opening t ≡ false → is_opening (beyond_end t) ≡ false
ended_opened SynSent e = cc
ended_opened SynReceived e = cc
ended_opened Established e = refl
ended_opened FinWait1 e = refl
ended_opened FinWait2 e = refl
ended_opened _ e = e

-- what a segment that closes nothing leaves of a connection past the opening
pub goes_after : (v : View) (s : Segment) → IsSound v → is_opening v.state ≡ false → is_closed (after_heard v s).state ≡ false → Goes v s.acknowledgement (after_heard v s)
goes_after v s sound opened =
    let G : View → Type 0 = Goes v s.acknowledgement in
    let P : View → Type 0 = λ w. is_closed w.state ≡ false → G w in
    let waits_not = past_opening v.state opened in
    let here : G v = record { reset = refl; opened = opened; una = λ fits. sound.una } in
    let owing : G (owing_ack v) = record { reset = refl; opened = opened; una = λ fits. sound.una } in
    let told = after_window (after_ack v s.acknowledgement) s in
    let acked : G (after_ack v s.acknowledgement) = by_ack G v s.acknowledgement (record {
      old = here;
      beyond = owing;
      opens = λ received new. clash (is_syn_received v.state) received waits_not.1;
      octets = λ new. record { reset = refl; opened = opened; una = λ fits. fits };
      fin = λ new fin. record { reset = refl; opened = beyond_opened v.state opened; una = λ fits. fits };
    }) in
    let heard : G told = either Sending (λ t. G (record (after_ack v s.acknowledgement) { sending = t })) (updates_window (after_ack v s.acknowledgement).sending s.number s.acknowledgement) _ (after_ack v s.acknowledgement).sending
    (λ newer. record { reset = acked.reset; opened = acked.opened; una = acked.una }) (λ older. record { reset = acked.reset; opened = acked.opened; una = acked.una }) in
    let read = after_text told s in
    let text : G read = either View G ((length s.octets == 0) || not (is_receiving told.state)) told _ (λ none. heard) (λ some. record { reset = heard.reset; opened = heard.opened; una = heard.una }) in
    by_hearing P v s (λ alive. cc) (record {
      dropped = λ alive. here;
      drawn = λ alive. owing;
      reset = λ acts alive. cc;
      crossed = λ waits. clash (is_syn_sent v.state) waits waits_not.0;
      opened = λ waits right. clash (is_syn_sent v.state) waits waits_not.0;
      acknowledged = λ taken alive. acked;
      read = λ on alive. by_fin G read s (λ counts. record { reset = text.reset; opened = ended_opened read.state text.opened; una = text.una }) (record { reset = text.reset; opened = text.opened; una = text.una }) text;
    })

pub part_resends : (v : View) (s : Segment) (now : Moment) → IsSound v → is_opening v.state ≡ false → goes_on v.congestion ≡ true → selects v ≡ false → s.acknowledgement < 2 ^ 32
    → let w = after_event v (Hears s now) in w.sending.una ≢ v.sending.una → is_closed w.state ≡ false → 0 < w.resend.recover
    → (first_due w ≡ Some (Text (again w 0))) × (w.resend.once ≡ true) × (is_recovering w.congestion ≡ true)
part_resends v s now sound opened on plain fits moved alive some =
    let b = before v s in
    let x = after_heard v s in
    let w = after_event v (Hears s now) in
    let u = timed_by b x now in
    let hears = moved_hears v s now moved in
    let at : w ≡ u = heard_is v s now hears in
    let lives : is_closed x.state ≡ false = sym (ap (λ (y : View). is_closed y.state) at) ∙ alive in
    let moves : is_moved b x ≡ true = is_moved_by v s (λ same. moved (ap (λ (y : View). y.sending.una) at ∙ same)) in
    let quiet = quiet_on v s on in
    let recover : w.resend.recover ≡ x.resend.recover = ap (λ (y : View). y.resend.recover) at ∙ recover_kept b x now moves quiet in
    let n = length v.sending.held - length x.sending.held in
    let part : (goes_on x.congestion && nat_lt 0 x.resend.recover) ≡ true =
    both (goes_on x.congestion) (nat_lt 0 x.resend.recover) (ap goes_on (window_kept v s) ∙ on) (lt-ltb 0 x.resend.recover (omega (arith, some, recover))) in
    let other : Signal = if b.is_duplicate then Counts (Duplicate (outstanding x.sending)) else if reports_more b x then report_signal (told b x) else Nothing in
    let whole : Signal = whole_signal b (told b x) n (reports_more b x) in
    let acks : Signal = if is_opening b.state then Begins else acknowledged_signal b (told b x) n (reports_more b x) in
    let event : congestion_event_of b x ≡ Counts (PartialAck n) =
    ap (λ t. if t then Nothing else if is_moved b x then acks else other) lives
    ∙ ap (λ t. if t then acks else other) moves
    ∙ ap (λ t. if t then Begins else acknowledged_signal b (told b x) n (reports_more b x)) opened
    ∙ ap₂ (λ t r. if t then (if r then Nothing else Counts (PartialAck n)) else whole) part (heard_selects v s (past_opening v.state opened).0 ∙ plain) in
    let resend : resend_after b x now ≡ resend_first (resend_told b x now) (outstanding x.sending) = ap (λ g. resend_signalled (resend_told b x now) g x.congestion (outstanding x.sending)) event in
    let k = goes_after v s sound opened lives in
    let una = k.una fits in
    let left = (heard_left v s sound).0 in
    let nxt = (heard_left v s sound).1 in
    let flies : 0 < outstanding x.sending = omega (arith, some, recover, left, nxt, sound.recover, sound.una, sound.nxt, una) in
    let mark : u.resend.mark ≡ Some 0 = kept_mark v s x now (inl (past_opening v.state opened).1) ∙ ap (λ (p : Resend). p.mark) resend ∙ ap (λ t. if t then Some 0 else None) (lt-ltb 0 (outstanding x.sending) flies) in
    let owes : u.owes_reset ≡ false = k.reset ∙ unowed v.owes_reset (is_closed v.state) v.released (neither (is_closed v.state) (is_rejected v s) hears).0 sound.reset in
    let once : u.resend.once ≡ true = ap (λ (p : Resend). p.once) resend in
    let reported : u.resend.reported ≡ x.resend.reported = ap (λ (p : Resend). p.reported) resend ∙ ap (with_blocks x.resend.reported x.sending) (silent_unselected v s plain) in
    let due : first_due u ≡ Some (Text (again u 0)) = first_at_una u owes k.opened mark once (subst (AreApart 1) (sym reported) (heard_scores v s sound).apart) flies in
    let window = counts_partly v s now opened moved alive (both (goes_on v.congestion) (nat_lt 0 w.resend.recover) on (lt-ltb 0 w.resend.recover some)) plain in (
      subst (λ y. first_due y ≡ Some (Text (again y 0))) (sym at) due,
      ap (λ (y : View). y.resend.once) at ∙ once,
      ap is_recovering window ∙ and_right (repairs v.congestion.control) (is_recovering v.congestion) on,
    )
