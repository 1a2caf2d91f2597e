-- What an event makes of what is known of a silent peer.
use Rattle.std.proofs.Common.{◌≡◌, ℕ, ◌==◌, ◌||◌, ◌⊎◌, not, nat_lt, false, length, take, Option, Some, None, is_some, inl, inr, refl, sym, subst}
use Rattle.tcp_segment.specs.Segment.{Segment}
use Rattle.clock.specs.declared.moment.Moment.{Moment}
use Rattle.clock.specs.Moments.{has_come}
use Rattle.tcp_halves.specs.Stream.{outstanding, after_probed}
use Rattle.tcp_halves.proofs.Choices.{either}
use Rattle.tcp_state.specs.declared.alive.KeepAlive.{KeepAlive}
use Rattle.tcp_state.specs.declared.calls.Refusal.TheVariants.{ECONNREFUSED, ETIMEDOUT}
use Rattle.tcp_state.specs.declared.emission.Due.{Due}
use Rattle.tcp_state.specs.declared.emission.Due.TheVariants.{Rst, Syn, Text, Probe, Ack, KeepAlive as Asks}
use Rattle.tcp_state.specs.Resend.{resend_probed}
use Rattle.tcp_state.specs.View.{View, is_opening, is_closed, is_syn_received, is_write_closed, after_reset}
use Rattle.tcp_state.specs.Alive.{asked, heard_now, is_silent, unanswered_again, after_silence}
use Rattle.tcp_state.specs.Timing.{retransmission_expired, probe_expired, after_timers}
use Rattle.tcp_state.specs.Calls.{send_count, with_octets, shutdown_refusal, after_shutdown, aborted_at, after_release, is_removed_by_close, is_aborted_by_close}
use Rattle.tcp_state.specs.Arrival.{is_receiving, after_ack, after_window, after_text, after_heard}
use Rattle.tcp_state.specs.Due.{probe_stretch, end_of, after_resent, after_first_sent, after_numbers, after_new_octets, after_new_text, brings_new_octets, after_syn_ack_paid, after_syn_out, after_going_out, first_due}
use Rattle.tcp_state.specs.Unreachable.{is_unreachable}
use Rattle.tcp_state.specs.Hop.{unheard_until}
use Rattle.tcp_state.specs.Edges.{Event, Hears, Ticks, Emits, Sends, Receives, Shuts, SetsNoDelay, SetsKeepAlive, Closes, Aborts, Unreachable, LosesHop, moment_of, after_first, after_event}
use Rattle.tcp_state.proofs.Clocked.{by_others, syn_out}
use Rattle.tcp_state.proofs.Segments.{by_fin, by_ack, by_hearing, by_clock}
use Rattle.tcp_state.proofs.StillStreams.{by_tick}

-- It stays, or the probe that was due went out; or the peer was heard, said nothing for too long, or is asked from now on or no more.
pub data AliveBy (v : View) : Event → KeepAlive → Type 0 where
  stays : (e : Event) → AliveBy v e v.alive
  went_out : (now : Moment) → AliveBy v (Emits now) (record v.alive { owed = false })
  heard : (s : Segment) (now : Moment) → AliveBy v (Hears s now) (heard_now v.alive now)
  silent : (now : Moment) → AliveBy v (Ticks now) (unanswered_again v.alive v.resend.timeout.rto now)
  told : (every : Option ℕ) (now : Moment) → AliveBy v (SetsKeepAlive every now) (asked every now)

abbrev Same : View → View → Type 0
Same v w = w.alive ≡ v.alive

as_before : (v : View) (e : Event) (a : KeepAlive) → a ≡ v.alive → AliveBy v e a
as_before v e a same = subst (AliveBy v e) (sym same) (stays e)

-- A segment without the clock.

pub heard_alive : (v : View) (s : Segment) → (after_heard v s).alive ≡ v.alive
heard_alive v s =
    let acked : Same v (after_ack v s.acknowledgement) = by_ack (Same v) v s.acknowledgement (record { old = refl; beyond = refl; opens = λ received new. refl; octets = λ new. refl; fin = λ new fin. refl }) in
    let told = after_window (after_ack v s.acknowledgement) s in
    let text : Same v (after_text told s) = either View (Same v) ((length s.octets == 0) || not (is_receiving told.state)) told _ (λ none. acked) (λ some. acked) in
    by_hearing (Same v) v s acked (record {
      dropped = refl;
      drawn = refl;
      reset = λ r. refl;
      crossed = λ waits. refl;
      opened = λ waits right. refl;
      acknowledged = λ taken. acked;
      read = λ on. by_fin (Same v) (after_text told s) s (λ counts. text) text text;
    })

-- What goes out.

numbers_alive : (v : View) (offset end : ℕ) (now : Moment) → Same v (after_numbers v offset end now)
numbers_alive v offset end now = either View (Same v) (nat_lt offset (outstanding v.sending)) (after_resent v end) (after_first_sent v end now) (λ again. refl) (λ first. refl)

out_alive : (v : View) (due : Due) (now : Moment) → AliveBy v (Emits now) (after_going_out v due now).alive
out_alive v Rst now = stays (Emits now)
out_alive v Syn now =
    let sent = after_syn_out v now in
    let all = numbers_alive v 0 1 now in
    let out : Same v sent = syn_out v now (Same v) all all in
    as_before v (Emits now) _ (either View (Same v) (is_syn_received v.state) (after_syn_ack_paid sent) sent (λ received. out) (λ waits. out))
out_alive v (Text stretch) now =
    let sent = after_numbers v stretch.offset (end_of stretch) now in
    let all = numbers_alive v stretch.offset (end_of stretch) now in
    as_before v (Emits now) _ (either View (Same v) (brings_new_octets v stretch) (after_new_text sent stretch) sent (λ new. all) (λ old. all))
out_alive v Probe now =
    let sent = record v { sending = after_probed v.sending (end_of (probe_stretch v)); resend = resend_probed v.resend } in
    as_before v (Emits now) _ (either View (Same v) (brings_new_octets v (probe_stretch v)) (after_new_octets sent) sent (λ new. refl) (λ old. refl))
out_alive v Ack now = stays (Emits now)
out_alive v Asks now = went_out now

first_alive : (v : View) (o : Option Due) (now : Moment) → AliveBy v (Emits now) (after_first v o now).alive
first_alive v None now = stays (Emits now)
first_alive v (Some due) now = out_alive v due now

-- A tick.

pub timers_alive : (v : View) (now : Moment) → (after_timers v now).alive ≡ v.alive
timers_alive v now =
    by_others (Same v) v now
    (either View (Same v) (has_come v.timers.retransmission now) (retransmission_expired v) _ (λ comes. refl) (λ early. either View (Same v) (has_come v.timers.probe now) (probe_expired v now) v (λ comes. refl) (λ late. refl)))
    (λ w owes k. k) (λ w k. k)

silence_alive : (v : View) (now : Moment) → AliveBy v (Ticks now) (after_silence v now).alive
silence_alive v now = either KeepAlive (AliveBy v (Ticks now)) (is_silent v now) (unanswered_again v.alive v.resend.timeout.rto now) v.alive (λ over. silent now) (λ early. stays (Ticks now))

-- Every event.

pub alive_by : (v : View) (e : Event) → AliveBy v e (after_event v e).alive
alive_by v (Hears s now) =
    by_clock (λ w. AliveBy v (Hears s now) w.alive) v s now (stays (Hears s now)) (λ lives. subst (λ (a : KeepAlive). AliveBy v (Hears s now) (heard_now a now)) (sym (heard_alive v s)) (heard s now))
alive_by v (Ticks now) =
    by_tick (λ w. AliveBy v (Ticks now) w.alive) v now (stays (Ticks now)) (stays (Ticks now)) (subst (AliveBy v (Ticks now)) (sym (timers_alive (after_silence v now) now)) (silence_alive v now)) (silence_alive v now)
alive_by v (Emits now) = first_alive v (first_due v) now
alive_by v (Sends octets now) =
    let taken = take (send_count v octets) octets in
    as_before v (Sends octets now) _ (either View (Same v) (is_some v.pending_error || is_opening v.state || is_write_closed v.state) v (with_octets v taken now) (λ refused. refl)
    (λ takes. either View (Same v) (length taken == 0) v _ (λ none. refl) (λ some. refl)))
alive_by v (Receives len) =
    as_before v (Receives len) _ (either View (Same v) (is_some v.pending_error || is_opening v.state || (length v.receiving.readable == 0)) v _ (λ nothing. refl) (λ some. refl))
alive_by v (Shuts now) = as_before v (Shuts now) _ (either View (Same v) (is_some (shutdown_refusal v)) v (after_shutdown v now) (λ refused. refl) (λ shuts. refl))
alive_by v (SetsNoDelay on now) = stays (SetsNoDelay on now)
alive_by v (SetsKeepAlive every now) = told every now
alive_by v (Closes now) =
    as_before v (Closes now) _ (either View (Same v) (is_removed_by_close v) v _ (λ removed. refl) (λ on. either View (Same v) (is_aborted_by_close v) (aborted_at v now) (after_release v now) (λ aborts. refl) (λ leaves. refl)))
alive_by v (Aborts now) = as_before v (Aborts now) _ (either View (Same v) (is_closed v.state) v (aborted_at v now) (λ closed. refl) (λ aborts. refl))
alive_by v (Unreachable number) = as_before v (Unreachable number) _ (either View (Same v) (is_unreachable v number) (after_reset v (Some ECONNREFUSED)) v (λ hit. refl) (λ other. refl))
alive_by v (LosesHop now) = as_before v (LosesHop now) _ (either View (Same v) (has_come (unheard_until v) now) (after_reset v (Some ETIMEDOUT)) v (λ over. refl) (λ waits. refl))

-- The wait of a silent peer is counted from where it was, or from the event.
pub counted_since : (v : View) (e : Event) → ((after_event v e).alive.since ≡ v.alive.since) ⊎ ((now : Moment) × (moment_of e ≡ Some now) × ((after_event v e).alive.since ≡ now))
counted_since v e = by_alive e (after_event v e).alive (alive_by v e)
  where
    by_alive : (e : Event) (a : KeepAlive) → AliveBy v e a → (a.since ≡ v.alive.since) ⊎ ((now : Moment) × (moment_of e ≡ Some now) × (a.since ≡ now))
    by_alive e _ (stays _) = inl refl
    by_alive _ _ (went_out now) = inl refl
    by_alive _ _ (heard s now) = inr (now, refl, refl)
    by_alive _ _ (silent now) = inr (now, refl, refl)
    by_alive _ _ (told every now) = inr (now, refl, refl)

-- Nothing but its caller says whether it is asked.
pub wanted_by : (v : View) (e : Event) → ((after_event v e).alive.every ≡ v.alive.every) ⊎ ((every : Option ℕ) × (now : Moment) × (e ≡ SetsKeepAlive every now))
wanted_by v e = by_alive e (after_event v e).alive (alive_by v e)
  where
    by_alive : (e : Event) (a : KeepAlive) → AliveBy v e a → (a.every ≡ v.alive.every) ⊎ ((every : Option ℕ) × (now : Moment) × (e ≡ SetsKeepAlive every now))
    by_alive e _ (stays _) = inl refl
    by_alive _ _ (went_out now) = inl refl
    by_alive _ _ (heard s now) = inl refl
    by_alive _ _ (silent now) = inl refl
    by_alive _ _ (told every now) = inr (every, now, refl)
