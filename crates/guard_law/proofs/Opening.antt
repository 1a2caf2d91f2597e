-- What an event leaves of a connection that waits for the answer to its SYN-ACK.
use Rattle.std.proofs.Common.{◌≡◌, ◌⊎◌, ℕ, ◌<◌, ◌≤◌, ◌==◌, ◌||◌, ◌&&◌, not, nat_lt, if◌then◌else◌, Bool, true, false, length, Option, Some, None, inl, inr, arith, refl, sym, ◌∙◌, ap}
use Rattle.std.proofs.lemmas.Bool.{ltb-true, ltb-false}
use Rattle.clock.specs.declared.moment.Moment.{Moment}
use Rattle.retransmit.specs.declared.timers.Timers.{Timers}
use Rattle.tcp_segment.specs.Segment.{Segment}
use Rattle.tcp_halves.specs.Halves.{Sending}
use Rattle.tcp_halves.specs.Stream.{outstanding, is_new_ack}
use Rattle.tcp_halves.specs.Windows.{updates_window}
use Rattle.tcp_halves.proofs.Choices.{either, clash}
use Rattle.tcp_state.specs.declared.state.State.{State}
use Rattle.tcp_state.specs.declared.state.State.TheVariants.{Closed, SynReceived, Established, FinWait1, FinWait2, CloseWait, Closing, LastAck}
use Rattle.tcp_state.specs.declared.emission.Due.{Due}
use Rattle.tcp_state.specs.View.{View, is_syn_sent, is_syn_received, is_closed, is_fin_wait_2}
use Rattle.tcp_state.specs.Timing.{has_unacknowledged, probes, running, clocked, after_timers}
use Rattle.tcp_state.specs.Alive.{after_silence}
use Rattle.tcp_state.specs.Calls.{beyond_shutdown, told_nodelay, latest}
use Rattle.tcp_state.specs.Arrival.{owing_ack, after_establishment, is_of_fin, beyond_fin, fin_acknowledged, after_new_ack, is_off, after_ack, after_window, is_receiving, after_text, beyond_end, after_fin, after_heard, before, is_moved, noted_by}
use Rattle.tcp_state.specs.Due.{first_due, after_going_out}
use Rattle.tcp_state.specs.Edges.{Event, Hears, Emits, after_first, after_event}
use Rattle.tcp_state.proofs.AckAnswers.{opening_received}
use Rattle.tcp_state.proofs.Clocked.{ticks_keep}
use Rattle.tcp_state.proofs.Events.{holding, shut, by_event}
use Rattle.tcp_state.proofs.Segments.{by_fin, by_hearing}
use Rattle.tcp_state.proofs.StillStreams.{emissions_leave}

-- States.

-- no state of these leads to SYN-SENT, and none but SYN-RECEIVED to SYN-RECEIVED
pub record Onward (t u : State) : Type 0 where
  pub past : is_syn_sent t ≡ false → is_syn_sent u ≡ false
  pub received : is_syn_received u ≡ true → is_syn_received t ≡ true

beyond_fin_onward : (t : State) → Onward t (beyond_fin t)
beyond_fin_onward FinWait1 = record { past = λ e. refl; received = λ e. cc }
beyond_fin_onward Closing = record { past = λ e. refl; received = λ e. cc }
beyond_fin_onward LastAck = record { past = λ e. refl; received = λ e. cc }
beyond_fin_onward _ = record { past = λ e. e; received = λ e. e }

beyond_end_onward : (t : State) → Onward t (beyond_end t)
beyond_end_onward Established = record { past = λ e. refl; received = λ e. cc }
beyond_end_onward FinWait1 = record { past = λ e. refl; received = λ e. cc }
beyond_end_onward FinWait2 = record { past = λ e. refl; received = λ e. cc }
beyond_end_onward _ = record { past = λ e. e; received = λ e. e }

beyond_shutdown_onward : (t : State) → Onward t (beyond_shutdown t)
beyond_shutdown_onward Established = record { past = λ e. refl; received = λ e. cc }
beyond_shutdown_onward CloseWait = record { past = λ e. refl; received = λ e. cc }
beyond_shutdown_onward _ = record { past = λ e. e; received = λ e. e }

pub received_lives : (t : State) → is_syn_received t ≡ true → is_closed t ≡ false
received_lives SynReceived e = refl
received_lives _ e = cc

-- What stays.

-- it doesn't come to SYN-SENT; and in SYN-RECEIVED it was before, nothing more is acknowledged, and no new number went out but in one case
pub record Stays (C : Type 0) (v w : View) : Type 0 where
  pub past : is_syn_sent w.state ≡ false
  pub received : is_syn_received w.state ≡ true → is_syn_received v.state ≡ true
  pub una : is_syn_received w.state ≡ true → w.sending.una ≡ v.sending.una
  pub nxt : is_syn_received w.state ≡ true → (w.sending.nxt ≡ v.sending.nxt) ⊎ C

as_was : {C : Type 0} (v w : View) → is_syn_sent v.state ≡ false → w.state ≡ v.state → w.sending.una ≡ v.sending.una → (w.sending.nxt ≡ v.sending.nxt) ⊎ C → Stays C v w
as_was v w past state una nxt = record { past = ap is_syn_sent state ∙ past; received = λ e. sym (ap is_syn_received state) ∙ e; una = λ e. una; nxt = λ e. nxt }

ended : {C : Type 0} (v w : View) → w.state ≡ Closed → Stays C v w
ended v w closed = let none : is_syn_received w.state ≡ false = ap is_syn_received closed in
    record { past = ap is_syn_sent closed; received = λ e. clash (is_syn_received w.state) e none; una = λ e. clash (is_syn_received w.state) e none; nxt = λ e. clash (is_syn_received w.state) e none }

acked : (C : Type 0) (v : View) (ack : ℕ) → is_syn_sent v.state ≡ false → Stays C v (after_ack v ack)
acked C v ack past =
    either View (Stays C v) (is_syn_received v.state) _ _
    (λ received. either View (Stays C v) (is_new_ack v.sending ack) (after_establishment v) v
    (λ new. record { past = refl; received = λ e. cc; una = λ e. cc; nxt = λ e. cc })
    (λ old. as_was v v past refl refl (inl refl)))
    (λ opened. either View (Stays C v) (is_new_ack v.sending ack) _ _
    (λ new. either View (Stays C v) (is_of_fin v ack) (fin_acknowledged (after_new_ack v ack)) (after_new_ack v ack)
    (λ fin. let on = beyond_fin_onward v.state in record { past = on.past past; received = on.received; una = λ e. clash (is_syn_received v.state) (on.received e) opened; nxt = λ e. inl refl })
    (λ octets. record { past = past; received = λ e. e; una = λ e. clash (is_syn_received v.state) e opened; nxt = λ e. inl refl }))
    (λ old. either View (Stays C v) (is_off v ack) (owing_ack v) v (λ off. as_was v (owing_ack v) past refl refl (inl refl)) (λ within. as_was v v past refl refl (inl refl))))

windowed : (C : Type 0) (v w : View) (s : Segment) → Stays C v w → Stays C v (after_window w s)
windowed C v w s k =
    either Sending (λ t. Stays C v (record w { sending = t })) (updates_window w.sending s.number s.acknowledgement) _ w.sending
    (λ updates. record { past = k.past; received = k.received; una = k.una; nxt = k.nxt })
    (λ same. record { past = k.past; received = k.received; una = k.una; nxt = k.nxt })

texted : (C : Type 0) (v w : View) (s : Segment) → Stays C v w → Stays C v (after_text w s)
texted C v w s k =
    either View (Stays C v) ((length s.octets == 0) || not (is_receiving w.state)) w _ (λ none. k)
    (λ some. record { past = k.past; received = k.received; una = k.una; nxt = k.nxt })

finned : (C : Type 0) (v w : View) (s : Segment) → Stays C v w → Stays C v (after_fin w s)
finned C v w s k =
    by_fin (Stays C v) w s
    (λ counts. let on = beyond_end_onward w.state in record { past = on.past k.past; received = λ e. k.received (on.received e); una = λ e. k.una (on.received e); nxt = λ e. k.nxt (on.received e) })
    (record { past = k.past; received = k.received; una = k.una; nxt = k.nxt }) k

heard : (C : Type 0) (v : View) (s : Segment) → is_syn_sent v.state ≡ false → Stays C v (after_heard v s)
heard C v s past =
    let k = acked C v s.acknowledgement past in
    let told = after_window (after_ack v s.acknowledgement) s in
    by_hearing (Stays C v) v s (record { past = refl; received = λ e. cc; una = λ e. cc; nxt = λ e. cc }) (record {
      dropped = as_was v v past refl refl (inl refl);
      drawn = as_was v (owing_ack v) past refl refl (inl refl);
      reset = λ acts. record { past = refl; received = λ e. cc; una = λ e. cc; nxt = λ e. cc };
      crossed = λ waits. clash (is_syn_sent v.state) waits past;
      opened = λ waits right. clash (is_syn_sent v.state) waits past;
      acknowledged = λ taken. k;
      read = λ on. finned C v (after_text told s) s (texted C v told s (windowed C v (after_ack v s.acknowledgement) s k));
    })

-- the event sends what is due
abbrev pub IsEmission : Event → Type 0
IsEmission e = (now : Moment) × (e ≡ Emits now)

pub stays : (v : View) (e : Event) → is_syn_sent v.state ≡ false → Stays (IsEmission e) v (after_event v e)
stays v e past = by_event (λ e w. Stays (IsEmission e) v w) v (record {
  same = λ e. as_was v v past refl refl (inl refl);
  asks = λ e alive. as_was v _ past refl refl (inl refl);
  silent = λ now. as_was v _ past refl refl (inl refl);
  heard = λ s now lives. let k = heard (IsEmission (Hears s now)) v s past in record { past = k.past; received = k.received; una = k.una; nxt = k.nxt };
  over = λ now ends. ended v _ refl;
  given_up = λ now waits expired. ended v _ refl;
  acts = λ now. let k = ticks_keep v now in as_was v _ past (ap (λ (w : View). w.state) k) (ap (λ (w : View). w.sending.una) k) (inl (ap (λ (w : View). w.sending.nxt) k));
  emits = λ now. let k = emissions_leave v now in as_was v _ past k.2 (ap (λ (t : Sending). t.una) k.0) (inr (now, refl));
  sends = λ octets taken now opened. as_was v _ past refl refl (inl refl);
  reads = λ len. as_was v _ past refl refl (inl refl);
  shuts = λ now. let on = beyond_shutdown_onward v.state in record { past = on.past past; received = on.received; una = λ e. refl; nxt = λ e. inl refl };
  delays = λ on now. as_was v _ past refl refl (inl refl);
  leaves = λ now lives. let on = beyond_shutdown_onward v.state in record { past = on.past past; received = on.received; una = λ e. refl; nxt = λ e. inl refl };
  aborts = λ e now at cause lives. ended v _ refl;
  refused = λ number hit. ended v _ refl;
  hopless = λ now over. ended v _ refl;
}) e

-- No window is probed while it opens, and the retransmission timer runs exactly where its number is outstanding.

pub record Times (v w : View) : Type 0 where
  pub probe : v.timers.probe ≡ None → w.timers.probe ≡ None
  pub idle : (v.timers.retransmission ≡ None → outstanding v.sending ≡ 0) → w.timers.retransmission ≡ None → outstanding w.sending ≡ 0
  pub flies : (deadline : Moment) → v.timers.retransmission ≡ None → w.timers.retransmission ≡ Some deadline → 0 < outstanding w.sending

abbrev Timed : View → View → Type 0
Timed v w = is_syn_received w.state ≡ true → Times v w

pub unless_none : {C : Type 0} (o : Option Moment) (deadline : Moment) → o ≡ None → o ≡ Some deadline → C
unless_none None deadline e f = cc
unless_none (Some moment) deadline e f = cc

opening_unprobed : (v : View) → is_syn_received v.state ≡ true → probes v ≡ false
opening_unprobed v received = ap (λ b. not b && (v.sending.window == 0) && has_unacknowledged v) (opening_received v.state received)

rests : (some probing : Bool) (o : Option Moment) (now : Moment) (milliseconds : ℕ) → probing ≡ false → (if some && not probing then running o now milliseconds else None) ≡ None → some ≡ false
rests false probing o now milliseconds e f = refl
rests true true o now milliseconds e f = cc
rests true false None now milliseconds e f = cc
rests true false (Some moment) now milliseconds e f = cc

runs : (some probing : Bool) (o : Option Moment) (now deadline : Moment) (milliseconds : ℕ) → (if some && not probing then running o now milliseconds else None) ≡ Some deadline → some ≡ true
runs true probing o now deadline milliseconds e = refl
runs false probing o now deadline milliseconds e = cc

clocked_timed : (v x : View) (moved : Bool) (now : Moment) → Timed v (clocked moved x now)
clocked_timed v x moved now received =
    let still = opening_unprobed x received in
    let some = nat_lt 0 (outstanding x.sending) in
    let was = if moved then None else x.timers.retransmission in
    record {
      probe = λ none. ap (λ b. if b then running x.timers.probe now x.resend.timeout.rto else None) still;
      idle = λ was_idle none. let few : outstanding x.sending ≤ 0 = ltb-false 0 (outstanding x.sending) (rests some (probes x) was now x.resend.timeout.rto still none) in omega (arith, few);
      flies = λ deadline none set. ltb-true 0 (outstanding x.sending) (runs some (probes x) was now deadline x.resend.timeout.rto set);
    }

same_timed : (v w : View) → w.timers ≡ v.timers → w.sending ≡ v.sending → Times v w
same_timed v w timers sending = record {
  probe = λ none. ap (λ (t : Timers). t.probe) timers ∙ none;
  idle = λ was_idle none. ap outstanding sending ∙ was_idle (sym (ap (λ (t : Timers). t.retransmission) timers) ∙ none);
  flies = λ deadline none set. unless_none w.timers.retransmission deadline (ap (λ (t : Timers). t.retransmission) timers ∙ none) set;
}

first_timed : (v : View) (o : Option Due) (now : Moment) → Timed v (after_first v o now)
first_timed v None now received = same_timed v v refl refl
first_timed v (Some due) now received = clocked_timed v (after_going_out v due now) false now received

pub timed : (v : View) (e : Event) → Timed v (after_event v e)
timed v e = by_event (λ e w. Timed v w) v (record {
  same = λ e received. same_timed v v refl refl;
  asks = λ e alive received. same_timed v _ refl refl;
  silent = λ now received. same_timed v _ refl refl;
  heard = λ s now lives. let b = before v s in let w = after_heard v s in clocked_timed v (noted_by b w now) (is_moved b w) now;
  over = λ now ends received. cc;
  given_up = λ now waits expired received. cc;
  acts = λ now. clocked_timed v (after_timers (after_silence v now) now) false now;
  emits = λ now. first_timed v (first_due v) now;
  sends = λ octets taken now opened. clocked_timed v (holding v taken) false now;
  reads = λ len received. same_timed v _ refl refl;
  shuts = λ now. clocked_timed v (shut v v.released v.since) false now;
  delays = λ on now. clocked_timed v (told_nodelay v on) false now;
  leaves = λ now lives. clocked_timed v (shut v true (if is_fin_wait_2 v.state then latest v.since now else v.since)) false now;
  aborts = λ e now at cause lives received. cc;
  refused = λ number hit received. cc;
  hopless = λ now over received. cc;
}) e
