-- Why a connection that becomes CLOSED in silence had seen the peer's end.
use Rattle.std.proofs.Common.{◌≡◌, ℕ, ◌&&◌, Bool, true, false, None, refl, sym, ◌∙◌, ap}
use Rattle.tcp_segment.specs.Segment.{Segment}
use Rattle.clock.specs.declared.moment.Moment.{Moment}
use Rattle.clock.specs.Moments.{has_come}
use Rattle.tcp_state.specs.declared.state.State.{State}
use Rattle.tcp_state.specs.declared.state.State.TheVariants.{Closed, SynSent, SynReceived, Established, FinWait1, FinWait2, CloseWait, Closing, LastAck, TimeWait, Listen}
use Rattle.tcp_halves.specs.Stream.{is_new_ack}
use Rattle.tcp_state.specs.View.{View, IsSound, is_closed, is_read_closed, is_listening, end_of_wait}
use Rattle.tcp_state.specs.Alive.{after_silence}
use Rattle.tcp_state.specs.Arrival.{owing_ack, is_of_fin, reset_error, after_heard}
use Rattle.tcp_state.specs.Due.{first_due}
use Rattle.tcp_state.specs.Edges.{Event, after_event, is_last_ack}
use Rattle.tcp_state.proofs.Clocked.{timers_keep}
use Rattle.tcp_halves.proofs.Choices.{and_left}
use Rattle.tcp_state.proofs.Segments.{by_hearing}
use Rattle.tcp_state.proofs.Events.{by_event}
use Rattle.tcp_state.proofs.Edges.{emitted-state}
use Rattle.tcp_state.proofs.Causes.{closed_by_ack, closed_by_reading, shut_closes_none}

-- the connection became CLOSED, tells nothing, and its caller has not left it
record IsSilentEnd (w : View) : Type 0 where
  pub closed : is_closed w.state ≡ true
  pub quiet : w.pending_error ≡ None
  pub kept : w.released ≡ false

seen_at_reset : (t : State) → is_closed t ≡ false → is_listening t ≡ false → reset_error t ≡ None → is_read_closed t ≡ true
seen_at_reset Closing c l e = refl
seen_at_reset LastAck c l e = refl
seen_at_reset TimeWait c l e = refl
seen_at_reset Closed c l e = cc
seen_at_reset Listen c l e = cc
seen_at_reset SynSent c l e = cc
seen_at_reset SynReceived c l e = cc
seen_at_reset Established c l e = cc
seen_at_reset FinWait1 c l e = cc
seen_at_reset FinWait2 c l e = cc
seen_at_reset CloseWait c l e = cc

seen_at_last : (t : State) → is_last_ack t ≡ true → is_read_closed t ≡ true
seen_at_last LastAck e = refl
seen_at_last _ e = cc

-- a wait that is over is TIME-WAIT, or the caller has left
seen_at_end : (t : State) (released : Bool) (since now : Moment) → has_come (end_of_wait t released since) now ≡ true → released ≡ false → is_read_closed t ≡ true
seen_at_end TimeWait released since now e r = refl
seen_at_end FinWait2 true since now e r = cc
seen_at_end FinWait2 false since now e r = cc
seen_at_end _ released since now e r = cc

still : (v w : View) → w.state ≡ v.state → is_closed v.state ≡ false → IsSilentEnd w → is_read_closed v.state ≡ true
still v w same lives k = let bad : true ≡ false = sym k.closed ∙ (ap is_closed same ∙ lives) in cc

seen_by_heard : (v : View) (s : Segment) → is_closed v.state ≡ false → is_listening v.state ≡ false → IsSilentEnd (after_heard v s) → is_read_closed v.state ≡ true
seen_by_heard v s lives connection =
    let last : (ack : ℕ) → (is_last_ack v.state && is_new_ack v.sending ack && is_of_fin v ack) ≡ true → is_read_closed v.state ≡ true = λ ack three.
    seen_at_last v.state (and_left (is_last_ack v.state) (is_new_ack v.sending ack) (and_left (is_last_ack v.state && is_new_ack v.sending ack) (is_of_fin v ack) three)) in
    by_hearing (λ w. IsSilentEnd w → is_read_closed v.state ≡ true) v s (λ k. let bad : true ≡ false = k.kept in cc) (record {
      dropped = still v v refl lives;
      drawn = still v (owing_ack v) refl lives;
      reset = λ acts k. seen_at_reset v.state lives connection k.quiet;
      crossed = λ waits k. let bad : true ≡ false = sym k.closed in cc;
      opened = λ waits right k. let bad : true ≡ false = sym k.closed in cc;
      acknowledged = λ taken k. last s.acknowledgement (closed_by_ack v s.acknowledgement lives k.closed);
      read = λ on k. last s.acknowledgement (closed_by_reading v s lives k.closed);
    })

seen_by_event : (v : View) (e : Event) → IsSound v → is_closed v.state ≡ false → IsSilentEnd (after_event v e) → is_read_closed v.state ≡ true
seen_by_event v e sound lives = by_event (λ e w. IsSilentEnd w → is_read_closed v.state ≡ true) v (record {
  same = λ e. still v v refl lives;
  asks = λ e alive. still v (record v { alive = alive }) refl lives;
  silent = λ now. still v (after_silence v now) refl lives;
  heard = λ s now comes k. seen_by_heard v s lives sound.connection (record { closed = k.closed; quiet = k.quiet; kept = k.kept });
  over = λ now ends k. seen_at_end v.state v.released v.since now ends k.kept;
  given_up = λ now waits expired k. let told = k.quiet in cc;
  acts = λ now. still v _ (ap (λ (w : View). w.state) (timers_keep (after_silence v now) now)) lives;
  emits = λ now. still v _ (emitted-state v (first_due v) now) lives;
  sends = λ octets taken now opened. still v _ refl lives;
  reads = λ len. still v _ refl lives;
  shuts = λ now k. let bad : true ≡ false = sym k.closed ∙ shut_closes_none v.state lives in cc;
  delays = λ on now. still v _ refl lives;
  leaves = λ now remains k. let bad : true ≡ false = k.kept in cc;
  aborts = λ e now at cause remains k. let bad : true ≡ false = k.kept in cc;
  refused = λ number hit k. let told = k.quiet in cc;
  hopless = λ now over k. let told = k.quiet in cc;
}) e

pub silent_ends_seen : (v : View) (e : Event) → IsSound v → is_closed v.state ≡ false → is_closed (after_event v e).state ≡ true → (after_event v e).pending_error ≡ None → (after_event v e).released ≡ false
    → is_read_closed v.state ≡ true
silent_ends_seen v e sound lives closed quiet kept = seen_by_event v e sound lives (record { closed = closed; quiet = quiet; kept = kept })
