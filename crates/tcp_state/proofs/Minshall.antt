-- What the set-up of its host makes of a connection's small segments.
use Rattle.std.proofs.Common.{◌≡◌, ℕ, ◌==◌, ◌&&◌, ◌||◌, not, nat_lt, false, length, refl, ap}
use Rattle.tcp_segment.specs.Segment.{Segment}
use Rattle.tcp_halves.specs.Windows.{open_window, takes_enough}
use Rattle.tcp_halves.proofs.Choices.{either}
use Rattle.tcp_state.specs.Selective.{allowance}
use Rattle.tcp_state.specs.View.{View, awaits_fin_ack}
use Rattle.tcp_state.specs.Alive.{after_silence}
use Rattle.tcp_state.specs.New.{takes_last, passes_full, takes_fin}
use Rattle.tcp_state.specs.Arrival.{is_receiving, after_ack, after_window, after_text, after_heard}
use Rattle.tcp_state.specs.Due.{first_due}
use Rattle.tcp_state.specs.Edges.{Event, after_event}
use Rattle.tcp_state.proofs.Clocked.{timers_keep, emission_keeps}
use Rattle.tcp_state.proofs.Events.{by_event}
use Rattle.tcp_state.proofs.Segments.{by_ack, by_fin, by_hearing}

-- without it they wait for all that is outstanding, and no FIN goes with new octets
pub plain_waits : (v : View) → v.minshall ≡ false → (passes_full v ≡ false) × ((end : ℕ) → takes_fin v end ≡ false)
plain_waits v plain = (
  ap (λ b. b && takes_enough v.sending (allowance v) && ((v.resend.small == 0) || takes_last v)) plain,
  λ end. ap (λ b. b && awaits_fin_ack v.state && (end == length v.sending.held) && nat_lt end (open_window v.sending (allowance v))) plain,
)

abbrev Same : View → View → Type 0
Same v w = w.minshall ≡ v.minshall

heard_same : (v : View) (s : Segment) → Same v (after_heard v s)
heard_same v s =
    let P : View → Type 0 = λ w. w.minshall ≡ v.minshall in
    let acked : P (after_ack v s.acknowledgement) = by_ack P v s.acknowledgement (record { old = refl; beyond = refl; opens = λ received new. refl; octets = λ new. refl; fin = λ new fin. refl }) in
    let told = after_window (after_ack v s.acknowledgement) s in
    let text : P (after_text told s) = either View P ((length s.octets == 0) || not (is_receiving told.state)) told _ (λ none. acked) (λ some. acked) in
    by_hearing P v s acked (record {
      dropped = refl;
      drawn = refl;
      reset = λ acts. refl;
      crossed = λ waits. refl;
      opened = λ waits right. refl;
      acknowledged = λ taken. acked;
      read = λ on. by_fin P (after_text told s) s (λ counts. text) text text;
    })

pub set_up_stays : (v : View) (e : Event) → (after_event v e).minshall ≡ v.minshall
set_up_stays v = by_event (λ e w. Same v w) v (record {
  same = λ e. refl;
  asks = λ e alive. refl;
  silent = λ now. refl;
  heard = λ s now lives. heard_same v s;
  over = λ now ends. refl;
  given_up = λ now waits expired. refl;
  acts = λ now. ap (λ (w : View). w.minshall) (timers_keep (after_silence v now) now);
  emits = λ now. ap (λ (w : View). w.minshall) (emission_keeps v (first_due v) now);
  sends = λ octets taken now opened. refl;
  reads = λ len. refl;
  shuts = λ now. refl;
  delays = λ on now. refl;
  leaves = λ now lives. refl;
  aborts = λ e now at cause lives. refl;
  refused = λ number hit. refl;
  hopless = λ now over. refl;
})
