-- Who begins and ends that small segments don't wait, and what that leaves of the override's timer.
use Rattle.std.proofs.Common.{◌≡◌, ℕ, ◌==◌, ◌||◌, ◌⊎◌, not, if◌then◌else◌, Bool, true, false, length, Option, Some, None, is_some, inl, inr, refl, ap}
use Rattle.clock.specs.declared.moment.Moment.{Moment}
use Rattle.tcp_segment.specs.Segment.{Segment}
use Rattle.tcp_halves.proofs.Choices.{either}
use Rattle.tcp_state.specs.View.{View}
use Rattle.tcp_state.specs.Timing.{awaits_more, running}
use Rattle.tcp_state.specs.declared.timing.TheConstants.{OVERRIDE_WAIT}
use Rattle.tcp_state.specs.Arrival.{is_receiving, after_ack, after_window, after_text, after_heard}
use Rattle.tcp_state.specs.Alive.{after_silence}
use Rattle.tcp_state.specs.Due.{first_due}
use Rattle.tcp_state.specs.Edges.{Event, SetsNoDelay, after_event}
use Rattle.tcp_state.proofs.Clocked.{timers_keep, emission_keeps}
use Rattle.tcp_state.proofs.Events.{by_event}
use Rattle.tcp_state.proofs.Segments.{by_ack, by_fin, by_hearing}

abbrev Same : View → View → Type 0
Same v w = w.nodelay ≡ v.nodelay

heard_same : (v : View) (s : Segment) → Same v (after_heard v s)
heard_same v s =
    let P : View → Type 0 = λ w. w.nodelay ≡ v.nodelay in
    let acked : P (after_ack v s.acknowledgement) = by_ack P v s.acknowledgement (record { old = refl; beyond = refl; opens = λ received new. refl; octets = λ new. refl; fin = λ new fin. refl }) in
    let told = after_window (after_ack v s.acknowledgement) s in
    let text : P (after_text told s) = either View P ((length s.octets == 0) || not (is_receiving told.state)) told _ (λ none. acked) (λ some. acked) in
    by_hearing P v s acked (record {
      dropped = refl;
      drawn = refl;
      reset = λ acts. refl;
      crossed = λ waits. refl;
      opened = λ waits right. refl;
      acknowledged = λ taken. acked;
      read = λ on. by_fin P (after_text told s) s (λ counts. text) text text;
    })

pub only_told : (v : View) (e : Event) → Same v (after_event v e) ⊎ ((on : Bool) × (now : Moment) × (e ≡ SetsNoDelay on now))
only_told v = by_event (λ e w. Same v w ⊎ ((on : Bool) × (now : Moment) × (e ≡ SetsNoDelay on now))) v (record {
  same = λ e. inl refl;
  asks = λ e alive. inl refl;
  silent = λ now. inl refl;
  heard = λ s now lives. inl (heard_same v s);
  over = λ now ends. inl refl;
  given_up = λ now waits expired. inl refl;
  acts = λ now. inl (ap (λ (w : View). w.nodelay) (timers_keep (after_silence v now) now));
  emits = λ now. inl (ap (λ (w : View). w.nodelay) (emission_keeps v (first_due v) now));
  sends = λ octets taken now opened. inl refl;
  reads = λ len. inl refl;
  shuts = λ now. inl refl;
  delays = λ on now. inr (on, now, refl);
  leaves = λ now lives. inl refl;
  aborts = λ e now at cause lives. inl refl;
  refused = λ number hit. inl refl;
  hopless = λ now over. inl refl;
})

runs_where : (waits : Bool) (deadline : Option Moment) (now : Moment) (milliseconds : ℕ)
    → (let left = if waits then deadline else None in is_some (if waits then running left now milliseconds else left)) ≡ waits
runs_where true None now milliseconds = refl
runs_where true (Some moment) now milliseconds = refl
runs_where false deadline now milliseconds = refl

pub override_put_right : (v : View) (on : Bool) (now : Moment) → is_some (after_event v (SetsNoDelay on now)).timers.overriding ≡ awaits_more (after_event v (SetsNoDelay on now))
override_put_right v on now = runs_where (awaits_more (record v { nodelay = on })) v.timers.overriding now OVERRIDE_WAIT
