-- Whatever happens to a connection, its endpoints stay, and what is CLOSED stays so.
use Rattle.std.proofs.Common.{◌≡◌, ◌||◌, ◌==◌, not, false, length, Option, refl, ◌∙◌, ap, sym}
use Rattle.tcp_segment.specs.Segment.{Segment}
use Rattle.clock.specs.declared.moment.Moment.{Moment}
use Rattle.tcp_state.specs.declared.state.State.{State}
use Rattle.tcp_state.specs.declared.state.State.TheVariants.{Closed}
use Rattle.tcp_state.specs.View.{View, is_closed}
use Rattle.tcp_state.specs.Timing.{clocked, after_timers}
use Rattle.tcp_state.specs.Alive.{after_silence}
use Rattle.tcp_state.specs.Calls.{beyond_shutdown, after_shutdown}
use Rattle.tcp_state.specs.declared.emission.Due.{Due}
use Rattle.tcp_state.specs.Due.{first_due}
use Rattle.tcp_state.specs.Edges as edge
use Rattle.tcp_state.specs.Arrival.{after_ack, is_receiving, after_window, after_text, after_heard}
use Rattle.tcp_halves.proofs.Choices.{either}
use Rattle.tcp_state.proofs.Clocked.{ticks_keep, emission_keeps}
use Rattle.tcp_state.proofs.Events.{by_event}
use Rattle.tcp_state.proofs.Segments.{by_ack, by_fin, by_hearing}

-- the endpoints stay, and nothing that is CLOSED lives again
pub record KeepsEnds (v w : View) : Type 0 where
  pub local : w.local ≡ v.local
  pub peer : w.peer ≡ v.peer
  pub live : is_closed w.state ≡ false → is_closed v.state ≡ false

-- nothing happened
pub keeps-nothing : (v : View) → KeepsEnds v v
keeps-nothing v = record { local = refl; peer = refl; live = λ lives. lives }

abbrev HasEnds : View → View → Type 0
HasEnds v w = (w.local ≡ v.local) × (w.peer ≡ v.peer)

-- a segment is heard
heard-ends : (v : View) (s : Segment) → HasEnds v (after_heard v s)
heard-ends v s =
    by_hearing (HasEnds v) v s acked
    (record { dropped = (refl, refl); drawn = (refl, refl); reset = λ acts. (refl, refl); crossed = λ waits. (refl, refl); opened = λ waits right. (refl, refl); acknowledged = λ taken. acked; read = λ reads. by_fin (HasEnds v) (after_text told s) s (λ counts. texted) texted texted })
  where
    told : View
    told = after_window (after_ack v s.acknowledgement) s

    acked : HasEnds v (after_ack v s.acknowledgement)
    acked = by_ack (HasEnds v) v s.acknowledgement (record { old = (refl, refl); beyond = (refl, refl); opens = λ received new. (refl, refl); octets = λ new. (refl, refl); fin = λ new fin. (refl, refl) })

    texted : HasEnds v (after_text told s)
    texted = either View (HasEnds v) ((length s.octets == 0) || not (is_receiving told.state)) told _ (λ none. acked) (λ some. acked)

-- what is CLOSED stays so once our side is closed
still_closed : (t : State) → is_closed (beyond_shutdown t) ≡ false → is_closed t ≡ false
still_closed Closed lives = lives
still_closed _ lives = refl

alike_kept : (v w : View) → w.local ≡ v.local → w.peer ≡ v.peer → w.state ≡ v.state → KeepsEnds v w
alike_kept v w local peer state = record { local = local; peer = peer; live = λ lives. ap is_closed (sym state) ∙ lives }

-- its side is closed, or a segment goes out
pub keeps-shutdown : (v : View) (now : Moment) → KeepsEnds v (after_shutdown v now)
keeps-shutdown v now = record { local = refl; peer = refl; live = λ lives. still_closed v.state lives }

pub keeps-first : (v : View) (o : Option Due) (now : Moment) → KeepsEnds v (edge.after_first v o now)
keeps-first v o now = let out = emission_keeps v o now in alike_kept v (edge.after_first v o now) (ap (λ (w : View). w.local) out) (ap (λ (w : View). w.peer) out) (ap (λ (w : View). w.state) out)

-- whatever happens to it
pub keeps-event : (v : View) (e : edge.Event) → KeepsEnds v (edge.after_event v e)
keeps-event v e =
    by_event (λ e w. KeepsEnds v w) v
    (record {
      same = λ e. keeps-nothing v;
      asks = λ e alive. record { local = refl; peer = refl; live = λ lives. lives };
      silent = λ now. record { local = refl; peer = refl; live = λ lives. lives };
      heard = λ s now alive. let ends = heard-ends v s in record { local = ends.0; peer = ends.1; live = λ lives. alive };
      over = λ now ends. record { local = refl; peer = refl; live = λ lives. cc };
      given_up = λ now waits gives. record { local = refl; peer = refl; live = λ lives. cc };
      acts = λ now. alike_kept v (clocked false (after_timers (after_silence v now) now) now) (ap (λ (w : View). w.local) (ticks_keep v now)) (ap (λ (w : View). w.peer) (ticks_keep v now)) (ap (λ (w : View). w.state) (ticks_keep v now));
      emits = λ now. keeps-first v (first_due v) now;
      sends = λ octets taken now alive. record { local = refl; peer = refl; live = λ lives. lives };
      reads = λ len. record { local = refl; peer = refl; live = λ lives. lives };
      shuts = λ now. keeps-shutdown v now;
      delays = λ on now. record { local = refl; peer = refl; live = λ lives. lives };
      leaves = λ now alive. record { local = refl; peer = refl; live = λ lives. alive };
      aborts = λ e now moment cause alive. record { local = refl; peer = refl; live = λ lives. alive };
      refused = λ number hit. record { local = refl; peer = refl; live = λ lives. cc };
      hopless = λ now over. record { local = refl; peer = refl; live = λ lives. cc };
    }) e
