-- Why a connection repairs losses, and has the least timeout, as its host's set-up says, whatever happens to it.
use Rattle.std.proofs.Common.{◌≡◌, ◌≢◌, ℕ, ◌&&◌, ◌||◌, nat_lt, Bool, false, Option, Some, None, sym, refl, ◌∙◌, ap}
use Rattle.tcp_segment.specs.Segment.{Segment}
use Rattle.clock.specs.declared.moment.Moment.{Moment}
use Rattle.clock.specs.Moments.{has_come}
use Rattle.congestion.specs.Control.{repairs}
use Rattle.congestion.specs.Window.{Window, is_recovering, goes_on, third_is_next, after_third}
use Rattle.congestion.specs.Events.{Event as WindowEvent, after_event as after_window_event}
use Rattle.congestion.specs.Events.Event.{NewAck, PartialAck, Expiry, Duplicate, Loss, Undo}
use Rattle.retransmit.specs.Timeout.{Timeout, after_sample, after_lost_syn}
use Rattle.tcp_state.specs.declared.emission.Due.{Due}
use Rattle.tcp_state.specs.declared.resend.Timed.{Timed}
use Rattle.tcp_halves.specs.Stream.{outstanding}
use Rattle.tcp_halves.proofs.Choices.{either, clash, and_left}
use Rattle.tcp_state.specs.Resend.{Resend, is_timed_by, timeout_sampled, resend_acknowledged}
use Rattle.tcp_state.specs.View.{View, is_opening, is_closed, is_at_end}
use Rattle.tcp_state.specs.Alive.{after_silence}
use Rattle.tcp_state.specs.Timing.{clocked, gives_up, retransmission_expired, probe_expired, after_timers}
use Rattle.tcp_state.specs.Congestion.{Signal, after_signal}
use Rattle.tcp_state.specs.Congestion.Signal.{Begins, Counts, Both, Nothing}
use Rattle.tcp_state.specs.Arrival.{after_heard, is_rejected, before, resend_heard, told, tells_loss, congestion_event_of, timed_by}
use Rattle.tcp_state.specs.Due.{first_due}
use Rattle.tcp_state.specs.Edges.{Event, Hears, Ticks, Emits, Sends, Receives, Shuts, SetsNoDelay, SetsKeepAlive, Closes, Aborts, Unreachable, LosesHop, after_first, after_event, congestion_event_by}
use Rattle.tcp_state.proofs.Clocked.{by_others, heard_paced, after_paced, signalled}
use Rattle.tcp_state.proofs.Congestion.{window_kept, moves_by_events}
use Rattle.tcp_state.proofs.Events.{by_event}
use Rattle.tcp_state.proofs.Resends.{segment_hears, goes_out}

-- How losses are repaired.

event_leaves : (c : Window) (e : WindowEvent) → (let x = after_window_event c e in x.control) ≡ c.control
event_leaves c (NewAck octets flight) = refl
event_leaves c (PartialAck octets) = refl
event_leaves c (Expiry flight) = refl
event_leaves c (Loss flight) = refl
event_leaves c Undo = refl
event_leaves c (Duplicate flight) =
    let P : Window → Type 0 = λ x. x.control ≡ c.control in
    either Window P (is_recovering c) _ _ (λ recovers. refl) (λ runs. either Window P (third_is_next c) (after_third c flight) _ (λ third. refl) (λ other. refl))

signal_leaves : (c : Window) (signal : Signal) (smss : ℕ) (resent : Bool) → (let x = after_signal c signal smss resent in x.control) ≡ c.control
signal_leaves c Begins smss resent = refl
signal_leaves c (Counts event) smss resent = event_leaves c event
signal_leaves c (Both first behind) smss resent = event_leaves (after_window_event c first) behind ∙ event_leaves c first
signal_leaves c Nothing smss resent = refl

pub control_stays : (v : View) (e : Event) → (after_event v e).congestion.control ≡ v.congestion.control
control_stays v e =
    let w = after_event v e in
    ap (λ (c : Window). c.control) (moves_by_events v e) ∙ signal_leaves v.congestion (congestion_event_by v e) w.sending.smss w.resend.syn_resent

-- The least timeout.

sample_leaves : (t : Timeout) (o : Option Timed) (una : ℕ) (now : Moment) → (let u = timeout_sampled t o una now in u.least) ≡ t.least
sample_leaves t None una now = refl
sample_leaves t (Some timed) una now = either Timeout (λ u. u.least ≡ t.least) (is_timed_by timed una) (after_sample t _) t (λ back. refl) (λ out. refl)

progress_leaves : (p : Resend) (una : ℕ) (opens : Bool) (now : Moment) → (resend_acknowledged p una opens now).timeout.least ≡ p.timeout.least
progress_leaves p una opens now =
    let sampled = timeout_sampled p.timeout p.timed una now in
    let same = sample_leaves p.timeout p.timed una now in
    either Timeout (λ u. u.least ≡ p.timeout.least) (opens && nat_lt 0 p.expiries) (after_lost_syn sampled) sampled (λ late. same) (λ in_time. same)

heard_leaves : (v : View) (s : Segment) (now : Moment) → (timed_by (before v s) (after_heard v s) now).resend.timeout.least ≡ v.resend.timeout.least
heard_leaves v s now =
    let b = before v s in
    let x = after_heard v s in
    let P : Resend → Type 0 = λ p. p.timeout.least ≡ x.resend.timeout.least in
    let paced : P (resend_heard b x now) = heard_paced b x now P (progress_leaves x.resend x.sending.una (is_opening b.state) now) refl refl in
    after_paced b x now P paced paced (λ r. paced) paced ∙ ap (λ (t : Timeout). t.least) (segment_hears v s).timeout

acts_leave : (v : View) (now : Moment) → (clocked false (after_timers v now) now).resend.timeout.least ≡ v.resend.timeout.least
acts_leave v now =
    let P : View → Type 0 = λ w. w.resend.timeout.least ≡ v.resend.timeout.least in
    by_others P v now
    (either View P (has_come v.timers.retransmission now) (retransmission_expired v) _ (λ comes. refl)
    (λ late. either View P (has_come v.timers.probe now) (probe_expired v now) v (λ probes. refl) (λ rests. refl)))
    (λ w owes same. same) (λ w same. same)

emitted_leaves : (v : View) (o : Option Due) (now : Moment) → (after_first v o now).resend.timeout.least ≡ v.resend.timeout.least
emitted_leaves v None now = refl
emitted_leaves v (Some due) now = ap (λ (t : Timeout). t.least) (goes_out v due now).timeout

pub least_stays : (v : View) (e : Event) → (after_event v e).resend.timeout.least ≡ v.resend.timeout.least
least_stays v e = by_event (λ e w. w.resend.timeout.least ≡ v.resend.timeout.least) v (record {
  same = λ e. refl;
  asks = λ e alive. refl;
  silent = λ now. refl;
  heard = λ s now lives. heard_leaves v s now;
  over = λ now ends. refl;
  given_up = λ now waits expired. refl;
  acts = λ now. acts_leave (after_silence v now) now;
  emits = λ now. emitted_leaves v (first_due v) now;
  sends = λ octets taken now opened. refl;
  reads = λ len. refl;
  shuts = λ now. refl;
  delays = λ on now. refl;
  leaves = λ now lives. refl;
  aborts = λ e now at cause lives. refl;
  refused = λ number hit. refl;
  hopless = λ now gone. refl;
}) e

-- Where losses aren't repaired, no ACK is a partial one.

pub plainly_none : (v : View) (e : Event) (octets : ℕ) → repairs v.congestion.control ≡ false → congestion_event_by v e ≢ Counts (PartialAck octets)
plainly_none v (Hears s now) octets plain =
    let P : Signal → Type 0 = λ g. g ≢ Counts (PartialAck octets) in
    let b = before v s in
    let x = after_heard v s in
    either Signal P (is_closed v.state || is_rejected v s) Nothing (congestion_event_of b x) (λ unheard e. cc)
    (λ hears. signalled b x P (λ e. cc) (λ e. cc) (λ moves opened whole e. cc)
    (λ moves opened goes. clash (repairs v.congestion.control)
    (ap (λ c. repairs c.control) (sym (window_kept v s)) ∙ and_left (repairs x.congestion.control) (is_recovering x.congestion) (and_left (goes_on x.congestion) (nat_lt 0 x.resend.recover) goes)) plain)
    (λ stays twice e. cc)
    (λ stays more counts. either WindowEvent (λ e. Counts e ≢ Counts (PartialAck octets)) (tells_loss (told b x)) (Loss (outstanding x.sending)) (Duplicate (outstanding x.sending)) (λ loss e. cc) (λ early e. cc)) (λ moves opened more e. cc) (λ moves opened whole ends e. cc))
plainly_none v (Ticks now) octets plain =
    let P : Signal → Type 0 = λ g. g ≢ Counts (PartialAck octets) in
    either Signal P (is_at_end v now || gives_up v now) Nothing _ (λ ends e. cc)
    (λ goes. either Signal P (has_come v.timers.retransmission now) (Counts (Expiry (outstanding v.sending))) Nothing (λ comes e. cc) (λ early e. cc))
plainly_none v (Emits now) octets plain = λ e. cc
plainly_none v (Sends taken now) octets plain = λ e. cc
plainly_none v (Receives len) octets plain = λ e. cc
plainly_none v (Shuts now) octets plain = λ e. cc
plainly_none v (SetsNoDelay on now) octets plain = λ e. cc
plainly_none v (SetsKeepAlive every now) octets plain = λ e. cc
plainly_none v (Closes now) octets plain = λ e. cc
plainly_none v (Aborts now) octets plain = λ e. cc
plainly_none v (Unreachable number) octets plain = λ e. cc
plainly_none v (LosesHop now) octets plain = λ e. cc
