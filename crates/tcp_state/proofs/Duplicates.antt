-- What a duplicate ACK makes of a connection: it tells of the window that is known, and its numbers stay.
use Rattle.std.proofs.Common.{◌≡◌, ◌-◌, ◌==◌, not, true, false, if◌then◌else◌, length, arith, refl, ◌∙◌, ap}
use Rattle.tcp_segment.specs.Segment.{Segment}
use Rattle.clock.specs.declared.moment.Moment.{Moment}
use Rattle.congestion.specs.Events.Event.{Duplicate}
use Rattle.tcp_halves.specs.Halves.{Sending}
use Rattle.tcp_halves.specs.Stream.{outstanding}
use Rattle.tcp_halves.specs.Windows.{updates_window}
use Rattle.tcp_halves.proofs.Choices.{either}
use Rattle.tcp_state.specs.View.{View, IsSound, is_opening, is_closed}
use Rattle.tcp_state.specs.Congestion.{Signal}
use Rattle.tcp_state.specs.Congestion.Signal.{Begins, Counts, Nothing}
use Rattle.tcp_state.specs.Arrival.{after_window, is_counted_duplicate, before, is_moved, acknowledged_signal, told as told_by, reports_more, congestion_event_of, timed_by, after_segment_at, report_signal}
use Rattle.tcp_state.specs.Counted.{IsDuplicate}
use Rattle.tcp_state.proofs.Clocked.{comes_to, unmoved}
use Rattle.tcp_state.proofs.Losses.{past_opening}
use Rattle.tcp_state.proofs.Segments.{not_rejected}
use Rattle.tcp_state.proofs.Signals.{flies_open, only_window}

-- it comes to a connection that is not CLOSED
pub lives_yet : (v : View) (s : Segment) → IsSound v → IsDuplicate v s → is_closed v.state ≡ false
lives_yet v s sound d = let out = d.outstanding in flies_open v sound (omega (arith, out.2))

pub comes_alone : (v : View) (s : Segment) (now : Moment) → IsSound v → IsDuplicate v s → after_segment_at v s now ≡ timed_by (before v s) (after_window v s) now
comes_alone v s now sound d =
    let opened = past_opening v.state d.opened in
    comes_to v s now (lives_yet v s sound d) (not_rejected v s opened.0 opened.1) ∙ ap (λ w. timed_by (before v s) w now) (only_window v s sound d)

-- the numbers and what is held stay, and the window is the same
pub record Stays (v w : View) : Type 0 where
  pub una : w.sending.una ≡ v.sending.una
  pub nxt : w.sending.nxt ≡ v.sending.nxt
  pub held : w.sending.held ≡ v.sending.held
  pub smss : w.sending.smss ≡ v.sending.smss
  pub window : w.sending.window ≡ v.sending.window

pub window_stays : (v : View) (s : Segment) → IsDuplicate v s → Stays v (after_window v s)
window_stays v s d =
    either Sending (λ t. Stays v (record v { sending = t })) (updates_window v.sending s.number s.acknowledgement) _ v.sending
    (λ tells. record { una = refl; nxt = refl; held = refl; smss = refl; window = d.window }) (λ none. record { una = refl; nxt = refl; held = refl; smss = refl; window = refl })

pub una_stays : (v : View) (s : Segment) (now : Moment) → IsSound v → IsDuplicate v s → (after_segment_at v s now).sending.una ≡ v.sending.una
una_stays v s now sound d = ap (λ (w : View). w.sending.una) (comes_alone v s now sound d) ∙ (window_stays v s d).una

-- one that counts is a duplicate ACK to the congestion window
pub repeats : (v : View) (s : Segment) → IsSound v → IsDuplicate v s → is_counted_duplicate v s ≡ true → congestion_event_of (before v s) (after_window v s) ≡ Counts (Duplicate (outstanding (after_window v s).sending))
repeats v s sound d is =
    let b = before v s in
    let w = after_window v s in
    let acks : Signal = if is_opening b.state then Begins else acknowledged_signal b (told_by b w) (b.held - length w.sending.held) (reports_more b w) in
    let reported : Signal = if reports_more b w then report_signal (told_by b w) else Nothing in
    let other : Signal = if b.is_duplicate then Counts (Duplicate (outstanding w.sending)) else reported in
    let still : is_moved b w ≡ false = ap (λ n. not (v.sending.una == n)) (window_stays v s d).una ∙ unmoved v in
    ap (λ t. if t then Nothing else if is_moved b w then acks else other) (lives_yet v s sound d)
    ∙ ap (λ t. if t then acks else other) still
    ∙ ap (λ t. if t then Counts (Duplicate (outstanding w.sending)) else reported) is
