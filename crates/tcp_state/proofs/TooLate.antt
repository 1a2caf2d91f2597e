-- Why octets that come after the caller closed a connection abort it, and no other segment does.
use Rattle.std.proofs.Common.{◌≡◌, ◌==◌, ◌||◌, ◌&&◌, not, if◌then◌else◌, Bool, true, false, length, Some, refl, ◌∙◌, ap}
use Rattle.tcp_segment.specs.Segment.{Segment}
use Rattle.clock.specs.declared.moment.Moment.{Moment}
use Rattle.tcp_state.specs.declared.connection.Fate.{Fate}
use Rattle.tcp_state.specs.declared.connection.Fate.TheVariants.{Stays}
use Rattle.tcp_state.specs.declared.state.State.{State}
use Rattle.tcp_state.specs.declared.state.State.TheVariants.{Closed, Established}
use Rattle.tcp_state.specs.View.{View, IsSound, is_closed, is_write_closed, reset_since}
use Rattle.tcp_state.specs.Arrival.{is_receiving, after_ack, is_read, after_window, after_text, brings_more, is_lost, after_lost, after_segment, repeats_fin, begins_wait, before, timed_by, after_segment_at, fate}
use Rattle.tcp_state.specs.Duties.{Places, StandsAt, is_fin_wait, is_used, comes_too_late}
use Rattle.tcp_halves.proofs.Choices.{either, clash, and_left, and_right, or_right, unowed}
use Rattle.tcp_state.proofs.Segments.{by_fin, by_ack, by_segment, by_clock, not_rejected}
use Rattle.tcp_state.proofs.Clocked.{comes_to}
use Rattle.tcp_state.proofs.Gains.{receiving_lives}
use Rattle.tcp_state.proofs.Used.{read_as_used, more_as_new}

-- what its caller left is closed on our side
left_waits : (released : Bool) (t : State) → (released && not (is_write_closed t)) ≡ false → (released && is_receiving t) ≡ (released && is_fin_wait t)
left_waits false t e = refl
left_waits true Established e = cc
left_waits true _ e = refl

pub lost_as_late : (at : Places) (v : View) (s : Segment) → IsSound v → StandsAt at v s → is_lost v s ≡ comes_too_late at v s
lost_as_late at v s sound stands =
    ap (λ b. b && is_read v s && brings_more v s) (left_waits v.released v.state sound.release)
    ∙ (ap (λ b. v.released && is_fin_wait v.state && b && brings_more v s) (read_as_used at v s sound stands)
    ∙ ap (λ b. v.released && is_fin_wait v.state && is_used at v s && b) (more_as_new at v s stands))

-- from that moment on
since_now : (v : View) (s : Segment) (now : Moment) → v.owes_reset ≡ false → reset_since (timed_by (before v s) (after_lost v s) now) ≡ Some now
since_now v s now none =
    let w = after_lost v s in
    let begun : (repeats_fin v s || begins_wait v.state w.state || (true && not v.owes_reset)) ≡ true = or_right (repeats_fin v s || begins_wait v.state w.state) (true && not v.owes_reset) (ap not none) in
    ap (λ b. Some (if b then now else w.since)) begun

stays : (v : View) (s : Segment) → is_lost v s ≡ true → fate v s ≡ Stays
stays v s lost = either Fate (λ f. f ≡ Stays) (is_closed v.state || is_lost v s) Stays _ (λ keeps. refl) (λ other. clash (is_closed v.state || is_lost v s) (or_right (is_closed v.state) (is_lost v s) lost) other)

pub too_late_aborts : (at : Places) (v : View) (s : Segment) (now : Moment) → IsSound v → StandsAt at v s → comes_too_late at v s ≡ true
    → ((after_segment_at v s now).state ≡ Closed) × (reset_since (after_segment_at v s now) ≡ Some now) × (fate v s ≡ Stays)
too_late_aborts at v s now sound stands late =
    let lost : is_lost v s ≡ true = lost_as_late at v s sound stands ∙ late in
    let receives : is_receiving v.state ≡ true = and_right v.released (is_receiving v.state) (and_left (v.released && is_receiving v.state) (is_read v s) (and_left (v.released && is_receiving v.state && is_read v s) (brings_more v s) lost)) in
    let lives = receiving_lives v.state receives in
    let none : v.owes_reset ≡ false = unowed v.owes_reset (is_closed v.state) v.released lives.0 sound.reset in
    let heard : after_segment_at v s now ≡ timed_by (before v s) (after_lost v s) now =
    comes_to v s now lives.0 (not_rejected v s lives.1 lives.2) ∙ ap (λ b. timed_by (before v s) (if b then after_lost v s else after_segment v s) now) lost in
    (ap (λ (w : View). w.state) heard, ap reset_since heard ∙ since_now v s now none, stays v s lost)

-- No other.

segment_owes : (v : View) (s : Segment) → (after_segment v s).owes_reset ≡ v.owes_reset
segment_owes v s =
    let P : View → Type 0 = λ w. w.owes_reset ≡ v.owes_reset in
    let told = after_window (after_ack v s.acknowledgement) s in
    let acked : P told = by_ack P v s.acknowledgement (record { old = refl; beyond = refl; opens = λ received new. refl; octets = λ new. refl; fin = λ new fin. refl }) in
    let text : P (after_text told s) = either View P ((length s.octets == 0) || not (is_receiving told.state)) told _ (λ deaf. acked) (λ some. acked) in
    by_segment P v s (record {
      dropped = refl;
      drawn = refl;
      reset = λ acts. refl;
      crossed = λ waits. refl;
      opened = λ waits right. refl;
      acknowledged = λ taken. acked;
      read = λ read. by_fin P (after_text told s) s (λ counts. text) text text;
    })

pub others_owe_none : (at : Places) (v : View) (s : Segment) (now : Moment) → IsSound v → is_closed v.state ≡ false → StandsAt at v s → comes_too_late at v s ≡ false → (after_segment_at v s now).owes_reset ≡ false
others_owe_none at v s now sound lives stands in_time =
    let none : v.owes_reset ≡ false = unowed v.owes_reset (is_closed v.state) v.released lives sound.reset in
    let kept : is_lost v s ≡ false = lost_as_late at v s sound stands ∙ in_time in
    by_clock (λ w. w.owes_reset ≡ false) v s now none
    (λ open_yet. either View (λ w. w.owes_reset ≡ false) (is_lost v s) (after_lost v s) (after_segment v s) (λ lost. clash (is_lost v s) lost kept) (λ keeps. segment_owes v s ∙ none))
