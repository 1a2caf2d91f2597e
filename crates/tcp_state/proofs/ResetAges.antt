-- The reset of an abort waits from the event by which it is owed.
use Rattle.std.proofs.Common.{◌≡◌, ◌==◌, ◌||◌, ◌&&◌, ◌⊎◌, not, if◌then◌else◌, true, false, length, Option, Some, None, inl, inr, refl, sym, ◌∙◌, ap, subst}
use Rattle.tcp_segment.specs.Segment.{Segment}
use Rattle.clock.specs.declared.moment.Moment.{Moment}
use Rattle.tcp_state.specs.declared.emission.Due.{Due}
use Rattle.tcp_state.specs.View.{View, IsSound, is_closed, reset_since}
use Rattle.tcp_state.specs.Alive.{after_silence}
use Rattle.tcp_state.specs.Arrival.{after_ack, after_window, is_receiving, after_text, after_segment, is_lost, after_lost, after_heard, begins_wait, repeats_fin, before, timed_by}
use Rattle.tcp_state.specs.Calls.{after_release}
use Rattle.tcp_state.specs.Due.{first_due, after_emitted}
use Rattle.tcp_state.specs.Edges.{Event, Hears, Emits, after_first, after_event, moment_of}
use Rattle.tcp_state.proofs.Clocked.{timers_keep, emission}
use Rattle.tcp_halves.proofs.Choices.{either, or_right, of_false, unowed}
use Rattle.tcp_state.proofs.Segments.{by_fin, by_ack, by_segment}
use Rattle.tcp_state.proofs.Events.{by_event}

-- what an event makes of an owed reset: it waits as before, it waits no more, or the event is the first by which it is owed
abbrev Ages : View → Event → View → Type 0
Ages v e w = (reset_since w ≡ reset_since v) ⊎ ((reset_since w ≡ None) ⊎ ((v.owes_reset ≡ false) × (moment_of e ≡ reset_since w)))

none_owed : (w : View) → w.owes_reset ≡ false → reset_since w ≡ None
none_owed w none = ap (λ b. if b then Some w.since else None) none

pub live : (v : View) → IsSound v → is_closed v.state ≡ false → v.owes_reset ≡ false
live v sound lives = unowed v.owes_reset (is_closed v.state) v.released lives sound.reset

-- A segment.

owed_by_segment : (v : View) (s : Segment) → (after_segment v s).owes_reset ≡ v.owes_reset
owed_by_segment v s =
    let P : View → Type 0 = λ w. w.owes_reset ≡ v.owes_reset in
    let acked = by_ack P v s.acknowledgement (record { old = refl; beyond = refl; opens = λ received new. refl; octets = λ new. refl; fin = λ new fin. refl }) in
    let told = after_window (after_ack v s.acknowledgement) s in
    let text : P (after_text told s) = either View P ((length s.octets == 0) || not (is_receiving told.state)) told _ (λ none. acked) (λ some. acked) in
    by_segment P v s (record {
      dropped = refl;
      drawn = refl;
      reset = λ acts. refl;
      crossed = λ waits. refl;
      opened = λ waits right. refl;
      acknowledged = λ taken. acked;
      read = λ on. by_fin P (after_text told s) s (λ counts. text) text text;
    })

-- one by which a reset comes to be owed
begun : (v w : View) (s : Segment) (now : Moment) → v.owes_reset ≡ false → w.owes_reset ≡ true → reset_since (timed_by (before v s) w now) ≡ Some now
begun v w s now none owes =
    let early = repeats_fin v s || begins_wait v.state w.state in
    let starts : (early || (w.owes_reset && not v.owes_reset)) ≡ true = or_right early (w.owes_reset && not v.owes_reset) (ap (λ b. b && not v.owes_reset) owes ∙ of_false v.owes_reset none) in
    ap (λ b. if b then Some (if early || (w.owes_reset && not v.owes_reset) then now else w.since) else None) owes ∙ ap (λ b. Some (if b then now else w.since)) starts

heard : (v : View) (s : Segment) (now : Moment) → v.owes_reset ≡ false → Ages v (Hears s now) (timed_by (before v s) (after_heard v s) now)
heard v s now none =
    let b = before v s in
    either View (λ w. Ages v (Hears s now) (timed_by b w now)) (is_lost v s) (after_lost v s) (after_segment v s)
    (λ lost. inr (inr (none, sym (begun v (after_lost v s) s now none refl))))
    (λ kept. inr (inl (none_owed (timed_by b (after_segment v s) now) (owed_by_segment v s ∙ none))))

-- Every event.

emitted : (v : View) (due : Option Due) (now : Moment) → Ages v (Emits now) (after_first v due now)
emitted v None now = inl refl
emitted v (Some due) now = elim (emission v due now) [
  | inl reset ↦ subst (λ d. Ages v (Emits now) (after_emitted v d now)) (sym reset) (inr (inl refl))
  | inr same ↦ inl (ap (λ (w : View). reset_since w) same)
]

ages : (v : View) (e : Event) → IsSound v → Ages v e (after_event v e)
ages v e sound = by_event (Ages v) v (record {
  same = λ e. inl refl;
  asks = λ e alive. inl refl;
  silent = λ now. inl refl;
  heard = λ s now lives. heard v s now (live v sound lives);
  over = λ now ends. inl refl;
  given_up = λ now waits expired. inl refl;
  acts = λ now. inl (ap (λ (w : View). reset_since w) (timers_keep (after_silence v now) now));
  emits = λ now. emitted v (first_due v) now;
  sends = λ octets taken now opened. inl refl;
  reads = λ len. inl refl;
  shuts = λ now. inl refl;
  delays = λ on now. inl refl;
  leaves = λ now lives. inr (inl (none_owed (after_release v now) (live v sound lives)));
  aborts = λ e now at cause lives. inr (inr (live v sound lives, at));
  refused = λ number hit. inl refl;
  hopless = λ now over. inl refl;
}) e

pub resets_begin : (v : View) (e : Event) (since : Moment) → IsSound v → reset_since v ≡ None → reset_since (after_event v e) ≡ Some since → moment_of e ≡ Some since
resets_begin v e since sound none some = elim (ages v e sound) [
  | inl same ↦ let bad : ◌≡◌ {A = Option Moment} None (Some since) = sym none ∙ (sym same ∙ some) in cc
  | inr (inl gone) ↦ let bad : ◌≡◌ {A = Option Moment} None (Some since) = sym gone ∙ some in cc
  | inr (inr first) ↦ first.1 ∙ some
]

pub resets_stay : (v : View) (e : Event) (since : Moment) → IsSound v → reset_since v ≡ Some since → (reset_since (after_event v e) ≡ Some since) ⊎ (reset_since (after_event v e) ≡ None)
resets_stay v e since sound owed = elim (ages v e sound) [
  | inl same ↦ inl (same ∙ owed)
  | inr (inl gone) ↦ inr gone
  | inr (inr first) ↦ let bad : ◌≡◌ {A = Option Moment} None (Some since) = sym (none_owed v first.0) ∙ owed in cc
]
