-- Why an error is told only by a reset, by an error about our SYN, at the last expiry, or at the end of the wait for a hop, and stays told.
use Rattle.std.proofs.Common.{◌≡◌, ℕ, ◌==◌, ◌||◌, ◌&&◌, ◌⊎◌, not, nat_lt, nat_le, true, false, length, Option, Some, None, inl, inr, refl, sym, ◌∙◌, ap, is_some}
use Rattle.tcp_segment.specs.Segment.{Segment}
use Rattle.clock.specs.declared.moment.Moment.{Moment}
use Rattle.clock.specs.Moments.{has_come}
use Rattle.tcp_state.specs.declared.calls.Refusal.{Refusal}
use Rattle.tcp_state.specs.declared.calls.Refusal.TheVariants.{ECONNREFUSED, ECONNRESET, ETIMEDOUT}
use Rattle.tcp_state.specs.declared.state.State.{State}
use Rattle.tcp_state.specs.declared.state.State.TheVariants.{Closed, SynSent, SynReceived, Established, FinWait1, FinWait2, CloseWait}
use Rattle.tcp_state.specs.declared.resend.TheConstants.{MOST_EXPIRIES}
use Rattle.tcp_halves.specs.Stream.{outstanding}
use Rattle.tcp_state.specs.View.{View, IsSound, is_opening, is_syn_sent, is_closed, awaits_fin_ack, is_at_end}
use Rattle.tcp_state.specs.Alive.{may_rest, after_silence}
use Rattle.tcp_state.specs.Timing.{KeepsTime, probes, retransmits, is_silent_for_good, gives_up}
use Rattle.tcp_state.specs.Arrival.{is_receiving, after_ack, after_window, after_text, ends_by_reset, reset_error, after_heard}
use Rattle.tcp_state.specs.Due.{first_due}
use Rattle.tcp_state.specs.Unreachable.{is_unreachable}
use Rattle.tcp_state.specs.Hop.{hop_wait, end_of_hop_wait, unheard_until}
use Rattle.tcp_state.specs.Edges.{Event, Hears, after_event, is_reset_by, is_error_of, is_timeout, may_raise}
use Rattle.tcp_state.proofs.Clocked.{timers_keep, emission_keeps}
use Rattle.tcp_halves.proofs.Choices.{either, by, clash, and_left, and_false, both, of_false, and_not}
use Rattle.tcp_state.proofs.Segments.{by_fin, by_ack, by_hearing}
use Rattle.tcp_state.proofs.Deadlines.{busy}
use Rattle.tcp_state.proofs.Events.{by_event}
use Rattle.tcp_state.proofs.Unchanged.{closed_plain, closed_holds}
use Rattle.tcp_state.proofs.Awaited.{awaits_nothing}

-- an error about our SYN refuses a connection in SYN-SENT, and nothing else
waiting_where : (v : View) (number : ℕ) → is_unreachable v number ≡ true → is_syn_sent v.state ≡ true
waiting_where v number hit = and_left (is_syn_sent v.state) (not (outstanding v.sending == 0)) (and_left (is_syn_sent v.state && not (outstanding v.sending == 0)) (v.sending.una == number) hit)

opening_refused : (t : State) (error : Refusal) → is_syn_sent t ≡ true → ◌≡◌ {A = Option Refusal} (Some ECONNREFUSED) (Some error) → is_error_of t error ≡ true
opening_refused SynSent ECONNREFUSED e f = refl
opening_refused SynSent _ e f = cc
opening_refused _ error e f = cc

opens_alive : (t : State) → is_syn_sent t ≡ true → is_closed t ≡ false
opens_alive SynSent e = refl
opens_alive _ e = cc

-- each error has its states
error_of : (t : State) (error : Refusal) → reset_error t ≡ Some error → is_error_of t error ≡ true
error_of SynSent ECONNREFUSED e = refl
error_of SynReceived ECONNREFUSED e = refl
error_of Established ECONNRESET e = refl
error_of FinWait1 ECONNRESET e = refl
error_of FinWait2 ECONNRESET e = refl
error_of CloseWait ECONNRESET e = refl
error_of _ _ e = cc

timed_out : (error : Refusal) → ◌≡◌ {A = Option Refusal} (Some ETIMEDOUT) (Some error) → is_timeout error ≡ true
timed_out ETIMEDOUT e = refl
timed_out _ e = cc

closed_by_told : (v : View) → IsSound v → is_some v.pending_error ≡ true → is_closed v.state ≡ true
closed_by_told v sound some = and_not (is_some v.pending_error) (is_closed v.state) sound.error some

-- What is CLOSED has no timer that counts, and asks nobody.

none_come : (deadline : Option Moment) (now : Moment) → is_some deadline ≡ false → has_come deadline now ≡ false
none_come None now e = refl
none_come (Some moment) now e = cc

rests_never : (t : State) → is_closed t ≡ true → may_rest t ≡ false
rests_never Closed e = refl
rests_never _ e = cc

lives_on : (v : View) (now : Moment) → IsSound v → KeepsTime v → is_closed v.state ≡ true → gives_up v now ≡ false
lives_on v now sound keeps closed =
    let fin = closed_plain v.state closed in
    let none = closed_holds v sound closed in
    let tested = not (is_opening v.state) && (v.sending.window == 0) in
    let silent : probes v ≡ false = ap (λ n. tested && (not (n == 0) || awaits_fin_ack v.state)) none.0 ∙ (ap (λ b. tested && b) fin.1 ∙ and_false tested) in
    let at_rest : retransmits v ≡ false = ap (λ n. nat_lt 0 n && not (probes v)) none.1 in
    let no_silence = busy v now (ap (λ b. b && (length v.sending.held == 0)) (rests_never v.state closed)) in
    ap (λ b. ((b || has_come v.timers.probe now) && nat_le MOST_EXPIRIES v.resend.expiries) || is_silent_for_good v now) (none_come v.timers.retransmission now (keeps.retransmission ∙ at_rest))
    ∙ ap (λ b. (b && nat_le MOST_EXPIRIES v.resend.expiries) || is_silent_for_good v now) (none_come v.timers.probe now (keeps.probe ∙ silent))
    ∙ ap (λ b. b && nat_le MOST_EXPIRIES v.alive.unanswered) no_silence

-- what an event tells: what was told, or an error that it may raise, in a connection that is not CLOSED
record Raises (v : View) (e : Event) (told : Option Refusal) : Type 0 where
  pub lives : IsSound v → KeepsTime v → is_closed v.state ≡ false
  pub allowed : (error : Refusal) → told ≡ Some error → may_raise v e error ≡ true

abbrev Tells : View → Event → View → Type 0
Tells v e w = (w.pending_error ≡ v.pending_error) ⊎ Raises v e w.pending_error

open_where_lives : (v : View) (now : Moment) → IsSound v → KeepsTime v → gives_up v now ≡ true → is_closed v.state ≡ false
open_where_lives v now sound keeps expired = by (is_closed v.state ≡ false) (is_closed v.state) (λ closed. clash (gives_up v now) expired (lives_on v now sound keeps closed)) (λ lives. lives)

-- what is CLOSED waits for no hop
pub waits_open : (v : View) → IsSound v → KeepsTime v → is_some v.unheard ≡ true → is_closed v.state ≡ false
waits_open v sound keeps waits = by (is_closed v.state ≡ false) (is_closed v.state)
    (λ closed.
    let plain = closed_plain v.state closed in
    clash (is_some v.unheard) waits (keeps.unheard ∙ awaits_nothing v plain.0 (closed_holds v sound closed).0 plain.1))
    (λ lives. lives)

waited : (since : Option Moment) (wait : ℕ) (now : Moment) → has_come (end_of_hop_wait since wait) now ≡ true → is_some since ≡ true
waited None wait now e = cc
waited (Some since) wait now e = refl

-- a segment tells by a reset that acts
heard_tells : (v : View) (s : Segment) (now : Moment) → Tells v (Hears s now) (after_heard v s)
heard_tells v s now =
    let P : View → Type 0 = Tells v (Hears s now) in
    let stays = not (ends_by_reset v s) in
    let acked = by_ack (λ w. w.pending_error ≡ v.pending_error) v s.acknowledgement (record { old = refl; beyond = refl; opens = λ received new. refl; octets = λ new. refl; fin = λ new fin. refl }) in
    let told = after_window (after_ack v s.acknowledgement) s in
    let text : P (after_text told s) = either View P ((length s.octets == 0) || not (is_receiving told.state)) told _ (λ none. inl acked) (λ some. inl acked) in
    by_hearing P v s (inl acked) (record {
      dropped = inl refl;
      drawn = inl refl;
      reset = λ r. inr (record {
        lives = λ sound keeps. r.lives;
        allowed = λ error tells. both (is_reset_by v s && stays) (is_error_of v.state error) (both (is_reset_by v s) stays r.acts (of_false (ends_by_reset v s) r.stays)) (error_of v.state error tells);
      });
      crossed = λ waits. inl refl;
      opened = λ waits right. inl refl;
      acknowledged = λ taken. inl acked;
      read = λ on. by_fin P (after_text told s) s (λ counts. text) text text;
    })

tells : (v : View) (e : Event) → Tells v e (after_event v e)
tells v = by_event (Tells v) v (record {
  same = λ e. inl refl;
  asks = λ e alive. inl refl;
  silent = λ now. inl refl;
  heard = λ s now lives. heard_tells v s now;
  over = λ now ends. inl refl;
  given_up = λ now waits expired. inr (record {
    lives = λ sound keeps. open_where_lives v now sound keeps expired;
    allowed = λ error told. both (not (is_at_end v now) && gives_up v now) (is_timeout error) (both (not (is_at_end v now)) (gives_up v now) (of_false (is_at_end v now) waits) expired) (timed_out error told);
  });
  acts = λ now. inl (ap (λ (w : View). w.pending_error) (timers_keep (after_silence v now) now));
  emits = λ now. inl (ap (λ (w : View). w.pending_error) (emission_keeps v (first_due v) now));
  sends = λ octets taken now opened. inl refl;
  reads = λ len. inl refl;
  shuts = λ now. inl refl;
  delays = λ on now. inl refl;
  leaves = λ now lives. inl refl;
  aborts = λ e now at cause lives. inl refl;
  refused = λ number hit. let waits = waiting_where v number hit in inr (record {
    lives = λ sound keeps. opens_alive v.state waits;
    allowed = λ error told. both (is_unreachable v number) (is_error_of v.state error) hit (opening_refused v.state error waits told);
  });
  hopless = λ now over. inr (record {
    lives = λ sound keeps. waits_open v sound keeps (waited v.unheard (hop_wait v) now over);
    allowed = λ error told. both (has_come (unheard_until v) now) (is_timeout error) over (timed_out error told);
  });
})

pub errors_caused : (v : View) (e : Event) (error : Refusal) → (after_event v e).pending_error ≡ Some error → (v.pending_error ≡ Some error) ⊎ (may_raise v e error ≡ true)
errors_caused v e error told = elim (tells v e) [ inl same ↦ inl (sym same ∙ told) | inr raises ↦ inr (raises.allowed error told) ]

pub errors_kept : (v : View) (e : Event) → IsSound v → KeepsTime v → is_some v.pending_error ≡ true → (after_event v e).pending_error ≡ v.pending_error
errors_kept v e sound keeps some = elim (tells v e) [ inl same ↦ same | inr raises ↦ clash (is_closed v.state) (closed_by_told v sound some) (raises.lives sound keeps) ]
