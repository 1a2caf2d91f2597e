-- From when a connection's wait for its end is counted, and when it is over.
use Rattle.std.proofs.Common.{◌≡◌, ◌≢◌, ℕ, ◌+◌, ◌-◌, ◌%◌, ◌^◌, ◌≤◌, ◌==◌, ◌&&◌, ◌||◌, ◌⊎◌, ◌↔◌, not, nat_lt, nat_le, max, min, if◌then◌else◌, Bool, true, false, length, [], Option, Some, None, is_some, inl, inr, arith, refl, sym, ◌∙◌, ap, ap₂, subst}
use Rattle.std.proofs.lemmas.Bool.{eqb-true, eq-eqb, le-leb, lt-leb}
use Rattle.std.proofs.lemmas.Bool.Decides.{leb_tells}
use Rattle.tcp_segment.specs.Segment.{Segment, span_of}
use Rattle.clock.specs.declared.moment.Moment.{Moment}
use Rattle.clock.specs.Moments.{after, has_come}
use Rattle.retransmit.specs.Deadlines.{next_of}
use Rattle.tcp_state.specs.declared.calls.Refusal.TheVariants.{ETIMEDOUT}
use Rattle.tcp_state.specs.declared.connection.Fate.TheVariants.{Stays, Removed}
use Rattle.tcp_state.specs.declared.state.State.{State}
use Rattle.tcp_state.specs.declared.state.State.TheVariants.{Closed, Established, CloseWait, FinWait2, TimeWait}
use Rattle.tcp_halves.specs.Stream.{outstanding}
use Rattle.tcp_halves.proofs.Choices.{either, by, clash, and_left, and_right, and_false, both, not_true, of_false}
use Rattle.tcp_state.specs.View.{View, IsSound, is_opening, is_syn_sent, is_syn_received, is_closed, is_fin_wait_2, is_time_wait, is_write_finished, awaits_fin_ack, takes_flag_number, end_of_wait, is_at_end, after_stop, after_reset}
use Rattle.tcp_state.specs.Alive.{IsPatient, after_silence, end_of_silence, is_silent, may_rest, rests}
use Rattle.tcp_state.specs.Timing.{KeepsTime, probes, retransmits, expires_for_good, is_silent_for_good, gives_up, after_timers, clocked, after_expiries, after_tick}
use Rattle.tcp_state.specs.Calls.{beyond_shutdown, is_removed_by_close, is_aborted_by_close, aborted_at, after_release, latest}
use Rattle.tcp_state.specs.Arrival.{is_acceptable_to, is_receiving, after_ack, after_window, after_text, after_fin, after_heard, begins_wait, repeats_fin, before, timed_by}
use Rattle.tcp_state.specs.Due.{first_due}
use Rattle.tcp_state.specs.Edges.{Event, Hears, Ticks, Closes, moment_of, after_event, fate_by}
use Rattle.tcp_state.specs.Counted.{WaitsForEnd, BringsFinAgain}
use Rattle.tcp_state.proofs.Clocked.{timers_keep, emission_keeps, starts_none, comes_to}
use Rattle.tcp_state.proofs.Deadlines.{busy}
use Rattle.tcp_state.proofs.Edges.{emitted-state}
use Rattle.tcp_state.proofs.Segments.{by_fin, by_ack, by_hearing, not_rejected}
use Rattle.tcp_state.proofs.Events.{by_event}
use Rattle.tcp_state.proofs.ResetErrors.{none_pending}

-- A wait begins.

never_waits : {C : Type 0} → WaitsForEnd Closed → C
never_waits waits = elim waits [ inl e ↦ cc | inr e ↦ cc ]

starts : (t u : State) → WaitsForEnd u → t ≢ u → begins_wait t u ≡ true
starts TimeWait TimeWait waits apart = absurd (apart refl)
starts FinWait2 FinWait2 waits apart = absurd (apart refl)
starts _ TimeWait waits apart = refl
starts _ FinWait2 waits apart = refl
starts t _ waits apart = elim waits [ inl e ↦ cc | inr e ↦ cc ]

-- no call leads to one
shut_waits : {C : Type 0} → (t : State) → WaitsForEnd (beyond_shutdown t) → t ≢ beyond_shutdown t → C
shut_waits Established waits apart = elim waits [ inl e ↦ cc | inr e ↦ cc ]
shut_waits CloseWait waits apart = elim waits [ inl e ↦ cc | inr e ↦ cc ]
shut_waits _ waits apart = absurd (apart refl)

begun : (v w : View) (s : Segment) (now : Moment) → WaitsForEnd w.state → v.state ≢ w.state → (timed_by (before v s) w now).since ≡ now
begun v w s now waits apart =
    ap (λ b. if b then now else w.since) (by_second (repeats_fin v s) (begins_wait v.state w.state) (w.owes_reset && not v.owes_reset) (starts v.state w.state waits apart))
  where
    by_second : (a b c : Bool) → b ≡ true → (a || b || c) ≡ true
    by_second true b c e = refl
    by_second false true c e = refl
    by_second false false c e = cc

pub begins_with_event : (v : View) (e : Event) → WaitsForEnd (after_event v e).state → v.state ≢ (after_event v e).state → moment_of e ≡ Some (after_event v e).since
begins_with_event v e = by_event (λ e w. WaitsForEnd w.state → v.state ≢ w.state → moment_of e ≡ Some w.since) v (record {
  same = λ e waits apart. absurd (apart refl);
  asks = λ e alive waits apart. absurd (apart refl);
  silent = λ now waits apart. absurd (apart refl);
  heard = λ s now lives waits apart. ap Some (sym (begun v (after_heard v s) s now waits apart));
  over = λ now ends waits apart. never_waits waits;
  given_up = λ now going expired waits apart. never_waits waits;
  acts = λ now waits apart. absurd (apart (sym (ap (λ (w : View). w.state) (timers_keep (after_silence v now) now))));
  emits = λ now waits apart. absurd (apart (sym (emitted-state v (first_due v) now)));
  sends = λ octets taken now opened waits apart. absurd (apart refl);
  reads = λ len waits apart. absurd (apart refl);
  shuts = λ now waits apart. shut_waits v.state waits apart;
  delays = λ on now waits apart. absurd (apart refl);
  leaves = λ now lives waits apart. shut_waits v.state waits apart;
  aborts = λ e now at cause lives waits apart. never_waits waits;
  refused = λ number hit waits apart. never_waits waits;
  hopless = λ now over waits apart. never_waits waits;
}) e

-- It goes on.

-- a segment alone moves no moment, and makes no reset owed of what goes on
goes_on_heard : (v : View) (s : Segment) → is_closed (after_heard v s).state ≡ false → ((after_heard v s).since ≡ v.since) × ((after_heard v s).owes_reset ≡ v.owes_reset)
goes_on_heard v s =
    let S : View → Type 0 = λ w. (w.since ≡ v.since) × (w.owes_reset ≡ v.owes_reset) in
    let P : View → Type 0 = λ w. is_closed w.state ≡ false → S w in
    let acked : S (after_ack v s.acknowledgement) = by_ack S v s.acknowledgement (record { old = (refl, refl); beyond = (refl, refl); opens = λ received new. (refl, refl); octets = λ new. (refl, refl); fin = λ new fin. (refl, refl) }) in
    let told = after_window (after_ack v s.acknowledgement) s in
    let text : S (after_text told s) = either View S ((length s.octets == 0) || not (is_receiving told.state)) told _ (λ none. acked) (λ some. acked) in
    let read : S (after_fin (after_text told s) s) = by_fin S (after_text told s) s (λ counts. text) text text in
    by_hearing P v s (λ lives. cc) (record {
      dropped = λ lives. (refl, refl);
      drawn = λ lives. (refl, refl);
      reset = λ r lives. cc;
      crossed = λ waits lives. (refl, refl);
      opened = λ waits right lives. (refl, refl);
      acknowledged = λ taken lives. acked;
      read = λ on lives. read;
    })

open_still : (t : State) → WaitsForEnd t → is_closed t ≡ false
open_still Closed waits = never_waits waits
open_still _ waits = refl

-- where the state stays, only the peer's FIN again moves it
same_moment : (v : View) (s : Segment) (now : Moment) → WaitsForEnd v.state → (after_heard v s).state ≡ v.state → repeats_fin v s ≡ false → (timed_by (before v s) (after_heard v s) now).since ≡ v.since
same_moment v s now waits stays new =
    let w = after_heard v s in
    let kept = goes_on_heard v s (ap is_closed stays ∙ open_still v.state waits) in
    let none : (repeats_fin v s || begins_wait v.state w.state || (w.owes_reset && not v.owes_reset)) ≡ false =
    ap (λ b. b || begins_wait v.state w.state || (w.owes_reset && not v.owes_reset)) new ∙ (ap₂ (λ t o. begins_wait v.state t || (o && not v.owes_reset)) stays kept.1 ∙ starts_none v) in
    ap (λ b. if b then now else w.since) none ∙ kept.0

fin_again : (v : View) (s : Segment) → repeats_fin v s ≡ true → BringsFinAgain v s
fin_again v s e =
    let waits = is_time_wait v.state in
    let old = not (is_acceptable_to v s) in
    let three = and_left (waits && not s.flags.rst && old && s.flags.fin) ((s.number + span_of s) % 2 ^ 32 == v.receiving.rnext) e in
    let two = and_left (waits && not s.flags.rst && old) s.flags.fin three in
    let one = and_left (waits && not s.flags.rst) old two in
    record {
      no_rst = not_true s.flags.rst (and_right waits (not s.flags.rst) one);
      old = not_true (is_acceptable_to v s) (and_right (waits && not s.flags.rst) old two);
      fin = and_right (waits && not s.flags.rst && old) s.flags.fin three;
      last = eqb-true ((s.number + span_of s) % 2 ^ 32) v.receiving.rnext (and_right (waits && not s.flags.rst && old && s.flags.fin) ((s.number + span_of s) % 2 ^ 32 == v.receiving.rnext) e);
    }

is_repeated : (v : View) (s : Segment) → v.state ≡ TimeWait → BringsFinAgain v s → repeats_fin v s ≡ true
is_repeated v s waits again =
    let old = not (is_acceptable_to v s) in
    let first = ap is_time_wait waits in
    let one = both (is_time_wait v.state) (not s.flags.rst) first (of_false s.flags.rst again.no_rst) in
    let two = both (is_time_wait v.state && not s.flags.rst) old one (of_false (is_acceptable_to v s) again.old) in
    let three = both (is_time_wait v.state && not s.flags.rst && old) s.flags.fin two again.fin in
    both (is_time_wait v.state && not s.flags.rst && old && s.flags.fin) ((s.number + span_of s) % 2 ^ 32 == v.receiving.rnext) three (eq-eqb ((s.number + span_of s) % 2 ^ 32) v.receiving.rnext again.last)

pub begins_anew : (v : View) (s : Segment) (now : Moment) → v.state ≡ TimeWait → BringsFinAgain v s → (after_event v (Hears s now)).since ≡ now
begins_anew v s now waits again =
    let w = after_heard v s in
    ap (λ (x : View). x.since) (comes_to v s now (ap is_closed waits) (not_rejected v s (ap is_syn_sent waits) (ap is_syn_received waits)))
    ∙ ap (λ b. if b || begins_wait v.state w.state || (w.owes_reset && not v.owes_reset) then now else w.since) (is_repeated v s waits again)

-- only the peer's FIN again, or the caller's leaving, may move it
abbrev Moves : View → Event → View → Type 0
Moves v e w = w.state ≡ v.state → (w.since ≡ v.since)
    ⊎ (((s : Segment) × (now : Moment) × (e ≡ Hears s now) × (is_time_wait v.state ≡ true) × BringsFinAgain v s) ⊎ ((now : Moment) × (e ≡ Closes now) × (is_fin_wait_2 v.state ≡ true)))

closed_apart : {C : Type 0} → (t : State) → WaitsForEnd t → Closed ≡ t → C
closed_apart Closed waits e = never_waits waits
closed_apart _ waits e = cc

moves : (v : View) (e : Event) → WaitsForEnd v.state → Moves v e (after_event v e)
moves v e waits = by_event (λ e w. Moves v e w) v (record {
  same = λ e stays. inl refl;
  asks = λ e alive stays. inl refl;
  silent = λ now stays. inl refl;
  heard = λ s now lives stays. by (Still s now) (repeats_fin v s)
      (λ again. inr (inl (s, now, refl, in_time_wait s again, fin_again v s again)))
      (λ new. inl (same_moment v s now waits stays new));
  over = λ now ends stays. closed_apart v.state waits stays;
  given_up = λ now going expired stays. closed_apart v.state waits stays;
  acts = λ now stays. inl (ap (λ (w : View). w.since) (timers_keep (after_silence v now) now));
  emits = λ now stays. inl (ap (λ (w : View). w.since) (emission_keeps v (first_due v) now));
  sends = λ octets taken now opened stays. inl refl;
  reads = λ len stays. inl refl;
  shuts = λ now stays. inl refl;
  delays = λ on now stays. inl refl;
  leaves = λ now lives stays. by (Moves v (Closes now) (after_release v now)) (is_fin_wait_2 v.state)
      (λ half same. inr (inr (now, refl, half))) (λ other same. inl (ap (λ b. if b then latest v.since now else v.since) other)) stays;
  aborts = λ e now at cause lives stays. closed_apart v.state waits stays;
  refused = λ number hit stays. closed_apart v.state waits stays;
  hopless = λ now over stays. closed_apart v.state waits stays;
}) e
  where
    Still : Segment → Moment → Type 0
    Still s now = ((timed_by (before v s) (after_heard v s) now).since ≡ v.since)
        ⊎ (((s' : Segment) × (now' : Moment) × (Hears s now ≡ Hears s' now') × (is_time_wait v.state ≡ true) × BringsFinAgain v s') ⊎ ((now' : Moment) × (Hears s now ≡ Closes now') × (is_fin_wait_2 v.state ≡ true)))

    in_time_wait : (s : Segment) → repeats_fin v s ≡ true → is_time_wait v.state ≡ true
    in_time_wait s again =
        let waits = is_time_wait v.state in
        let old = not (is_acceptable_to v s) in
        and_left waits (not s.flags.rst) (and_left (waits && not s.flags.rst) old (and_left (waits && not s.flags.rst && old) s.flags.fin (and_left (waits && not s.flags.rst && old && s.flags.fin) _ again)))

pub stays_in_time_wait : (v : View) (e : Event) → v.state ≡ TimeWait → (after_event v e).state ≡ TimeWait
    → ((after_event v e).since ≡ v.since) ⊎ ((s : Segment) × (now : Moment) × (e ≡ Hears s now) × BringsFinAgain v s)
stays_in_time_wait v e waits still = elim (moves v e (inl waits) (still ∙ sym waits)) [
  | inl same ↦ inl same
  | inr (inl again) ↦ inr (again.0, again.1, again.2, again.4)
  | inr (inr left) ↦ clash (is_fin_wait_2 v.state) left.2 (ap is_fin_wait_2 waits)
]

pub stays_in_fin_wait_2 : (v : View) (e : Event) → v.state ≡ FinWait2 → (after_event v e).state ≡ FinWait2 → ((after_event v e).since ≡ v.since) ⊎ ((now : Moment) × (e ≡ Closes now))
stays_in_fin_wait_2 v e half still = elim (moves v e (inr half) (still ∙ sym half)) [
  | inl same ↦ inl same
  | inr (inl again) ↦ clash (is_time_wait v.state) again.3 (ap is_time_wait half)
  | inr (inr left) ↦ inr (left.0, left.1)
]

pub closed_in_fin_wait_2 : (v : View) (now : Moment) → v.state ≡ FinWait2 → v.receiving.readable ≡ []
    → ((after_event v (Closes now)).state ≡ FinWait2) × ((after_event v (Closes now)).released ≡ true) × ((after_event v (Closes now)).since.0 ≡ max v.since.0 now.0)
closed_in_fin_wait_2 v now half empty =
    let none_removed : is_removed_by_close v ≡ false = ap (λ t. is_closed t || is_syn_sent t) half in
    let none_aborted : is_aborted_by_close v ≡ false = ap₂ (λ t l. is_syn_received t || not (length l == 0)) half empty in
    let released : after_event v (Closes now) ≡ after_release v now =
    ap (λ b. if b then v else if is_aborted_by_close v then aborted_at v now else after_release v now) none_removed ∙ ap (λ b. if b then aborted_at v now else after_release v now) none_aborted in (
      ap (λ (w : View). w.state) released ∙ ap beyond_shutdown half,
      ap (λ (w : View). w.released) released,
      ap (λ (w : View). w.since.0) released ∙ ap (λ b. let m = if b then latest v.since now else v.since in m.0) (ap is_fin_wait_2 half),
    )

-- Its end.

plain : (t : State) → WaitsForEnd t → (is_opening t ≡ false) × (awaits_fin_ack t ≡ false) × (is_write_finished t ≡ true) × (takes_flag_number t ≡ false)
plain TimeWait waits = (refl, refl, refl, refl)
plain FinWait2 waits = (refl, refl, refl, refl)
plain _ waits = elim waits [ inl e ↦ cc | inr e ↦ cc ]

none_come : (deadline : Option Moment) (now : Moment) → is_some deadline ≡ false → has_come deadline now ≡ false
none_come None now e = refl
none_come (Some moment) now e = cc

-- nothing is outstanding or unsent, so that no timer expires
never_expires : (v : View) (now : Moment) → IsSound v → KeepsTime v → WaitsForEnd v.state → expires_for_good v now ≡ false
never_expires v now sound keeps waits =
    let p = plain v.state waits in
    let held : length v.sending.held ≤ 0 = subst (λ b. length v.sending.held ≤ (if b then 0 else v.sending.size)) (ap (λ b. b || is_write_finished v.state) p.0 ∙ p.2) sound.held in
    let flight : outstanding v.sending ≤ length v.sending.held + 0 = subst (λ b. outstanding v.sending ≤ length v.sending.held + (if b then 1 else 0)) p.3 sound.flight in
    let empty : length v.sending.held ≡ 0 = omega (arith, held) in
    let none : outstanding v.sending ≡ 0 = omega (arith, held, flight) in
    let unprobed : probes v ≡ false =
    ap (λ n. not (is_opening v.state) && (v.sending.window == 0) && (not (n == 0) || awaits_fin_ack v.state)) empty
    ∙ (ap (λ b. not (is_opening v.state) && (v.sending.window == 0) && b) p.1 ∙ and_false (not (is_opening v.state) && (v.sending.window == 0))) in
    let resends : retransmits v ≡ false = ap (λ n. nat_lt 0 n && not (probes v)) none in
    ap₂ (λ a b. (a || b) && nat_le 12 v.resend.expiries) (none_come v.timers.retransmission now (keeps.retransmission ∙ resends)) (none_come v.timers.probe now (keeps.probe ∙ unprobed))

never_gives_up : (v : View) (now : Moment) → IsSound v → KeepsTime v → WaitsForEnd v.state → is_silent_for_good v now ≡ false → gives_up v now ≡ false
never_gives_up v now sound keeps waits asked = ap₂ (λ a b. a || b) (never_expires v now sound keeps waits) asked

-- in TIME-WAIT nobody is asked
asks_nobody : (v : View) (now : Moment) → v.state ≡ TimeWait → is_silent_for_good v now ≡ false
asks_nobody v now waits = ap (λ b. b && nat_le 12 v.alive.unanswered) (busy v now (ap (λ t. may_rest t && (length v.sending.held == 0)) waits))

-- .. and no silence ends it where no peer is asked, or it was fewer than twelve times
pub asked_few : (v : View) (now : Moment) → IsPatient v → is_silent_for_good v now ≡ false
asked_few v now patient = elim patient [
  | inl none ↦ ap (λ b. b && nat_le 12 v.alive.unanswered) (by (is_silent v now ≡ false) (rests v)
      (λ quiet. ap (λ b. has_come (if b then end_of_silence v.alive.every v.alive else None) now) quiet ∙ ap (λ o. has_come (end_of_silence o v.alive) now) none) (busy v now))
  | inr few ↦ ap (λ b. is_silent v now && b) (lt-leb 12 v.alive.unanswered few) ∙ and_false (is_silent v now)
]

-- a tick before the end leaves the state and the error
ticked_on : (v : View) (now : Moment) → is_at_end v now ≡ false → gives_up v now ≡ false → ((after_tick v now).state ≡ v.state) × ((after_tick v now).pending_error ≡ v.pending_error)
ticked_on v now early lives =
    let P : View → Type 0 = λ w. (w.state ≡ v.state) × (w.pending_error ≡ v.pending_error) in
    let quiet = after_silence v now in
    either View P (is_at_end v now) (after_stop v) _ (λ ends. clash (is_at_end v now) ends early)
    (λ waits. either View P (gives_up v now) (after_reset v (Some ETIMEDOUT)) _ (λ gives. clash (gives_up v now) gives lives)
    (λ going. either View P (has_come (next_of v.timers) now) (clocked false (after_timers quiet now) now) quiet
    (λ acts. (ap (λ (w : View). w.state) (timers_keep quiet now), ap (λ (w : View). w.pending_error) (timers_keep quiet now))) (λ rests. (refl, refl))))

ended : (v : View) (now : Moment) → is_at_end v now ≡ true → after_tick v now ≡ after_stop v
ended v now ends = ap (λ b. if b then after_stop v else if gives_up v now then after_reset v (Some ETIMEDOUT) else after_expiries (after_silence v now) now) ends

-- exactly at its end
at_end : (v : View) (now : Moment) (end : ℕ) → WaitsForEnd v.state → gives_up v now ≡ false → is_at_end v now ≡ nat_le end now.0 → ((after_tick v now).state ≡ Closed) ↔ (end ≤ now.0)
at_end v now end waits lives is = (
  (λ closed. elim (leb_tells end now.0) [
    | inl comes ↦ comes.1
    | inr early ↦ closed_apart v.state waits (sym closed ∙ (ticked_on v now (is ∙ early.0) lives).0)
  ]),
  (λ comes. ap (λ (w : View). w.state) (ended v now (is ∙ le-leb end now.0 comes))),
)

pub time_wait_ends : (v : View) (now : Moment) → IsSound v → KeepsTime v → v.state ≡ TimeWait → ((after_event v (Ticks now)).state ≡ Closed) ↔ ((after v.since 240000).0 ≤ now.0)
time_wait_ends v now sound keeps waits = at_end v now (min (v.since.0 + 240000) (2 ^ 64 - 1)) (inl waits) (never_gives_up v now sound keeps (inl waits) (asks_nobody v now waits)) (ap (λ t. has_come (end_of_wait t v.released v.since) now) waits)

pub fin_wait_2_ends : (v : View) (now : Moment) → IsSound v → KeepsTime v → v.state ≡ FinWait2 → v.released ≡ true → IsPatient v
    → ((after_event v (Ticks now)).state ≡ Closed) ↔ ((after v.since 60000).0 ≤ now.0)
fin_wait_2_ends v now sound keeps half left few = at_end v now (min (v.since.0 + 60000) (2 ^ 64 - 1)) (inr half) (never_gives_up v now sound keeps (inr half) (asked_few v now few)) (ap₂ (λ t b. has_come (end_of_wait t b v.since) now) half left)

pub fin_wait_2_goes_on : (v : View) (now : Moment) → IsSound v → KeepsTime v → v.state ≡ FinWait2 → v.released ≡ false → IsPatient v → (after_event v (Ticks now)).state ≡ FinWait2
fin_wait_2_goes_on v now sound keeps half reads few =
    (ticked_on v now (ap₂ (λ t b. has_come (end_of_wait t b v.since) now) half reads) (never_gives_up v now sound keeps (inr half) (asked_few v now few))).0 ∙ half

pub ends_in_silence : (v : View) (now : Moment) → IsSound v → KeepsTime v → WaitsForEnd v.state → IsPatient v → (after_event v (Ticks now)).pending_error ≡ None
ends_in_silence v now sound keeps waits few =
    let none = none_pending v.pending_error (is_closed v.state) (open_still v.state waits) sound.error in
    by ((after_tick v now).pending_error ≡ None) (is_at_end v now)
    (λ ends. ap (λ (w : View). w.pending_error) (ended v now ends) ∙ none)
    (λ early. (ticked_on v now early (never_gives_up v now sound keeps waits (asked_few v now few))).1 ∙ none)

pub left_is_removed : (v : View) (now : Moment) → IsSound v → KeepsTime v → WaitsForEnd v.state → v.released ≡ true → (after_event v (Ticks now)).state ≡ Closed → fate_by v (Ticks now) ≡ Removed
left_is_removed v now sound keeps waits left closed =
    by (fate_by v (Ticks now) ≡ Removed) (is_at_end v now)
    (λ ends. ap (λ b. if b then (if v.released then Removed else Stays) else if gives_up v now then (if v.released || (v.passive && is_syn_received v.state) then Removed else Stays) else Stays) ends ∙ ap (λ b. if b then Removed else Stays) left)
    (λ early. by (fate_by v (Ticks now) ≡ Removed) (gives_up v now)
    (λ gives.
    ap (λ b. if b then (if v.released then Removed else Stays) else if gives_up v now then (if v.released || (v.passive && is_syn_received v.state) then Removed else Stays) else Stays) early
    ∙ (ap (λ b. if b then (if v.released || (v.passive && is_syn_received v.state) then Removed else Stays) else Stays) gives ∙ ap (λ b. if b || (v.passive && is_syn_received v.state) then Removed else Stays) left))
    (λ lives. closed_apart v.state waits (sym closed ∙ (ticked_on v now early lives).0)))
