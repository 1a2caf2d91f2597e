-- Why the timers run exactly where something waits for them.
use Rattle.std.proofs.Common.{◌≡◌, ℕ, ◌^◌, ◌<◌, ◌==◌, ◌&&◌, ◌||◌, not, nat_lt, if◌then◌else◌, Bool, true, false, length, Option, Some, None, is_some, arith, refl, sym, ◌∙◌, ap, subst}
use Rattle.std.proofs.lemmas.Bool.{ltb-true}
use Rattle.std.proofs.lemmas.List.{length-drop}
use Rattle.ipv4.specs.declared.addr.Endpoint.{Endpoint}
use Rattle.tcp_segment.specs.Segment.{Segment}
use Rattle.tcp_segment.specs.Wire.{past}
use Rattle.clock.specs.declared.moment.Moment.{Moment}
use Rattle.clock.specs.Moments.{has_come}
use Rattle.retransmit.specs.Deadlines.{no_timers}
use Rattle.tcp_state.specs.Selective.{allowance}
use Rattle.tcp_state.specs.declared.calls.Refusal.{Refusal}
use Rattle.tcp_state.specs.declared.calls.Refusal.TheVariants.{ECONNREFUSED, ETIMEDOUT}
use Rattle.tcp_state.specs.declared.emission.Due.{Due}
use Rattle.tcp_state.specs.declared.emission.Due.TheVariants.{Rst}
use Rattle.tcp_state.specs.declared.state.State.{State}
use Rattle.tcp_state.specs.declared.state.State.TheVariants.{Closed, Established, CloseWait}
use Rattle.tcp_state.specs.declared.timing.TheConstants.{DELAYED_ACK_WAIT, OVERRIDE_WAIT}
use Rattle.tcp_halves.specs.Halves.{Room, Sending}
use Rattle.tcp_halves.specs.Stream.{outstanding}
use Rattle.tcp_halves.specs.Windows.{sendable, is_worth_sending, updates_window}
use Rattle.tcp_state.specs.View.{View, IsSound, is_opening, is_closed, is_fin_wait_2, awaits_fin_ack, is_write_closed, after_stop, opened_actively}
use Rattle.tcp_state.specs.Timing.{KeepsTime, probes, retransmits, awaits_second, awaits_more, running, waiting_since, awaits_first, clocked, after_expiry, delayed_ack_expired, after_timers}
use Rattle.tcp_state.specs.Calls.{told_nodelay, beyond_shutdown, latest}
use Rattle.tcp_state.specs.Alive.{after_silence}
use Rattle.tcp_state.specs.Arrival.{opened_passively, is_receiving, beyond_end, after_ack, after_window, after_text, after_fin, after_heard, is_moved, before, noted_by}
use Rattle.tcp_state.specs.Due.{first_due, after_going_out}
use Rattle.tcp_state.specs.Edges.{Event, after_first, after_event}
use Rattle.tcp_state.proofs.Clocked.{timers_keep, emission_keeps}
use Rattle.tcp_halves.proofs.Choices.{either, by, clash, and_left, and_right, and_false}
use Rattle.tcp_state.proofs.Segments.{by_fin, by_ack, by_hearing}
use Rattle.tcp_state.proofs.Causes.{end_closes_none}
use Rattle.tcp_state.proofs.Asked.{asked_timed}
use Rattle.tcp_state.proofs.TailProbes.{silent_sound, silent_timed}
use Rattle.tcp_state.proofs.Events.{holding, shut, by_event}
use Rattle.tcp_state.proofs.Unchanged.{closed_holds, closed_owes}
use Rattle.tcp_state.specs.New.{sends_new, sends_fin, waits_no_longer}
use Rattle.tcp_state.proofs.Awaited.{awaits_nothing, stands_where, awaits_still}

-- The clock at the end of an event.

-- where all is closed, nothing is held, and no new octets wait for more
abbrev Quiet : View → Type 0
Quiet v = is_closed v.state ≡ true → (v.timers.overriding ≡ None) × (length v.sending.held ≡ 0)

-- of nothing that is held none waits
awaits_none : (v : View) → length v.sending.held ≡ 0 → awaits_more v ≡ false
awaits_none v empty =
    let none : sendable v.sending (allowance v) ≡ 0 = omega (arith, empty) in
    ap (λ n. not (is_opening v.state) && (nat_lt 0 n && not (is_worth_sending v.sending (allowance v) (waits_no_longer v)))) none ∙ and_false (not (is_opening v.state))

runs_where : (wants : Bool) (deadline : Option Moment) (now : Moment) (milliseconds : ℕ) → is_some (if wants then running deadline now milliseconds else None) ≡ wants
runs_where true None now milliseconds = refl
runs_where true (Some moment) now milliseconds = refl
runs_where false deadline now milliseconds = refl

runs_once : (wants : Bool) (deadline : Option Moment) (now : Moment) (milliseconds : ℕ) → wants ≡ true → is_some (if wants then running deadline now milliseconds else deadline) ≡ true
runs_once true None now milliseconds e = refl
runs_once true (Some moment) now milliseconds e = refl
runs_once false deadline now milliseconds e = cc

-- the wait is the timeout where the timer doesn't run
first_wait : (wants runs : Bool) (deadline : Option Moment) (now : Moment) (interval rto : ℕ) → is_some (if wants then running deadline now rto else None) ≡ false → (if wants && runs then interval else rto) ≡ rto
first_wait true runs deadline now interval rto e = let bad : true ≡ false = sym (runs_where true deadline now rto) ∙ e in cc
first_wait false runs deadline now interval rto e = refl

none_waits : (wants : Bool) (deadline : Option Moment) (now : Moment) (milliseconds : ℕ) → wants ≡ false → deadline ≡ None → (if wants then running deadline now milliseconds else deadline) ≡ None
none_waits true deadline now milliseconds w e = cc
none_waits false deadline now milliseconds w e = e

pub clocked_keeps : (moved : Bool) (v : View) (now : Moment) → Quiet v → KeepsTime (clocked moved v now)
clocked_keeps moved v now quiet = record {
  retransmission = runs_where (retransmits v) (if moved then None else v.timers.retransmission) now v.resend.timeout.rto;
  probe = runs_where (probes v) v.timers.probe now v.resend.timeout.rto;
  delayed_ack = runs_where (awaits_second v) v.timers.delayed_ack now DELAYED_ACK_WAIT;
  overriding = runs_once (awaits_more v) v.timers.overriding now OVERRIDE_WAIT;
  interval = first_wait (probes v) (is_some v.timers.probe) v.timers.probe now v.resend.interval v.resend.timeout.rto;
  owed = and_right v.resend.owes_probe (probes v);
  closed = λ closed. none_waits (awaits_more v) v.timers.overriding now OVERRIDE_WAIT (awaits_none v (quiet closed).1) (quiet closed).0;
  unheard = stands_where (awaits_first v) (waiting_since v.unheard now) ∙ sym (awaits_still v (outstanding v.sending == 0) (is_opening v.state || sends_new v || sends_fin v));
}

-- An end.

-- no number is outstanding, and no timer runs
pub stop_keeps : (v : View) → v.sending.nxt < 2 ^ 32 → KeepsTime (after_stop v)
stop_keeps v small =
    let none : past v.sending.nxt v.sending.nxt ≡ 0 = omega (arith, small) in
    let unprobed : probes (after_stop v) ≡ false = and_false (v.sending.window == 0) in
    record {
      retransmission = sym (ap (λ n. nat_lt 0 n && not (probes (after_stop v))) none);
      probe = sym unprobed;
      delayed_ack = refl;
      overriding = λ waits. clash (awaits_more (after_stop v)) waits (awaits_none (after_stop v) refl);
      interval = λ none_runs. refl;
      owed = λ owes. cc;
      closed = λ closed. refl;
      unheard = sym (awaits_nothing (after_stop v) refl refl refl);
    }

-- whatever is told or owed of it
ended : (v : View) (error : Option Refusal) (released owes : Bool) (since : Moment) → v.sending.nxt < 2 ^ 32
    → KeepsTime (record (after_stop v) { pending_error = error; released = released; owes_reset = owes; since = since })
ended v error released owes since small =
    let k = stop_keeps v small in
    record { retransmission = k.retransmission; probe = k.probe; delayed_ack = k.delayed_ack; overriding = k.overriding; interval = k.interval; owed = k.owed; closed = k.closed; unheard = k.unheard }

-- Segments.

fin_quiet : (w : View) (s : Segment) → Quiet w → Quiet (after_fin w s)
fin_quiet w s quiet =
    by_fin Quiet w s
    (λ counts closed. clash (is_closed (beyond_end w.state)) closed (end_closes_none w.state (and_right s.flags.fin (is_receiving w.state) (and_left (s.flags.fin && is_receiving w.state) _ counts))))
    quiet quiet

text_quiet : (w : View) (s : Segment) → Quiet w → Quiet (after_text w s)
text_quiet w s quiet = either View Quiet ((length s.octets == 0) || not (is_receiving w.state)) w _ (λ none. quiet) (λ some. quiet)

window_quiet : (w : View) (s : Segment) → Quiet w → Quiet (after_window w s)
window_quiet w s quiet = either Sending (λ t. Quiet (record w { sending = t })) (updates_window w.sending s.number s.acknowledgement) _ w.sending (λ tells. quiet) (λ none. quiet)

-- the acknowledgement of our FIN is of all that is held
ack_quiet : (v : View) (ack : ℕ) → is_closed v.state ≡ false → Quiet (after_ack v ack)
ack_quiet v ack lives =
    let none : Quiet v = λ closed. clash (is_closed v.state) closed lives in
    by_ack Quiet v ack (record {
      old = none;
      beyond = none;
      opens = λ received new closed. cc;
      octets = λ new closed. clash (is_closed v.state) closed lives;
      fin = λ new fin closed.
          let all : length v.sending.held < past ack v.sending.una = ltb-true (length v.sending.held) (past ack v.sending.una) (and_right (awaits_fin_ack v.state) _ fin) in
          (ap (λ b. let t = if b then no_timers else v.timers in t.overriding) closed, omega (arith, length-drop (past ack v.sending.una) v.sending.held, all));
    })

heard_quiet : (v : View) (s : Segment) → is_closed v.state ≡ false → Quiet (after_heard v s)
heard_quiet v s lives =
    let none : Quiet v = λ closed. clash (is_closed v.state) closed lives in
    let told = after_window (after_ack v s.acknowledgement) s in
    by_hearing Quiet v s (λ closed. (refl, refl)) (record {
      dropped = none;
      drawn = none;
      reset = λ acts. λ closed. (refl, refl);
      crossed = λ waits closed. cc;
      opened = λ waits right closed. cc;
      acknowledged = λ taken. ack_quiet v s.acknowledgement lives;
      read = λ on. fin_quiet (after_text told s) s (text_quiet told s (window_quiet (after_ack v s.acknowledgement) s (ack_quiet v s.acknowledgement lives)));
    })

-- Emissions.

-- of what is CLOSED a reset goes out alone, and nothing else closes
emission_timed : (v : View) (now : Moment) → IsSound v → KeepsTime v → KeepsTime (after_first v (first_due v) now)
emission_timed v now sound keeps =
    by (KeepsTime (after_first v (first_due v) now)) (is_closed v.state)
    (λ closed.
    let quiet : Quiet v = λ is. (keeps.closed is, (closed_holds v sound is).0) in
    subst (λ o. KeepsTime (after_first v o now)) (sym (closed_owes v sound closed))
    (either (Option Due) (λ o. KeepsTime (after_first v o now)) v.owes_reset (Some Rst) None (λ owes. clocked_keeps false (record v { owes_reset = false }) now quiet) (λ none. keeps)))
    (λ lives. lively (first_due v) lives)
  where
    lively : (o : Option Due) → is_closed v.state ≡ false → KeepsTime (after_first v o now)
    lively None lives = keeps
    lively (Some due) lives =
        let state : (after_going_out v due now).state ≡ v.state = ap (λ (w : View). w.state) (emission_keeps v (Some due) now) in
        clocked_keeps false (after_going_out v due now) now (λ closed. clash (is_closed v.state) (sym (ap is_closed state) ∙ closed) lives)

-- Ticks.

-- no timer that acts lets new octets wait again
timers_quiet : (v : View) (now : Moment) → IsSound v → KeepsTime v → Quiet (after_timers v now)
timers_quiet v now sound keeps closed =
    let kept = timers_keep v now in
    let first = after_expiry v now in
    let second = delayed_ack_expired first now in
    let was : is_closed v.state ≡ true = sym (ap (λ (w : View). is_closed w.state) kept) ∙ closed in
    let one : first.timers.overriding ≡ v.timers.overriding = either View (λ w. w.timers.overriding ≡ v.timers.overriding) (has_come v.timers.retransmission now) _ _ (λ comes. refl)
    (λ early. either View (λ w. w.timers.overriding ≡ v.timers.overriding) (has_come v.timers.probe now) _ v (λ comes. refl) (λ late. refl)) in
    let two : second.timers.overriding ≡ first.timers.overriding = either View (λ w. w.timers.overriding ≡ first.timers.overriding) (has_come first.timers.delayed_ack now) _ first (λ comes. refl) (λ early. refl) in
    let three : (after_timers v now).timers.overriding ≡ None = either View (λ w. w.timers.overriding ≡ None) (has_come second.timers.overriding now) _ second (λ comes. refl) (λ early. two ∙ one ∙ keeps.closed was) in
    (three, ap (λ (w : View). length w.sending.held) kept ∙ (closed_holds v sound was).0)

-- Every event.

shut_closes_none : (t : State) → is_closed (beyond_shutdown t) ≡ true → is_closed t ≡ true
shut_closes_none Established e = e
shut_closes_none CloseWait e = e
shut_closes_none _ e = e

open_state : (t : State) → is_write_closed t ≡ false → is_closed t ≡ false
open_state Closed e = cc
open_state _ e = refl

-- a timer that doesn't run isn't begun where it goes on or stops
pub none_left : (goes_on : Bool) (deadline : Option Moment) → deadline ≡ None → (if goes_on then deadline else None) ≡ None
none_left true deadline e = e
none_left false deadline e = refl

pub stays_timed : (v : View) (e : Event) → IsSound v → KeepsTime v → KeepsTime (after_event v e)
stays_timed v e sound keeps = by_event (λ e w. KeepsTime w) v (record {
  same = λ e. keeps;
  asks = λ e alive. asked_timed v alive keeps;
  silent = λ now. silent_timed v now keeps;
  heard = λ s now lives. let b = before v s in let w = after_heard v s in
      clocked_keeps (is_moved b w) (noted_by b w now) now (heard_quiet v s lives);
  over = λ now ends. stop_keeps v sound.nxt;
  given_up = λ now waits expired. ended v (Some ETIMEDOUT) v.released v.owes_reset v.since sound.nxt;
  acts = λ now. clocked_keeps false (after_timers (after_silence v now) now) now (timers_quiet (after_silence v now) now (silent_sound v now sound) (silent_timed v now keeps));
  emits = λ now. emission_timed v now sound keeps;
  sends = λ octets taken now opened. clocked_keeps false (holding v taken) now (λ closed. clash (is_closed v.state) closed (open_state v.state opened));
  reads = λ len. record {
    retransmission = keeps.retransmission;
    probe = keeps.probe;
    delayed_ack = keeps.delayed_ack;
    overriding = keeps.overriding;
    interval = keeps.interval;
    owed = keeps.owed;
    closed = keeps.closed;
    unheard = keeps.unheard;
  };
  shuts = λ now. clocked_keeps false (shut v v.released v.since) now was_quiet;
  delays = λ on now. clocked_keeps false (told_nodelay v on) now (λ closed. (none_left (awaits_more (record v { nodelay = on })) v.timers.overriding (keeps.closed closed), (closed_holds v sound closed).0));
  leaves = λ now lives. clocked_keeps false (shut v true (if is_fin_wait_2 v.state then latest v.since now else v.since)) now was_quiet;
  aborts = λ e now at cause lives. ended v v.pending_error true true now sound.nxt;
  refused = λ number hit. ended v (Some ECONNREFUSED) v.released v.owes_reset v.since sound.nxt;
  hopless = λ now over. ended v (Some ETIMEDOUT) v.released v.owes_reset v.since sound.nxt;
}) e
  where
    was_quiet : is_closed (beyond_shutdown v.state) ≡ true → (v.timers.overriding ≡ None) × (length v.sending.held ≡ 0)
    was_quiet closed = let was = shut_closes_none v.state closed in (keeps.closed was, (closed_holds v sound was).0)

-- A connection that opens: nothing is outstanding, and its SYN is due.

pub opened_timed : (room : Room) (local peer : Endpoint) (isn : ℕ) (now : Moment) → isn < 2 ^ 32 → KeepsTime (opened_actively room local peer isn now)
opened_timed room local peer isn now small =
    let none : past isn isn ≡ 0 = omega (arith, small) in
    record { retransmission = sym (ap (λ n. nat_lt 0 n && true) none); probe = refl; delayed_ack = refl; overriding = λ waits. cc; interval = λ none_runs. refl; owed = λ owes. cc; closed = λ closed. refl; unheard = sym (ap (λ n. (n == 0) && true) none) }

pub accepted_timed : (room : Room) (local peer : Endpoint) (isn : ℕ) (syn : Segment) (now : Moment) → isn < 2 ^ 32 → KeepsTime (opened_passively room local peer isn syn now)
accepted_timed room local peer isn syn now small =
    let none : past isn isn ≡ 0 = omega (arith, small) in
    record { retransmission = sym (ap (λ n. nat_lt 0 n && true) none); probe = refl; delayed_ack = refl; overriding = λ waits. cc; interval = λ none_runs. refl; owed = λ owes. cc; closed = λ closed. refl; unheard = sym (ap (λ n. (n == 0) && true) none) }
