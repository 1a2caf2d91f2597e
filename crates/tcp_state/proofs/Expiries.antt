-- What an expiry makes of a connection, and which one ends it.
use Rattle.std.proofs.Common.{◌≡◌, ℕ, ◌+◌, ◌*◌, ◌≤◌, ◌==◌, ◌||◌, ◌&&◌, ◌⊎◌, not, nat_le, nat_lt, ◌<◌, min, if◌then◌else◌, Bool, true, false, Option, Some, None, is_some, [], inl, inr, arith, refl, sym, ◌∙◌, ap, subst}
use Rattle.std.specs.Option.{option_or}
use Rattle.std.proofs.lemmas.Bool.{leb-true, le-leb, ltb-true}
use Rattle.clock.specs.declared.moment.Moment.{Moment}
use Rattle.clock.specs.Moments.{after, has_come}
use Rattle.retransmit.specs.Deadlines.{next_of}
use Rattle.tcp_state.specs.declared.calls.Refusal.TheVariants.{ETIMEDOUT}
use Rattle.tcp_state.specs.declared.resend.TheConstants.{MOST_EXPIRIES}
use Rattle.tcp_state.specs.declared.emission.Due.TheVariants.{Rst, Syn, Text}
use Rattle.tcp_halves.specs.Stream.{outstanding}
use Rattle.tcp_state.specs.Resend.{Resend}
use Rattle.tcp_state.specs.View.{View, IsSound, is_opening, is_closed, is_at_end, after_stop, after_reset}
use Rattle.tcp_state.specs.Alive.{is_silent, after_silence}
use Rattle.tcp_state.specs.Timing.{KeepsTime, probes, retransmits, running, clocked, expires, expires_for_good, is_silent_for_good, gives_up, retransmission_expired, probe_expired, after_timers, after_tick}
use Rattle.tcp_state.specs.Due.{ack_due, again, again_from, new_due, first_due}
use Rattle.tcp_halves.proofs.Choices.{either, by, clash, and_left, and_right, both, or_left, or_right, or_else, not_true, unowed}
use Rattle.stream_buf.specs.Ranges.{AreApart}
use Rattle.congestion.specs.Window.{is_recovering}
use Rattle.tcp_state.proofs.Places.{at_una_goes, unruled}
use Rattle.tcp_state.proofs.Clocked.{by_others, timers_keep}
use Rattle.tcp_state.proofs.TailProbes.{tail_rests, probed_rest, silent_timed}
use Rattle.tcp_state.proofs.Deadlines.{timers_come, come_runs}

-- a tick at which an expiry counts ends the connection, or lets its timers act
by_expiry : (P : View → Type 0) (v : View) (now : Moment) → expires v now ≡ true → is_closed (after_tick v now).state ≡ false → P (clocked false (after_timers (after_silence v now) now) now) → P (after_tick v now)
by_expiry P v now expired lives acted =
    let Q : View → Type 0 = λ w. is_closed w.state ≡ false → P w in
    let quiet = after_silence v now in
    let acts = clocked false (after_timers quiet now) now in
    let others = has_come v.timers.delayed_ack now || has_come v.timers.overriding now in
    either View Q (is_at_end v now) (after_stop v) _ (λ over living. cc)
    (λ goes_on. either View Q (gives_up v now) (after_reset v (Some ETIMEDOUT)) _ (λ given_up living. cc)
    (λ remains. either View Q (has_come (next_of v.timers) now) acts quiet (λ comes living. acted)
    (λ early. clash (has_come (next_of v.timers) now) (timers_come v now ∙ or_left (expires v now) others expired) early))) lives

-- The retransmission timer.

record Expired (v w : View) : Type 0 where
  pub mark : w.resend.mark ≡ Some 0
  pub once : w.resend.once ≡ false
  pub rto : w.resend.timeout.rto ≡ min 60000 (2 * v.resend.timeout.rto)
  pub none : w.timers.retransmission ≡ None
  pub reported : w.resend.reported ≡ []
  pub runs : is_recovering w.congestion ≡ false

expired : (v : View) (now : Moment) → has_come v.timers.retransmission now ≡ true → retransmits v ≡ true → Expired v (after_timers v now)
expired v now come runs =
    let some : nat_lt 0 (outstanding v.sending) ≡ true = and_left (nat_lt 0 (outstanding v.sending)) (not (probes v)) runs in
    by_others (Expired v) v now
    (either View (Expired v) (has_come v.timers.retransmission now) (retransmission_expired v) _
    (λ comes. record { mark = ap (λ b. if b then Some 0 else None) some; once = refl; rto = refl; none = refl; reported = refl; runs = refl })
    (λ early. clash (has_come v.timers.retransmission now) come early))
    (λ w owes k. record { mark = k.mark; once = k.once; rto = k.rto; none = k.none; reported = k.reported; runs = k.runs })
    (λ w k. record { mark = k.mark; once = k.once; rto = k.rto; none = k.none; reported = k.reported; runs = k.runs })

-- what is marked from SND.UNA on is due first, where nothing is reported and no recovery runs
marked_due : (w : View) → w.owes_reset ≡ false → w.resend.mark ≡ Some 0 → w.resend.reported ≡ [] → is_recovering w.congestion ≡ false → 0 < outstanding w.sending → (first_due w ≡ Some Syn) ⊎ (first_due w ≡ Some (Text (again w 0)))
marked_due w none mark silent runs some =
    let sent = outstanding w.sending == 0 in
    let past_opening = option_or (again_from w w.resend.mark) (new_due w) in
    let opens = if sent || is_some w.resend.mark then Some Syn else ack_due w in
    let no_reset = ap (λ b. if b then Some Rst else if is_opening w.state then opens else past_opening) none in
    by ((first_due w ≡ Some Syn) ⊎ (first_due w ≡ Some (Text (again w 0)))) (is_opening w.state)
    (λ opening. inl (no_reset ∙ ap (λ b. if b then opens else past_opening) opening ∙ ap (λ b. if b then Some Syn else ack_due w) (or_right sent (is_some w.resend.mark) (ap is_some mark))))
    (λ opened. inr (no_reset ∙ ap (λ b. if b then opens else past_opening) opened ∙ ap (λ m. option_or (again_from w m) (new_due w)) mark
    ∙ ap (λ o. option_or o (new_due w)) (at_una_goes w (subst (AreApart 1) (sym silent) tt) (unruled w runs) some)))

begins : (wants : Bool) (o : Option Moment) (now : Moment) (milliseconds timeout : ℕ) → wants ≡ true → o ≡ None → milliseconds ≡ timeout → (if wants then running o now milliseconds else None) ≡ Some (after now timeout)
begins true None now milliseconds timeout w e same = ap (λ n. Some (after now n)) same
begins true (Some deadline) now milliseconds timeout w e same = cc
begins false o now milliseconds timeout w e same = cc

-- what an expiry leaves: all that is outstanding goes out again from SND.UNA on, and nothing is reported
pub record GoesAgain (w : View) : Type 0 where
  pub mark : w.resend.mark ≡ Some 0
  pub once : w.resend.once ≡ false
  pub due : (first_due w ≡ Some Syn) ⊎ (first_due w ≡ Some (Text (again w 0)))
  pub reported : w.resend.reported ≡ []
  pub runs : is_recovering w.congestion ≡ false

pub goes_again_all : (v : View) (now : Moment) → IsSound v → KeepsTime v → has_come v.timers.retransmission now ≡ true → is_closed (after_tick v now).state ≡ false → GoesAgain (after_tick v now)
goes_again_all v now sound keeps come lives =
    let P : View → Type 0 = λ w. is_closed w.state ≡ false → GoesAgain w in
    let quiet = after_silence v now in
    let acts = clocked false (after_timers quiet now) now in
    let runs : retransmits v ≡ true = sym keeps.retransmission ∙ come_runs v.timers.retransmission now come in
    let k = expired quiet now come runs in
    by_expiry P v now (or_left (has_come v.timers.retransmission now) (has_come v.timers.probe now) come) lives
    (λ living.
    let kept = timers_keep quiet now in
    let was : is_closed v.state ≡ false = sym (ap (λ (w : View). is_closed w.state) kept) ∙ living in
    let none : acts.owes_reset ≡ false = ap (λ (w : View). w.owes_reset) kept ∙ unowed v.owes_reset (is_closed v.state) v.released was sound.reset in
    let some : 0 < outstanding acts.sending = ltb-true 0 (outstanding acts.sending) (ap (λ (w : View). nat_lt 0 (outstanding w.sending)) kept ∙ and_left (nat_lt 0 (outstanding v.sending)) (not (probes v)) runs) in
    record { mark = k.mark; once = k.once; due = marked_due acts none k.mark k.reported k.runs some; reported = k.reported; runs = k.runs }) lives

pub sent_again : (v : View) (now : Moment) → IsSound v → KeepsTime v → has_come v.timers.retransmission now ≡ true → is_closed (after_tick v now).state ≡ false
    → ((after_tick v now).resend.mark ≡ Some 0) × ((after_tick v now).resend.once ≡ false) × ((first_due (after_tick v now) ≡ Some Syn) ⊎ (first_due (after_tick v now) ≡ Some (Text (again (after_tick v now) 0))))
sent_again v now sound keeps come lives = let all = goes_again_all v now sound keeps come lives in (all.mark, all.once, all.due)

pub backs_off : (v : View) (now : Moment) → KeepsTime v → has_come v.timers.retransmission now ≡ true → is_closed (after_tick v now).state ≡ false
    → (let timeout = min 60000 (2 * v.resend.timeout.rto) in ((after_tick v now).resend.timeout.rto ≡ timeout) × ((after_tick v now).timers.retransmission ≡ Some (after now timeout)))
backs_off v now keeps come lives =
    let timeout = min 60000 (2 * v.resend.timeout.rto) in
    let quiet = after_silence v now in
    let third = after_timers quiet now in
    let runs : retransmits v ≡ true = sym keeps.retransmission ∙ come_runs v.timers.retransmission now come in
    let k = expired quiet now come runs in
    let still : retransmits third ≡ true = ap (λ (w : View). retransmits w) (timers_keep quiet now) ∙ runs in
    by_expiry (λ w. (w.resend.timeout.rto ≡ timeout) × (w.timers.retransmission ≡ Some (after now timeout))) v now (or_left (has_come v.timers.retransmission now) (has_come v.timers.probe now) come) lives
    (k.rto, begins (retransmits third) third.timers.retransmission now third.resend.timeout.rto timeout still k.none k.rto)

-- The probe timer.

record Probed (v : View) (now : Moment) (w : View) : Type 0 where
  pub interval : w.resend.interval ≡ min 60000 (2 * v.resend.interval)
  pub runs : w.timers.probe ≡ Some (after now (min 60000 (2 * v.resend.interval)))
  pub owes : w.resend.owes_probe ≡ true
  pub timeout : w.resend.timeout ≡ v.resend.timeout
  pub congestion : w.congestion ≡ v.congestion
  pub mark : w.resend.mark ≡ v.resend.mark

probed : (v : View) (now : Moment) → KeepsTime v → has_come v.timers.probe now ≡ true → Probed v now (after_timers v now)
probed v now keeps come =
    let goes : probes v ≡ true = sym keeps.probe ∙ come_runs v.timers.probe now come in
    by_others (Probed v now) v now
    (either View (Probed v now) (has_come v.timers.retransmission now) (retransmission_expired v) _
    (λ comes.
    let runs = sym keeps.retransmission ∙ come_runs v.timers.retransmission now comes in
    clash (probes v) goes (not_true (probes v) (and_right (nat_lt 0 (outstanding v.sending)) (not (probes v)) runs)))
    (λ early. either View (Probed v now) (has_come v.timers.probe now) (probe_expired v now) v
    (λ comes. record { interval = refl; runs = refl; owes = refl; timeout = refl; congestion = refl; mark = refl })
    (λ late. clash (has_come v.timers.probe now) come late)))
    (λ w owes k. record { interval = k.interval; runs = k.runs; owes = k.owes; timeout = k.timeout; congestion = k.congestion; mark = k.mark })
    (λ w k. record { interval = k.interval; runs = k.runs; owes = k.owes; timeout = k.timeout; congestion = k.congestion; mark = k.mark })

runs_on : (wants : Bool) (o : Option Moment) (deadline now : Moment) (milliseconds : ℕ) → wants ≡ true → o ≡ Some deadline → (if wants then running o now milliseconds else None) ≡ Some deadline
runs_on true (Some moment) deadline now milliseconds w e = e
runs_on true None deadline now milliseconds w e = cc
runs_on false o deadline now milliseconds w e = cc

interval_on : (wants : Bool) (o : Option Moment) (deadline : Moment) (interval rto wait : ℕ) → wants ≡ true → o ≡ Some deadline → interval ≡ wait → (if wants && is_some o then interval else rto) ≡ wait
interval_on true (Some moment) deadline interval rto wait w e same = same
interval_on true None deadline interval rto wait w e same = cc
interval_on false o deadline interval rto wait w e same = cc

pub probes_again : (v : View) (now : Moment) → KeepsTime v → has_come v.timers.probe now ≡ true → is_closed (after_tick v now).state ≡ false
    → (let wait = min 60000 (2 * v.resend.interval) in ((after_tick v now).resend.interval ≡ wait) × ((after_tick v now).timers.probe ≡ Some (after now wait)) × ((after_tick v now).resend.owes_probe ≡ true))
probes_again v now keeps come lives =
    let wait = min 60000 (2 * v.resend.interval) in
    let quiet = after_silence v now in
    let third = after_timers quiet now in
    let k = probed quiet now (silent_timed v now keeps) come in
    let goes : probes third ≡ true = ap (λ (w : View). probes w) (timers_keep quiet now) ∙ sym keeps.probe ∙ come_runs v.timers.probe now come in
    by_expiry (λ w. (w.resend.interval ≡ wait) × (w.timers.probe ≡ Some (after now wait)) × (w.resend.owes_probe ≡ true)) v now (or_right (has_come v.timers.retransmission now) (has_come v.timers.probe now) come) lives (
      interval_on (probes third) third.timers.probe (after now wait) third.resend.interval third.resend.timeout.rto wait goes k.runs k.interval,
      runs_on (probes third) third.timers.probe (after now wait) now third.resend.timeout.rto goes k.runs,
      both third.resend.owes_probe (probes third) k.owes goes,
    )

pub probes_alone : (v : View) (now : Moment) → KeepsTime v → has_come v.timers.probe now ≡ true → is_closed (after_tick v now).state ≡ false
    → ((after_tick v now).resend.timeout ≡ v.resend.timeout) × ((after_tick v now).congestion ≡ v.congestion) × ((after_tick v now).resend.mark ≡ v.resend.mark)
probes_alone v now keeps come lives =
    let quiet = after_silence v now in
    let k = probed quiet now (silent_timed v now keeps) come in
    let still = tail_rests v now (probed_rest v now keeps (sym keeps.probe ∙ come_runs v.timers.probe now come)) in
    by_expiry (λ w. (w.resend.timeout ≡ v.resend.timeout) × (w.congestion ≡ v.congestion) × (w.resend.mark ≡ v.resend.mark)) v now (or_right (has_come v.timers.retransmission now) (has_come v.timers.probe now) come) lives
    (k.timeout, k.congestion, k.mark ∙ ap (λ (p : Resend). p.mark) still)

-- The last one.

pub ends_at_thirteenth : (v : View) (now : Moment) → IsSound v → is_closed v.state ≡ false → is_at_end v now ≡ false → is_closed (after_tick v now).state ≡ true
    → (((v.resend.expiries ≡ 12) × (expires v now ≡ true)) ⊎ ((12 ≤ v.alive.unanswered) × (is_silent v now ≡ true))) × ((after_tick v now).pending_error ≡ Some ETIMEDOUT)
ends_at_thirteenth v now sound lives goes_on =
    let Last : Type 0 = ((v.resend.expiries ≡ 12) × (expires v now ≡ true)) ⊎ ((12 ≤ v.alive.unanswered) × (is_silent v now ≡ true)) in
    let P : View → Type 0 = λ w. is_closed w.state ≡ true → Last × (w.pending_error ≡ Some ETIMEDOUT) in
    let quiet = after_silence v now in
    let most = nat_le MOST_EXPIRIES v.resend.expiries in
    let asked = nat_le MOST_EXPIRIES v.alive.unanswered in
    either View P (is_at_end v now) (after_stop v) _ (λ over. clash (is_at_end v now) over goes_on)
    (λ remains. either View P (gives_up v now) (after_reset v (Some ETIMEDOUT)) _
    (λ given_up closed.
    let last : Last = elim (or_else (expires_for_good v now) (is_silent_for_good v now) given_up) [
      | inl expired ↦ let twelve = leb-true MOST_EXPIRIES v.resend.expiries (and_right (expires v now) most expired) in inl (omega (arith, twelve, sound.resend.expiries), and_left (expires v now) most expired)
      | inr silent ↦ inr (leb-true MOST_EXPIRIES v.alive.unanswered (and_right (is_silent v now) asked silent), and_left (is_silent v now) asked silent)
    ] in
    (last, refl))
    (λ stays. either View P (has_come (next_of v.timers) now) (clocked false (after_timers quiet now) now) quiet
    (λ comes closed. clash (is_closed v.state) (sym (ap (λ (w : View). is_closed w.state) (timers_keep quiet now)) ∙ closed) lives)
    (λ early closed. clash (is_closed v.state) closed lives)))

pub thirteenth_ends : (v : View) (now : Moment) → v.resend.expiries ≡ 12 → expires v now ≡ true → is_closed (after_tick v now).state ≡ true
thirteenth_ends v now twelve expire =
    let P : View → Type 0 = λ w. is_closed w.state ≡ true in
    let enough : nat_le MOST_EXPIRIES v.resend.expiries ≡ true = le-leb MOST_EXPIRIES v.resend.expiries (omega (arith, twelve)) in
    either View P (is_at_end v now) (after_stop v) _ (λ over. refl)
    (λ goes_on. either View P (gives_up v now) (after_reset v (Some ETIMEDOUT)) _ (λ given_up. refl)
    (λ stays. clash (gives_up v now) (or_left (expires_for_good v now) (is_silent_for_good v now) (both (expires v now) (nat_le MOST_EXPIRIES v.resend.expiries) expire enough)) stays))

pub each_counts : (v : View) (now : Moment) → expires v now ≡ true → is_closed (after_tick v now).state ≡ false → (after_tick v now).resend.expiries ≡ v.resend.expiries + 1
each_counts v now expire lives =
    let P : View → Type 0 = λ w. w.resend.expiries ≡ v.resend.expiries + 1 in
    let quiet = after_silence v now in
    by_expiry P v now expire lives (by_others P quiet now
    (either View P (has_come v.timers.retransmission now) (retransmission_expired quiet) _ (λ comes. omega arith)
    (λ early. either View P (has_come v.timers.probe now) (probe_expired quiet now) quiet (λ comes. omega arith)
    (λ late. elim (or_else (has_come v.timers.retransmission now) (has_come v.timers.probe now) expire) [ inl comes ↦ clash (has_come v.timers.retransmission now) comes early | inr comes ↦ clash (has_come v.timers.probe now) comes late ])))
    (λ w owes k. k) (λ w k. k))
