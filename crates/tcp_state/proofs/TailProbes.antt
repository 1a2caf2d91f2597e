-- What a probe of the tail leaves of a connection as it was.
use Rattle.std.proofs.Common.{◌≡◌, ℕ, ◌∷◌, ◌-◌, ◌<◌, ◌≤◌, ◌==◌, ◌+◌, ◌&&◌, ◌||◌, not, nat_lt, Bool, true, false, if◌then◌else◌, List, [], length, Option, Some, None, min, max, is_some, arith, refl, sym, ◌∙◌, ap, subst}
use Rattle.std.proofs.lemmas.Bool.{ltb-true, eqb-true}
use Rattle.std.specs.Option.{ForSome, unwrap_or}
use Rattle.clock.specs.declared.moment.Moment.{Moment}
use Rattle.clock.specs.Moments.{has_come}
use Rattle.stream_buf.specs.declared.ranges.Range.{Range}
use Rattle.stream_buf.specs.Scoreboard.{unreported, lost_end, reported_end}
use Rattle.congestion.specs.Window.{is_recovering, allowed}
use Rattle.tcp_segment.specs.declared.TheConstants.{LEAST_MSS}
use Rattle.tcp_halves.specs.Stream.{outstanding}
use Rattle.tcp_halves.proofs.Choices.{either, by, and_left, and_right, and_false, not_true}
use Rattle.tcp_state.specs.Resend.{Resend, IsSoundResend}
use Rattle.tcp_state.specs.View.{View, IsSound, is_opening, awaits_fin_ack}
use Rattle.tcp_state.specs.Selective.{selects, counts_pipe, tolerance, loss_end, repaired_end, allowance}
use Rattle.tcp_state.specs.Tail.{awaits_tail, tail_wait, tail_by, is_tail_due, tail_after}
use Rattle.tcp_state.specs.Alive.{is_silent, unanswered_again, after_silence}
use Rattle.tcp_halves.specs.Windows.{open_window, sendable, takes_all, takes_enough, is_worth_sending, waits_for_more}
use Rattle.tcp_state.specs.New.{passes_full, sends_new, sends_fin}
use Rattle.tcp_state.specs.Timing.{KeepsTime, probes, awaits_more, awaits_first}
use Rattle.tcp_state.specs.Congestion.{KeepsCongestion}

-- Where one is due.

pub record AwaitsTail (v : View) : Type 0 where
  pub selects : selects v ≡ true
  pub opened : is_opening v.state ≡ false
  pub runs : is_recovering v.congestion ≡ false
  pub recover : (v.resend.recover == 0) ≡ true
  pub tail : (v.resend.tail == 0) ≡ true
  pub reported : v.resend.reported ≡ []
  pub mark : is_some v.resend.mark ≡ false
  pub large : v.sending.smss < outstanding v.sending
  pub fits : outstanding v.sending - v.sending.smss < open_window v.sending v.congestion.cwnd

none_listed : (rs : List Range) → (length rs == 0) ≡ true → rs ≡ []
none_listed [] e = refl
none_listed (r ∷ rs) e = absurd (omega (arith, eqb-true (length (r ∷ rs)) 0 e))

pub awaits : (v : View) → awaits_tail v ≡ true → AwaitsTail v
awaits v on =
    let a = selects v in
    let b = not (is_opening v.state) in
    let c = not (is_recovering v.congestion) in
    let d = v.resend.recover == 0 in
    let e = v.resend.tail == 0 in
    let f = length v.resend.reported == 0 in
    let g = not (is_some v.resend.mark) in
    let h = nat_lt v.sending.smss (outstanding v.sending) in
    let i = nat_lt (outstanding v.sending - v.sending.smss) (open_window v.sending v.congestion.cwnd) in
    let eight = and_left (a && b && c && d && e && f && g && h) i on in
    let seven = and_left (a && b && c && d && e && f && g) h eight in
    let six = and_left (a && b && c && d && e && f) g seven in
    let five = and_left (a && b && c && d && e) f six in
    let four = and_left (a && b && c && d) e five in
    let three = and_left (a && b && c) d four in
    let two = and_left (a && b) c three in record {
      selects = and_left a b two;
      opened = not_true (is_opening v.state) (and_right a b two);
      runs = not_true (is_recovering v.congestion) (and_right (a && b) c three);
      recover = and_right (a && b && c) d four;
      tail = and_right (a && b && c && d) e five;
      reported = none_listed v.resend.reported (and_right (a && b && c && d && e) f six);
      mark = not_true (is_some v.resend.mark) (and_right (a && b && c && d && e && f) g seven);
      large = ltb-true v.sending.smss (outstanding v.sending) (and_right (a && b && c && d && e && f && g) h eight);
      fits = ltb-true (outstanding v.sending - v.sending.smss) (open_window v.sending v.congestion.cwnd) (and_right (a && b && c && d && e && f && g && h) i on);
    }

pub due_awaits : (v : View) (now : Moment) → is_tail_due v now ≡ true → AwaitsTail v
due_awaits v now due = awaits v (waited v.timers.retransmission due)
  where
    waited : (deadline : Option Moment) → has_come (tail_by v deadline) now ≡ true → awaits_tail v ≡ true
    waited None comes = cc
    waited (Some deadline) comes =
        either (Option Moment) (λ d. has_come d now ≡ true → awaits_tail v ≡ true) (awaits_tail v) (Some (record { 0 = deadline.0 - (v.resend.timeout.rto - tail_wait v.resend.timeout) })) None
        (λ on come. on) (λ off come. cc) comes

-- none is, of what isn't more than a segment
pub few_rest : (v : View) (now : Moment) → outstanding v.sending ≤ v.sending.smss → is_tail_due v now ≡ false
few_rest v now few = by (is_tail_due v now ≡ false) (is_tail_due v now) (λ due. let large = (due_awaits v now due).large in absurd (omega (arith, few, large))) (λ none. none)

-- Where none is.

pub tail_rests : (v : View) (now : Moment) → is_tail_due v now ≡ false → tail_after v now ≡ v.resend
tail_rests v now none =
    ap (λ b. let p : Resend = record v.resend { mark = if b then Some (outstanding v.sending - v.sending.smss) else v.resend.mark; once = b || v.resend.once; tail = if b then outstanding v.sending else v.resend.tail } in p) none

-- nothing is heard for too long of neither
pub nobody_waits : (v : View) (now : Moment) → is_silent v now ≡ false → is_tail_due v now ≡ false → after_silence v now ≡ v
nobody_waits v now spoken none =
    ap (λ b. let w : View = record v { alive = if b then unanswered_again v.alive v.resend.timeout.rto now else v.alive; resend = tail_after v now } in w) spoken
    ∙ ap (λ p. let w : View = record v { resend = p } in w) (tail_rests v now none)

-- .. nor while the peer's closed window is probed, for the retransmission timer doesn't run then
pub probed_rest : (v : View) (now : Moment) → KeepsTime v → probes v ≡ true → is_tail_due v now ≡ false
probed_rest v now keeps probed =
    none_runs v.timers.retransmission (keeps.retransmission ∙ ap (λ b. nat_lt 0 (outstanding v.sending) && not b) probed ∙ and_false (nat_lt 0 (outstanding v.sending)))
  where
    none_runs : (deadline : Option Moment) → is_some deadline ≡ false → has_come (tail_by v deadline) now ≡ false
    none_runs None none = refl
    none_runs (Some deadline) none = cc

-- What stays.

-- the last segment begins before the end of what is outstanding
marked_within : (v : View) → v.sending.smss < outstanding v.sending → LEAST_MSS ≤ v.sending.smss → ForSome (Some (outstanding v.sending - v.sending.smss)) (λ distance. distance < outstanding v.sending)
marked_within v large some = λ place is. let same : outstanding v.sending - v.sending.smss ≡ place = cc in omega (arith, same, large, some)

pub silent_sound : (v : View) (now : Moment) → IsSound v → IsSound (after_silence v now)
silent_sound v now k = record {
  una = k.una;
  nxt = k.nxt;
  rnext = k.rnext;
  held = k.held;
  readable = k.readable;
  window = k.window;
  untold = k.untold;
  unsettled = k.unsettled;
  buffer = k.buffer;
  kept = k.kept;
  flight = k.flight;
  mark = either (Option ℕ) (λ m. ForSome m (λ distance. distance < outstanding v.sending)) (is_tail_due v now) (Some (outstanding v.sending - v.sending.smss)) v.resend.mark
      (λ due. marked_within v (due_awaits v now due).large k.segment_least) (λ none. k.mark);
  small = k.small;
  probed = k.probed;
  recover = k.recover;
  tail = either ℕ (λ n. n ≤ outstanding v.sending) (is_tail_due v now) (outstanding v.sending) v.resend.tail (λ due. omega arith) (λ none. k.tail);
  resend = let r = k.resend in record { floor = r.floor; ceiling = r.ceiling; timeout_least = r.timeout_least; timeout_most = r.timeout_most; interval_least = r.interval_least; interval_most = r.interval_most; expiries = r.expiries; reported = r.reported };
  connection = k.connection;
  segment = k.segment;
  segment_least = k.segment_least;
  ack = k.ack;
  error = k.error;
  reset = k.reset;
  release = k.release;
  terms = k.terms;
}

-- .. with the mark of one that is due
pub marked_sound : (v : View) (p : Resend) (now : Moment) → IsSound v → is_tail_due v now ≡ true → IsSoundResend p → p ≡ record v.resend { mark = Some (outstanding v.sending - v.sending.smss); once = true; tail = outstanding v.sending } → IsSound (record v { resend = p })
marked_sound v p now k due sound is =
    subst (λ p. IsSound (record v { resend = p })) (sym is) (record {
      una = k.una;
      nxt = k.nxt;
      rnext = k.rnext;
      held = k.held;
      readable = k.readable;
      window = k.window;
      untold = k.untold;
      unsettled = k.unsettled;
      buffer = k.buffer;
      kept = k.kept;
      flight = k.flight;
      mark = marked_within v (due_awaits v now due).large k.segment_least;
      small = k.small;
      probed = k.probed;
      recover = k.recover;
      tail = omega arith;
      resend = subst IsSoundResend is sound;
      connection = k.connection;
      segment = k.segment;
      segment_least = k.segment_least;
      ack = k.ack;
      error = k.error;
      reset = k.reset;
      release = k.release;
      terms = k.terms;
    })

-- nothing is lost where nothing is reported
pub nothing_lost : (v : View) → v.resend.reported ≡ [] → loss_end v ≡ 0
nothing_lost v none = ap (λ rs. max (lost_end (tolerance v) rs) (min v.resend.tail (reported_end rs))) none ∙ omega arith

-- how much may be outstanding: nothing is reported where such a probe is due
pub allowance_silent : (v : View) (now : Moment) → allowance (after_silence v now) ≡ allowance v
allowance_silent v now =
    let quiet = after_silence v now in
    let left = unreported v.resend.reported in
    let lost : loss_end quiet ≡ loss_end v = by (loss_end quiet ≡ loss_end v) (is_tail_due v now)
    (λ due. let none = (due_awaits v now due).reported in nothing_lost quiet none ∙ sym (nothing_lost v none))
    (λ none. ap (λ (p : Resend). max (lost_end (tolerance v) v.resend.reported) (min p.tail (reported_end v.resend.reported))) (tail_rests v now none)) in
    let again : repaired_end quiet ≡ repaired_end v = by (repaired_end quiet ≡ repaired_end v) (is_tail_due v now)
    (λ due. let runs = (due_awaits v now due).runs in ap (λ b. if b then unwrap_or quiet.resend.mark 0 else 0) runs ∙ sym (ap (λ b. if b then unwrap_or v.resend.mark 0 else 0) runs))
    (λ none. ap (λ (p : Resend). if is_recovering v.congestion then unwrap_or p.mark 0 else 0) (tail_rests v now none)) in
    ap (λ n. if counts_pipe v then v.congestion.cwnd + outstanding v.sending - (left (outstanding v.sending) - left n + left (repaired_end quiet)) else allowed v.congestion) lost
    ∙ ap (λ n. if counts_pipe v then v.congestion.cwnd + outstanding v.sending - (left (outstanding v.sending) - left (loss_end v) + left n) else allowed v.congestion) again

pub silent_congestion : (v : View) (now : Moment) → KeepsCongestion v → KeepsCongestion (after_silence v now)
silent_congestion v now k = record { sound = k.sound; segment = k.segment }

-- what waits for more, and since when the first waits, goes by that
abbrev no_longer_by : View → ℕ → Bool
no_longer_by v a =
    (v.nodelay && takes_enough v.sending a) || (v.minshall && takes_enough v.sending a && ((v.resend.small == 0) || (awaits_fin_ack v.state && takes_all v.sending a))) || v.resend.overridden

pub more_silent : (v : View) (now : Moment) → awaits_more (after_silence v now) ≡ awaits_more v
more_silent v now = ap (λ a. not (is_opening v.state) && waits_for_more v.sending a (no_longer_by v a)) (allowance_silent v now)

pub passes_silent : (v : View) (now : Moment) → passes_full (after_silence v now) ≡ passes_full v
passes_silent v now = ap (λ a. v.minshall && takes_enough v.sending a && ((v.resend.small == 0) || (awaits_fin_ack v.state && takes_all v.sending a))) (allowance_silent v now)

pub new_silent : (v : View) (now : Moment) → sends_new (after_silence v now) ≡ sends_new v
new_silent v now = ap (λ a. nat_lt 0 (sendable v.sending a) && is_worth_sending v.sending a (no_longer_by v a)) (allowance_silent v now)

pub first_silent : (v : View) (now : Moment) → awaits_first (after_silence v now) ≡ awaits_first v
first_silent v now = ap (λ b. (outstanding v.sending == 0) && (is_opening v.state || b || sends_fin v || (v.resend.owes_probe && probes v))) (new_silent v now)

pub silent_timed : (v : View) (now : Moment) → KeepsTime v → KeepsTime (after_silence v now)
silent_timed v now k = record {
  retransmission = k.retransmission;
  probe = k.probe;
  delayed_ack = k.delayed_ack;
  overriding = λ waits. k.overriding (sym (more_silent v now) ∙ waits);
  interval = k.interval;
  owed = k.owed;
  closed = k.closed;
  unheard = k.unheard ∙ sym (first_silent v now);
}
