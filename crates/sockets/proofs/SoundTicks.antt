-- Why a tick leaves every connection of the table what every connection keeps of itself.
use Rattle.std.proofs.Common.{◌≡◌, ℕ, ◌≤◌, ◌<◌, ◌&&◌, ◌||◌, nat_lt, Bool, true, false, if◌then◌else◌, length, List, [], ◌∷◌, Option, Some, None, is_some, refl, sym, ◌∙◌, ap, subst, arith}
use Rattle.std.proofs.lemmas.Grind.{common_steps}
use Rattle.std.proofs.lemmas.Bool.Decides.{nat_tests}
use Rattle.std.specs.List.{AllByRecursion, retain_mut}
use Rattle.std.specs.Option.{ForSome}
use Rattle.clock.specs.declared.moment.Moment.{Moment}
use Rattle.clock.specs.Moments.{has_come}
use Rattle.retransmit.specs.Deadlines.{next_of}
use Rattle.tcp_halves.specs.Stream.{outstanding}
use Rattle.tcp_halves.proofs.Choices.{either, neither}
use Rattle.congestion.specs.Control.{repairs}
use Rattle.tcp_state.specs.declared.calls.Refusal.{Refusal as Error}
use Rattle.tcp_state.specs.declared.calls.Refusal.TheVariants.{ETIMEDOUT}
use Rattle.tcp_state.specs.Resend.{IsSoundResend, mark_past}
use Rattle.tcp_state.specs.View.{View, IsSound, is_syn_sent, is_closed, is_at_end, after_reset}
use Rattle.tcp_state.specs.Timing.{probes, expires_for_good, is_silent_for_good, gives_up, clocked, retransmission_expired, probe_expired, after_expiry, delayed_ack_expired, override_expired, after_timers, after_tick}
use Rattle.tcp_state.specs.Edges as edge
use Rattle.tcp_state.proofs.Clocked.{KeepsTo, timers_keep}
use Rattle.tcp_state.proofs.TailProbes.{silent_sound}
use Rattle.tcp_state.proofs.Scores.{none_scores}
use Rattle.tcp_state.specs.Alive.{after_silence}
use Rattle.sockets.specs.declared.entry.Entry.{Entry}
use Rattle.sockets.specs.declared.role.Role.{Role}
use Rattle.sockets.specs.declared.role.Role.TheVariants.{Idle, Listener, Connected, Datagrams}
use Rattle.sockets.specs.Entries.{is_kept, role_after_tick, tick_fate_of, with_role}
use Rattle.sockets.specs.SocketsView.{SocketsView, later_moment}
use Rattle.sockets.specs.Sound.{IsEndpoint, IsSoundRole, IsSoundTable}
use Rattle.sockets.specs.Ticks.{after_tick as table_after_tick}
use Rattle.sockets.proofs.Followed.{by_test}
use Rattle.sockets.proofs.KeptEnds.{keeps-event}

-- One that ends.

ended_sound : (v : View) (error : Option Error) → IsSound v → IsSound (after_reset v error)
ended_sound v error sound = record {
  una = sound.nxt;
  nxt = sound.nxt;
  rnext = sound.rnext;
  held = omega arith;
  readable = readable_then;
  window = sound.window;
  probed = grind (arith, common_steps);
  untold = refl;
  unsettled = refl;
  buffer = sound.buffer;
  kept = sound.kept;
  flight = none_out;
  mark = λ distance none. cc;
  small = omega arith;
  recover = omega arith;
  tail = omega arith;
  resend = record { floor = sound.resend.floor; ceiling = sound.resend.ceiling; timeout_least = sound.resend.timeout_least; timeout_most = sound.resend.timeout_most; interval_least = sound.resend.timeout_least; interval_most = sound.resend.timeout_most; expiries = sound.resend.expiries; reported = none_scores };
  connection = refl;
  segment = sound.segment;
  segment_least = sound.segment_least;
  ack = refl;
  error = no (is_some error);
  reset = grind (arith, common_steps, sound.reset);
  release = no v.released;
  terms = sound.terms;
}
  where
    no : (b : Bool) → (b && false) ≡ false
    no true = refl
    no false = refl

    readable_then : length v.receiving.readable ≤ v.receiving.size
    readable_then = grind (arith, common_steps, sound.readable)

    none_out : outstanding (let w = after_reset v error in w.sending) ≤ 0
    none_out = grind (arith, sound.nxt)

-- One whose timers act.

record Fits (v w : View) : Type 0 where
  mark : ForSome w.resend.mark (λ distance. distance < outstanding v.sending)
  small : w.resend.small ≡ v.resend.small
  recover : w.resend.recover ≤ outstanding v.sending
  tail : w.resend.tail ≤ outstanding v.sending
  resend : IsSoundResend w.resend
  delays : w.delays_ack ≡ v.delays_ack
  ack : ((is_syn_sent v.state || is_closed v.state) && (w.owes_ack || v.delays_ack)) ≡ false

first_mark : (out : ℕ) → ForSome (mark_past 0 out) (λ distance. distance < out)
first_mark out distance is = by_test (nat_lt 0 out) (λ some. let zero_so : ◌≡◌ {A = Option ℕ} (Some 0) (Some distance) = rw some at is in grind (arith, nat_tests)) (λ none. let bad : ◌≡◌ {A = Option ℕ} None (Some distance) = rw none at is in cc)

expiry_fits : (v : View) (now : Moment) → IsSound v → expires_for_good v now ≡ false → Fits v (after_expiry v now)
expiry_fits v now sound lives =
    either View (Fits v) (has_come v.timers.retransmission now) (retransmission_expired v) _
    (λ comes. let few : v.resend.expiries < 12 = grind (arith, nat_tests, common_steps) in record {
      mark = first_mark (outstanding v.sending);
      small = refl;
      recover = either ℕ (λ n. n ≤ outstanding v.sending) (repairs v.congestion.control) (outstanding v.sending) v.resend.recover (λ repairs. omega arith) (λ plain. sound.recover);
      tail = omega arith;
      resend = record {
        floor = sound.resend.floor;
        ceiling = sound.resend.ceiling;
        timeout_least = grind (arith, sound.resend.timeout_least);
        timeout_most = omega arith;
        interval_least = sound.resend.interval_least;
        interval_most = sound.resend.interval_most;
        expiries = omega (arith, few);
        reported = none_scores;
      };
      delays = refl;
      ack = sound.ack;
    })
    (λ early. either View (Fits v) (has_come v.timers.probe now) (probe_expired v now) v
    (λ comes. let few : v.resend.expiries < 12 = grind (arith, nat_tests, common_steps) in record {
      mark = sound.mark;
      small = refl;
      recover = sound.recover;
      tail = sound.tail;
      resend = record {
        floor = sound.resend.floor;
        ceiling = sound.resend.ceiling;
        timeout_least = sound.resend.timeout_least;
        timeout_most = sound.resend.timeout_most;
        interval_least = grind (arith, sound.resend.interval_least);
        interval_most = omega arith;
        expiries = omega (arith, few);
        reported = sound.resend.reported;
      };
      delays = refl;
      ack = sound.ack;
    })
    (λ late. record { mark = sound.mark; small = refl; recover = sound.recover; tail = sound.tail; resend = sound.resend; delays = refl; ack = sound.ack }))

acks_once : (never owes delays : Bool) → (never && (owes || delays)) ≡ false → (never && ((owes || delays) || delays)) ≡ false
acks_once never owes delays e = grind (arith, common_steps)

delayed_fits : (v w : View) (now : Moment) → Fits v w → Fits v (delayed_ack_expired w now)
delayed_fits v w now f =
    either View (Fits v) (has_come w.timers.delayed_ack now) (record w { owes_ack = w.owes_ack || w.delays_ack }) w
    (λ comes. record {
      mark = f.mark;
      small = f.small;
      recover = f.recover;
      tail = f.tail;
      resend = f.resend;
      delays = f.delays;
      ack = ap (λ (d : Bool). (is_syn_sent v.state || is_closed v.state) && ((w.owes_ack || d) || v.delays_ack)) f.delays ∙ acks_once (is_syn_sent v.state || is_closed v.state) w.owes_ack v.delays_ack f.ack;
    })
    (λ early. f)

override_fits : (v w : View) (now : Moment) → Fits v w → Fits v (override_expired w now)
override_fits v w now f =
    either View (Fits v) (has_come w.timers.overriding now) (record w { resend = record w.resend { overridden = true }; timers = record w.timers { overriding = None } }) w
    (λ comes. let r = f.resend in record {
      mark = f.mark;
      small = f.small;
      recover = f.recover;
      tail = f.tail;
      resend = record { floor = r.floor; ceiling = r.ceiling; timeout_least = r.timeout_least; timeout_most = r.timeout_most; interval_least = r.interval_least; interval_most = r.interval_most; expiries = r.expiries; reported = r.reported };
      delays = f.delays;
      ack = f.ack;
    })
    (λ early. f)

acted_fits : (v : View) (now : Moment) → IsSound v → expires_for_good v now ≡ false → Fits v (clocked false (after_timers v now) now)
acted_fits v now sound lives =
    let first = after_expiry v now in
    let second = delayed_ack_expired first now in
    let w = override_expired second now in
    let f = override_fits v second now (delayed_fits v first now (expiry_fits v now sound lives)) in
    let r = f.resend in record {
      mark = f.mark;
      small = f.small;
      recover = f.recover;
      tail = f.tail;
      resend = record {
        floor = r.floor;
        ceiling = r.ceiling;
        timeout_least = r.timeout_least;
        timeout_most = r.timeout_most;
        interval_least = chosen (probes w && is_some w.timers.probe) w.resend.interval w.resend.timeout.rto (λ n. w.resend.timeout.least ≤ n) r.interval_least r.timeout_least;
        interval_most = chosen (probes w && is_some w.timers.probe) w.resend.interval w.resend.timeout.rto (λ n. n ≤ 60000) r.interval_most r.timeout_most;
        expiries = r.expiries;
        reported = r.reported;
      };
      delays = f.delays;
      ack = f.ack;
    }
  where
    chosen : (b : Bool) (m n : ℕ) (P : ℕ → Type 0) → P m → P n → P (if b then m else n)
    chosen true m n P first second = first
    chosen false m n P first second = second

acted_sound : (v w : View) → IsSound v → KeepsTo v w → Fits v w → IsSound w
acted_sound v w sound kept f =
    subst IsSound (sym kept) (record {
      una = sound.una;
      nxt = sound.nxt;
      rnext = sound.rnext;
      held = sound.held;
      readable = sound.readable;
      window = sound.window;
      probed = sound.probed;
      untold = sound.untold;
      unsettled = sound.unsettled;
      buffer = sound.buffer;
      kept = sound.kept;
      flight = sound.flight;
      mark = f.mark;
      small = subst (λ n. n ≤ outstanding v.sending) (sym f.small) sound.small;
      recover = f.recover;
      tail = f.tail;
      resend = f.resend;
      connection = sound.connection;
      segment = sound.segment;
      segment_least = sound.segment_least;
      ack = f.ack;
      error = sound.error;
      reset = sound.reset;
      release = sound.release;
      terms = sound.terms;
    })

-- Every tick.

ticked_sound : (v : View) (now : Moment) → IsSound v → IsSound (after_tick v now)
ticked_sound v now sound =
    by_test (is_at_end v now)
    (λ ends. rw ends (ended_sound v v.pending_error sound))
    (λ waits. by_test (gives_up v now)
    (λ over. rw (waits, over) (ended_sound v (Some ETIMEDOUT) sound))
    (λ lives.
    let asked = after_silence v now in
    let still = silent_sound v now sound in
    let goes = (neither (expires_for_good v now) (is_silent_for_good v now) lives).0 in
    rw (waits, lives) (either View IsSound (has_come (next_of v.timers) now) (clocked false (after_timers asked now) now) asked
    (λ comes. acted_sound asked (clocked false (after_timers asked now) now) still (timers_keep asked now) (acted_fits asked now still goes)) (λ early. still))))

role_sound : (now : Moment) (role : Role) → IsSoundRole role → IsSoundRole (role_after_tick now role)
role_sound now (Connected c l) sound = let ends = keeps-event c (edge.Ticks now) in record {
  sound = ticked_sound c now sound.sound;
  local = subst IsEndpoint (sym ends.local) sound.local;
  peer = subst IsEndpoint (sym ends.peer) sound.peer;
}
role_sound now (Idle buffers bound) sound = tt
role_sound now (Listener local backlog) sound = tt
role_sound now (Datagrams bound queues) sound = tt

entries_sound : (now : Moment) (xs : List Entry) → AllByRecursion (λ (x : Entry). IsSoundRole x.role) xs
    → AllByRecursion (λ (x : Entry). IsSoundRole x.role) (retain_mut (λ x. is_kept (tick_fate_of now x.role)) (with_role (role_after_tick now)) xs)
entries_sound now [] all = tt
entries_sound now (x ∷ xs) all =
    let rest = entries_sound now xs all.1 in
    by_test (is_kept (tick_fate_of now x.role)) (λ kept. rw kept (role_sound now x.role all.0, rest)) (λ gone. rw gone rest)

pub tick_sound : (h : SocketsView) (now : Moment) → IsSoundTable h → IsSoundTable (table_after_tick h now)
tick_sound h now sound = record { entries = entries_sound (later_moment h now) h.entries sound.entries }
