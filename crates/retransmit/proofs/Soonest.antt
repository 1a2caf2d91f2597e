-- Why the next deadline is that of some timer, and none is sooner.
use Rattle.std.proofs.Common.{◌≡◌, ℕ, ◌≤◌, if◌then◌else◌, Option, Some, None, inl, inr, arith, ◌∙◌, sym, ap}
use Rattle.std.proofs.lemmas.Bool.Decides.{leb_tells}
use Rattle.clock.specs.declared.moment.Moment.{Moment}
use Rattle.clock.specs.Moments.{sooner}
use Rattle.retransmit.specs.declared.timers.Timers.{Timers}
use Rattle.retransmit.specs.declared.timers.TimerKind.{TimerKind}
use Rattle.retransmit.specs.declared.timers.TimerKind.TheVariants.{Retransmission, Probe, DelayedAck, Override}
use Rattle.retransmit.specs.Deadlines.{deadline_of, next_of}

-- a bound on each of two deadlines, where there are any, is one on the sooner
abbrev Within : ℕ → Option Moment → Type 0
Within bound o = (deadline : Moment) → o ≡ Some deadline → deadline.0 ≤ bound

sooner_within : (bound : ℕ) (a b : Option Moment) → Within bound a → Within bound b → Within bound (sooner a b)
sooner_within bound None b one other = other
sooner_within bound (Some a) None one other = one
sooner_within bound (Some a) (Some b) one other = elim (leb_tells a.0 b.0) [
  | inl t ↦ λ deadline is. one deadline (sym (ap (λ c. if c then Some a else Some b) t.0) ∙ is)
  | inr t ↦ λ deadline is. other deadline (sym (ap (λ c. if c then Some a else Some b) t.0) ∙ is)
]

pub next_within : (t : Timers) (bound next : Moment) → ((kind : TimerKind) (deadline : Moment) → deadline_of t kind ≡ Some deadline → deadline.0 ≤ bound.0) → next_of t ≡ Some next → next.0 ≤ bound.0
next_within t bound next each =
    sooner_within bound.0 (sooner t.retransmission t.probe) (sooner t.delayed_ack t.overriding)
    (sooner_within bound.0 t.retransmission t.probe (each Retransmission) (each Probe))
    (sooner_within bound.0 t.delayed_ack t.overriding (each DelayedAck) (each Override)) next

-- there is a deadline, this one or a sooner one
abbrev IsBy : ℕ → Option Moment → Type 0
IsBy bound o = (next : Moment) × (o ≡ Some next) × (next.0 ≤ bound)

by_first : (bound : ℕ) (a b : Option Moment) → IsBy bound a → IsBy bound (sooner a b)
by_first bound None b is = let bad = is.1 in cc
by_first bound (Some a) None is = is
by_first bound (Some a) (Some b) is = elim (leb_tells a.0 b.0) [
  | inl t ↦ (is.0, ap (λ c. if c then Some a else Some b) t.0 ∙ is.1, is.2)
  | inr t ↦ let same : a ≡ is.0 = cc in let first : a.0 ≡ is.0.0 = ap (λ (m : Moment). m.0) same in (b, ap (λ c. if c then Some a else Some b) t.0, omega (arith, t.1, first, is.2))
]

by_second : (bound : ℕ) (a b : Option Moment) → IsBy bound b → IsBy bound (sooner a b)
by_second bound None b is = is
by_second bound (Some a) None is = let bad = is.1 in cc
by_second bound (Some a) (Some b) is = elim (leb_tells a.0 b.0) [
  | inl t ↦ let same : b ≡ is.0 = cc in let second : b.0 ≡ is.0.0 = ap (λ (m : Moment). m.0) same in (a, ap (λ c. if c then Some a else Some b) t.0, omega (arith, t.1, second, is.2))
  | inr t ↦ (is.0, ap (λ c. if c then Some a else Some b) t.0 ∙ is.1, is.2)
]

pub next_by : (t : Timers) (kind : TimerKind) (deadline : Moment) → deadline_of t kind ≡ Some deadline → IsBy deadline.0 (next_of t)
next_by t Retransmission deadline is =
    by_first deadline.0 (sooner t.retransmission t.probe) (sooner t.delayed_ack t.overriding) (by_first deadline.0 t.retransmission t.probe (deadline, is, omega arith))
next_by t Probe deadline is =
    by_first deadline.0 (sooner t.retransmission t.probe) (sooner t.delayed_ack t.overriding) (by_second deadline.0 t.retransmission t.probe (deadline, is, omega arith))
next_by t DelayedAck deadline is =
    by_second deadline.0 (sooner t.retransmission t.probe) (sooner t.delayed_ack t.overriding) (by_first deadline.0 t.delayed_ack t.overriding (deadline, is, omega arith))
next_by t Override deadline is =
    by_second deadline.0 (sooner t.retransmission t.probe) (sooner t.delayed_ack t.overriding) (by_second deadline.0 t.delayed_ack t.overriding (deadline, is, omega arith))
