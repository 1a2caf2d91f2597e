-- A deadline or none for each kind of timer. A kind whose timer does not run has none.
use Rattle.std.specs.Prelude.{Bool, Option, None}
use Rattle.clock.specs.declared.moment.Moment.{Moment}
use Rattle.clock.specs.Moments.{has_come, sooner}
use Rattle.retransmit.specs.declared.timers.Timers.{Timers}
use Rattle.retransmit.specs.declared.timers.TimerKind.{TimerKind}
use Rattle.retransmit.specs.declared.timers.TimerKind.TheVariants.{Retransmission, Probe, DelayedAck, Override}

-- no timer runs
abbrev pub no_timers : Timers
no_timers = record { retransmission = None; probe = None; delayed_ack = None; overriding = None }

-- until when the timer of a kind runs
abbrev pub deadline_of : Timers → TimerKind → Option Moment
deadline_of t Retransmission = t.retransmission
deadline_of t Probe = t.probe
deadline_of t DelayedAck = t.delayed_ack
deadline_of t Override = t.overriding

-- the timer of a kind runs until then, or runs no more; the others are as they were
abbrev pub with_deadline : Timers → TimerKind → Option Moment → Timers
with_deadline t Retransmission deadline = record t { retransmission = deadline }
with_deadline t Probe deadline = record t { probe = deadline }
with_deadline t DelayedAck deadline = record t { delayed_ack = deadline }
with_deadline t Override deadline = record t { overriding = deadline }

-- whether the deadline of a kind has come
abbrev pub is_due : Timers → TimerKind → Moment → Bool
is_due t kind now = has_come (deadline_of t kind) now

-- the least deadline
abbrev pub next_of : Timers → Option Moment
next_of t = sooner (sooner t.retransmission t.probe) (sooner t.delayed_ack t.overriding)
