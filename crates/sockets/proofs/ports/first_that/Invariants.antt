-- The first that passes is the first one of those that are left.
use Rattle.std.proofs.Common.{◌≡◌, ℕ, ◌-◌, Bool}
use Rattle.sockets.specs.Ports.{first_port}
use Rattle.sockets.proofs.ports.first_that.Given as goal

abbrev pub invariant-loop-steps : goal.invariant-loop-steps
invariant-loop-steps g l =
    (test : ℕ → Bool) → ((port : ℕ) (answer : Bool) → goal.F-post g l.passes port answer → answer ≡ test port) → first_port test l.last 0 16384 ≡ first_port test l.last l.steps (16384 - l.steps)
