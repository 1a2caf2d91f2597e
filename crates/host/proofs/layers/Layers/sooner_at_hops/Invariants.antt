-- What is left to look at stands from a place on.
use Rattle.std.proofs.Common.{◌≡◌, ◌-◌, length, drop, fold}
use Rattle.clock.specs.Moments.{sooner}
use Rattle.host.specs.Ticks.{hop_deadline}
use Rattle.host.proofs.layers.Layers.sooner_at_hops.Given as goal

abbrev pub invariant-loop-place : goal.invariant-loop-place
invariant-loop-place l = fold (λ least e. sooner least (hop_deadline l.self e)) l.fn.first l.entries ≡ fold (λ least e. sooner least (hop_deadline l.self e)) l.least (drop l.from l.entries)

abbrev pub decreases-loop-place : goal.decreases-loop-place
decreases-loop-place l = length l.entries - l.from
