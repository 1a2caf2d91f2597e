-- For none of what the loop has passed can a frame go out.
use Rattle.std.proofs.Common.{◌≡◌, drop}
use Rattle.sockets.specs.Entries.{dues_of}
use Rattle.host.proofs.Emitting.{first_from}
use Rattle.host.proofs.layers.Layers.plan_behind.Given as goal

abbrev pub invariant-loop-number : goal.invariant-loop-number
invariant-loop-number l = first_from l.self l.now (drop 1 (dues_of l.entry.role)) ≡ first_from l.self l.now (drop l.number (dues_of l.entry.role))
