-- The least moment so far is that of those that the loop has passed.
use Rattle.std.proofs.Common.{◌≡◌, drop, None}
use Rattle.sockets.specs.Entries.{dues_of}
use Rattle.host.proofs.Waiting.{requests_from}
use Rattle.host.proofs.layers.Layers.request_deadline.Given as goal

abbrev pub invariant-loop-number : goal.invariant-loop-number
invariant-loop-number l = requests_from l.self None (dues_of l.entry.role) ≡ requests_from l.self l.least (drop l.number (dues_of l.entry.role))
