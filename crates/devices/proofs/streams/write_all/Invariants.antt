use Rattle.std.proofs.Common.{◌≡◌, length}
use Rattle.devices.proofs.Moving.{IsTakenUpTo}
use Rattle.devices.proofs.streams.write_all.Given as goal

abbrev pub invariant-loop-rest : goal.invariant-loop-rest
invariant-loop-rest g l = record {
  failures : g.W.Sink.failures l.sink ≡ g.W.Sink.failures l.initial.sink;
  taken : IsTakenUpTo (g.W.Sink.taken l.initial.sink) (g.W.Sink.taken l.sink) l.octets l.rest;
}

abbrev pub decreases-loop-rest : goal.decreases-loop-rest
decreases-loop-rest g l = length l.rest
