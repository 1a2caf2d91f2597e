use Rattle.ladder.specs.Arrivals.{has_number}
use Rattle.ladder.proofs.Told.{IsTold}
use Rattle.ladder.proofs.record.Run.ladder.Given as goal

abbrev pub invariant-loop-thing : goal.invariant-loop-thing
invariant-loop-thing l = IsTold l.self l.thing-index l.ladder.items l.seen.syns.items (has_number l.seen.arrivals)
