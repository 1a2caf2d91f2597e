-- So many frames went out so far.
use Rattle.wire_sim.specs.WorldRoom.{KeepsRoom}
use Rattle.wire_sim.proofs.rounds.FramesInTurn.{HasSent}
use Rattle.wire_sim.proofs.world.World.emit_all.Given as goal

abbrev pub invariant-loop : goal.invariant-loop
invariant-loop l = record { sent : HasSent l.side l.counter l.initial.self.seen l.self.seen; room : KeepsRoom l.initial.self.room l.self.room }
