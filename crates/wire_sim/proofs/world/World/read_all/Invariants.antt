-- So many octets were read so far, and the rest is as much less.
use Rattle.wire_sim.specs.WorldRoom.{KeepsRoom}
use Rattle.wire_sim.proofs.rounds.ReadsInTurn.{HasRead, unread_at}
use Rattle.wire_sim.proofs.world.World.read_all.Given as goal

abbrev pub invariant-loop-octets : goal.invariant-loop-octets
invariant-loop-octets l = record { read : HasRead l.side l.id l.count l.initial.self.seen l.self.seen; room : KeepsRoom l.initial.self.room l.self.room }

abbrev pub decreases-loop-octets : goal.decreases-loop-octets
decreases-loop-octets l = unread_at l.self.seen l.side l.id
