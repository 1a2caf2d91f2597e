use Rattle.std.proofs.Common.{take}
use Rattle.commands.specs.Play.{Delivers}
use Rattle.commands.specs.Room.{TakesUp}
use Rattle.commands.proofs.sim.deliver.Given as goal

abbrev pub invariant-loop-index : goal.invariant-loop-index
invariant-loop-index l = record {
  delivered : Delivers l.to l.isn (take l.index-index l.frames) l.initial.world.seen l.world.seen;
  room : TakesUp l.index-index l.initial.world l.world;
}
