-- The frames before this one have come.
use Rattle.std.proofs.Common.{◌-◌}
use Rattle.std.specs.List.{range_with_len}
use Rattle.wire_sim.specs.Rounds.{Brings}
use Rattle.wire_sim.specs.WorldRoom.{KeepsRoom}
use Rattle.wire_sim.proofs.world.World.bring_all.Given as goal

abbrev pub invariant-loop-index : goal.invariant-loop-index
invariant-loop-index l = record {
  brought : Brings l.to (range_with_len l.first (l.index - l.first)) l.initial.self.seen l.self.seen;
  room : KeepsRoom l.initial.self.room l.self.room;
}
