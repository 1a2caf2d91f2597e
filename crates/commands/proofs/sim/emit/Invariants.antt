use Rattle.std.proofs.Common.{◌≤◌, take}
use Rattle.commands.specs.Play.{HasEmitted}
use Rattle.commands.specs.Room.{TakesUp}
use Rattle.commands.proofs.sim.emit.Given as goal

abbrev pub invariant-loop : goal.invariant-loop
invariant-loop l = record {
  few : l.count ≤ l.counter;
  emitted : HasEmitted l.from l.initial.world.seen l.counter (take l.count l.frames) l.world.seen;
  room : TakesUp l.counter l.initial.world l.world;
}
