use Rattle.std.proofs.Common.{◌≡◌, length, take}
use Rattle.commands.specs.Laddered.{HasBrought}
use Rattle.commands.specs.Room.{TakesUp}
use Rattle.commands.proofs.laddered.bring.Given as goal

abbrev pub invariant-loop-place : goal.invariant-loop-place
invariant-loop-place l = record {
  long : length l.passages ≡ 64;
  brought : HasBrought l.to l.isn l.initial.world.seen (take l.place l.frames) (take l.place l.passages) l.world.seen;
  room : TakesUp l.place l.initial.world l.world;
}
