use Rattle.std.proofs.Common.{ap, ◌∙◌, arith}
use Rattle.std.proofs.Math.ListN.{set, length-set}
use Rattle.commands.specs.Laddered.{none}
use Rattle.commands.proofs.LadderLemmas.{brought_more}
use Rattle.commands.proofs.RoomLemmas.{more_taken_up, none_taken_up, room_left}
use Rattle.commands.proofs.laddered.bring.Goals as goal

pub loop-place-init : goal.loop-place-init
loop-place-init c = record { long = omega arith; brought = none; room = none_taken_up _ }

pub happen-requires : goal.happen-requires
happen-requires c = room_left _ c.loop-place.place 1 _ _ (omega (arith, c.loop-place-test.true)) c.requires.room c.loop-place.invariant.room

pub loop-place-preserved : goal.loop-place-preserved
loop-place-preserved c = record {
  long = length-set c.loop-place.passages c.loop-place.place c.passage.result ∙ c.loop-place.invariant.long;
  brought = brought_more c.args.to c.args.isn c.args.frames.now c.loop-place.place c.happen.result c.loop-place.passages _ _ _ _ c.loop-place-test.true
      (omega (arith, c.loop-place.invariant.long))
      (ap (λ p. set c.loop-place.passages c.loop-place.place p) (rw c.of-errand.ensures at c.passage.ensures)) c.loop-place.invariant.brought
      c.happen.ensures.came;
  room = more_taken_up c.loop-place.place 1 _ _ _ _ (omega arith) c.loop-place.invariant.room c.happen.ensures.room;
}
