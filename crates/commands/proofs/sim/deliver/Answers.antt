use Rattle.std.proofs.Common.{refl, arith}
use Rattle.commands.proofs.PlayLemmas.{delivered_more}
use Rattle.commands.proofs.RoomLemmas.{more_taken_up, none_taken_up, room_left}
use Rattle.commands.proofs.sim.deliver.Goals as goal

pub loop-index-init : goal.loop-index-init
loop-index-init c = record { delivered = refl; room = none_taken_up _ }

pub happen-requires : goal.happen-requires
happen-requires c = room_left _ c.loop-index.index-index 1 _ _ (omega (arith, c.loop-index-test.true)) c.requires c.loop-index.invariant.room

pub loop-index-preserved : goal.loop-index-preserved
loop-index-preserved c = record {
  delivered = delivered_more _ _ _ _ c.happen.result _ _ _ c.loop-index-test.true c.loop-index.invariant.delivered c.happen.ensures.came;
  room = more_taken_up c.loop-index.index-index 1 _ _ _ _ (omega arith) c.loop-index.invariant.room c.happen.ensures.room;
}
