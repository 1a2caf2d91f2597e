use Rattle.std.proofs.Common.{arith, inr}
use Rattle.commands.proofs.PlayLemmas.{on_err}
use Rattle.commands.proofs.RoomLemmas.{room_left}
use Rattle.commands.proofs.sim.pass.Goals as goal

pub returns-clause-left : goal.returns-clause-left
returns-clause-left c =
    on_err c.line_of_pass.result _
    (inr (c.carry-from_a.result, c.carry-from_b.result, c.carry-from_a.new.world.seen, rw c.in_ok-make_room.ensures.seen at c.carry-from_a.ensures.carried, c.carry-from_b.ensures.carried))

pub carry-from_b-requires : goal.carry-from_b-requires
carry-from_b-requires c = room_left 256 128 128 _ _ (omega arith) c.in_ok-make_room.ensures.room c.carry-from_a.ensures.room
