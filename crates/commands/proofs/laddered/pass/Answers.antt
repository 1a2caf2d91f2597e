use Rattle.std.proofs.Common.{length, take, string_bytes, inr, arith}
use Rattle.sides.specs.declared.side.Side.TheVariants.{A, B}
use Rattle.commands.proofs.PlayLemmas.{on_err}
use Rattle.commands.proofs.LadderLemmas.{carries_by, told_pass}
use Rattle.commands.proofs.RoomLemmas.{room_left}
use Rattle.commands.proofs.laddered.pass.Goals as goal

pub returns-in_err-note-clause-left : goal.returns-in_err-note-clause-left
returns-in_err-note-clause-left c = on_err c.from_residual-in_err-note.result _ (inr (length (take c.carry-of_a.result.count c.carry-of_a.result.frames), length (take c.carry-of_b.result.count c.carry-of_b.result.frames), c.carry-of_a.new.world.seen, carries_by A c.args.isn _ _ _ _ (rw c.in_ok-make_room.ensures.seen at c.carry-of_a.ensures.carried), carries_by B c.args.isn _ _ _ _ c.carry-of_b.ensures.carried))

pub returns-in_err-note-2-clause-left : goal.returns-in_err-note-2-clause-left
returns-in_err-note-2-clause-left c = on_err c.from_residual-in_err-note-2.result _ (inr (length (take c.carry-of_a.result.count c.carry-of_a.result.frames), length (take c.carry-of_b.result.count c.carry-of_b.result.frames), c.carry-of_a.new.world.seen, carries_by A c.args.isn _ _ _ _ (rw c.in_ok-make_room.ensures.seen at c.carry-of_a.ensures.carried), carries_by B c.args.isn _ _ _ _ c.carry-of_b.ensures.carried))

pub returns-clause-left : goal.returns-clause-left
returns-clause-left c = on_err c.text_of_pass.result _ (inr (length (take c.carry-of_a.result.count c.carry-of_a.result.frames), length (take c.carry-of_b.result.count c.carry-of_b.result.frames), c.carry-of_a.new.world.seen, carries_by A c.args.isn _ _ _ _ (rw c.in_ok-make_room.ensures.seen at c.carry-of_a.ensures.carried), carries_by B c.args.isn _ _ _ _ c.carry-of_b.ensures.carried))

pub returns-clause-told : goal.returns-clause-told
returns-clause-told c =
    told_pass c.text_of_pass.result string_bytes c.args.isn _ _ _ _ _ _ _ _ _ _ _ _ (rw c.in_ok-make_room.ensures.seen at c.carry-of_a.ensures.carried) c.carry-of_b.ensures.carried
    c.carry-of_a.ensures.counted c.carry-of_b.ensures.counted c.in_ok-note.ensures c.in_ok-note-2.ensures c.text_of_pass.ensures

pub carry-of_b-requires : goal.carry-of_b-requires
carry-of_b-requires c = room_left 256 128 128 _ _ (omega arith) c.in_ok-make_room.ensures.room c.carry-of_a.ensures.room
