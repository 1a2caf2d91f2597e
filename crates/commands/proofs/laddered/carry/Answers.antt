use Rattle.std.proofs.Common.{arith, length, take}
use Rattle.std.proofs.lemmas.List.{length-take}
use Rattle.commands.proofs.RoomLemmas.{more_taken_up, room_left}
use Rattle.commands.proofs.laddered.carry.Goals as goal

pub bring-requires-clause-room : goal.bring-requires-clause-room
bring-requires-clause-room c =
    room_left 128 64 (length (take c.emit-count.result c.emit-count.new.frames)) _ _
    (omega (arith, c.emit-count.ensures.few, length-take c.emit-count.result c.emit-count.new.frames)) c.requires c.emit-count.ensures.room

pub returns-clause-room : goal.returns-clause-room
returns-clause-room c =
    more_taken_up 64 (length (take c.emit-count.result c.emit-count.new.frames)) 128 _ _ _
    (omega (arith, c.emit-count.ensures.few, length-take c.emit-count.result c.emit-count.new.frames)) c.emit-count.ensures.room c.bring.ensures.room
