use Rattle.stream_buf.specs.Written.{written}
use Rattle.stream_buf.proofs.Unacknowledged.{written_right, room_right}
use Rattle.stream_buf.proofs.laws.held_is_unacknowledged.Goals as goal

pub returns-clause-held : goal.returns-clause-held
returns-clause-held c = λ capacity events can. (written_right capacity events can).held

pub returns-clause-acknowledged : goal.returns-clause-acknowledged
returns-clause-acknowledged c = λ capacity events can. (written_right capacity events can).acknowledged

pub returns-clause-room : goal.returns-clause-room
returns-clause-room c = λ capacity events can.
    let right = written_right capacity events can in (right.size, room_right capacity (written capacity events) right)
