use Rattle.stream_buf.specs.Received.{received}
use Rattle.stream_buf.proofs.Receptions.{received_counted}
use Rattle.stream_buf.proofs.Standing.{first_free}
use Rattle.stream_buf.proofs.laws.nothing_waits_at_next.Goals as goal

pub returns : goal.returns
returns c = λ capacity events can.
    let right = received_counted capacity events can in let sound = right.sound in first_free (received capacity events).buffer.kept sound.gap
