use Rattle.stream_buf.specs.Received.{received}
use Rattle.stream_buf.proofs.Receptions.{reaches}
use Rattle.stream_buf.proofs.laws.octets_at_next_are_readable.Goals as goal

pub returns : goal.returns
returns c = λ capacity events octets can within. reaches (received capacity events) octets
