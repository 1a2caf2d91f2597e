use Rattle.stream_buf.specs.Received.{received}
use Rattle.stream_buf.proofs.Receptions.{read_stays}
use Rattle.stream_buf.proofs.laws.reads_take_what_there_is.Goals as goal

pub returns-clause-places : goal.returns-clause-places
returns-clause-places c = λ capacity events. read_stays (received capacity events)
