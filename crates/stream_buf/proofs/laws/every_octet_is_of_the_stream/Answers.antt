use Rattle.stream_buf.specs.Received.{received}
use Rattle.stream_buf.proofs.Receptions.{received_counted, received_of, readable_of, kept_of}
use Rattle.stream_buf.proofs.laws.every_octet_is_of_the_stream.Goals as goal

pub returns-clause-counted : goal.returns-clause-counted
returns-clause-counted c = λ capacity events can. (received_counted capacity events can).counted

pub returns-clause-readable : goal.returns-clause-readable
returns-clause-readable c = λ stream capacity events can carry. readable_of stream capacity (received capacity events) (received_of stream capacity events can carry)

pub returns-clause-kept : goal.returns-clause-kept
returns-clause-kept c = λ stream capacity events can carry. kept_of stream capacity (received capacity events) (received_of stream capacity events can carry)
