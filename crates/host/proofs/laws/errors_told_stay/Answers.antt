use Rattle.host.proofs.Tables.{event-tells, event-given, run-tells, run-socket_tells}
use Rattle.host.proofs.laws.errors_told_stay.Goals as goal

pub returns : goal.returns
returns c = record { event = event-tells; given = event-given; over = run-tells; socket = run-socket_tells }
