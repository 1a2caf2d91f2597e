use Rattle.host.proofs.Tables.{event-reaches, event-timed, run-reached, run-ordered, run-over, run-timed}
use Rattle.host.proofs.laws.tables_are_reached.Goals as goal

pub returns : goal.returns
returns c = record { event = event-reaches; timed = event-timed; reached = run-reached; ordered = run-ordered; over = run-over; keeps_time = run-timed }
