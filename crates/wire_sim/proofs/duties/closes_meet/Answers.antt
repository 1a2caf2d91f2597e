use Rattle.wire_sim.proofs.two_ends.Meets.{first_closes, last_closes, ack_ends}
use Rattle.wire_sim.proofs.two_ends.Calls.{shutdown_ends}
use Rattle.wire_sim.proofs.duties.closes_meet.Goals as goal

pub returns : goal.returns
returns c = record { shuts = shutdown_ends; first = first_closes; last = last_closes; acknowledgement = ack_ends }
