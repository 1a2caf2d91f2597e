use Rattle.tcp_state.proofs.Lateness.{late_waits, usual_tells}
use Rattle.tcp_state.proofs.late.late_octets_are_waited_for.Goals as goal

pub returns : goal.returns
returns c = record { late = late_waits; usual = usual_tells }
