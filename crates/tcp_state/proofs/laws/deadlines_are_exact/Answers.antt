use Rattle.tcp_state.proofs.Deadlines.{waits, acts}
use Rattle.tcp_state.proofs.laws.deadlines_are_exact.Goals as goal

pub returns : goal.returns
returns c = record { waits = waits; acts = acts }
