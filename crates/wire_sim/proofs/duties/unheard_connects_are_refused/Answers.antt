use Rattle.wire_sim.proofs.two_ends.Meets.{unheard_refused, refusal_told}
use Rattle.wire_sim.proofs.two_ends.Calls.{connect_asks}
use Rattle.wire_sim.proofs.duties.unheard_connects_are_refused.Goals as goal

pub returns : goal.returns
returns c = record { asks = connect_asks; answered = unheard_refused; told = refusal_told }
