use Rattle.wire_sim.proofs.two_ends.Joined.{knows}
use Rattle.wire_sim.proofs.joined.every_end_knows_the_other.Goals as goal

pub returns : goal.returns
returns c = knows
