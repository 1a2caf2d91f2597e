use Rattle.wire_sim.proofs.two_ends.Joined.{heard, draws}
use Rattle.wire_sim.proofs.joined.every_acknowledgement_is_heard.Goals as goal

pub returns : goal.returns
returns c = record { heard = heard; draws = draws }
