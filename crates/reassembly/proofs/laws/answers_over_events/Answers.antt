use Rattle.reassembly.proofs.OverEvents.{answered}
use Rattle.reassembly.proofs.laws.answers_over_events.Goals as goal

pub returns : goal.returns
returns c = answered
