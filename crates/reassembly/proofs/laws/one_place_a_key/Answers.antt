use Rattle.reassembly.proofs.OverEvents.{one_place}
use Rattle.reassembly.proofs.laws.one_place_a_key.Goals as goal

pub returns : goal.returns
returns c = one_place
