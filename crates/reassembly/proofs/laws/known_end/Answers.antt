use Rattle.reassembly.proofs.Together.{known_end}
use Rattle.reassembly.proofs.laws.known_end.Goals as goal

pub returns : goal.returns
returns c = known_end
