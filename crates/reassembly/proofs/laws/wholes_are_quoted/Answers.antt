use Rattle.reassembly.proofs.Found.{wholes_are_quoted}
use Rattle.reassembly.proofs.laws.wholes_are_quoted.Goals as goal

pub returns : goal.returns
returns c = wholes_are_quoted
