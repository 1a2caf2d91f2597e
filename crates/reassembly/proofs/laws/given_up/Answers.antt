use Rattle.reassembly.proofs.Contradictions.{given_up}
use Rattle.reassembly.proofs.Rooms.{given_up_where}
use Rattle.reassembly.proofs.laws.given_up.Goals as goal

pub returns-clause-conflicts : goal.returns-clause-conflicts
returns-clause-conflicts c = given_up

pub returns-clause-given_up : goal.returns-clause-given_up
returns-clause-given_up c = given_up_where
