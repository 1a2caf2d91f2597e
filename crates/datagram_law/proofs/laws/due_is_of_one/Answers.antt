use Rattle.datagram_law.proofs.Keeping.{due_is_of_one}
use Rattle.datagram_law.proofs.laws.due_is_of_one.Goals as goal

pub returns : goal.returns
returns c = due_is_of_one
