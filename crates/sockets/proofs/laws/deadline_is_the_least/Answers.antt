use Rattle.sockets.proofs.Deadlines.{least_found, none_found}
use Rattle.sockets.proofs.laws.deadline_is_the_least.Goals as goal

pub returns : goal.returns
returns c = record { some = least_found; none = none_found }
