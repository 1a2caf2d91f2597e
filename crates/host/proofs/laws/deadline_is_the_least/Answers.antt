use Rattle.host.proofs.Waiting.{deadline-come}
use Rattle.host.proofs.laws.deadline_is_the_least.Goals as goal

pub returns : goal.returns
returns c = deadline-come
