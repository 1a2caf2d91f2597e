use Rattle.host.proofs.Messages.{cause-there}
use Rattle.host.proofs.laws.errors_have_causes.Goals as goal

pub returns : goal.returns
returns c = cause-there
