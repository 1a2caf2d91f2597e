use Rattle.sockets.proofs.Caused.{ends_followed}
use Rattle.sockets.proofs.laws.ends_have_causes.Goals as goal

pub returns : goal.returns
returns c = ends_followed
