use Rattle.sockets.proofs.Needed.{need_foreseen}
use Rattle.sockets.proofs.laws.needs_are_foreseen.Goals as goal

pub returns : goal.returns
returns c = need_foreseen
