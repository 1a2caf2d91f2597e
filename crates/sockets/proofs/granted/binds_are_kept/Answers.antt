use Rattle.sockets.proofs.Grants.{bind_kept}
use Rattle.sockets.proofs.granted.binds_are_kept.Goals as goal

pub returns : goal.returns
returns c = bind_kept
