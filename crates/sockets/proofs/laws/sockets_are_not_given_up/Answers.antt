use Rattle.sockets.proofs.Accepted.{socket_past}
use Rattle.sockets.proofs.GivenUp.{sockets_kept}
use Rattle.sockets.proofs.laws.sockets_are_not_given_up.Goals as goal

pub returns : goal.returns
returns c = λ h lost now id sound reached. sockets_kept h lost now id sound (socket_past h reached id)
