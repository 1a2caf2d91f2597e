use Rattle.sockets.proofs.Foreseen.{connect_foreseen}
use Rattle.sockets.proofs.Opened.{connect_opens}
use Rattle.sockets.proofs.laws.connects_are_foreseen.Goals as goal

pub returns : goal.returns
returns c = record { foreseen = connect_foreseen; opened = connect_opens }
