use Rattle.sockets.proofs.Opened.{connect_opens_at}
use Rattle.sockets.proofs.laws.a_connection_opens_at_its_moment.Goals as goal

pub returns : goal.returns
returns c = connect_opens_at
