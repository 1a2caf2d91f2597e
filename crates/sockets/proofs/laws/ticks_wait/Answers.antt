use Rattle.sockets.proofs.Deadlines.{tick_waits}
use Rattle.sockets.proofs.laws.ticks_wait.Goals as goal

pub returns : goal.returns
returns c = tick_waits
