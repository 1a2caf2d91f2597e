use Rattle.host.proofs.Waiting.{tick-waits}
use Rattle.host.proofs.laws.ticks_wait.Goals as goal

pub returns : goal.returns
returns c = tick-waits
