use Rattle.interface.proofs.KnownMacs.{known_macs}
use Rattle.interface.proofs.laws.known_macs_are_whole.Goals as goal

pub returns : goal.returns
returns c = known_macs
