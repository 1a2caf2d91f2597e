use Rattle.sockets.proofs.Foreseen.{opening_foreseen}
use Rattle.sockets.proofs.Held.{opening_holds}
use Rattle.sockets.proofs.laws.openings_are_foreseen.Goals as goal

pub returns : goal.returns
returns c = record { foreseen = opening_foreseen; opened = opening_holds }
