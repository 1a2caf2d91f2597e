use Rattle.sockets.proofs.OfferHeld.{ready-offered}
use Rattle.sockets.proofs.offered_laws.ready_are_offered.Goals as goal

pub returns : goal.returns
returns c = ready-offered
