use Rattle.sockets.proofs.OfferHeld.{backlogs-kept}
use Rattle.sockets.proofs.offered_laws.backlogs_are_kept.Goals as goal

pub returns : goal.returns
returns c = backlogs-kept
