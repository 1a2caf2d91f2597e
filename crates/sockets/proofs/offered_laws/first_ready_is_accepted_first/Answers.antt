use Rattle.sockets.proofs.OfferOrder.{accepted-in-order}
use Rattle.sockets.proofs.offered_laws.first_ready_is_accepted_first.Goals as goal

pub returns : goal.returns
returns c = accepted-in-order
