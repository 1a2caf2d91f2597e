use Rattle.sockets.proofs.OfferOrder.{joins-at-end}
use Rattle.sockets.proofs.OfferTurns.{in-order}
use Rattle.sockets.proofs.offered_laws.offers_join_at_the_end.Goals as goal

pub returns : goal.returns
returns c = record { last = joins-at-end; order = in-order }
