use Rattle.sockets.proofs.OfferAccepted.{some-accepted, accepted-ready}
use Rattle.sockets.proofs.offered_laws.accept_answers_the_ready.Goals as goal

pub returns : goal.returns
returns c = record { some = some-accepted; ready = accepted-ready }
