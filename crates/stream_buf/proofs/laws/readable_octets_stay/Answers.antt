use Rattle.stream_buf.proofs.Receptions.{stays, forward}
use Rattle.stream_buf.proofs.laws.readable_octets_stay.Goals as goal

pub returns-clause-stays : goal.returns-clause-stays
returns-clause-stays c = stays

pub returns-clause-forward : goal.returns-clause-forward
returns-clause-forward c = forward
