use Rattle.ipv4.proofs.Answering.{one_spelling}
use Rattle.ipv4.proofs.laws.datagram.one_spelling.Goals as goal

pub returns : goal.returns
returns c = one_spelling
