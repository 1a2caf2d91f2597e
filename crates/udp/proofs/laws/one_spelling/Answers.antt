use Rattle.udp.proofs.Answering.{one_spelling}
use Rattle.udp.proofs.laws.one_spelling.Goals as goal

pub returns : goal.returns
returns c = one_spelling
