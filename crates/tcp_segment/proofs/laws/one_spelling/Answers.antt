use Rattle.tcp_segment.proofs.Checksum.{one_spelling}
use Rattle.tcp_segment.proofs.laws.one_spelling.Goals as goal

pub returns : goal.returns
returns c = one_spelling
