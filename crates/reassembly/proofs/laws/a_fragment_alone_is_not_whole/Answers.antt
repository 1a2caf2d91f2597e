use Rattle.reassembly.proofs.Rooms.{alone_within}
use Rattle.reassembly.proofs.laws.a_fragment_alone_is_not_whole.Goals as goal

pub returns : goal.returns
returns c = alone_within
