use Rattle.ether.proofs.OneFrame.{one_frame}
use Rattle.ether.proofs.laws.one_frame.Goals as goal

pub returns : goal.returns
returns c = one_frame
