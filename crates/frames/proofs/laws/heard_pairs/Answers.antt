use Rattle.frames.proofs.PairLemmas.{heard_pairs}
use Rattle.frames.proofs.laws.heard_pairs.Goals as goal

pub returns : goal.returns
returns c = heard_pairs
