use Rattle.reassembly.proofs.Quotes.{quoted}
use Rattle.reassembly.proofs.laws.quoted_fragment.Goals as goal

pub returns : goal.returns
returns c = quoted
