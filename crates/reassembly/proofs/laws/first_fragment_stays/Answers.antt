use Rattle.reassembly.specs.Reassembly.{begun}
use Rattle.reassembly.proofs.Quotes.{since_folded, key_folded}
use Rattle.reassembly.proofs.laws.first_fragment_stays.Goals as goal

pub returns-clause-since : goal.returns-clause-since
returns-clause-since c = λ now first fragments. since_folded (begun now first) fragments

pub returns-clause-key : goal.returns-clause-key
returns-clause-key c = λ now first fragments. key_folded (begun now first) fragments
