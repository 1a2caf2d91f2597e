use Rattle.arp.proofs.History.{most_stays, few_pairs, few_notes}
use Rattle.arp.proofs.laws.few_are_kept.Goals as goal

pub returns-clause-most : goal.returns-clause-most
returns-clause-most c = most_stays

pub returns-clause-pairs : goal.returns-clause-pairs
returns-clause-pairs c = few_pairs

pub returns-clause-notes : goal.returns-clause-notes
returns-clause-notes c = few_notes
