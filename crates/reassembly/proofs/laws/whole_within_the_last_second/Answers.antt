use Rattle.reassembly.proofs.Late.{noted_is, others_are, few}
use Rattle.reassembly.proofs.laws.whole_within_the_last_second.Goals as goal

pub returns-clause-noted : goal.returns-clause-noted
returns-clause-noted c = noted_is

pub returns-clause-others : goal.returns-clause-others
returns-clause-others c = others_are

pub returns-clause-few : goal.returns-clause-few
returns-clause-few c = few
