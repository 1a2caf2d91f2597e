use Rattle.icmp.proofs.Answering.{one_answer, parsed_is_read, short}
use Rattle.icmp.proofs.laws.one_answer.Goals as goal

pub returns-clause-one : goal.returns-clause-one
returns-clause-one c = one_answer

pub returns-clause-read : goal.returns-clause-read
returns-clause-read c = parsed_is_read

pub returns-clause-short : goal.returns-clause-short
returns-clause-short c = short
