use Rattle.ether.proofs.Answering.{sent_spelled, emitted_parses, length-sent}
use Rattle.ether.proofs.laws.emitted_parses.Goals as goal

pub returns-clause-spelled : goal.returns-clause-spelled
returns-clause-spelled c = sent_spelled

pub returns-clause-parsed : goal.returns-clause-parsed
returns-clause-parsed c = emitted_parses

pub returns-clause-len : goal.returns-clause-len
returns-clause-len c = length-sent
