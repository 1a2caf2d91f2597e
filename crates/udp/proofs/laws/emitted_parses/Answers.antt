use Rattle.std.proofs.Common.{Ok, ◌++◌}
use Rattle.udp.specs.Datagram.{spelling}
use Rattle.udp.specs.Sent.{sent}
use Rattle.udp.proofs.Answering.{one_answer, sent_spelled, sent_len, sum_told, sum_right}
use Rattle.udp.proofs.laws.emitted_parses.Goals as goal

pub returns-clause-len : goal.returns-clause-len
returns-clause-len c = sent_len

pub returns-clause-spelled : goal.returns-clause-spelled
returns-clause-spelled c = sent_spelled

pub returns-clause-parsed : goal.returns-clause-parsed
returns-clause-parsed c = λ src dst head payload padding answer can parsed.
    one_answer src dst (spelling (sent src dst head payload) ++ padding) answer (Ok (sent src dst head payload)) parsed
    (sent_spelled src dst head payload padding can)

pub returns-clause-told : goal.returns-clause-told
returns-clause-told c = sum_told

pub returns-clause-right : goal.returns-clause-right
returns-clause-right c = sum_right
