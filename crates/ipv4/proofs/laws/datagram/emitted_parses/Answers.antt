use Rattle.std.proofs.Common.{Ok, ◌++◌}
use Rattle.ipv4.specs.Datagram.{spelling}
use Rattle.ipv4.specs.Sent.{sent}
use Rattle.ipv4.proofs.Answering.{one_answer, sent_spelled, sent_len}
use Rattle.ipv4.proofs.laws.datagram.emitted_parses.Goals as goal

pub returns-clause-len : goal.returns-clause-len
returns-clause-len c = sent_len

pub returns-clause-spelled : goal.returns-clause-spelled
returns-clause-spelled c = sent_spelled

pub returns-clause-parsed : goal.returns-clause-parsed
returns-clause-parsed c = λ head payload padding answer fields parsed.
    one_answer (spelling (sent head payload) ++ padding) answer (Ok (sent head payload)) parsed (sent_spelled head payload padding fields)
