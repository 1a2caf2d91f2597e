use Rattle.std.proofs.Common.{Ok}
use Rattle.icmp.specs.Message.{spelling}
use Rattle.icmp.specs.Sent.{echo_reply}
use Rattle.icmp.proofs.Answering.{one_answer, echo_spelled}
use Rattle.icmp.proofs.laws.echo_reply_parses.Goals as goal

pub returns-clause-spelled : goal.returns-clause-spelled
returns-clause-spelled c = echo_spelled

pub returns-clause-parsed : goal.returns-clause-parsed
returns-clause-parsed c = λ identifier number octets answer identifier_fits number_fits parsed.
    one_answer (spelling (echo_reply identifier number octets)) answer (Ok (echo_reply identifier number octets)) parsed (echo_spelled identifier number octets identifier_fits number_fits)
