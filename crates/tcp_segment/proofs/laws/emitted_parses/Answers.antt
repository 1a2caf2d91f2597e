use Rattle.std.proofs.Common.{Ok}
use Rattle.tcp_segment.specs.Sent.{sent_segment, sent_octets}
use Rattle.tcp_segment.proofs.Answering.{one_answer}
use Rattle.tcp_segment.proofs.Checksum.{sent_spelled, sent_octets_len}
use Rattle.tcp_segment.proofs.laws.emitted_parses.Goals as goal

pub returns-clause-len : goal.returns-clause-len
returns-clause-len c = sent_octets_len

pub returns-clause-spelled : goal.returns-clause-spelled
returns-clause-spelled c = sent_spelled

pub returns-clause-parsed : goal.returns-clause-parsed
returns-clause-parsed c = λ src dst head octets answer can parsed.
    one_answer src dst (sent_octets src dst head octets) answer (Ok (sent_segment head octets)) parsed (sent_spelled src dst head octets can)
