use Rattle.std.proofs.Common.{Ok}
use Rattle.icmp.specs.Message.{spelling}
use Rattle.icmp.specs.Sent.{reply_to}
use Rattle.icmp.proofs.Answering.{one_answer, reply_spelled}
use Rattle.icmp.proofs.laws.reply_parses.Goals as goal

pub returns-clause-spelled : goal.returns-clause-spelled
returns-clause-spelled c = reply_spelled

pub returns-clause-parsed : goal.returns-clause-parsed
returns-clause-parsed c = λ request answer fields parsed. one_answer (spelling (reply_to request)) answer (Ok (reply_to request)) parsed (reply_spelled request fields)
