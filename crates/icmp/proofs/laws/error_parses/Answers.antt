use Rattle.std.proofs.Common.{Ok}
use Rattle.icmp.specs.Message.{spelling}
use Rattle.icmp.specs.Sent.{error_for}
use Rattle.icmp.proofs.Answering.{one_answer, error_spelled}
use Rattle.icmp.proofs.laws.error_parses.Goals as goal

pub returns-clause-spelled : goal.returns-clause-spelled
returns-clause-spelled c = error_spelled

pub returns-clause-parsed : goal.returns-clause-parsed
returns-clause-parsed c = λ reason header payload answer parsed.
    one_answer (spelling (error_for reason header payload)) answer (Ok (error_for reason header payload)) parsed (error_spelled reason header payload)
