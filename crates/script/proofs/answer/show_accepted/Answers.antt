use Rattle.std.proofs.Common.{rules, append_assoc}
use Rattle.script.proofs.answer.show_accepted.Goals as goal

pub returns : goal.returns
returns c = search (rules, append_assoc)
