use Rattle.std.proofs.Common.{sym, ◌∙◌}
use Rattle.frames.proofs.Meanings.{spelled_heard}
use Rattle.frames.proofs.Spelled.{one_meaning}
use Rattle.frames.proofs.laws.one_meaning.Goals as goal

pub returns-clause-spelled : goal.returns-clause-spelled
returns-clause-spelled c = one_meaning

pub returns-clause-one : goal.returns-clause-one
returns-clause-one c = λ mac ours octets first second each a b. sym (spelled_heard mac ours octets first each a) ∙ spelled_heard mac ours octets second each b
