use Rattle.round_law.proofs.Emitted.{nothing_due, due_out}
use Rattle.round_law.proofs.laws.what_is_due_goes_out.Goals as goal

pub returns-clause-due : goal.returns-clause-due
returns-clause-due c = due_out

pub returns-clause-nothing : goal.returns-clause-nothing
returns-clause-nothing c = nothing_due
