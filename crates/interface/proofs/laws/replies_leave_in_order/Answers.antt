use Rattle.interface.proofs.Waits.{first_goes}
use Rattle.interface.proofs.Waits.{first_waits}
use Rattle.interface.proofs.Waits.{left_in_order}
use Rattle.interface.proofs.Waits.{none_waits}
use Rattle.interface.proofs.laws.replies_leave_in_order.Goals as goal

pub returns-clause-first : goal.returns-clause-first
returns-clause-first c = first_waits

pub returns-clause-goes : goal.returns-clause-goes
returns-clause-goes c = first_goes

pub returns-clause-none : goal.returns-clause-none
returns-clause-none c = none_waits

pub returns-clause-left : goal.returns-clause-left
returns-clause-left c = left_in_order
