use Rattle.interface.proofs.Waits.{request_in_place}
use Rattle.interface.proofs.Waits.{request_noted}
use Rattle.interface.proofs.laws.requests_hold_nothing_back.Goals as goal

pub returns-clause-frame : goal.returns-clause-frame
returns-clause-frame c = request_in_place

pub returns-clause-left : goal.returns-clause-left
returns-clause-left c = request_noted
