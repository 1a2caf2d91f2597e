use Rattle.tcp_state.proofs.SetUp.{control_stays, least_stays, plainly_none}
use Rattle.tcp_state.proofs.recovery.the_set_up_stays.Goals as goal

pub returns-clause-control : goal.returns-clause-control
returns-clause-control c = control_stays

pub returns-clause-least : goal.returns-clause-least
returns-clause-least c = least_stays

pub returns-clause-plain : goal.returns-clause-plain
returns-clause-plain c = plainly_none
