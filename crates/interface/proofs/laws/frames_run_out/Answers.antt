use Rattle.interface.proofs.RunsOut.{one_reply, one_request, one_asked, fewer}
use Rattle.interface.proofs.laws.frames_run_out.Goals as goal

pub returns-clause-reply : goal.returns-clause-reply
returns-clause-reply c = one_reply

pub returns-clause-request : goal.returns-clause-request
returns-clause-request c = one_request

pub returns-clause-asked : goal.returns-clause-asked
returns-clause-asked c = one_asked

pub returns-clause-fewer : goal.returns-clause-fewer
returns-clause-fewer c = fewer
