use Rattle.host.proofs.Owed.{request-answered}
use Rattle.host.proofs.duties.requests_for_us_are_answered.Goals as goal

pub returns : goal.returns
returns c = request-answered
