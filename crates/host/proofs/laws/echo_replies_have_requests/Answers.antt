use Rattle.host.proofs.Messages.{request-there}
use Rattle.host.proofs.Reporting.{request-answered}
use Rattle.host.proofs.laws.echo_replies_have_requests.Goals as goal

pub returns-clause-request : goal.returns-clause-request
returns-clause-request c = request-there

pub returns-clause-reply : goal.returns-clause-reply
returns-clause-reply c = request-answered
