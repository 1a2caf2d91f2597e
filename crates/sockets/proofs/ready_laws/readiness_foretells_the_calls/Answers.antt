use Rattle.sockets.proofs.Foretold.{accept_told, failed_told}
use Rattle.sockets.proofs.ready_laws.readiness_foretells_the_calls.Goals as goal

pub returns-clause-accept : goal.returns-clause-accept
returns-clause-accept c = accept_told

pub returns-clause-failed : goal.returns-clause-failed
returns-clause-failed c = failed_told
