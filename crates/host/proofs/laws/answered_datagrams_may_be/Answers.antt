use Rattle.host.proofs.Reporting.{in-no-broadcast, may-answer, others-add-none}
use Rattle.host.proofs.laws.answered_datagrams_may_be.Goals as goal

pub returns-clause-may : goal.returns-clause-may
returns-clause-may c = may-answer

pub returns-clause-link : goal.returns-clause-link
returns-clause-link c = in-no-broadcast

pub returns-clause-others : goal.returns-clause-others
returns-clause-others c = others-add-none
