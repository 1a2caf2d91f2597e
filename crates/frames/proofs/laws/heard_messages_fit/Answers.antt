use Rattle.frames.proofs.Hearers.{fragments_fit, headers_fit, messages_fit, users_fit}
use Rattle.frames.proofs.laws.heard_messages_fit.Goals as goal

pub returns-clause-message : goal.returns-clause-message
returns-clause-message c = messages_fit

pub returns-clause-user : goal.returns-clause-user
returns-clause-user c = users_fit

pub returns-clause-fragment : goal.returns-clause-fragment
returns-clause-fragment c = fragments_fit

pub returns-clause-other : goal.returns-clause-other
returns-clause-other c = headers_fit
