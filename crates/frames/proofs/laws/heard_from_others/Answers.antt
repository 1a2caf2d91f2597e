use Rattle.frames.proofs.Hearers.{fragments_from_others, from_others, messages_from_others, others_from_others, users_from_others}
use Rattle.frames.proofs.laws.heard_from_others.Goals as goal

pub returns-clause-segment : goal.returns-clause-segment
returns-clause-segment c = from_others

pub returns-clause-message : goal.returns-clause-message
returns-clause-message c = messages_from_others

pub returns-clause-user : goal.returns-clause-user
returns-clause-user c = users_from_others

pub returns-clause-fragment : goal.returns-clause-fragment
returns-clause-fragment c = fragments_from_others

pub returns-clause-other : goal.returns-clause-other
returns-clause-other c = others_from_others
