use Rattle.frames.proofs.Hearers.{fragments_are_parts, users_are_carried}
use Rattle.frames.proofs.laws.heard_users_are_carried.Goals as goal

pub returns-clause-whole : goal.returns-clause-whole
returns-clause-whole c = users_are_carried

pub returns-clause-fragment : goal.returns-clause-fragment
returns-clause-fragment c = fragments_are_parts
