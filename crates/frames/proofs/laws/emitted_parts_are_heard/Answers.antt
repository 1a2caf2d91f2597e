use Rattle.frames.proofs.Carried.{fragments_heard, parts_heard}
use Rattle.frames.proofs.laws.emitted_parts_are_heard.Goals as goal

pub returns-clause-whole : goal.returns-clause-whole
returns-clause-whole c = parts_heard

pub returns-clause-fragment : goal.returns-clause-fragment
returns-clause-fragment c = fragments_heard
