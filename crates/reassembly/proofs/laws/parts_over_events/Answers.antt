use Rattle.reassembly.proofs.OverEvents.{right_for, whole_for}
use Rattle.reassembly.proofs.laws.parts_over_events.Goals as goal

pub returns-clause-right : goal.returns-clause-right
returns-clause-right c = right_for

pub returns-clause-whole : goal.returns-clause-whole
returns-clause-whole c = whole_for
