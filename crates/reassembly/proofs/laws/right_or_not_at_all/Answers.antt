use Rattle.reassembly.proofs.Rooms.{kept_within, right_within, whole_within}
use Rattle.reassembly.proofs.laws.right_or_not_at_all.Goals as goal

pub returns-clause-kept : goal.returns-clause-kept
returns-clause-kept c = kept_within

pub returns-clause-right : goal.returns-clause-right
returns-clause-right c = right_within

pub returns-clause-whole : goal.returns-clause-whole
returns-clause-whole c = whole_within
