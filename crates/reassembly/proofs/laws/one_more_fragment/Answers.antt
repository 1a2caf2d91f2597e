use Rattle.reassembly.proofs.Rooms.{past_room, contrary, completes_within, waits_within}
use Rattle.reassembly.proofs.laws.one_more_fragment.Goals as goal

pub returns-clause-too_long : goal.returns-clause-too_long
returns-clause-too_long c = past_room

pub returns-clause-given_up : goal.returns-clause-given_up
returns-clause-given_up c = contrary

pub returns-clause-whole : goal.returns-clause-whole
returns-clause-whole c = completes_within

pub returns-clause-waits : goal.returns-clause-waits
returns-clause-waits c = waits_within
