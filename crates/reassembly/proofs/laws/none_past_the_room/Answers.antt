use Rattle.reassembly.proofs.OverEvents.{refused, leaves}
use Rattle.reassembly.proofs.Rooms.{lent}
use Rattle.reassembly.proofs.laws.none_past_the_room.Goals as goal

pub returns-clause-refused : goal.returns-clause-refused
returns-clause-refused c = refused

pub returns-clause-leaves : goal.returns-clause-leaves
returns-clause-leaves c = leaves

pub returns-clause-lent : goal.returns-clause-lent
returns-clause-lent c = lent
