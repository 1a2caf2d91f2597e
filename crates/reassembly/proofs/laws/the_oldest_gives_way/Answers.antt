use Rattle.reassembly.proofs.Oldest.{none_gone, oldest_gone, room_left}
use Rattle.reassembly.proofs.laws.the_oldest_gives_way.Goals as goal

pub returns-clause-none : goal.returns-clause-none
returns-clause-none c = none_gone

pub returns-clause-oldest : goal.returns-clause-oldest
returns-clause-oldest c = oldest_gone

pub returns-clause-room : goal.returns-clause-room
returns-clause-room c = room_left
