use Rattle.sockets.proofs.Drawn.{counted, sent_behind}
use Rattle.sockets.proofs.laws.identifications_are_drawn_in_turn.Goals as goal

pub returns-clause-taken : goal.returns-clause-taken
returns-clause-taken c = sent_behind

pub returns-clause-counted : goal.returns-clause-counted
returns-clause-counted c = counted
