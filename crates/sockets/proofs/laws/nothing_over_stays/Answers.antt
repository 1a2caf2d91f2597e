use Rattle.sockets.proofs.Led.{fresh_over, reached_over}
use Rattle.sockets.proofs.Over.{none_over}
use Rattle.sockets.proofs.laws.nothing_over_stays.Goals as goal

pub returns : goal.returns
returns c = record { fresh = fresh_over; kept = none_over; reached = reached_over }
