use Rattle.sockets.proofs.Led.{reached_ordered}
use Rattle.sockets.proofs.Numbered.{address_stays, manner_stays, never_back, sizes_stay}
use Rattle.sockets.proofs.Ordered.{fresh_ordered, stays_ordered}
use Rattle.sockets.proofs.laws.tables_stay_ordered.Goals as goal

pub returns : goal.returns
returns c = record { fresh = fresh_ordered; kept = stays_ordered; reached = reached_ordered; numbered = never_back; address = address_stays; manner = manner_stays; sizes = sizes_stay }
