use Rattle.sockets.proofs.OthersReady.{segment_leaves, error_leaves, datagram_leaves}
use Rattle.sockets.proofs.ready_laws.arrivals_leave_the_others.Goals as goal

pub returns : goal.returns
returns c = record { segment = segment_leaves; error = error_leaves; datagram = datagram_leaves }
