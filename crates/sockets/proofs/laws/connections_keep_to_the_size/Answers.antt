use Rattle.sockets.proofs.Rooms.{fresh_size, size_kept, reached_size}
use Rattle.sockets.proofs.laws.connections_keep_to_the_size.Goals as goal

pub returns : goal.returns
returns c = record { fresh = fresh_size; kept = size_kept; reached = reached_size }
