use Rattle.sockets.proofs.Traffic.{no_stream_moves}
use Rattle.sockets.proofs.laws.datagrams_move_no_connection.Goals as goal

pub returns : goal.returns
returns c = no_stream_moves
