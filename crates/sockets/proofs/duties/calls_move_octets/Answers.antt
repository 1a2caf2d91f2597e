use Rattle.sockets.proofs.Calling.{send_answered, send_moved, recv_answered, recv_read, recv_moved}
use Rattle.sockets.proofs.duties.calls_move_octets.Goals as goal

pub returns : goal.returns
returns c = record { send = send_answered; sent = send_moved; recv = recv_answered; read = recv_read; left = recv_moved }
