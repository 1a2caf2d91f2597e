use Rattle.sockets.proofs.ErrorsFirst.{connect_told, send_told, recv_told, shutdown_told}
use Rattle.sockets.proofs.laws.errors_are_reported_first.Goals as goal

pub returns : goal.returns
returns c = record { connect = connect_told; send = send_told; recv = recv_told; shutdown = shutdown_told }
