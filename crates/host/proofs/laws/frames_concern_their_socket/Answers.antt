use Rattle.host.proofs.ForSockets.{of_socket, of_waiting, of_opening, of_datagram}
use Rattle.host.proofs.laws.frames_concern_their_socket.Goals as goal

pub returns : goal.returns
returns c = record { socket = of_socket; waiting = of_waiting; opening = of_opening; datagram = of_datagram }
