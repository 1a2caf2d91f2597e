use Rattle.udp_socket.specs.SocketView.{new_socket}
use Rattle.udp_socket.proofs.Sending.{sent_once}
use Rattle.udp_socket.proofs.laws.sent_once.Goals as goal

pub returns : goal.returns
returns c = sent_once new_socket
