use Rattle.udp_socket.specs.SocketView.{new_socket}
use Rattle.udp_socket.proofs.Sending.{sent_in_order}
use Rattle.udp_socket.proofs.laws.sent_in_order.Goals as goal

pub returns : goal.returns
returns c = λ events addr. sent_in_order addr new_socket events
