use Rattle.udp_socket.specs.SocketView.{new_socket}
use Rattle.udp_socket.proofs.Histories.{read_in_order}
use Rattle.udp_socket.proofs.laws.read_in_order.Goals as goal

pub returns : goal.returns
returns c = read_in_order new_socket
