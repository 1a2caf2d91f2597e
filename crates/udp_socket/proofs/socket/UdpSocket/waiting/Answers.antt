use Rattle.std.proofs.Common.{length, sym, ◌∙◌, ap}
use Rattle.udp_socket.specs.SocketView.{SocketView}
use Rattle.udp_socket.proofs.GivingUp.{length-out}
use Rattle.udp_socket.proofs.socket.UdpSocket.waiting.Goals as goal

pub returns : goal.returns
returns c =
    c.len.ensures.len ∙ sym (length-out c.self.inside.tags.items c.self.inside.datagrams.items c.self.invariant.beside)
    ∙ ap (λ (s : SocketView). length s.outbox) c.self.view_is
