-- What the queue has room for, of the datagrams that the socket shows.
use Rattle.std.proofs.Common.{◌∙◌, ap}
use Rattle.udp_socket.specs.SocketView.{SocketView}
use Rattle.udp_socket.proofs.Asked.{most_left, none_left, room_shown}
use Rattle.udp_socket.proofs.socket.UdpSocket.room.Goals as goal

pub returns-in-Some : goal.returns-in-Some
returns-in-Some c =
    c.min.ensures
    ∙ most_left c.self.inside.datagrams c.in-Some.room c.self.invariant.outbox c.in-Some.ensures.some
    ∙ room_shown c.self.inside.tags.items c.self.inside.datagrams c.args.self.now c.self.invariant.beside (ap (λ (s : SocketView). s.outbox) c.self.view_is)

pub returns-in-None : goal.returns-in-None
returns-in-None c =
    none_left c.self.inside.datagrams c.self.invariant.outbox c.in-None.ensures.none
    ∙ room_shown c.self.inside.tags.items c.self.inside.datagrams c.args.self.now c.self.invariant.beside (ap (λ (s : SocketView). s.outbox) c.self.view_is)
