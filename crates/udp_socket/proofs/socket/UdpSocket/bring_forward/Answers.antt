-- The tag in the place goes before the others, as its datagram does.
use Rattle.std.proofs.Common.{length, ap, arith}
use Rattle.udp_socket.specs.SocketView.{SocketView}
use Rattle.udp_socket.proofs.Beside.{beside_len}
use Rattle.udp_socket.proofs.GivingUp.{length-out}
use Rattle.udp_socket.proofs.Places.{stored_brought, shown_brought, brought_first}
use Rattle.udp_socket.proofs.socket.UdpSocket.bring_forward.Goals as goal

pub returns-then-place-eq0 : goal.returns-then-place-eq0
returns-then-place-eq0 c = brought_first c.args.self.now c.args.place c.if-place-eq0.true

pub bring_forward-requires : goal.bring_forward-requires
bring_forward-requires c =
    let tags = c.self.inside.tags.items in
    let items = c.self.inside.datagrams.items in
    omega (arith, c.requires, ap (λ (s : SocketView). length s.outbox) c.self.view_is, length-out tags items c.self.invariant.beside, beside_len tags items c.self.invariant.beside)

pub bring_range_forward-requires : goal.bring_range_forward-requires
bring_range_forward-requires c =
    let tags = c.self.inside.tags.items in
    let items = c.self.inside.datagrams.items in
    omega (arith, c.requires, ap (λ (s : SocketView). length s.outbox) c.self.view_is, length-out tags items c.self.invariant.beside)

pub invariant_of-self : goal.invariant_of-self
invariant_of-self c =
    stored_brought c.self.inside.inbox c.self.inside.datagrams c.bring_forward.new.self c.self.inside.tags c.bring_range_forward.new.ring c.self.inside.parts c.args.place
    c.self.invariant c.bring_forward.ensures c.bring_range_forward.ensures

pub returns : goal.returns
returns c =
    shown_brought c.self.inside.inbox.items c.self.inside.datagrams c.bring_forward.new.self c.self.inside.tags c.bring_range_forward.new.ring c.self.inside.parts c.args.place c.args.self.now
    c.if-place-eq0.false c.self.invariant.beside c.bring_forward.ensures c.bring_range_forward.ensures c.self.view_is
