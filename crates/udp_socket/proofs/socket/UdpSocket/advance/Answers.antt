use Rattle.std.proofs.Common.{◌∙◌, arith}
use Rattle.udp_socket.proofs.Beside.{few_parts, further}
use Rattle.udp_socket.proofs.socket.UdpSocket.advance.Goals as goal

pub overflow_add-self : goal.overflow_add-self
overflow_add-self c =
    omega (arith, few_parts c.self.inside.tags.items c.self.inside.datagrams.items c.self.inside.parts c.self.invariant.beside c.self.invariant.parts)

pub invariant_of-self : goal.invariant_of-self
invariant_of-self c = record {
  inbox = c.self.invariant.inbox;
  outbox = c.self.invariant.outbox;
  places = c.self.invariant.places;
  few = c.self.invariant.few;
  beside = c.self.invariant.beside;
  parts = further c.self.inside.inbox.items c.self.inside.tags.items c.self.inside.datagrams.items c.self.inside.parts c.args.self.now c.self.invariant.beside c.self.view_is
      (c.requires.more ∙ c.if-more_fragments.true);
}
