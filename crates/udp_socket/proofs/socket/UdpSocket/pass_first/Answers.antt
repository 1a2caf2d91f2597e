-- The first tag goes behind the others, as its datagram does, or both are taken out.
use Rattle.std.proofs.Common.{sym, ◌∙◌, ap}
use Rattle.udp_socket.specs.SocketView.{SocketView}
use Rattle.udp_socket.proofs.Lost.{stored_turned, shown_turned, first_kept, first_gone}
use Rattle.udp_socket.proofs.socket.UdpSocket.pass_first.Goals as goal

pub returns-then-is_given_up-clause-stays : goal.returns-then-is_given_up-clause-stays
returns-then-is_given_up-clause-stays g c = λ test computes.
    first_gone test c.args.now c.self.inside.tags.items c.self.inside.datagrams.items c.in-Some.tag c.args.self.now c.self.invariant.beside
    (sym c.pop_front.ensures.value ∙ c.in-Some.is) (ap (λ (s : SocketView). s.outbox) c.self.view_is) (sym (c.is_given_up.ensures test computes) ∙ c.if-is_given_up.true)

pub invariant_of-self-2 : goal.invariant_of-self-2
invariant_of-self-2 g c =
    stored_turned c.self.inside.inbox c.self.inside.datagrams c.requeue.new.self c.self.inside.tags c.pop_front.new.self c.push_back.new.self c.self.inside.parts c.in-Some.tag c.self.invariant
    (sym c.pop_front.ensures.value ∙ c.in-Some.is) c.requeue.ensures c.pop_front.ensures.items c.push_back.ensures.items

pub returns-clause-after : goal.returns-clause-after
returns-clause-after g c =
    shown_turned c.self.inside.inbox.items c.self.inside.datagrams c.requeue.new.self c.self.inside.tags c.pop_front.new.self c.push_back.new.self c.self.inside.parts c.in-Some.tag c.args.self.now
    c.self.invariant.places c.self.invariant.few c.self.invariant.beside
    (sym c.pop_front.ensures.value ∙ c.in-Some.is) c.requeue.ensures c.pop_front.ensures.items c.push_back.ensures.items c.self.view_is

pub returns-clause-stays : goal.returns-clause-stays
returns-clause-stays g c = λ test computes.
    first_kept test c.args.now c.self.inside.tags.items c.self.inside.datagrams.items c.in-Some.tag c.args.self.now c.self.invariant.beside
    (sym c.pop_front.ensures.value ∙ c.in-Some.is) (ap (λ (s : SocketView). s.outbox) c.self.view_is) (sym (c.is_given_up.ensures test computes) ∙ c.if-is_given_up.false)
