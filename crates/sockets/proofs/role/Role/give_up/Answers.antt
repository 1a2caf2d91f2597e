-- A UDP socket gives up as its queues do, and what is taken out stays as it was.
use Rattle.std.proofs.Common.{◌∙◌, sym, ap}
use Rattle.udp_socket.specs.SocketView.{SocketView as Queues}
use Rattle.sockets.specs.declared.role.Role.{Role}
use Rattle.sockets.specs.declared.role.Role.TheVariants.{Datagrams}
use Rattle.sockets.specs.Lost.{role_after_giving_up}
use Rattle.sockets.proofs.GivenUp.{given_up_same}
use Rattle.sockets.proofs.role.Role.give_up.Goals as goal

pub returns-in-Datagrams-clause-after : goal.returns-in-Datagrams-clause-after
returns-in-Datagrams-clause-after g c = λ test computes.
    ap (λ (q : Queues). Datagrams c.in-Datagrams.bound q) (c.give_up.ensures test computes)
    ∙ sym (ap (λ (r : Role). role_after_giving_up test c.args.now r) c.in-Datagrams.is)

pub returns-then-is_given_up-clause-after : goal.returns-then-is_given_up-clause-after
returns-then-is_given_up-clause-after g c = λ test computes. sym (given_up_same test c.args.now c.args.self.now (sym (c.if-is_given_up.ensures test computes)))
