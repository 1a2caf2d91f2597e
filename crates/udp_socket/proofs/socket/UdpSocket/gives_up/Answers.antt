-- The tests of the tags are those of the datagrams.
use Rattle.std.proofs.Common.{rules, ap, ◌∙◌}
use Rattle.std.specs.List.{list_any}
use Rattle.std.proofs.lemmas.Iterator.Search.{any_from_yields_List}
use Rattle.std.proofs.lemmas.Iterator.Consumers.{YieldsList-from_rest}
use Rattle.udp_socket.specs.declared.tag.Tag.{Tag}
use Rattle.udp_socket.specs.SocketView.{SocketView}
use Rattle.udp_socket.specs.Stored.{bare}
use Rattle.udp_socket.specs.Waits.{is_given_up}
use Rattle.udp_socket.proofs.Lost.{given_beside}
use Rattle.udp_socket.proofs.socket.UdpSocket.gives_up.Goals as goal

pub returns : goal.returns
returns g c = λ test computes.
    any_from_yields_List (λ (tag : Tag). is_given_up test c.args.now (bare tag)) _ _ _ c.any.ensures.ran (YieldsList-from_rest c.self.inside.tags.items c.iter.ensures.rest)
    (λ x b q called. search rules)
    ∙ given_beside test c.args.now c.self.inside.tags.items c.self.inside.datagrams.items c.self.invariant.beside
    ∙ ap (λ (s : SocketView). list_any (is_given_up test c.args.now) s.outbox) c.self.view_is
