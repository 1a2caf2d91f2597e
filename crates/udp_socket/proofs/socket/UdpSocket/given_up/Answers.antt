-- The tests of the tags are those of the datagrams, and there are 64 at most.
use Rattle.std.proofs.Common.{◌≡◌, ℕ, ◌≤◌, Bool, List, rules, ap, sym, ◌∙◌, arith}
use Rattle.std.specs.List.{count_by}
use Rattle.std.proofs.lemmas.Iterator.Consumers.{YieldsList-from_rest, YieldsList-from_filter, YieldsList-at, count_from_yields_List}
use Rattle.std.proofs.lemmas.List.Sums.{length-filter, count_by-le-length}
use Rattle.udp_socket.specs.declared.tag.Tag.{Tag}
use Rattle.udp_socket.specs.SocketView.{SocketView}
use Rattle.udp_socket.specs.Stored.{bare}
use Rattle.udp_socket.specs.Waits.{is_given_up}
use Rattle.udp_socket.proofs.Counted.{count_beside}
use Rattle.udp_socket.proofs.socket.UdpSocket.given_up.Goals as goal

pub returns-clause-count : goal.returns-clause-count
returns-clause-count g c = λ test computes.
    let tags : List Tag = c.self.inside.tags.items in
    let given : Tag → Bool = λ tag. is_given_up test c.args.now (bare tag) in
    count_from_yields_List c.filter.result _ c.count.ensures.ran
    (YieldsList-from_filter _ given (YieldsList-at c.filter.ensures.source (YieldsList-from_rest tags c.iter.ensures.rest)) c.filter.ensures.closure (λ x b q called. search rules))
    ∙ length-filter given tags
    ∙ count_beside test c.args.now tags c.self.inside.datagrams.items c.self.invariant.beside
    ∙ ap (λ (s : SocketView). count_by (is_given_up test c.args.now) s.outbox) c.self.view_is
