-- Where a connection of the segment's two ends stands in the table, none is opened.
use Rattle.std.proofs.Common.{◌∙◌, sym, ap}
use Rattle.std.specs.List.{position}
use Rattle.ipv4.specs.declared.addr.Addr.{Addr}
use Rattle.ipv4.specs.declared.addr.Endpoint.{Endpoint}
use Rattle.tcp_segment.specs.Segment.{Segment}
use Rattle.sockets.specs.Arrival.{peer_end}
use Rattle.sockets.specs.Entries.{is_between}
use Rattle.sockets.specs.SocketsView.{SocketsView}
use Rattle.sockets.proofs.Foreseen.{none-found}
use Rattle.sockets.proofs.sockets.Sockets.would_open.Goals as goal

pub returns-in-Some : goal.returns-in-Some
returns-in-Some c =
    let h : SocketsView = c.args.self.now in
    let source : Addr = c.args.source in
    let s : Segment = c.args.segment.now in
    none-found h source s c.in-Some.field-0
    (ap (λ (e : Endpoint). position (is_between e (peer_end source s)) h.entries) (sym c.ends.ensures.local)
    ∙ ap (λ (e : Endpoint). position (is_between c.ends.result.0 e) h.entries) (sym c.ends.ensures.peer)
    ∙ (sym c.connection_between.ensures ∙ c.in-Some.is))
