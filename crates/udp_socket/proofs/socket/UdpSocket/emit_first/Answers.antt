use Rattle.std.proofs.Common.{ℕ, List, ◌++◌, drop, sym, ◌∙◌, ap}
use Rattle.udp_socket.specs.Stored.{outgoing_of}
use Rattle.udp_socket.proofs.Beside.{no_tag, no_first}
use Rattle.udp_socket.proofs.Due.{shows, as_fragment, more_told, part_told, octets_told, first_placed, first_of, written_first, written_later}
use Rattle.udp_socket.proofs.socket.UdpSocket.emit_first.Goals as goal
use Rattle.udp_socket.proofs.socket.UdpSocket.emit_first.Goals.{then-self-eq0, else-self-eq0}

pub unreachable-requires : goal.unreachable-requires
unreachable-requires c =
    no_tag c.self.inside.inbox.items c.self.inside.tags.items c.self.inside.datagrams.items c.self.inside.parts c.args.self.now
    (sym c.front.ensures ∙ sym c.copied.ensures ∙ c.in_default.is) c.self.view_is c.requires.due

pub unreachable-requires-in_default-first : goal.unreachable-requires-in_default-first
unreachable-requires-in_default-first c =
    no_first c.self.inside.tags.items c.self.inside.datagrams.items c.in-Some.tag c.self.invariant.beside
    (sym c.front.ensures ∙ sym c.copied.ensures ∙ c.in-Some.is) (sym c.first.ensures.first ∙ c.in_default-first.is)

pub advance-requires-clause-more : goal.advance-requires-clause-more
advance-requires-clause-more c =
    let tags = c.self.inside.tags.items in
    let items = c.self.inside.datagrams.items in
    let parts = c.self.inside.parts in
    let tag = c.in-Some.tag in
    let seen = shows c.self.inside.inbox.items tags items parts c.args.self.now tag c.self.invariant.beside (sym c.front.ensures ∙ sym c.copied.ensures ∙ c.in-Some.is) c.self.view_is in
    more_told c.self.inside.inbox.items (outgoing_of (drop 1 tags) (drop 1 items)) items parts c.args.self.now tag c.at-fragment.result seen
    (as_fragment items c.in-Some-first.first parts c.at-fragment.result (sym c.in-Some-first.ensures.first) c.at-fragment.ensures)

pub returns-clause-part : goal.returns-clause-part
returns-clause-part c =
    let tags = c.self.inside.tags.items in
    let items = c.self.inside.datagrams.items in
    let parts = c.self.inside.parts in
    let tag = c.in-Some.tag in
    let seen = shows c.self.inside.inbox.items tags items parts c.args.self.now tag c.self.invariant.beside (sym c.front.ensures ∙ sym c.copied.ensures ∙ c.in-Some.is) c.self.view_is in
    part_told c.self.inside.inbox.items (outgoing_of (drop 1 tags) (drop 1 items)) items parts c.args.self.now tag c.at-fragment.result seen
    (as_fragment items c.in-Some-first.first parts c.at-fragment.result (sym c.in-Some-first.ensures.first) c.at-fragment.ensures)

pub returns-clause-octets : goal.returns-clause-octets
returns-clause-octets c =
    let tags = c.self.inside.tags.items in
    let items = c.self.inside.datagrams.items in
    let parts = c.self.inside.parts in
    let tag = c.in-Some.tag in
    let f = c.at-fragment.result in
    let old : List ℕ = c.args.out.now in
    let seen = shows c.self.inside.inbox.items tags items parts c.args.self.now tag c.self.invariant.beside (sym c.front.ensures ∙ sym c.copied.ensures ∙ c.in-Some.is) c.self.view_is in
    let told = as_fragment items c.in-Some-first.first parts f (sym c.in-Some-first.ensures.first) c.at-fragment.ensures in
    let due = octets_told c.self.inside.inbox.items (outgoing_of (drop 1 tags) (drop 1 items)) items parts c.args.self.now tag c.args.source seen in
    elim c.if-self-eq0.branch [
      | then-self-eq0 w ↦
          written_first c.args.source (first_of tag items) parts c.from.result f c.if-self-eq0.out w.fill_first.new.out old w.if-self-eq0.true c.requires.room told c.from.ensures
          w.fill_first.ensures w.out-is
          ∙ ap (λ (xs : List ℕ). xs ++ drop f.len old) due
      | else-self-eq0 w ↦
          written_later c.args.source (first_of tag items) parts c.from.result w.from-at.result f c.if-self-eq0.out w.copy_at.new.out old w.if-self-eq0.false c.requires.room told
          c.from.ensures w.from-at.ensures w.copy_at.ensures w.out-is
          ∙ ap (λ (xs : List ℕ). xs ++ drop f.len old) due
    ]

pub returns-clause-place : goal.returns-clause-place
returns-clause-place c =
    let items = c.self.inside.datagrams.items in
    let parts = c.self.inside.parts in
    first_placed c.self.inside.tags.items items c.in-Some.tag parts c.at-fragment.result c.self.invariant.beside
    (sym c.front.ensures ∙ sym c.copied.ensures ∙ c.in-Some.is) c.self.invariant.parts
    (as_fragment items c.in-Some-first.first parts c.at-fragment.result (sym c.in-Some-first.ensures.first) c.at-fragment.ensures)
