-- The write at the place is the change of the first UDP socket at the port, or none where it has no room.
use Rattle.std.proofs.Common.{◌≡◌, ◌∙◌, ℕ, get_or, Some, refl, ap, sym}
use Rattle.std.specs.List.{position}
use Rattle.ipv4.specs.declared.addr.Endpoint.{Endpoint}
use Rattle.udp.specs.Datagram.{UserDatagram}
use Rattle.sockets.specs.declared.entry.Entry.{Entry}
use Rattle.sockets.specs.Entries.{is_datagrams_at, role_after_reception}
use Rattle.sockets.specs.SocketsView.{SocketsView}
use Rattle.sockets.proofs.Queues.{received}
use Rattle.sockets.proofs.Written.{role_changed_if}
use Rattle.sockets.proofs.Ascending.{ascends_written}
use Rattle.sockets.proofs.Filed.{index_written}
use Rattle.sockets.proofs.KeptFiled.{filed_or_not, filed-reception}
use Rattle.sockets.proofs.Outlooks.{outlook_written}
use Rattle.sockets.proofs.sockets.Sockets.receive.Goals as goal

pub returns-clause-after : goal.returns-clause-after
returns-clause-after c =
    let h : SocketsView = c.args.self.now in
    let d : UserDatagram = c.args.datagram.now in
    let place : position (is_datagrams_at d.destination) h.entries ≡ Some c.in-Some.place =
    ap (λ (port : ℕ). position (is_datagrams_at port) h.entries) (sym c.destination.ensures)
    ∙ sym c.datagrams_at.ensures
    ∙ c.in-Some.is
    in
    let from = ap (λ (port : ℕ). let e : Endpoint = record { addr = c.args.source; port = port } in e) c.source.ensures in
    received _ h c.args.source d _ _ _ _ _ _ _ c.self.view_is place c.deref_mut.ensures.value c.index-deref_mut-place.is from c.payload.ensures.octets c.receive.ensures.room
    (role_changed_if c.receive.result (role_after_reception (record { addr = c.args.source; port = c.source.result }) c.payload.result.now) _ _ c.receive.ensures.after)

-- the entry keeps its id
pub invariant_of-self : goal.invariant_of-self
invariant_of-self c =
    let from : Endpoint = record { addr = c.args.source; port = c.source.result } in
    let x : Entry = c.index-deref_mut-place.result in (
      c.self.invariant.0,
      ascends_written _ _ _ _ _ x c.self.invariant.1 c.deref_mut.ensures.value refl,
      index_written _ _ _ _ _ x c.self.invariant.2 c.deref_mut.ensures.value (filed_or_not c.receive.result (role_after_reception from c.payload.result.now) (get_or c.deref_mut.result.now c.in-Some.place x) _ (filed-reception _ _ _) c.receive.ensures.after),
      outlook_written _ _ _ _ _ _ (c.turn_to.ensures.known _ c.self.invariant.3) c.turn_to.ensures.at_hand c.deref_mut.ensures.value,
    )

pub turn_to-requires-clause-known : goal.turn_to-requires-clause-known
turn_to-requires-clause-known c = (c.self.inside.sizes.entries, c.self.invariant.3)
