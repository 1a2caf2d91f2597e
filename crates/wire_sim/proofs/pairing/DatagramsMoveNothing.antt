-- Datagrams move no connection: one that is sent, read or received is no move of any pairing.
use Rattle.std.proofs.Common.{◌≡◌, ℕ, Bool, List, Result, Ok, Err, refl}
use Rattle.std.specs.Prelude.{option_and_then}
use Rattle.ipv4.specs.declared.addr.Addr.{Addr}
use Rattle.ipv4.specs.declared.addr.Endpoint.{Endpoint}
use Rattle.udp.specs.Datagram.{UserDatagram}
use Rattle.sockets.specs.declared.entry.SocketId.{SocketId}
use Rattle.sockets.specs.declared.refusal.Refusal.{Refusal}
use Rattle.sockets.specs.declared.datagrams.Reception.{Reception}
use Rattle.sockets.specs.declared.datagrams.Reception.TheVariants.{Queued, NoRoom, NoSocket}
use Rattle.sockets.specs.Calls.{bound_of, last_port_after}
use Rattle.sockets.specs.Datagrams.{end_sent_from, next_identification, after_sendto, after_recvfrom, reception, after_reception}
use Rattle.sockets.specs.Entries.{is_socket, is_datagrams_at, with_role, role_after_sendto, role_after_recvfrom, role_after_reception}
use Rattle.sockets.specs.Lists.{change_first}
use Rattle.sockets.specs.SocketsView.{SocketsView, role_of, with_socket}
use Rattle.sides.specs.declared.side.Side.{Side}
use Rattle.wire_sim.specs.declared.event.Opening.{Opening}
use Rattle.wire_sim.specs.declared.event.Happening.{Happening}
use Rattle.wire_sim.proofs.pairing.CallsAreMoves.{kept, projects-alike, projects-quiet}
use Rattle.wire_sim.proofs.pairing.WorldAsPairings.{Bag, Projects}
use Rattle.wire_sim.proofs.tables.UnseenRoles.{quiet_datagrams}

-- one that is sent
pub projects-sent_to : (limit : ℕ) (hs ts : Side) (a b : Addr) (own other : SocketsView) (bag : Bag) (openings : List Opening) (trace : List Happening) (id : SocketId) (peer : Endpoint) (octets : List ℕ) (routed : Bool)
    → Projects limit hs ts a b own other bag openings trace → Projects limit hs ts a b (after_sendto own id peer octets routed) other bag openings trace
projects-sent_to limit hs ts a b own other bag openings trace id peer octets routed h = by_end (end_sent_from own id peer octets routed) refl
  where
    next : SocketsView
    next = after_sendto own id peer octets routed

    by_end : (r : Result Endpoint Refusal) → end_sent_from own id peer octets routed ≡ r → Projects limit hs ts a b next other bag openings trace
    by_end (Err e) is = let same : next ≡ own = rw is in kept limit hs ts a b own next other bag openings trace same h
    by_end (Ok local) is =
        let drawn : SocketsView = record own { last_port = last_port_after own (option_and_then bound_of (role_of own id)) local.port; identification = next_identification own.identification } in
        let change = role_after_sendto local own.kept peer own.identification octets in
        let same : next ≡ with_socket drawn id change = rw is in
        kept limit hs ts a b (with_socket drawn id change) next other bag openings trace same
        (projects-quiet limit hs ts a b drawn other bag openings trace (is_socket id) change (quiet_datagrams _ _) (projects-alike limit hs ts a b own drawn other bag openings trace refl refl refl h))

-- one that is read
pub projects-received_from : (limit : ℕ) (hs ts : Side) (a b : Addr) (own other : SocketsView) (bag : Bag) (openings : List Opening) (trace : List Happening) (id : SocketId)
    → Projects limit hs ts a b own other bag openings trace → Projects limit hs ts a b (after_recvfrom own id) other bag openings trace
projects-received_from limit hs ts a b own other bag openings trace id h = projects-quiet limit hs ts a b own other bag openings trace (is_socket id) role_after_recvfrom (quiet_datagrams _ _) h

-- one that comes
pub projects-received : (limit : ℕ) (hs ts : Side) (a b : Addr) (own other : SocketsView) (bag : Bag) (openings : List Opening) (trace : List Happening) (source : Addr) (d : UserDatagram)
    → Projects limit hs ts a b own other bag openings trace → Projects limit hs ts a b (after_reception own source d) other bag openings trace
projects-received limit hs ts a b own other bag openings trace source d h = by_reception (reception own d) refl
  where
    next : SocketsView
    next = after_reception own source d

    from : Endpoint
    from = record { addr = source; port = d.source }

    by_reception : (r : Reception) → reception own d ≡ r → Projects limit hs ts a b next other bag openings trace
    by_reception Queued is =
        let change = role_after_reception from d.payload in
        let test = is_datagrams_at d.destination in
        let same : next ≡ record own { entries = change_first test (with_role change) own.entries } = rw is in
        kept limit hs ts a b (record own { entries = change_first test (with_role change) own.entries }) next other bag openings trace same
        (projects-quiet limit hs ts a b own other bag openings trace test change (quiet_datagrams _ _) h)
    by_reception NoRoom is = let same : next ≡ own = rw is in kept limit hs ts a b own next other bag openings trace same h
    by_reception NoSocket is = let same : next ≡ own = rw is in kept limit hs ts a b own next other bag openings trace same h
