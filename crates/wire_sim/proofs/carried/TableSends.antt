-- What a table sends: a connection's segment, or a part of a datagram of a UDP socket.
use Rattle.std.proofs.Common.{◌≡◌, ℕ, Bool, List, [], ◌∷◌, length, Option, Some, None, option_map, Ok, arith, refl, sym, ◌∙◌, ap}
use Rattle.std.specs.List.{find, position}
use Rattle.ether.specs.declared.mac.Mac.{Mac}
use Rattle.ipv4.specs.declared.addr.Addr.{Addr}
use Rattle.ipv4.specs.declared.addr.Endpoint.{Endpoint}
use Rattle.clock.specs.declared.moment.Moment.{Moment}
use Rattle.tcp_state.specs.declared.emission.Due.{Due}
use Rattle.tcp_state.specs.View.{View}
use Rattle.tcp_state.specs.Due.{first_due, emitted_len as segment_len, segment_octets}
use Rattle.udp.specs.declared.cutting.Part.{Part}
use Rattle.udp_socket.specs.Emission.{due_octets as socket_octets, due_part, due_peer, fragment_of, peer_at}
use Rattle.udp_socket.specs.SocketView.{Outgoing as OutDatagram, SocketView}
use Rattle.udp_socket.proofs.Places.{due_brought}
use Rattle.frames.specs.declared.meaning.ReceivedSegment.{ReceivedSegment}
use Rattle.frames.specs.declared.meaning.Meaning.TheVariants.{Tcp}
use Rattle.frames.specs.Meaning.{heard}
use Rattle.frames.proofs.Hearers.{no_segment_in_part}
use Rattle.interface.specs.declared.way.Way.{Way}
use Rattle.interface.specs.declared.way.Way.TheVariants.{To, Ask, Waits}
use Rattle.interface.specs.InterfaceView.{InterfaceView}
use Rattle.interface.specs.Emission.{head_to, segment_frame_to, part_frame_to}
use Rattle.interface.specs.Replies.{is_due}
use Rattle.interface.specs.Ways.{way}
use Rattle.sockets.specs.declared.emission.Emitted.TheVariants.{Segment, Datagram}
use Rattle.sockets.specs.declared.emission.Outgoing.{Outgoing}
use Rattle.sockets.specs.declared.entry.SocketId.{SocketId}
use Rattle.sockets.specs.declared.entry.Entry.{Entry}
use Rattle.sockets.specs.declared.role.Role.{Role}
use Rattle.sockets.specs.declared.role.Role.TheVariants.{Idle, Listener, Connected, Datagrams}
use Rattle.sockets.specs.Emission.{emitted, emitted_octets, in_turn}
use Rattle.sockets.specs.Entries.{sends, due_to, due_emitted, due_octets, place_of, source_of, with_first}
use Rattle.sockets.specs.SocketsView.{SocketsView}
use Rattle.sockets.proofs.Emitting.{found_due, emitted-found, emitted_octets-found, first_segment, first_datagram}
use Rattle.host.specs.HostView.{HostView}
use Rattle.host.specs.Emission.{Sends, goes_out_from, emission, emission_at, emission_by, emitted_frame, table_emission}
use Rattle.host.proofs.Emitting.{table_from, none_from}

-- Of the entries that have something due to an address that passes a test, this is the first, and this is the first of it, with its peer.
pub record IsNext (own : SocketsView) (goes : Addr → Bool) (e : Entry) (due : Endpoint × Outgoing) : Type 0 where
  pub found : find (in_turn own (sends goes)) own.entries ≡ Some e
  pub is : due_to goes e.role ≡ Some due

-- What a UDP socket has in a place, with its peer.

pub record IsDatagramDue (socket : SocketView) (due : Endpoint × Outgoing) : Type 0 where
  pub part : Part
  pub peer : peer_at (place_of due.1) socket.outbox ≡ Some due.0
  pub told : due_part (with_first due.1 socket) ≡ Some part

-- of a socket in which something waits a part is due
part-of : (s : SocketView) (peer : Endpoint) → due_peer s.outbox ≡ Some peer → (part : Part) × (due_part s ≡ Some part)
part-of s peer waits = by_outbox s.outbox refl
  where
    by_outbox : (outbox : List OutDatagram) → s.outbox ≡ outbox → (part : Part) × (due_part s ≡ Some part)
    by_outbox [] is = let none : due_peer [] ≡ Some peer = ap due_peer (sym is) ∙ waits in cc
    by_outbox (o ∷ rest) is =
        let part : Part = record { identification = o.identification; fragment = fragment_of o s.parts } in
        let told : due_part s ≡ Some part = rw is in
        (part, told)

pub datagram-due : (goes : Addr → Bool) (bound : Option Endpoint) (socket : SocketView) (due : Endpoint × Outgoing) → due_to goes (Datagrams bound socket) ≡ Some due → IsDatagramDue socket due
datagram-due goes bound socket due is =
    let first = first_datagram goes bound socket due is in
    let place : place_of due.1 ≡ first.place = ap place_of first.what ∙ omega arith in
    let peer : peer_at (place_of due.1) socket.outbox ≡ Some due.0 = ap (λ (n : ℕ). peer_at n socket.outbox) place ∙ first.peer in
    let part = part-of (with_first due.1 socket) due.0 (due_brought socket (place_of due.1) due.0 peer) in
    record { part = part.0; peer = peer; told = part.1 }

-- What goes out for an entry in a frame to this MAC and for this address: a connection's segment, or a part of a UDP socket's datagram.
pub data SendsFor (h : HostView) (moment : Moment) (mac : Mac) (to : Addr) : Type 0 where
  OfConnection : (e : Entry) (what : Endpoint × Outgoing) (c : View) (l : Option SocketId) (due : Due) → IsNext h.sockets (goes_out_from h moment) e what → e.role ≡ Connected c l → first_due c ≡ Some due → to ≡ c.peer.addr
      → way h.interface moment to ≡ To mac → SendsFor h moment mac to
  OfSocket : (e : Entry) (what : Endpoint × Outgoing) (bound : Option Endpoint) (socket : SocketView) → IsNext h.sockets (goes_out_from h moment) e what → e.role ≡ Datagrams bound socket → IsDatagramDue socket what → to ≡ what.0.addr
      → way h.interface moment to ≡ To mac → SendsFor h moment mac to

pub sends-for : (h : HostView) (moment : Moment) (mac : Mac) (to : Addr) → emission h moment ≡ Sends mac to → SendsFor h moment mac to
sends-for h moment mac to = by_place (position (is_due h.interface moment) h.interface.replies)
  where
    goes : Addr → Bool
    goes = goes_out_from h moment

    -- a way that is open leads there
    leads : (peer : Endpoint) → emission_by peer.addr (way h.interface moment peer.addr) ≡ Sends mac to → (to ≡ peer.addr) × (way h.interface moment to ≡ To mac)
    leads peer same = by_way (way h.interface moment peer.addr) refl same
      where
        by_way : (w : Way) → way h.interface moment peer.addr ≡ w → emission_by peer.addr w ≡ Sends mac to → (to ≡ peer.addr) × (way h.interface moment to ≡ To mac)
        by_way (To theirs) is same =
            let macs : theirs ≡ mac = cc in
            let tos : to ≡ peer.addr = cc in
            (tos, ap (way h.interface moment) tos ∙ (is ∙ ap To macs))
        by_way (Ask hop) is same = cc
        by_way Waits is same = cc

    by_role : (e : Entry) (what : Endpoint × Outgoing) → IsNext h.sockets goes e what → (r : Role) → e.role ≡ r → (to ≡ what.0.addr) × (way h.interface moment to ≡ To mac) → SendsFor h moment mac to
    by_role e what next (Connected c l) role leading =
        let first = first_segment goes c l what (ap (due_to goes) (sym role) ∙ next.is) in
        let peer : what.0.addr ≡ c.peer.addr = ap (λ (d : Endpoint × Outgoing). d.0.addr) (sym first.is) in
        OfConnection e what c l first.segment next role first.first (leading.0 ∙ peer) leading.1
    by_role e what next (Datagrams bound socket) role leading = OfSocket e what bound socket next role (datagram-due goes bound socket what (ap (due_to goes) (sym role) ∙ next.is)) leading.0 leading.1
    by_role e what next (Listener local backlog) role leading = let none : due_to goes (Listener local backlog) ≡ Some what = ap (due_to goes) (sym role) ∙ next.is in cc
    by_role e what next (Idle buffers bound) role leading = let none : due_to goes (Idle buffers bound) ≡ Some what = ap (due_to goes) (sym role) ∙ next.is in cc

    by_entry : (o : Option Entry) → find (in_turn h.sockets (sends goes)) h.sockets.entries ≡ o → table_emission h moment ≡ Sends mac to → SendsFor h moment mac to
    by_entry None found same = let no = sym (none_from h moment found) ∙ same in cc
    by_entry (Some e) found same =
        let due = found_due h.sockets goes e found in
        by_role e due.0 (record { found = found; is = due.1 }) e.role refl (leads due.0.0 (sym (table_from h moment e due.0 found due.1) ∙ same))

    by_place : (o : Option ℕ) → emission_at h moment o ≡ Sends mac to → SendsFor h moment mac to
    by_place (Some place) same = cc
    by_place None same = by_entry (find (in_turn h.sockets (sends goes)) h.sockets.entries) refl same

-- the frame of a segment
pub segment-framed : (i : InterfaceView) (mac : Mac) (to : Addr) (own : SocketsView) (goes : Addr → Bool) (e : Entry) (what : Endpoint × Outgoing) (c : View) (l : Option SocketId) (due : Due) → IsNext own goes e what → e.role ≡ Connected c l
    → first_due c ≡ Some due → emitted_frame i mac to (emitted own goes) (emitted_octets own goes) ≡ segment_frame_to i mac to (segment_octets c due)
segment-framed i mac to own goes e what c l due next role first =
    let segment : due_emitted what.1 (Connected c l) ≡ Some (Segment (segment_len c due)) = rw first in
    let spelled : due_octets own.addr what.1 (Connected c l) ≡ segment_octets c due = rw first in
    ap (λ o. emitted_frame i mac to o (emitted_octets own goes)) (emitted-found own goes e what next.found next.is ∙ ap (due_emitted what.1) role ∙ segment)
    ∙ ap (segment_frame_to i mac to) (emitted_octets-found own goes e what next.found next.is ∙ ap (due_octets own.addr what.1) role ∙ spelled)

-- the frame of a part
pub part-framed : (i : InterfaceView) (mac : Mac) (to : Addr) (own : SocketsView) (goes : Addr → Bool) (e : Entry) (what : Endpoint × Outgoing) (bound : Option Endpoint) (socket : SocketView) (due : IsDatagramDue socket what) → IsNext own goes e what
    → e.role ≡ Datagrams bound socket → emitted_frame i mac to (emitted own goes) (emitted_octets own goes) ≡ part_frame_to i mac to due.part (socket_octets (source_of own.addr bound) (with_first what.1 socket))
part-framed i mac to own goes e what bound socket due next role =
    ap (λ o. emitted_frame i mac to o (emitted_octets own goes)) (emitted-found own goes e what next.found next.is ∙ ap (due_emitted what.1) role ∙ ap (option_map (λ (part : Part). Datagram part)) due.told)
    ∙ ap (part_frame_to i mac to due.part) (emitted_octets-found own goes e what next.found next.is ∙ ap (due_octets own.addr what.1) role)

-- nobody hears a segment in it
pub part-unheard : (i : InterfaceView) (theirs : Mac) (to : Addr) (part : Part) (octets : List ℕ) (mac : Mac) (ours : Addr) (r : ReceivedSegment) → length theirs.0 ≡ 6 → length i.mac.0 ≡ 6
    → heard mac ours (part_frame_to i theirs to part octets) ≡ Ok (Tcp r) → ⊥
unfolding part_frame_to
part-unheard i theirs to part octets mac ours r whole own e = no_segment_in_part (head_to i theirs to) part octets mac ours r whole own e
