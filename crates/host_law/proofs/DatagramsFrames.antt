-- What goes out of a host: a part of a datagram that waits in a UDP socket, or a frame in which nobody hears UDP.
use Rattle.std.proofs.Common.{◌≡◌, ℕ, Bool, List, [], length, Option, Some, None, Ok, refl, sym, ◌∙◌, ap, subst}
use Rattle.std.specs.List.{find, position, slice_get}
use Rattle.ether.specs.declared.mac.Mac.{Mac}
use Rattle.ipv4.specs.declared.addr.Addr.{Addr}
use Rattle.ipv4.specs.declared.addr.Endpoint.{Endpoint}
use Rattle.ipv4.specs.Datagram.{Datagram}
use Rattle.clock.specs.declared.moment.Moment.{Moment}
use Rattle.arp.specs.Packet.{request_of}
use Rattle.tcp_segment.specs.declared.head.Head.{Head}
use Rattle.tcp_segment.specs.Sent.{sent_octets}
use Rattle.tcp_state.specs.declared.emission.Due.{Due}
use Rattle.tcp_state.specs.View.{View}
use Rattle.tcp_state.specs.Due.{first_due, emitted_len as segment_len, segment_octets}
use Rattle.udp_socket.specs.SocketView.{SocketView}
use Rattle.frames.specs.declared.meaning.ReceivedDatagram.{ReceivedDatagram}
use Rattle.frames.specs.declared.meaning.Meaning.TheVariants.{Udp, UdpFragment}
use Rattle.frames.specs.Meaning.{heard}
use Rattle.frames.proofs.UserHearers.{no_user_in_segment, no_user_in_message, no_user_in_packet}
use Rattle.interface.specs.declared.reply.Reply.{Reply}
use Rattle.interface.specs.declared.reply.Reply.TheVariants.{Arp, Reset, Echo, Error}
use Rattle.interface.specs.declared.reply.Waiting.{Waiting}
use Rattle.interface.specs.declared.way.Way.{Way}
use Rattle.interface.specs.declared.way.Way.TheVariants.{To, Ask, Waits}
use Rattle.interface.specs.InterfaceView.{InterfaceView}
use Rattle.interface.specs.Emission.{head_to, segment_frame_to, message_frame_to, request_frame, reply_frame, frame_by, frame_of_one, frame_at}
use Rattle.interface.specs.Replies.{is_due, way_of}
use Rattle.interface.specs.Ways.{way}
use Rattle.interface.specs.Sound.{IsSound, IsSoundReply}
use Rattle.sockets.specs.declared.emission.Emitted.TheVariants as what
use Rattle.sockets.specs.declared.emission.Outgoing.{Outgoing}
use Rattle.sockets.specs.declared.entry.SocketId.{SocketId}
use Rattle.sockets.specs.declared.entry.Entry.{Entry}
use Rattle.sockets.specs.declared.role.Role.{Role}
use Rattle.sockets.specs.declared.role.Role.TheVariants.{Idle, Listener, Connected, Datagrams}
use Rattle.sockets.specs.Emission.{emitted, emitted_octets, in_turn}
use Rattle.sockets.specs.Entries.{sends, due_to, due_emitted, due_octets}
use Rattle.sockets.specs.SocketsView.{SocketsView}
use Rattle.sockets.proofs.Emitting.{found_due, emitted-found, emitted_octets-found, first_segment}
use Rattle.host.specs.HostView.{HostView}
use Rattle.host.specs.Emission.{Sends, emission, emission_at, emission_by, emitted_frame, goes_out_from, table_emission}
use Rattle.host.proofs.Carriage.{at-all}
use Rattle.host.proofs.Emitting.{table_from, none_from}
use Rattle.host.proofs.Hearing.{way-mac}

-- nobody hears a UDP datagram or a fragment in these octets
pub record TellsNone (octets : List ℕ) : Type 0 where
  pub whole : (mac : Mac) (ours : Addr) (r : ReceivedDatagram) → heard mac ours octets ≡ Ok (Udp r) → ⊥
  pub fragment : (mac : Mac) (ours : Addr) (d : Datagram) → heard mac ours octets ≡ Ok (UdpFragment d) → ⊥

tells-nobody : (octets : List ℕ) → ((mac : Mac) (ours : Addr) (r : ReceivedDatagram) (d : Datagram) → (heard mac ours octets ≡ Ok (Udp r) → ⊥) × (heard mac ours octets ≡ Ok (UdpFragment d) → ⊥)) → TellsNone octets
tells-nobody octets none = record {
  whole = λ mac ours r e. (none mac ours r r.carrier).0 e;
  fragment = λ mac ours d e. (none mac ours (record { carrier = d; datagram = record { source = 0; destination = 0; checksum = 0; payload = [] } }) d).1 e;
}

pub tells-nothing : TellsNone []
unfolding heard
tells-nothing = record { whole = λ mac ours r e. cc; fragment = λ mac ours d e. cc }

pub tells-request : (i : InterfaceView) (hop : Addr) → length i.mac.0 ≡ 6 → TellsNone (request_frame i hop)
unfolding request_frame
tells-request i hop mine = tells-nobody _ (λ mac ours r d. no_user_in_packet (request_of i.mac i.addr hop) mac ours r d mine refl)

pub tells-segment : (i : InterfaceView) (theirs : Mac) (to : Addr) (octets : List ℕ) → length theirs.0 ≡ 6 → length i.mac.0 ≡ 6 → TellsNone (segment_frame_to i theirs to octets)
unfolding segment_frame_to
tells-segment i theirs to octets whole mine = tells-nobody _ (λ mac ours r d. no_user_in_segment (head_to i theirs to) octets mac ours r d whole mine)

tells-message : (i : InterfaceView) (theirs : Mac) (to : Addr) (octets : List ℕ) → length theirs.0 ≡ 6 → length i.mac.0 ≡ 6 → TellsNone (message_frame_to i theirs to octets)
unfolding message_frame_to
tells-message i theirs to octets whole mine = tells-nobody _ (λ mac ours r d. no_user_in_message (head_to i theirs to) octets mac ours r d whole mine)

tells-reset : (i : InterfaceView) (theirs : Mac) (to : Addr) (head : Head) → length theirs.0 ≡ 6 → length i.mac.0 ≡ 6 → TellsNone (reply_frame i theirs (Reset to head))
unfolding reply_frame
tells-reset i theirs to head whole mine = tells-segment i theirs to (sent_octets i.addr to head []) whole mine

-- a control reply, or the request for its hop
pub tells-reply : (i : InterfaceView) (moment : Moment) (place : ℕ) → IsSound i → TellsNone (frame_at i moment place)
unfolding reply_frame
tells-reply i moment place sound = by_place (slice_get i.replies place) refl
  where
    by_way : (reply : Reply) → IsSoundReply i.addr reply → (w : Way) → way_of i moment reply ≡ w → TellsNone (frame_by i reply w)
    by_way reply solid Waits is = tells-nothing
    by_way reply solid (Ask hop) is = tells-request i hop sound.mac
    by_way (Arp packet) solid (To theirs) is = tells-nobody _ (λ mac ours r d. no_user_in_packet packet mac ours r d solid.sender_mac solid.target_mac)
    by_way (Reset to head) solid (To theirs) is = tells-reset i theirs to head (way-mac i moment to theirs sound is) sound.mac
    by_way (Echo to identifier number octets) solid (To theirs) is = tells-message i theirs to _ (way-mac i moment to theirs sound is) sound.mac
    by_way (Error to reason quoted) solid (To theirs) is = tells-message i theirs to _ (way-mac i moment to theirs sound is) sound.mac

    by_place : (o : Option Waiting) → slice_get i.replies place ≡ o → TellsNone (frame_of_one i moment o)
    by_place None at = tells-nothing
    by_place (Some waiting) at = by_way waiting.reply (at-all (λ (w : Waiting). IsSoundReply i.addr w.reply) i.replies place waiting sound.replies at) (way_of i moment waiting.reply) refl

-- What a table sends.

-- Of the entries that have something due to an address that passes a test, this is the first, and this is the first of it, with its peer.
pub record IsNext (own : SocketsView) (goes : Addr → Bool) (e : Entry) (due : Endpoint × Outgoing) : Type 0 where
  pub found : find (in_turn own (sends goes)) own.entries ≡ Some e
  pub is : due_to goes e.role ≡ Some due

-- it is a connection's segment, or a part of a datagram of a UDP socket
pub data SendsFor (h : HostView) (moment : Moment) (mac : Mac) (to : Addr) : Type 0 where
  OfConnection : (e : Entry) (due : Endpoint × Outgoing) (v : View) (l : Option SocketId) (first : Due) → IsNext h.sockets (goes_out_from h moment) e due → e.role ≡ Connected v l → first_due v ≡ Some first → way h.interface moment to ≡ To mac → SendsFor h moment mac to
  OfSocket : (e : Entry) (due : Endpoint × Outgoing) (bound : Option Endpoint) (s : SocketView) → IsNext h.sockets (goes_out_from h moment) e due → e.role ≡ Datagrams bound s → to ≡ due.0.addr → way h.interface moment to ≡ To mac → SendsFor h moment mac to

pub sends-for : (h : HostView) (moment : Moment) (mac : Mac) (to : Addr) → emission h moment ≡ Sends mac to → SendsFor h moment mac to
sends-for h moment mac to = by_place (position (is_due h.interface moment) h.interface.replies)
  where
    goes : Addr → Bool
    goes = goes_out_from h moment

    -- a way that is open leads there
    leads : (peer : Endpoint) → emission_by peer.addr (way h.interface moment peer.addr) ≡ Sends mac to → (to ≡ peer.addr) × (way h.interface moment to ≡ To mac)
    leads peer same = by_way (way h.interface moment peer.addr) refl same
      where
        by_way : (w : Way) → way h.interface moment peer.addr ≡ w → emission_by peer.addr w ≡ Sends mac to → (to ≡ peer.addr) × (way h.interface moment to ≡ To mac)
        by_way (To theirs) is same =
            let macs : theirs ≡ mac = cc in
            let tos : to ≡ peer.addr = cc in
            (tos, ap (way h.interface moment) tos ∙ (is ∙ ap To macs))
        by_way (Ask hop) is same = cc
        by_way Waits is same = cc

    by_role : (e : Entry) (due : Endpoint × Outgoing) → IsNext h.sockets goes e due → (r : Role) → e.role ≡ r → (to ≡ due.0.addr) × (way h.interface moment to ≡ To mac) → SendsFor h moment mac to
    by_role e due next (Connected v l) role leading =
        let first = first_segment goes v l due (ap (due_to goes) (sym role) ∙ next.is) in OfConnection e due v l first.segment next role first.first leading.1
    by_role e due next (Datagrams bound s) role leading = OfSocket e due bound s next role leading.0 leading.1
    by_role e due next (Listener local backlog) role leading = let none : due_to goes (Listener local backlog) ≡ Some due = ap (due_to goes) (sym role) ∙ next.is in cc
    by_role e due next (Idle buffers bound) role leading = let none : due_to goes (Idle buffers bound) ≡ Some due = ap (due_to goes) (sym role) ∙ next.is in cc

    by_entry : (o : Option Entry) → find (in_turn h.sockets (sends goes)) h.sockets.entries ≡ o → table_emission h moment ≡ Sends mac to → SendsFor h moment mac to
    by_entry None found same = let no = sym (none_from h moment found) ∙ same in cc
    by_entry (Some e) found same =
        let due = found_due h.sockets goes e found in
        by_role e due.0 (record { found = found; is = due.1 }) e.role refl (leads due.0.0 (sym (table_from h moment e due.0 found due.1) ∙ same))

    by_place : (o : Option ℕ) → emission_at h moment o ≡ Sends mac to → SendsFor h moment mac to
    by_place (Some place) same = cc
    by_place None same = by_entry (find (in_turn h.sockets (sends goes)) h.sockets.entries) refl same

-- in the frame is what it has due
pub framed : (i : InterfaceView) (mac : Mac) (to : Addr) (own : SocketsView) (goes : Addr → Bool) (e : Entry) (due : Endpoint × Outgoing) (role : Role) → IsNext own goes e due → e.role ≡ role
    → emitted_frame i mac to (emitted own goes) (emitted_octets own goes) ≡ emitted_frame i mac to (due_emitted due.1 role) (due_octets own.addr due.1 role)
framed i mac to own goes e due role next is =
    ap (λ o. emitted_frame i mac to o (emitted_octets own goes)) (emitted-found own goes e due next.found next.is ∙ ap (due_emitted due.1) is)
    ∙ ap (emitted_frame i mac to (due_emitted due.1 role)) (emitted_octets-found own goes e due next.found next.is ∙ ap (due_octets own.addr due.1) is)

-- nobody hears any in a segment
pub connection-tells : (i : InterfaceView) (mac : Mac) (to source : Addr) (due : Endpoint × Outgoing) (v : View) (l : Option SocketId) (first : Due) → first_due v ≡ Some first → length mac.0 ≡ 6 → length i.mac.0 ≡ 6
    → TellsNone (emitted_frame i mac to (due_emitted due.1 (Connected v l)) (due_octets source due.1 (Connected v l)))
connection-tells i mac to source due v l first is whole mine =
    let told : due_emitted due.1 (Connected v l) ≡ Some (what.Segment (segment_len v first)) = rw is refl in
    let spelled : due_octets source due.1 (Connected v l) ≡ segment_octets v first = rw is refl in
    subst TellsNone (sym (ap (λ o. emitted_frame i mac to o (due_octets source due.1 (Connected v l))) told ∙ ap (segment_frame_to i mac to) spelled)) (tells-segment i mac to (segment_octets v first) whole mine)
