-- A frame that goes out of a host whose table keeps to what the host accepted: whoever hears a UDP datagram or a fragment in it hears what is
-- of one of these.
use Rattle.std.proofs.Common.{◌≡◌, ℕ, List, [], length, Option, Some, None, Ok, refl, sym, ◌∙◌, ap, subst}
use Rattle.std.specs.List.{slice_get}
use Rattle.ether.specs.declared.mac.Mac.{Mac}
use Rattle.ipv4.specs.declared.addr.Addr.{Addr}
use Rattle.ipv4.specs.declared.addr.Endpoint.{Endpoint}
use Rattle.ipv4.specs.Datagram.{Datagram}
use Rattle.clock.specs.declared.moment.Moment.{Moment}
use Rattle.arp.specs.Packet.{request_of}
use Rattle.tcp_segment.specs.declared.head.Head.{Head}
use Rattle.tcp_segment.specs.Sent.{sent_octets}
use Rattle.tcp_state.specs.Due.{segment_octets}
use Rattle.udp_socket.specs.Emission.{peer_at, due_octets as socket_octets}
use Rattle.udp_socket.specs.SocketView.{SocketView}
use Rattle.frames.specs.declared.meaning.ReceivedDatagram.{ReceivedDatagram}
use Rattle.frames.specs.declared.meaning.Meaning.TheVariants.{Udp, UdpFragment}
use Rattle.frames.specs.Meaning.{heard}
use Rattle.frames.proofs.UserHearers.{no_user_in_segment, no_user_in_message, no_user_in_packet}
use Rattle.interface.specs.declared.reply.Reply.{Reply}
use Rattle.interface.specs.declared.reply.Reply.TheVariants.{Arp, Reset, Echo, Error}
use Rattle.interface.specs.declared.reply.Waiting.{Waiting}
use Rattle.interface.specs.declared.way.Way.{Way}
use Rattle.interface.specs.declared.way.Way.TheVariants.{To, Ask, Waits}
use Rattle.interface.specs.InterfaceView.{InterfaceView}
use Rattle.interface.specs.Emission.{head_to, segment_frame_to, message_frame_to, part_frame_to, request_frame, reply_frame, frame_by, frame_of_one, frame_at}
use Rattle.interface.specs.Replies.{way_of}
use Rattle.interface.specs.Ways.{way}
use Rattle.interface.specs.Sound.{IsSound, IsSoundReply}
use Rattle.sockets.specs.declared.emission.Outgoing.{Outgoing}
use Rattle.sockets.specs.declared.entry.Entry.{Entry}
use Rattle.sockets.specs.declared.role.Role.TheVariants.{Datagrams}
use Rattle.sockets.specs.Emission.{emitted, emitted_octets, in_turn}
use Rattle.sockets.specs.Entries.{sends, place_of, source_of, with_first}
use Rattle.sockets.specs.SocketsView.{later_moment}
use Rattle.host.specs.HostView.{HostView}
use Rattle.host.specs.Emission as host_emission
use Rattle.host.specs.Emission.{Emission, Replies, Sends, Asks, Nothing, goes_out_from, emission, emitted_frame, emission_octets}
use Rattle.host.specs.Sound.{IsSoundHost}
use Rattle.host.proofs.Hearing.{way-mac}
use Rattle.datagram_law.specs.Accepted.{Accepted}
use Rattle.wire_sim.proofs.lists.FoundAfterChange.{All-find, All-at}
use Rattle.wire_sim.proofs.carried.TableSends.{IsNext, IsDatagramDue, OfConnection, OfSocket, sends-for, segment-framed, part-framed}
use Rattle.wire_sim.proofs.datagrams.PartsGoOut.{KeepsTo, part-kept}
use Rattle.wire_sim.proofs.datagrams.TablesKeepToAccepted.{IsEntryOf, IsTableOf}

-- Nobody hears any of them in these.

keeps-nobody : (own : List Accepted) (octets : List ℕ) → ((mac : Mac) (ours : Addr) (r : ReceivedDatagram) (d : Datagram) → (heard mac ours octets ≡ Ok (Udp r) → ⊥) × (heard mac ours octets ≡ Ok (UdpFragment d) → ⊥)) → KeepsTo own octets
keeps-nobody own octets none = record {
  whole = λ mac ours r e. absurd ((none mac ours r r.carrier).0 e);
  fragment = λ mac ours d e. absurd (nothing mac ours d e);
}
  where
    nothing : (mac : Mac) (ours : Addr) (d : Datagram) → heard mac ours octets ≡ Ok (UdpFragment d) → ⊥
    nothing mac ours d e = (none mac ours (record { carrier = d; datagram = record { source = 0; destination = 0; checksum = 0; payload = [] } }) d).1 e

keeps-nothing : (own : List Accepted) → KeepsTo own []
unfolding heard
keeps-nothing own = record { whole = λ mac ours r e. cc; fragment = λ mac ours d e. cc }

keeps-request : (own : List Accepted) (i : InterfaceView) (hop : Addr) → length i.mac.0 ≡ 6 → KeepsTo own (request_frame i hop)
unfolding request_frame
keeps-request own i hop mine = keeps-nobody own _ (λ mac ours r d. no_user_in_packet (request_of i.mac i.addr hop) mac ours r d mine refl)

keeps-segment : (own : List Accepted) (i : InterfaceView) (theirs : Mac) (to : Addr) (octets : List ℕ) → length theirs.0 ≡ 6 → length i.mac.0 ≡ 6 → KeepsTo own (segment_frame_to i theirs to octets)
unfolding segment_frame_to
keeps-segment own i theirs to octets whole mine = keeps-nobody own _ (λ mac ours r d. no_user_in_segment (head_to i theirs to) octets mac ours r d whole mine)

keeps-message : (own : List Accepted) (i : InterfaceView) (theirs : Mac) (to : Addr) (octets : List ℕ) → length theirs.0 ≡ 6 → length i.mac.0 ≡ 6 → KeepsTo own (message_frame_to i theirs to octets)
unfolding message_frame_to
keeps-message own i theirs to octets whole mine = keeps-nobody own _ (λ mac ours r d. no_user_in_message (head_to i theirs to) octets mac ours r d whole mine)

keeps-reset : (own : List Accepted) (i : InterfaceView) (theirs : Mac) (to : Addr) (head : Head) → length theirs.0 ≡ 6 → length i.mac.0 ≡ 6 → KeepsTo own (reply_frame i theirs (Reset to head))
unfolding reply_frame
keeps-reset own i theirs to head whole mine = keeps-segment own i theirs to (sent_octets i.addr to head []) whole mine

-- a control reply, or the request for its hop
keeps-reply : (own : List Accepted) (i : InterfaceView) (moment : Moment) (place : ℕ) → IsSound i → KeepsTo own (frame_at i moment place)
unfolding reply_frame
keeps-reply own i moment place sound = by_place (slice_get i.replies place) refl
  where
    by_way : (reply : Reply) → IsSoundReply i.addr reply → (w : Way) → way_of i moment reply ≡ w → KeepsTo own (frame_by i reply w)
    by_way reply solid Waits is = keeps-nothing own
    by_way reply solid (Ask hop) is = keeps-request own i hop sound.mac
    by_way (Arp packet) solid (To theirs) is = keeps-nobody own _ (λ mac ours r d. no_user_in_packet packet mac ours r d solid.sender_mac solid.target_mac)
    by_way (Reset to head) solid (To theirs) is = keeps-reset own i theirs to head (way-mac i moment to theirs sound is) sound.mac
    by_way (Echo to identifier number octets) solid (To theirs) is = keeps-message own i theirs to _ (way-mac i moment to theirs sound is) sound.mac
    by_way (Error to reason quoted) solid (To theirs) is = keeps-message own i theirs to _ (way-mac i moment to theirs sound is) sound.mac

    by_place : (o : Option Waiting) → slice_get i.replies place ≡ o → KeepsTo own (frame_of_one i moment o)
    by_place None at = keeps-nothing own
    by_place (Some waiting) at = by_way waiting.reply (All-at (λ (w : Waiting). IsSoundReply i.addr w.reply) i.replies place waiting sound.replies at) (way_of i moment waiting.reply) refl

-- a part of a datagram
keeps-part : (own other : List Accepted) (h : HostView) (moment : Moment) (mac : Mac) (to : Addr) (e : Entry) (what : Endpoint × Outgoing) (bound : Option Endpoint) (socket : SocketView)
    → IsNext h.sockets (goes_out_from h moment) e what → e.role ≡ Datagrams bound socket → IsDatagramDue socket what → to ≡ what.0.addr → way h.interface moment to ≡ To mac
    → IsSoundHost h → IsTableOf own other h.sockets → KeepsTo own (emitted_frame h.interface mac to (emitted h.sockets (goes_out_from h moment)) (emitted_octets h.sockets (goes_out_from h moment)))
keeps-part own other h moment mac to e what bound socket next role due for leads sound keeps =
    let table = h.sockets in
    let goes = goes_out_from h moment in
    let entry : IsEntryOf own other table.addr (Datagrams bound socket) = subst (IsEntryOf own other table.addr) role (All-find (λ (e : Entry). IsEntryOf own other table.addr e.role) (in_turn table (sends goes)) table.entries e keeps.sockets next.found) in
    subst (KeepsTo own) (sym (part-framed h.interface mac to table goes e what bound socket due next role))
    (by_bound bound entry (way-mac h.interface moment to mac sound.interface leads))
  where
    by_bound : (b : Option Endpoint) → IsEntryOf own other h.sockets.addr (Datagrams b socket) → length mac.0 ≡ 6
        → KeepsTo own (part_frame_to h.interface mac to due.part (socket_octets (source_of h.sockets.addr b) (with_first what.1 socket)))
    by_bound None fresh whole =
        let bad : None ≡ Some what.0 = ap (λ (s : SocketView). peer_at (place_of what.1) s.outbox) (sym fresh) ∙ due.peer in cc
    by_bound (Some local) entry whole =
        let end : Endpoint = record { addr = h.sockets.addr; port = local.port } in
        subst (λ (x : Addr). KeepsTo own (part_frame_to h.interface mac x due.part (socket_octets end (with_first what.1 socket)))) (sym for)
        (part-kept own other h.interface mac end what.0 socket (place_of what.1) due.part keeps.in_turn entry.1 due.peer due.told (sym sound.own) sound.interface.addr whole sound.interface.mac)

-- Whatever the table sends.
keeps-sent : (own other : List Accepted) (h : HostView) (moment : Moment) (mac : Mac) (to : Addr) → emission h moment ≡ Sends mac to → IsSoundHost h → IsTableOf own other h.sockets
    → KeepsTo own (emitted_frame h.interface mac to (emitted h.sockets (goes_out_from h moment)) (emitted_octets h.sockets (goes_out_from h moment)))
keeps-sent own other h moment mac to is sound keeps =
    elim (sends-for h moment mac to is) [
      | OfConnection e what c l due next role first is_to leads ↦
          subst (KeepsTo own) (sym (segment-framed h.interface mac to h.sockets (goes_out_from h moment) e what c l due next role first))
          (keeps-segment own h.interface mac to (segment_octets c due) (way-mac h.interface moment to mac sound.interface leads) sound.interface.mac)
      | OfSocket e what bound socket next role due for leads ↦ keeps-part own other h moment mac to e what bound socket next role due for leads sound keeps
    ]

-- Whatever goes out.
pub frame-kept : (own other : List Accepted) (h : HostView) (clock : Moment) → IsSoundHost h → IsTableOf own other h.sockets → KeepsTo own (emission_octets h clock)
frame-kept own other h clock sound keeps = by_emission (emission h moment) refl
  where
    moment : Moment
    moment = later_moment h.sockets clock

    by_emission : (x : Emission) → emission h moment ≡ x → KeepsTo own (host_emission.octets_of h moment x)
    by_emission (Replies place) is = keeps-reply own h.interface moment place sound.interface
    by_emission (Sends mac to) is = keeps-sent own other h moment mac to is sound keeps
    by_emission (Asks hop) is = keeps-request own h.interface hop sound.interface.mac
    by_emission Nothing is = keeps-nothing own
