-- Whatever goes out of a host, whoever receives it hears what it was sent as.
use Rattle.std.proofs.Common.{◌≡◌, ℕ, ◌+◌, ◌*◌, ◌≤◌, Bool, List, [], length, Option, Some, None, option_map, option_and_then, refl, sym, ◌∙◌, ap, subst, arith}
use Rattle.std.specs.List.{find, position, slice_get}
use Rattle.ether.specs.declared.mac.Mac.{Mac}
use Rattle.arp.specs.declared.packet.ArpPacket.{ArpPacket}
use Rattle.arp.specs.Packet.{HasWidths, request_of}
use Rattle.ipv4.specs.declared.addr.Addr.{Addr}
use Rattle.ipv4.specs.declared.addr.Endpoint.{Endpoint}
use Rattle.clock.specs.declared.moment.Moment.{Moment}
use Rattle.icmp.specs.Message.{Message, spelling}
use Rattle.icmp.specs.Sent.{echo_reply, error_for}
use Rattle.tcp_segment.specs.declared.head.Head.{Head}
use Rattle.tcp_segment.specs.Segment.{Segment}
use Rattle.tcp_segment.specs.Sent.{CanBeSent, sent_segment, sent_octets, sent_offset}
use Rattle.tcp_segment.proofs.Sending.{most_offset}
use Rattle.tcp_state.specs.declared.emission.Due.{Due}
use Rattle.tcp_state.specs.View.{View}
use Rattle.tcp_state.specs.Due.{first_due, head_of, octets_of as text_of}
use Rattle.udp_socket.specs.Emission.{peer_at, due_octets as socket_octets}
use Rattle.udp_socket.specs.SocketView.{SocketView}
use Rattle.frames.specs.Meaning.{heard}
use Rattle.frames.specs.Sent.{packet_frame}
use Rattle.interface.specs.declared.reply.Reply.{Reply}
use Rattle.interface.specs.declared.reply.Reply.TheVariants.{Arp, Reset, Echo, Error}
use Rattle.interface.specs.declared.reply.Waiting.{Waiting}
use Rattle.interface.specs.declared.way.Way.{Way}
use Rattle.interface.specs.declared.way.Way.TheVariants.{To, Ask, Waits}
use Rattle.interface.specs.InterfaceView.{InterfaceView}
use Rattle.interface.specs.Emission.{head_to, segment_frame_to, message_frame_to, part_frame_to, request_frame, reply_frame, frame_by, frame_of_one, len_by, len_of_one}
use Rattle.interface.specs.Replies.{is_due, way_of}
use Rattle.interface.specs.Sound.{IsSound, IsSoundReply}
use Rattle.interface.specs.Ways.{way}
use Rattle.interface.proofs.Waits.{first_goes}
use Rattle.sockets.specs.declared.emission.Outgoing.{Outgoing}
use Rattle.sockets.specs.declared.entry.Entry.{Entry}
use Rattle.sockets.specs.declared.entry.SocketId.{SocketId}
use Rattle.sockets.specs.declared.role.Role.{Role}
use Rattle.sockets.specs.declared.role.Role.TheVariants.{Idle, Listener, Connected, Datagrams}
use Rattle.sockets.specs.Emission.{Next, next_out, in_turn}
use Rattle.sockets.specs.Entries.{sends, due_to, place_of, source_of, with_first}
use Rattle.sockets.specs.Order.{IsOrdered}
use Rattle.sockets.specs.SocketsView.{later_moment}
use Rattle.sockets.proofs.Emitting.{found_due, next-found}
use Rattle.host.specs.Carried.{Carried, due_segment, carried_by}
use Rattle.host.specs.Emission.{Emission, Replies, Sends, Asks, Nothing, emission, emission_at, emission_by, emission_to, emission_len, emission_octets, goes_out_from, len_of, octets_of}
use Rattle.host.specs.HostView.{HostView}
use Rattle.host.specs.Sound.{IsSoundHost}
use Rattle.host.proofs.Carriage.{Goes, SendsSegment, SendsPart, is-sending}
use Rattle.host.proofs.Hearing.{CanGo, echo-can, error-can, way-mac}
use Rattle.datagram_law.specs.Accepted.{Accepted}
use Rattle.wire_sim.specs.Sent.{Sent, IsSpelled, datagram_sent, due_said, heard_as, message_said, outgoing_said, packet_sent, reply_sent, reply_sent_by, request_sent, segment_said, sent_at, sent_by, waiting_sent}
use Rattle.wire_sim.proofs.lists.FoundAfterChange.{All-at, All-find}
use Rattle.wire_sim.proofs.carried.TableSends.{IsNext, IsDatagramDue, OfConnection, OfSocket, sends-for, part-framed}
use Rattle.wire_sim.proofs.datagrams.TablesKeepToAccepted.{IsEntryOf, IsTableOf}
use Rattle.wire_sim.proofs.passage.HeardAnywhere.{segment-told, message-told, packet-told}
use Rattle.wire_sim.proofs.passage.PartsSaid.{IsHeardAs, IsPartSaid, socket-said}

-- octets that go out, and what they were sent as
pub record IsSent (octets : List ℕ) (o : Option Sent) : Type 0 where
  pub what : Sent
  pub is : o ≡ Some what
  pub said : IsSpelled what.says → IsHeardAs octets what

-- A packet, a segment, a message.

packet-said : (p : ArpPacket) → HasWidths p → IsHeardAs (packet_frame p) (packet_sent p)
packet-said p widths mac ours = packet-told p mac ours widths

request-said : (i : InterfaceView) (hop : Addr) → IsSound i → length hop.0 ≡ 4 → IsHeardAs (request_frame i hop) (request_sent i hop)
unfolding request_frame
request-said i hop sound four = packet-said (request_of i.mac i.addr hop) (record { sender_mac = sound.mac; sender_addr = sound.addr; target_mac = refl; target_addr = four })

segment-said : (i : InterfaceView) (theirs : Mac) (to : Addr) (head : Head) (octets : List ℕ) → CanBeSent i.addr to head octets → length theirs.0 ≡ 6 → length i.mac.0 ≡ 6 → 4 * sent_offset head + length octets ≤ 1480
    → IsHeardAs (segment_frame_to i theirs to (sent_octets i.addr to head octets)) (datagram_sent i theirs to (segment_said i (sent_segment head octets)))
unfolding segment_frame_to
segment-said i theirs to head octets can whole own fits mac ours = segment-told (head_to i theirs to) head octets mac ours can whole own fits

message-said : (i : InterfaceView) (theirs : Mac) (to : Addr) (m : Message) → CanGo i theirs to m → IsHeardAs (message_frame_to i theirs to (spelling m)) (datagram_sent i theirs to (message_said i m))
unfolding message_frame_to
message-said i theirs to m can mac ours = message-told (head_to i theirs to) m mac ours can.spelled can.from_octets can.to_octets can.whole can.own can.most

-- A control reply.

pub reply-said : (i : InterfaceView) (theirs : Mac) (r : Reply) → IsSound i → IsSoundReply i.addr r → length theirs.0 ≡ 6 → IsHeardAs (reply_frame i theirs r) (reply_sent i theirs r)
unfolding reply_frame
reply-said i theirs (Arp packet) sound solid whole = packet-said packet solid
reply-said i theirs (Reset to head) sound solid whole = segment-said i theirs to head [] solid.sendable whole sound.mac (omega (arith, most_offset head))
reply-said i theirs (Echo to identifier number octets) sound solid whole = message-said i theirs to (echo_reply identifier number octets) (echo-can i theirs to identifier number octets sound solid whole)
reply-said i theirs (Error to reason quoted) sound solid whole = message-said i theirs to (error_for reason quoted []) (error-can i theirs to reason quoted sound solid whole)

pub reply-mac : (i : InterfaceView) (now : Moment) (r : Reply) (theirs : Mac) → IsSound i → IsSoundReply i.addr r → way_of i now r ≡ To theirs → length theirs.0 ≡ 6
reply-mac i now (Arp packet) theirs sound solid is =
    let same : packet.target_mac ≡ theirs = cc in
    subst (λ (m : Mac). length m.0 ≡ 6) same solid.target_mac
reply-mac i now (Reset to head) theirs sound solid is = way-mac i now to theirs sound is
reply-mac i now (Echo to identifier number octets) theirs sound solid is = way-mac i now to theirs sound is
reply-mac i now (Error to reason quoted) theirs sound solid is = way-mac i now to theirs sound is

replied : (i : InterfaceView) (now : Moment) (r : Reply) → IsSound i → IsSoundReply i.addr r → (w : Way) → way_of i now r ≡ w → 60 ≤ len_by r w → IsSent (frame_by i r w) (reply_sent_by i r w)
replied i now r sound solid (To theirs) is long = record { what = reply_sent i theirs r; is = refl; said = λ spelled. reply-said i theirs r sound solid (reply-mac i now r theirs sound solid is) }
replied i now r sound solid (Ask hop) is long = record { what = request_sent i hop; is = refl; said = request-said i hop sound }
replied i now r sound solid Waits is long = absurd (omega (arith, long))

placed : (i : InterfaceView) (now : Moment) (place : ℕ) → IsSound i → (o : Option Waiting) → slice_get i.replies place ≡ o → 60 ≤ len_of_one i now o → IsSent (frame_of_one i now o) (waiting_sent i now o)
placed i now place sound None at long = absurd (omega (arith, long))
placed i now place sound (Some waiting) at long =
    replied i now waiting.reply sound (All-at (λ (w : Waiting). IsSoundReply i.addr w.reply) i.replies place waiting sound.replies at) (way_of i now waiting.reply) refl long

-- it is the first that can go out
place-of : (h : HostView) (moment : Moment) (place : ℕ) → emission h moment ≡ Replies place → position (is_due h.interface moment) h.interface.replies ≡ Some place
place-of h moment place = by_place (position (is_due h.interface moment) h.interface.replies)
  where
    by_way : (to : Addr) (w : Way) → emission_by to w ≡ Replies place → ⊥
    by_way to (To mac) same = cc
    by_way to (Ask hop) same = cc
    by_way to Waits same = cc

    by_peer : (o : Option Endpoint) → emission_to h moment o ≡ Replies place → ⊥
    by_peer None same = cc
    by_peer (Some peer) same = by_way peer.addr (way h.interface moment peer.addr) same

    by_place : (o : Option ℕ) → emission_at h moment o ≡ Replies place → o ≡ Some place
    by_place (Some p) same = let one : p ≡ place = cc in ap Some one
    by_place None same = absurd (by_peer (option_map (λ (next : Next). next.peer) (next_out h.sockets (goes_out_from h moment))) same)

-- A segment of a connection.

goes-said : (i : InterfaceView) (octets : List ℕ) (c : Carried) → length i.mac.0 ≡ 6 → Goes i octets c → IsHeardAs octets (datagram_sent i c.mac c.to (segment_said i c.segment))
goes-said i octets c own g mac ours =
    ap (heard mac ours) g.is ∙ segment-said i c.mac c.to g.head g.text g.can g.whole own g.fits mac ours
    ∙ ap (λ (s : Segment). heard_as (datagram_sent i c.mac c.to (segment_said i s)) mac ours) (sym g.segment)

-- by what goes out next
sent-next : (h : HostView) (moment : Moment) (mac : Mac) (to : Addr) (e : Entry) (what : Endpoint × Outgoing) → find (in_turn h.sockets (sends (goes_out_from h moment))) h.sockets.entries ≡ Some e → due_to (goes_out_from h moment) e.role ≡ Some what
    → sent_by h moment (Sends mac to) ≡ option_map (datagram_sent h.interface mac to) (due_said h mac to what.1 e.role)
sent-next h moment mac to e what found is =
    ap (λ (o : Option Next). option_map (datagram_sent h.interface mac to) (option_and_then (λ (next : Next). due_said h mac to next.what next.entry.role) o)) (next-found h.sockets (goes_out_from h moment) e what found is)

pub sends-carried : (h : HostView) (moment : Moment) (mac : Mac) (to : Addr) (c : Carried) → carried_by h moment (Sends mac to) ≡ Some c
    → sent_by h moment (Sends mac to) ≡ Some (datagram_sent h.interface c.mac c.to (segment_said h.interface c.segment))
sends-carried h moment mac to c = by_entry (find (in_turn h.sockets (sends goes)) h.sockets.entries) refl
  where
    goes : Addr → Bool
    goes = goes_out_from h moment

    i : InterfaceView
    i = h.interface

    made : Segment → Carried
    made s = record { mac = mac; to = to; segment = s }

    by_segment : (o : Option Segment) → option_map made o ≡ Some c → option_map (datagram_sent i mac to) (option_map (segment_said i) o) ≡ Some (datagram_sent i c.mac c.to (segment_said i c.segment))
    by_segment None is = cc
    by_segment (Some s) is =
        let same : made s ≡ c = cc in
        ap (λ (x : Carried). Some (datagram_sent i x.mac x.to (segment_said i x.segment))) same

    by_role : (what : Outgoing) (r : Role) → option_map made (due_segment r) ≡ Some c → option_map (datagram_sent i mac to) (due_said h mac to what r) ≡ Some (datagram_sent i c.mac c.to (segment_said i c.segment))
    by_role what (Connected x l) is = by_segment (due_segment (Connected x l)) is
    by_role what (Datagrams bound socket) is = cc
    by_role what (Listener local backlog) is = cc
    by_role what (Idle buffers bound) is = cc

    by_entry : (o : Option Entry) → find (in_turn h.sockets (sends goes)) h.sockets.entries ≡ o → option_map made (option_and_then (λ (e : Entry). due_segment e.role) o) ≡ Some c
        → sent_by h moment (Sends mac to) ≡ Some (datagram_sent i c.mac c.to (segment_said i c.segment))
    by_entry None found is = cc
    by_entry (Some e) found is =
        let due = found_due h.sockets goes e found in
        sent-next h moment mac to e due.0 found due.1 ∙ by_role due.0.1 e.role is

connection-carried : (h : HostView) (moment : Moment) (mac : Mac) (to : Addr) (e : Entry) (c : View) (l : Option SocketId) (due : Due) → find (in_turn h.sockets (sends (goes_out_from h moment))) h.sockets.entries ≡ Some e → e.role ≡ Connected c l → first_due c ≡ Some due
    → carried_by h moment (Sends mac to) ≡ Some (record { mac = mac; to = to; segment = sent_segment (head_of c due) (text_of c due) })
connection-carried h moment mac to e c l due found role first =
    let made : Segment → Carried = λ s. record { mac = mac; to = to; segment = s } in
    ap (λ (o : Option Entry). option_map made (option_and_then (λ (x : Entry). due_segment x.role) o)) found
    ∙ ap (λ (r : Role). option_map made (due_segment r)) role
    ∙ ap (λ (d : Option Due). option_map made (option_map (λ (x : Due). sent_segment (head_of c x) (text_of c x)) d)) first

pub connection-sent : (h : HostView) (moment : Moment) (mac : Mac) (to : Addr) (own : Carried) → IsSoundHost h → IsOrdered h.sockets → emission h moment ≡ Sends mac to → carried_by h moment (Sends mac to) ≡ Some own
    → IsSent (octets_of h moment (Sends mac to)) (sent_by h moment (Sends mac to))
connection-sent h moment mac to own sound ordered is carries = elim (is-sending h moment mac to sound ordered is) [
  | SendsSegment c some goes ↦ record {
    what = datagram_sent h.interface c.mac c.to (segment_said h.interface c.segment);
    is = sends-carried h moment mac to c some;
    said = λ spelled. goes-said h.interface (octets_of h moment (Sends mac to)) c sound.interface.mac goes;
  }
  | SendsPart part octets none spelled whole ↦ let bad : Some own ≡ None = sym carries ∙ none in cc
]

-- A part of a UDP datagram.

socket-sent : (own other : List Accepted) (h : HostView) (moment : Moment) (mac : Mac) (to : Addr) (e : Entry) (what : Endpoint × Outgoing) (bound : Option Endpoint) (socket : SocketView) → IsNext h.sockets (goes_out_from h moment) e what
    → e.role ≡ Datagrams bound socket → IsDatagramDue socket what → to ≡ what.0.addr → way h.interface moment to ≡ To mac → IsSoundHost h → IsTableOf own other h.sockets → IsSent (octets_of h moment (Sends mac to)) (sent_by h moment (Sends mac to))
socket-sent own other h moment mac to e what bound socket next role due for leads sound keeps =
    let table = h.sockets in
    let entry : IsEntryOf own other table.addr (Datagrams bound socket) =
    subst (IsEntryOf own other table.addr) role (All-find (λ (x : Entry). IsEntryOf own other table.addr x.role) (in_turn table (sends (goes_out_from h moment))) table.entries e keeps.sockets next.found) in
    by_bound bound refl entry
  where
    i : InterfaceView
    i = h.interface

    first : SocketView
    first = with_first what.1 socket

    by_bound : (b : Option Endpoint) → bound ≡ b → IsEntryOf own other h.sockets.addr (Datagrams b socket) → IsSent (octets_of h moment (Sends mac to)) (sent_by h moment (Sends mac to))
    by_bound None b fresh =
        let bad : None ≡ Some what.0 = ap (λ (s : SocketView). peer_at (place_of what.1) s.outbox) (sym fresh) ∙ due.peer in cc
    by_bound (Some local) b entry =
        let end : Endpoint = record { addr = h.sockets.addr; port = local.port } in
        let s : IsPartSaid i mac to end first due.part =
        socket-said own other i mac to end what.0 socket (place_of what.1) due.part keeps.in_turn entry.1 due.peer due.told for (sym sound.own) sound.interface.addr (way-mac i moment to mac sound.interface leads) sound.interface.mac in
        let framed : octets_of h moment (Sends mac to) ≡ part_frame_to i mac to due.part (socket_octets end first) =
        part-framed i mac to h.sockets (goes_out_from h moment) e what bound socket due next role ∙ ap (λ (x : Option Endpoint). part_frame_to i mac to due.part (socket_octets (source_of h.sockets.addr x) first)) b in
        record {
          what = datagram_sent i mac to s.says;
          is = sent-next h moment mac to e what next.found next.is
              ∙ ap (λ (r : Role). option_map (datagram_sent i mac to) (due_said h mac to what.1 r)) role
              ∙ ap (λ (x : Option Endpoint). option_map (datagram_sent i mac to) (outgoing_said i mac to (source_of h.sockets.addr x) first)) b
              ∙ ap (option_map (datagram_sent i mac to)) s.is;
          said = λ spelled m ours. ap (heard m ours) framed ∙ s.heard m ours;
        }

-- Whatever the table sends.

sends-sent : (own other : List Accepted) (h : HostView) (moment : Moment) (mac : Mac) (to : Addr) → IsSoundHost h → IsOrdered h.sockets → IsTableOf own other h.sockets → emission h moment ≡ Sends mac to
    → IsSent (octets_of h moment (Sends mac to)) (sent_by h moment (Sends mac to))
sends-sent own other h moment mac to sound ordered keeps is = elim (sends-for h moment mac to is) [
  | OfConnection e what c l due next role first is_to leads ↦ connection-sent h moment mac to _ sound ordered is (connection-carried h moment mac to e c l due next.found role first)
  | OfSocket e what bound socket next role due for leads ↦ socket-sent own other h moment mac to e what bound socket next role due for leads sound keeps
]

-- Whatever goes out.
pub host-sends : (own other : List Accepted) (h : HostView) (now : Moment) (len : ℕ) → IsSoundHost h → IsOrdered h.sockets → IsTableOf own other h.sockets → emission_len h now ≡ Some len
    → IsSent (emission_octets h now) (sent_at h now)
host-sends own other h now len sound ordered keeps = by_emission (emission h moment) refl
  where
    moment : Moment
    moment = later_moment h.sockets now

    by_emission : (x : Emission) → emission h moment ≡ x → len_of h moment x ≡ Some len → IsSent (octets_of h moment x) (sent_by h moment x)
    by_emission (Replies place) is some =
        let first = first_goes h.interface moment place (place-of h moment place is) in
        placed h.interface moment place sound.interface (slice_get h.interface.replies place) refl first.1
    by_emission (Sends mac to) is some = sends-sent own other h moment mac to sound ordered keeps is
    by_emission (Asks hop) is some = record { what = request_sent h.interface hop; is = refl; said = request-said h.interface hop sound.interface }
    by_emission Nothing is some = cc
