-- The hop that a request goes out for has an address of four octets, where the gateways of the routes have.
use Rattle.std.proofs.Common.{◌≡◌, ℕ, Bool, true, false, cond, List, [], ◌∷◌, length, Option, Some, None, option_map, option_and_then, refl, sym, ◌∙◌, ap, subst}
use Rattle.std.specs.List.{find, position, slice_get}
use Rattle.ether.specs.declared.mac.Mac.{Mac}
use Rattle.ipv4.specs.declared.addr.Addr.{Addr}
use Rattle.ipv4.specs.declared.addr.Endpoint.{Endpoint}
use Rattle.clock.specs.declared.moment.Moment.{Moment}
use Rattle.tcp_segment.specs.Segment.{Segment}
use Rattle.udp.specs.declared.cutting.Part.{Part}
use Rattle.udp_socket.specs.Emission.{peer_at}
use Rattle.udp_socket.specs.SocketView.{Outgoing as OutDatagram, SocketView}
use Rattle.interface.specs.declared.reply.Reply.{Reply}
use Rattle.interface.specs.declared.reply.Reply.TheVariants.{Arp, Reset, Echo, Error}
use Rattle.interface.specs.declared.reply.Waiting.{Waiting}
use Rattle.interface.specs.declared.way.Way.{Way}
use Rattle.interface.specs.declared.way.Way.TheVariants.{To, Ask, Waits}
use Rattle.interface.specs.InterfaceView.{InterfaceView}
use Rattle.interface.specs.Emission.{head_to}
use Rattle.interface.specs.Replies.{is_due, way_of}
use Rattle.interface.specs.Sound.{IsSound, IsSoundReply}
use Rattle.interface.specs.Ways.{way}
use Rattle.sockets.specs.declared.emission.Outgoing.{Outgoing}
use Rattle.sockets.specs.declared.entry.Entry.{Entry}
use Rattle.sockets.specs.declared.role.Role.{Role}
use Rattle.sockets.specs.declared.role.Role.TheVariants.{Idle, Listener, Connected, Datagrams}
use Rattle.sockets.specs.Emission.{Next, next_out, in_turn}
use Rattle.sockets.specs.Entries.{sends, due_to, place_of, source_of, with_first}
use Rattle.sockets.specs.Sound.{IsSoundRole}
use Rattle.sockets.specs.SocketsView.{later_moment}
use Rattle.sockets.proofs.Emitting.{found_due, first_segment}
use Rattle.host.specs.Carried.{due_segment}
use Rattle.host.specs.Emission.{Emission, Replies, Sends, Asks, Nothing, emission, emission_at, emission_by, goes_out_from, table_emission}
use Rattle.host.specs.HostView.{HostView}
use Rattle.host.specs.Sound.{IsSoundHost}
use Rattle.host.proofs.Emitting.{table_from, none_from}
use Rattle.datagram_law.specs.Accepted.{Accepted}
use Rattle.wire_sim.specs.Sent.{Sent, IsSpelled, datagram_sent, due_said, outgoing_said, packet_sent, reply_sent, reply_sent_by, request_sent, segment_said, sent_at, sent_by, waiting_sent, AreWholeRoutes, part_said}
use Rattle.ipv4.specs.Datagram.{Datagram}
use Rattle.udp.specs.Datagram.{UserDatagram}
use Rattle.udp_socket.specs.Emission.{datagram_of, fragment_of, octets_of as fragment_octets}
use Rattle.frames.specs.declared.meaning.Meaning.{Meaning}
use Rattle.frames.specs.declared.meaning.Meaning.TheVariants.{Udp, UdpFragment}
use Rattle.frames.specs.Meaning.{is_fragment}
use Rattle.frames.specs.Sent.{part_datagram}
use Rattle.wire_sim.proofs.lists.FoundAfterChange.{All-at, All-find}
use Rattle.wire_sim.proofs.carried.TableSends.{IsNext, datagram-due}
use Rattle.wire_sim.proofs.datagrams.TablesKeepToAccepted.{IsEntryOf, IsTableOf}
use Rattle.wire_sim.proofs.passage.HopsAreWhole.{asked-whole}
use Rattle.wire_sim.proofs.passage.PartsSaid.{peer-whole}

-- A control reply.

reply-hop : (i : InterfaceView) (now : Moment) (r : Reply) (hop : Addr) → AreWholeRoutes i.routes → IsSoundReply i.addr r → way_of i now r ≡ Ask hop → length hop.0 ≡ 4
reply-hop i now (Arp packet) hop routes solid is = cc
reply-hop i now (Reset to head) hop routes solid is = asked-whole i now to hop routes solid.sendable.dst_octets is
reply-hop i now (Echo to identifier number octets) hop routes solid is = asked-whole i now to hop routes solid.addr is
reply-hop i now (Error to reason quoted) hop routes solid is = asked-whole i now to hop routes solid.addr is

replied-spelled : (i : InterfaceView) (now : Moment) (r : Reply) (what : Sent) → AreWholeRoutes i.routes → IsSoundReply i.addr r → (w : Way) → way_of i now r ≡ w → reply_sent_by i r w ≡ Some what → IsSpelled what.says
replied-spelled i now (Arp packet) what routes solid (To theirs) leads is = let same : packet_sent packet ≡ what = cc in subst (λ (s : Sent). IsSpelled s.says) same solid.target_addr
replied-spelled i now (Reset to head) what routes solid (To theirs) leads is = let same : reply_sent i theirs (Reset to head) ≡ what = cc in subst (λ (s : Sent). IsSpelled s.says) same tt
replied-spelled i now (Echo to identifier number octets) what routes solid (To theirs) leads is =
    let same : reply_sent i theirs (Echo to identifier number octets) ≡ what = cc in subst (λ (s : Sent). IsSpelled s.says) same tt
replied-spelled i now (Error to reason quoted) what routes solid (To theirs) leads is = let same : reply_sent i theirs (Error to reason quoted) ≡ what = cc in subst (λ (s : Sent). IsSpelled s.says) same tt
replied-spelled i now r what routes solid (Ask hop) leads is = let same : request_sent i hop ≡ what = cc in subst (λ (s : Sent). IsSpelled s.says) same (reply-hop i now r hop routes solid leads)
replied-spelled i now r what routes solid Waits leads is = cc

placed-spelled : (i : InterfaceView) (now : Moment) (place : ℕ) (what : Sent) → IsSound i → AreWholeRoutes i.routes → (o : Option Waiting) → slice_get i.replies place ≡ o → waiting_sent i now o ≡ Some what → IsSpelled what.says
placed-spelled i now place what sound routes None at is = cc
placed-spelled i now place what sound routes (Some waiting) at is =
    replied-spelled i now waiting.reply what routes (All-at (λ (w : Waiting). IsSoundReply i.addr w.reply) i.replies place waiting sound.replies at) (way_of i now waiting.reply) refl is

-- What an entry has due is no ARP packet.

part-spelled : (b : Bool) (carrier : Datagram) (d : UserDatagram) → IsSpelled (cond b (UdpFragment carrier) (Udp (record { carrier = carrier; datagram = d })))
part-spelled true carrier d = tt
part-spelled false carrier d = tt

due-spelled : (h : HostView) (mac : Mac) (to : Addr) (what : Outgoing) (r : Role) (says : Meaning) → due_said h mac to what r ≡ Some says → IsSpelled says
due-spelled h mac to what (Connected c l) says due = by_segment (due_segment (Connected c l)) due
  where
    by_segment : (o : Option Segment) → option_map (segment_said h.interface) o ≡ Some says → IsSpelled says
    by_segment None is = cc
    by_segment (Some s) is = let same : segment_said h.interface s ≡ says = cc in subst IsSpelled same tt
due-spelled h mac to what (Datagrams bound socket) says due = by_outbox first.outbox refl due
  where
    first : SocketView
    first = with_first what socket

    by_outbox : (outbox : List OutDatagram) → first.outbox ≡ outbox → outgoing_said h.interface mac to (source_of h.sockets.addr bound) first ≡ Some says → IsSpelled says
    by_outbox [] at is = let none : outgoing_said h.interface mac to (source_of h.sockets.addr bound) first ≡ None = rw at in let bad : None ≡ Some says = sym none ∙ is in cc
    by_outbox (o ∷ rest) at is =
        let part : Part = record { identification = o.identification; fragment = fragment_of o first.parts } in
        let carrier : Datagram = part_datagram (head_to h.interface mac to) part (fragment_octets (source_of h.sockets.addr bound) o first.parts) in
        let told : outgoing_said h.interface mac to (source_of h.sockets.addr bound) first ≡ Some (part_said carrier (datagram_of (source_of h.sockets.addr bound) o)) = rw at in
        let both : Some (part_said carrier (datagram_of (source_of h.sockets.addr bound) o)) ≡ Some says = sym told ∙ is in
        let same : part_said carrier (datagram_of (source_of h.sockets.addr bound) o) ≡ says = cc in
        subst IsSpelled same (part-spelled (is_fragment carrier) carrier (datagram_of (source_of h.sockets.addr bound) o))
due-spelled h mac to what (Listener local backlog) says is = cc
due-spelled h mac to what (Idle buffers bound) says is = cc

sends-spelled : (h : HostView) (moment : Moment) (mac : Mac) (to : Addr) (what : Sent) → sent_by h moment (Sends mac to) ≡ Some what → IsSpelled what.says
sends-spelled h moment mac to what = by_next (next_out h.sockets (goes_out_from h moment))
  where
    by_said : (next : Next) (o : Option Meaning) → due_said h mac to next.what next.entry.role ≡ o → option_map (datagram_sent h.interface mac to) o ≡ Some what → IsSpelled what.says
    by_said next None due is = cc
    by_said next (Some says) due is = let same : datagram_sent h.interface mac to says ≡ what = cc in subst (λ (s : Sent). IsSpelled s.says) same (due-spelled h mac to next.what next.entry.role says due)

    by_next : (o : Option Next) → option_map (datagram_sent h.interface mac to) (option_and_then (λ (next : Next). due_said h mac to next.what next.entry.role) o) ≡ Some what → IsSpelled what.says
    by_next None is = cc
    by_next (Some next) is = by_said next (due_said h mac to next.what next.entry.role) refl is

-- The request for the hop of what an entry has due.

record Asking (h : HostView) (moment : Moment) (hop : Addr) : Type 0 where
  pub e : Entry
  pub what : Endpoint × Outgoing
  pub next : IsNext h.sockets (goes_out_from h moment) e what
  pub leads : way h.interface moment what.0.addr ≡ Ask hop

asking : (h : HostView) (moment : Moment) (hop : Addr) → emission h moment ≡ Asks hop → Asking h moment hop
asking h moment hop = by_place (position (is_due h.interface moment) h.interface.replies)
  where
    goes : Addr → Bool
    goes = goes_out_from h moment

    by_way : (e : Entry) (what : Endpoint × Outgoing) → IsNext h.sockets goes e what → (w : Way) → way h.interface moment what.0.addr ≡ w → emission_by what.0.addr w ≡ Asks hop → Asking h moment hop
    by_way e what next (To mac) is same = cc
    by_way e what next (Ask own) is same = let one : own ≡ hop = cc in record { e = e; what = what; next = next; leads = is ∙ ap Ask one }
    by_way e what next Waits is same = cc

    by_entry : (o : Option Entry) → find (in_turn h.sockets (sends goes)) h.sockets.entries ≡ o → table_emission h moment ≡ Asks hop → Asking h moment hop
    by_entry None found same = let no = sym (none_from h moment found) ∙ same in cc
    by_entry (Some e) found same =
        let due = found_due h.sockets goes e found in
        by_way e due.0 (record { found = found; is = due.1 }) (way h.interface moment due.0.0.addr) refl (sym (table_from h moment e due.0 found due.1) ∙ same)

    by_place : (o : Option ℕ) → emission_at h moment o ≡ Asks hop → Asking h moment hop
    by_place (Some place) same = cc
    by_place None same = by_entry (find (in_turn h.sockets (sends goes)) h.sockets.entries) refl same

-- the peer's address has four octets
role-peer : (own other : List Accepted) (h : HostView) (goes : Addr → Bool) (r : Role) (what : Endpoint × Outgoing) → IsTableOf own other h.sockets → IsSoundRole r → IsEntryOf own other h.sockets.addr r → due_to goes r ≡ Some what → length what.0.addr.0 ≡ 4
role-peer own other h goes (Connected c l) what keeps solid entry due =
    let first = first_segment goes c l what due in
    subst (λ (d : Endpoint × Outgoing). length d.0.addr.0 ≡ 4) first.is solid.peer.addr
role-peer own other h goes (Datagrams None s) what keeps solid entry due =
    let is = datagram-due goes None s what due in
    let bad : None ≡ Some what.0 = ap (λ (x : SocketView). peer_at (place_of what.1) x.outbox) (sym entry) ∙ is.peer in cc
role-peer own other h goes (Datagrams (Some local) s) what keeps solid entry due =
    let is = datagram-due goes (Some local) s what due in
    peer-whole own other (record { addr = h.sockets.addr; port = local.port }) what.0 s (place_of what.1) keeps.in_turn entry.1 is.peer
role-peer own other h goes (Listener local backlog) what keeps solid entry due = cc
role-peer own other h goes (Idle buffers bound) what keeps solid entry due = cc

asked-spelled : (own other : List Accepted) (h : HostView) (moment : Moment) (hop : Addr) → IsSoundHost h → IsTableOf own other h.sockets → AreWholeRoutes h.interface.routes → emission h moment ≡ Asks hop → length hop.0 ≡ 4
asked-spelled own other h moment hop sound keeps routes is =
    let k = asking h moment hop is in
    let table = sound.table in
    let solid : IsSoundRole k.e.role = All-find (λ (x : Entry). IsSoundRole x.role) (in_turn h.sockets (sends (goes_out_from h moment))) h.sockets.entries k.e table.entries k.next.found in
    let entry : IsEntryOf own other h.sockets.addr k.e.role = All-find (λ (x : Entry). IsEntryOf own other h.sockets.addr x.role) (in_turn h.sockets (sends (goes_out_from h moment))) h.sockets.entries k.e keeps.sockets k.next.found in
    asked-whole h.interface moment k.what.0.addr hop routes (role-peer own other h (goes_out_from h moment) k.e.role k.what keeps solid entry k.next.is) k.leads

-- Whatever goes out.
pub host-spelled : (own other : List Accepted) (h : HostView) (now : Moment) (what : Sent) → IsSoundHost h → IsTableOf own other h.sockets → AreWholeRoutes h.interface.routes → sent_at h now ≡ Some what → IsSpelled what.says
host-spelled own other h now what sound keeps routes = by_emission (emission h moment) refl
  where
    moment : Moment
    moment = later_moment h.sockets now

    by_emission : (x : Emission) → emission h moment ≡ x → sent_by h moment x ≡ Some what → IsSpelled what.says
    by_emission (Replies place) is sent = placed-spelled h.interface moment place what sound.interface routes (slice_get h.interface.replies place) refl sent
    by_emission (Sends mac to) is sent = sends-spelled h moment mac to what sent
    by_emission (Asks hop) is sent = let same : request_sent h.interface hop ≡ what = cc in subst (λ (s : Sent). IsSpelled s.says) same (asked-spelled own other h moment hop sound keeps routes is)
    by_emission Nothing is sent = cc
