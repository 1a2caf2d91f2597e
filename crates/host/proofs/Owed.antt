-- What a host does with an ARP request for its address, with a UDP datagram for a socket that has room, and with a hard error.
use Rattle.std.proofs.lemmas.Bool.Decides.{nat_tests}
use Rattle.tcp_state.specs.declared.calls.Refusal.{Refusal as Error}
use Rattle.tcp_state.specs.declared.calls.Refusal.TheVariants.{ECONNREFUSED as refused_so}
use Rattle.tcp_state.specs.declared.calls.Received.TheVariants.{EndOfStream}
use Rattle.tcp_state.specs.Calls.{recv_answer as view_recv_answer}
use Rattle.sockets.specs.declared.refusal.Refusal.TheVariants.{ECONNREFUSED}
use Rattle.sockets.specs.Order.{IsOrdered}
use Rattle.sockets.proofs.ByIds.{changed_found}
use Rattle.sockets.proofs.Ends.{eqb-same}
use Rattle.sockets.proofs.ErrorsFirst.{connect_told, send_told, recv_told, shutdown_told}
use Rattle.std.proofs.Common.{◌≡◌, ◌≢◌, ◌⊎◌, inl, inr, ℕ, suc, ◌<◌, ◌==◌, ◌&&◌, ◌||◌, not, Bool, true, false, if◌then◌else◌, cond, List, [], ◌∷◌, ◌++◌, Contains, length, take, Option, Some, None, option_map, Result, Ok, Err, refl, sym, ◌∙◌, ap, subst, arith}
use Rattle.std.specs.List.{find}
use Rattle.std.proofs.lemmas.Bool.{eqb-true}
use Rattle.ipv4.specs.declared.addr.Addr.{Addr}
use Rattle.ipv4.specs.declared.addr.Endpoint.{Endpoint}
use Rattle.ipv4.specs.Addresses.{same_addr}
use Rattle.ipv4.specs.Datagram.{Datagram}
use Rattle.clock.specs.declared.moment.Moment.{Moment}
use Rattle.arp.specs.declared.packet.ArpPacket.{ArpPacket}
use Rattle.arp.specs.declared.packet.Operation.TheVariants.{Request, Reply as AsReply}
use Rattle.arp.specs.Cache.{is_request, is_request_for}
use Rattle.arp.specs.Packet.{reply_to}
use Rattle.arp.proofs.History.{same_addr-refl}
use Rattle.icmp.specs.declared.error.Reason.TheVariants.{PortUnreachable}
use Rattle.icmp.specs.declared.quote.Quote.{Quote}
use Rattle.icmp.specs.Message.{Message, IsEchoRequest}
use Rattle.icmp.specs.Reading.{quote_in}
use Rattle.udp.specs.declared.fault.UdpFault.{UdpFault}
use Rattle.udp.specs.Datagram.{UserDatagram}
use Rattle.udp.specs.Reading.{datagram_or_fault}
use Rattle.frames.specs.declared.drop.DropCause.{DropCause}
use Rattle.frames.specs.declared.meaning.Control.{Control}
use Rattle.frames.specs.declared.meaning.Meaning.{Meaning}
use Rattle.frames.specs.declared.meaning.Meaning.TheVariants.{Arp, Icmp, Udp, UdpFragment}
use Rattle.frames.specs.declared.meaning.ReceivedDatagram.{ReceivedDatagram}
use Rattle.interface.specs.declared.reply.QueueFault.TheVariants as fault
use Rattle.interface.specs.declared.reply.Reply.{Reply}
use Rattle.interface.specs.declared.reply.Reply.TheVariants as reply
use Rattle.interface.specs.InterfaceView.{InterfaceView}
use Rattle.interface.specs.Replies.{is_full, learnt, owed, owed_answer, queued}
use Rattle.interface.specs.Ways.{is_routed}
use Rattle.reassembly.specs.Fragments.{quote_of}
use Rattle.reassembly.specs.Places.{after_take}
use Rattle.reassembly.specs.Reassembly.Outcome.{Completes}
use Rattle.sockets.specs.declared.datagrams.Reception.{Reception}
use Rattle.sockets.specs.declared.datagrams.Reception.TheVariants as socket
use Rattle.sockets.specs.declared.entry.Entry.{Entry}
use Rattle.sockets.specs.declared.entry.SocketId.{SocketId}
use Rattle.sockets.specs.declared.role.Role.TheVariants.{Connected, Datagrams}
use Rattle.sockets.specs.Datagrams.{after_reception, reception}
use Rattle.sockets.specs.Entries.{entries_after_step, has_room_to_receive, is_between, is_datagrams_at, is_socket, role_after_reception, role_after_unreachable, unreachable_fate_of, uses_datagram_port, with_role}
use Rattle.sockets.specs.Lists.{change_first}
use Rattle.sockets.specs.Sound.{IsSoundConnection, IsSoundRole}
use Rattle.sockets.specs.SocketsView.{SocketsView, later_moment, role_of}
use Rattle.sockets.specs.Unreachable.{after_unreachable as table_after_unreachable}
use Rattle.sockets.proofs.Opened.{found_changed}
use Rattle.tcp_state.specs.declared.connection.Fate.{Fate}
use Rattle.tcp_state.specs.declared.connection.Fate.TheVariants.{Stays}
use Rattle.tcp_state.specs.declared.state.State.TheVariants.{SynSent}
use Rattle.tcp_state.specs.Unreachable.{IsRefused, is_unreachable, after_unreachable}
use Rattle.tcp_state.specs.View.{View, IsSound, after_reset}
use Rattle.tcp_state.proofs.Unreachable.{opening_ends}
use Rattle.udp_socket.specs.SocketView.{SocketView, with_received}
use Rattle.host.specs.Arrival.{IsDelivered, MeetsHeard, MeetsMessage, after_payload, after_user_datagram, fragment_outcome, queue_answer, user_datagram_answer, with_noted}
use Rattle.host.specs.Heard.{heard_by}
use Rattle.host.specs.Duties.{HasBehindOthers, IsHardError, IsToldByEachCall}
use Rattle.host.specs.HostView.{HostView, with_pool, with_sockets}
use Rattle.host.specs.Messages.{Told, Asks, Refuses, Nothing, error_of_quote, is_echo_request, is_hard, of_segment, refused_quote, told_by}
use Rattle.host.specs.Sound.{IsSoundHost}
use Rattle.host.proofs.Carriage.{found-all}
use Rattle.host.proofs.FirstPlace.{find-passes}
use Rattle.host.proofs.Parts.{completes-there, finds-others, is-part}

-- What is heard is met.

met-by : (h : HostView) (now : Moment) (isn : ℕ) (octets : List ℕ) (answer : Result (Unit {0}) DropCause) (new : HostView) (m : Meaning) → heard_by h octets ≡ Ok m → IsDelivered h now isn octets answer new
    → MeetsHeard (Ok m) h (later_moment h.sockets now) isn answer new
met-by h now isn octets answer new m is delivered = subst (λ (r : Result Meaning DropCause). MeetsHeard r h (later_moment h.sockets now) isn answer new) is delivered

-- Where fewer replies wait than may, one more does.

pub roomy : (i : InterfaceView) → length i.replies < i.most_replies → is_full i ≡ false
roomy i few = by_test (length i.replies == i.most_replies) refl
  where
    by_test : (b : Bool) → (length i.replies == i.most_replies) ≡ b → (length i.replies == i.most_replies) ≡ false
    by_test true is = absurd (omega (arith, few, eqb-true (length i.replies) i.most_replies is))
    by_test false is = is

pub joins : (is_owed : Bool) (now : Moment) (r : Reply) (i : InterfaceView) → is_owed ≡ true → is_full i ≡ false → owed is_owed now r i ≡ queued now r i
joins is_owed now r i so room = ap (λ (b : Bool). cond (b && not (is_full i)) (queued now r i) i) so ∙ ap (λ (b : Bool). cond (not b) (queued now r i) i) room

told-so : (is_owed : Bool) (i : InterfaceView) → is_owed ≡ true → is_full i ≡ false → queue_answer (owed_answer is_owed i) ≡ Ok tt
told-so is_owed i so room = ap (λ (b : Bool). queue_answer (cond (b && is_full i) (Err fault.NoRoom) (Ok tt))) so ∙ ap (λ (b : Bool). queue_answer (cond b (Err fault.NoRoom) (Ok tt))) room

-- An ARP request.

pub request-answered : (h : HostView) (now : Moment) (isn : ℕ) (octets : List ℕ) (packet : ArpPacket) (answer : Result (Unit {0}) DropCause) (new : HostView)
    → heard_by h octets ≡ Ok (Arp packet) → packet.operation ≡ Request → packet.target_addr ≡ h.interface.addr → length h.interface.replies < h.interface.most_replies → IsDelivered h now isn octets answer new
    → (answer ≡ Ok tt)
    × (new.interface.replies
    ≡ h.interface.replies
    ++ record {
      since = later_moment h.sockets now;
      reply = reply.Arp (record { operation = AsReply; sender_mac = h.interface.mac; sender_addr = h.interface.addr; target_mac = packet.sender_mac; target_addr = packet.sender_addr });
    } ∷ [])
request-answered h now isn octets packet answer new is asks ours few delivered =
    let moment : Moment = later_moment h.sockets now in
    let met = met-by h now isn octets answer new (Arp packet) is delivered in
    let us : same_addr packet.target_addr h.interface.addr ≡ true = ap (same_addr packet.target_addr) (sym ours) ∙ same_addr-refl packet.target_addr in
    let for_us : is_request_for h.interface.addr packet ≡ true = ap (λ (b : Bool). b && is_request packet.operation) us ∙ ap is_request asks in
    let room : is_full h.interface ≡ false = roomy h.interface few in
    let own : Reply = reply.Arp (reply_to packet h.interface.mac) in
    let side : owed (is_request_for h.interface.addr packet) moment own (learnt moment packet h.interface) ≡ queued moment own (learnt moment packet h.interface) =
    joins (is_request_for h.interface.addr packet) moment own (learnt moment packet h.interface) for_us room in (
      met.0 ∙ told-so (is_request_for h.interface.addr packet) h.interface for_us room,
      ap (λ (x : HostView). x.interface.replies) met.1
          ∙ ap (λ (i : InterfaceView). i.replies) side
          ∙ ap (λ (a : Addr). h.interface.replies ++ record { since = moment; reply = reply.Arp (record { operation = AsReply; sender_mac = h.interface.mac; sender_addr = a; target_mac = packet.sender_mac; target_addr = packet.sender_addr }) } ∷ []) ours,
    )

-- A UDP datagram for a socket with room.

reception-queued : (t : SocketsView) (d : UserDatagram) (e : Entry) → find (is_datagrams_at d.destination) t.entries ≡ Some e → has_room_to_receive (length d.payload) e.role ≡ true → reception t d ≡ socket.Queued
reception-queued t d e found room = rw found (ap (λ (b : Bool). cond b socket.Queued socket.NoRoom) room)

same-port : (port : ℕ) (bound : Option Endpoint) (s t : SocketView) → uses_datagram_port port (Datagrams bound s) ≡ true → uses_datagram_port port (Datagrams bound t) ≡ true
same-port port (Some local) s t e = e
same-port port None s t e = cc

behind-others : (g new : HostView) (moment : Moment) (source : Addr) (d : UserDatagram) (quote : List ℕ) (id : SocketId) (bound : Option Endpoint) (s : SocketView)
    → find (is_datagrams_at d.destination) g.sockets.entries ≡ Some (record { id = id; role = Datagrams bound s }) → has_room_to_receive (length d.payload) (Datagrams bound s) ≡ true
    → new ≡ after_user_datagram (reception g.sockets d) g moment source d quote → HasBehindOthers id bound s source d new
behind-others g new moment source d quote id bound s found room is =
    let test : Entry → Bool = is_datagrams_at d.destination in
    let from : Endpoint = record { addr = source; port = d.source } in
    let change : Entry → Entry = with_role (role_after_reception from d.payload) in
    let e : Entry = record { id = id; role = Datagrams bound s } in
    let queues : reception g.sockets d ≡ socket.Queued = reception-queued g.sockets d e found room in
    let next : new ≡ with_sockets g (after_reception g.sockets source d) = is ∙ ap (λ (r : Reception). after_user_datagram r g moment source d quote) queues in
    let table : after_reception g.sockets source d ≡ record g.sockets { entries = change_first test change g.sockets.entries } = rw queues refl in
    let keeps : test (change e) ≡ true = same-port d.destination bound s (with_received s from d.payload) (find-passes test g.sockets.entries e found) in
    ap (λ (x : HostView). find test x.sockets.entries) next ∙ ap (λ (t : SocketsView). find test t.entries) table ∙ found_changed test change g.sockets.entries e found keeps

-- whole
pub whole-queued : (h : HostView) (now : Moment) (isn : ℕ) (octets : List ℕ) (r : ReceivedDatagram) (answer : Result (Unit {0}) DropCause) (new : HostView) (id : SocketId) (bound : Option Endpoint) (s : SocketView)
    → heard_by h octets ≡ Ok (Udp r) → find (is_datagrams_at r.datagram.destination) h.sockets.entries ≡ Some (record { id = id; role = Datagrams bound s })
    → has_room_to_receive (length r.datagram.payload) (Datagrams bound s) ≡ true → IsDelivered h now isn octets answer new → (answer ≡ Ok tt) × HasBehindOthers id bound s r.carrier.source r.datagram new
whole-queued h now isn octets r answer new id bound s is found room delivered =
    let moment : Moment = later_moment h.sockets now in
    let met = met-by h now isn octets answer new (Udp r) is delivered in
    let queues : reception h.sockets r.datagram ≡ socket.Queued = reception-queued h.sockets r.datagram (record { id = id; role = Datagrams bound s }) found room in
    (met.0 ∙ ap (λ (to : Reception). user_datagram_answer to h r.carrier.source) queues, behind-others h new moment r.carrier.source r.datagram (quote_of r.carrier) id bound s found room met.1)

-- completed by a fragment
completes : (h : HostView) (now : Moment) (isn : ℕ) (octets : List ℕ) (d : Datagram) (payload quote : List ℕ) (u : UserDatagram) (answer : Result (Unit {0}) DropCause) (new : HostView)
    → heard_by h octets ≡ Ok (UdpFragment d) → fragment_outcome (later_moment h.sockets now) d h.pool ≡ Some (Completes payload quote) → datagram_or_fault d.source d.destination payload ≡ Ok u → IsDelivered h now isn octets answer new
    → (answer ≡ Ok tt)
    × (let moment = later_moment h.sockets now in new ≡ after_user_datagram (reception h.sockets u) (with_noted (with_pool h (after_take moment d h.pool)) moment d) moment d.source u (take 68 quote))
completes h now isn octets d payload quote u answer new is comes read delivered =
    let moment : Moment = later_moment h.sockets now in
    let g : HostView = with_noted (with_pool h (after_take moment d h.pool)) moment d in
    let others = finds-others moment d h.pool payload quote (is-part h octets d is) comes in
    let met = completes-there h moment d payload quote answer new others comes (met-by h now isn octets answer new (UdpFragment d) is delivered) in
    (met.0, met.1 ∙ ap (λ (x : Result UserDatagram UdpFault). after_payload x g moment d.source quote) read)

pub completed-queued : (h : HostView) (now : Moment) (isn : ℕ) (octets : List ℕ) (d : Datagram) (payload quote : List ℕ) (u : UserDatagram) (answer : Result (Unit {0}) DropCause) (new : HostView)
    (id : SocketId) (bound : Option Endpoint) (s : SocketView)
    → heard_by h octets ≡ Ok (UdpFragment d) → fragment_outcome (later_moment h.sockets now) d h.pool ≡ Some (Completes payload quote) → datagram_or_fault d.source d.destination payload ≡ Ok u
    → find (is_datagrams_at u.destination) h.sockets.entries ≡ Some (record { id = id; role = Datagrams bound s }) → has_room_to_receive (length u.payload) (Datagrams bound s) ≡ true
    → IsDelivered h now isn octets answer new → (answer ≡ Ok tt) × HasBehindOthers id bound s d.source u new
completed-queued h now isn octets d payload quote u answer new id bound s is comes read found room delivered =
    let moment : Moment = later_moment h.sockets now in
    let two = completes h now isn octets d payload quote u answer new is comes read delivered in
    (two.0, behind-others (with_noted (with_pool h (after_take moment d h.pool)) moment d) new moment d.source u (take 68 quote) id bound s found room two.1)

pub completed-reported : (h : HostView) (now : Moment) (isn : ℕ) (octets : List ℕ) (d : Datagram) (payload quote : List ℕ) (u : UserDatagram) (answer : Result (Unit {0}) DropCause) (new : HostView)
    → heard_by h octets ≡ Ok (UdpFragment d) → fragment_outcome (later_moment h.sockets now) d h.pool ≡ Some (Completes payload quote) → datagram_or_fault d.source d.destination payload ≡ Ok u
    → find (is_datagrams_at u.destination) h.sockets.entries ≡ None → is_routed h.interface d.source ≡ true → length h.interface.replies < h.interface.most_replies → IsDelivered h now isn octets answer new
    → (answer ≡ Ok tt) × (new.interface.replies ≡ h.interface.replies ++ record { since = later_moment h.sockets now; reply = reply.Error d.source PortUnreachable (take 68 quote) } ∷ [])
completed-reported h now isn octets d payload quote u answer new is comes read none routed few delivered =
    let moment : Moment = later_moment h.sockets now in
    let g : HostView = with_noted (with_pool h (after_take moment d h.pool)) moment d in
    let two = completes h now isn octets d payload quote u answer new is comes read delivered in
    let no_socket : reception h.sockets u ≡ socket.NoSocket = rw none refl in
    let told = joins (is_routed h.interface d.source) moment (reply.Error d.source PortUnreachable (take 68 quote)) h.interface routed (roomy h.interface few) in
    (two.0, ap (λ (x : HostView). x.interface.replies) (two.1 ∙ ap (λ (to : Reception). after_user_datagram to g moment d.source u (take 68 quote)) no_socket) ∙ ap (λ (i : InterfaceView). i.replies) told)

-- A message.

hard-so : (m : Message) → IsHardError m → is_hard m ≡ true
hard-so m is = ap (λ (k : ℕ). k == 3 && (m.code == 2 || m.code == 3 || m.code == 4)) is.kind ∙ by_code is.code
  where
    by_code : (m.code ≡ 2) ⊎ ((m.code ≡ 3) ⊎ (m.code ≡ 4)) → (m.code == 2 || m.code == 3 || m.code == 4) ≡ true
    by_code (inl two) = ap (λ (k : ℕ). k == 2 || k == 3 || k == 4) two
    by_code (inr (inl three)) = ap (λ (k : ℕ). k == 2 || k == 3 || k == 4) three
    by_code (inr (inr four)) = ap (λ (k : ℕ). k == 2 || k == 3 || k == 4) four

refuses-so : (m : Message) (quote : Quote) → IsHardError m → quote_in m.payload ≡ Some quote → quote.protocol.0 ≡ 6 → told_by m ≡ Refuses quote
refuses-so m quote hard quotes tcp =
    let refused : refused_quote m ≡ Some quote =
    ap (λ (b : Bool). cond b (of_segment (quote_in m.payload)) None) (hard-so m hard)
    ∙ ap of_segment quotes
    ∙ ap (λ (k : ℕ). cond (k == 6) (Some quote) None) tcp in
    ap (λ (k : ℕ). cond (k == 8 && m.code == 0) Asks (error_of_quote (refused_quote m))) hard.kind ∙ ap error_of_quote refused

nothing-so : (m : Message) → ¬ IsEchoRequest m → ¬ IsHardError m → told_by m ≡ Nothing
nothing-so m no_request no_error =
    ap (λ (b : Bool). cond b Asks (error_of_quote (refused_quote m))) unasked ∙ ap (λ (b : Bool). error_of_quote (cond b (of_segment (quote_in m.payload)) None)) soft
  where
    by_request : (kind code : Bool) → (m.kind == 8) ≡ kind → (m.code == 0) ≡ code → (kind && code) ≡ false
    by_request true true k c = absurd (no_request (record { kind = eqb-true m.kind 8 k; code = eqb-true m.code 0 c }))
    by_request true false k c = refl
    by_request false code k c = refl

    by_error : (kind two three four : Bool) → (m.kind == 3) ≡ kind → (m.code == 2) ≡ two → (m.code == 3) ≡ three → (m.code == 4) ≡ four → (kind && (two || three || four)) ≡ false
    by_error false two three four k a b d = refl
    by_error true true three four k a b d = absurd (no_error (record { kind = eqb-true m.kind 3 k; code = inl (eqb-true m.code 2 a) }))
    by_error true false true four k a b d = absurd (no_error (record { kind = eqb-true m.kind 3 k; code = inr (inl (eqb-true m.code 3 b)) }))
    by_error true false false true k a b d = absurd (no_error (record { kind = eqb-true m.kind 3 k; code = inr (inr (eqb-true m.code 4 d)) }))
    by_error true false false false k a b d = refl

    unasked : is_echo_request m ≡ false
    unasked = by_request (m.kind == 8) (m.code == 0) refl refl

    soft : is_hard m ≡ false
    soft = by_error (m.kind == 3) (m.code == 2) (m.code == 3) (m.code == 4) refl refl refl refl

pub others-nothing : (h : HostView) (now : Moment) (isn : ℕ) (octets : List ℕ) (c : Control) (answer : Result (Unit {0}) DropCause) (new : HostView) → heard_by h octets ≡ Ok (Icmp c) → ¬ IsEchoRequest c.message → ¬ IsHardError c.message
    → IsDelivered h now isn octets answer new → (answer ≡ Ok tt) × (new ≡ h)
others-nothing h now isn octets c answer new is no_request no_error delivered =
    subst (λ (t : Told). MeetsMessage t h (later_moment h.sockets now) c answer new) (nothing-so c.message no_request no_error) (met-by h now isn octets answer new (Icmp c) is delivered)

-- The connection of a segment that can't be delivered.

in-changed : {X : Type 0} (p : X → Bool) (f : X → X) (xs : List X) (x : X) → find p xs ≡ Some x → Contains (change_first p f xs) (f x)
in-changed p f [] x e = cc
in-changed {X} p f (y ∷ ys) x e = by_test (in-changed p f ys x) (p y) e
  where
    by_test : (find p ys ≡ Some x → Contains (change_first p f ys) (f x)) → (b : Bool) → cond b (Some y) (find p ys) ≡ Some x → Contains (cond b (f y ∷ ys) (y ∷ change_first p f ys)) (f x)
    by_test further true found = let same : y ≡ x = cc in (0, omega arith, ap f same)
    by_test further false found = let rest = further found in (suc rest.0, omega (arith, rest.1), rest.2)

-- what a hard error about its SYN makes of its entry, which is the first of its two ends
record IsHit (h new : HostView) (id : SocketId) (v : View) (listener : Option SocketId) (local peer : Endpoint) : Type 0 where
  solid : IsSoundConnection v
  refused : IsRefused (after_unreachable v v.sending.una)
  left : new.sockets.entries ≡ change_first (is_between local peer) (with_role (role_after_unreachable v.sending.una)) h.sockets.entries

opening-hit : (h : HostView) (now : Moment) (isn : ℕ) (octets : List ℕ) (c : Control) (quote : Quote) (answer : Result (Unit {0}) DropCause) (new : HostView) (id : SocketId) (v : View) (listener : Option SocketId) → IsSoundHost h
    → heard_by h octets ≡ Ok (Icmp c) → IsHardError c.message → quote_in c.message.payload ≡ Some quote → quote.protocol.0 ≡ 6
    → find (is_between quote.source quote.destination) h.sockets.entries ≡ Some (record { id = id; role = Connected v listener }) → v.state ≡ SynSent → v.sending.nxt ≢ v.sending.una → quote.number ≡ v.sending.una
    → IsDelivered h now isn octets answer new → (answer ≡ Ok tt) × IsHit h new id v listener quote.source quote.destination
opening-hit h now isn octets c quote answer new id v listener sound is hard quotes tcp found opens sent numbered delivered =
    let moment : Moment = later_moment h.sockets now in
    let met : MeetsMessage (Refuses quote) h moment c answer new =
    subst (λ (t : Told). MeetsMessage t h moment c answer new) (refuses-so c.message quote hard quotes tcp) (met-by h now isn octets answer new (Icmp c) is delivered) in
    let test : Entry → Bool = is_between quote.source quote.destination in
    let e : Entry = record { id = id; role = Connected v listener } in
    let solid : IsSoundConnection v = found-all (λ (x : Entry). IsSoundRole x.role) test h.sockets.entries e sound.table.entries found in
    let ends = opening_ends v solid.sound opens sent in
    let stays : unreachable_fate_of quote.number e.role ≡ Stays = ap (λ (n : ℕ). unreachable_fate_of n e.role) numbered ∙ ends.1 in
    let table : (let t = table_after_unreachable h.sockets quote.source quote.destination quote.number in t.entries) ≡ change_first test (with_role (role_after_unreachable quote.number)) h.sockets.entries =
    rw found (ap (λ (f : Fate). entries_after_step f test (role_after_unreachable quote.number) h.sockets.entries) stays) in (
      met.0,
      record {
        solid = solid;
        refused = ends.0;
        left = ap (λ (x : HostView). x.sockets.entries) met.1 ∙ table ∙ ap (λ (n : ℕ). change_first test (with_role (role_after_unreachable n)) h.sockets.entries) numbered;
      },
    )

pub opening-refused : (h : HostView) (now : Moment) (isn : ℕ) (octets : List ℕ) (c : Control) (quote : Quote) (answer : Result (Unit {0}) DropCause) (new : HostView) (id : SocketId) (v : View) (listener : Option SocketId) → IsSoundHost h
    → heard_by h octets ≡ Ok (Icmp c) → IsHardError c.message → quote_in c.message.payload ≡ Some quote → quote.protocol.0 ≡ 6
    → find (is_between quote.source quote.destination) h.sockets.entries ≡ Some (record { id = id; role = Connected v listener }) → v.state ≡ SynSent → v.sending.nxt ≢ v.sending.una → quote.number ≡ v.sending.una
    → IsDelivered h now isn octets answer new → (answer ≡ Ok tt) × (w : View) × IsRefused w × Contains new.sockets.entries (record { id = id; role = Connected w listener })
opening-refused h now isn octets c quote answer new id v listener sound is hard quotes tcp found opens sent numbered delivered =
    let hit = opening-hit h now isn octets c quote answer new id v listener sound is hard quotes tcp found opens sent numbered delivered in
    let w : View = after_unreachable v v.sending.una in
    let there = in-changed (is_between quote.source quote.destination) (with_role (role_after_unreachable v.sending.una)) h.sockets.entries (record { id = id; role = Connected v listener }) found in
    (hit.0, w, hit.1.refused, subst (λ (xs : List Entry). Contains xs (record { id = id; role = Connected w listener })) (sym hit.1.left) there)

-- what is refused tells so
refusal-told : (w : View) → IsRefused w → w.pending_error ≡ Some refused_so
refusal-told w r = by_error w.pending_error refl (r.recv 1)
  where
    by_error : (o : Option Error) → w.pending_error ≡ o → view_recv_answer w 1 ≡ Err refused_so → w.pending_error ≡ Some refused_so
    by_error None is told = let bad : view_recv_answer w 1 ≡ Ok EndOfStream = rw (is, r.closed, r.readable) refl in cc
    by_error (Some error) is told = let so : view_recv_answer w 1 ≡ Err error = rw is refl in let same : error ≡ refused_so = (let one = sym so ∙ told in cc) in is ∙ ap (λ (x : Error). Some x) same

-- our own side is not closed by an error
unreleased : (v : View) → IsSound v → v.state ≡ SynSent → v.released ≡ false
unreleased v sound opens = by_release v.released refl
  where
    by_release : (b : Bool) → v.released ≡ b → v.released ≡ false
    by_release false is = is
    by_release true is = let bad : true ≡ false = sym (rw (is, opens) refl) ∙ sound.release in cc

pub opening-told : (h : HostView) (now : Moment) (isn : ℕ) (octets : List ℕ) (c : Control) (quote : Quote) (answer : Result (Unit {0}) DropCause) (new : HostView) (id : SocketId) (v : View) → IsSoundHost h → IsOrdered h.sockets
    → heard_by h octets ≡ Ok (Icmp c) → IsHardError c.message → quote_in c.message.payload ≡ Some quote → quote.protocol.0 ≡ 6
    → find (is_between quote.source quote.destination) h.sockets.entries ≡ Some (record { id = id; role = Connected v None }) → v.state ≡ SynSent → v.sending.nxt ≢ v.sending.una → quote.number ≡ v.sending.una
    → IsDelivered h now isn octets answer new → IsToldByEachCall new.sockets id ECONNREFUSED
opening-told h now isn octets c quote answer new id v sound ordered is hard quotes tcp found opens sent numbered delivered =
    let hit = (opening-hit h now isn octets c quote answer new id v None sound is hard quotes tcp found opens sent numbered delivered).1 in
    let w : View = after_unreachable v v.sending.una in
    let free : w.released ≡ false = still-free v (unreleased v hit.solid.sound opens) in
    let named : is_socket id (record { id = id; role = Connected w None }) ≡ true = ap (λ (b : Bool). b && not w.released) (eqb-same id.0) ∙ ap not free in
    let there : find (is_socket id) new.sockets.entries ≡ Some (record { id = id; role = Connected w None }) =
    ap (λ (xs : List Entry). find (is_socket id) xs) hit.left
    ∙ changed_found (is_between quote.source quote.destination) (with_role (role_after_unreachable v.sending.una)) 0 h.sockets.last_id h.sockets.entries (record { id = id; role = Connected v None }) ordered.ids found named in
    let so : role_of new.sockets id ≡ Some (Connected w None) = ap (λ (o : Option Entry). option_map (λ (e : Entry). e.role) o) there in
    let told = refusal-told w hit.refused in record {
      connect = λ peer routed. connect_told new.sockets id w None refused_so peer routed so told;
      send = λ octets. send_told new.sockets id w None refused_so octets so told;
      recv = λ len some. recv_told new.sockets id w None refused_so len so told (not-zero len some);
      shutdown = shutdown_told new.sockets id w None refused_so so told;
    }
  where
    still-free : (v : View) → v.released ≡ false → (let w = after_unreachable v v.sending.una in w.released ≡ false)
    still-free v free = by_hit (is_unreachable v v.sending.una)
      where
        by_hit : (b : Bool) → (let w : View = if b then after_reset v (Some refused_so) else v in w.released ≡ false)
        by_hit true = free
        by_hit false = free

    not-zero : (len : ℕ) → 0 < len → (len == 0) ≡ false
    not-zero len some = grind (arith, nat_tests)
