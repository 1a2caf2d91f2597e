-- The frame side of a host keeps its MAC, its address and its routes over every event, each ARP reply that waits in it tells of its own MAC and address, and
-- it knows no neighbours but of the kind that it is taught.
use Rattle.std.proofs.Common.{◌≡◌, ℕ, ◌&&◌, not, nat_lt, Bool, true, false, cond, List, [], ◌∷◌, length, remove, take, Option, Some, None, option_map, Result, Ok, Err, refl, sym, ◌∙◌, subst}
use Rattle.std.specs.List.{AllByRecursion, list_any}
use Rattle.std.proofs.lemmas.Bool.{and_parts}
use Rattle.ipv4.specs.declared.addr.Addr.{Addr}
use Rattle.ipv4.specs.Addresses.{same_addr}
use Rattle.ipv4.specs.Datagram.{Datagram}
use Rattle.clock.specs.declared.moment.Moment.{Moment}
use Rattle.arp.specs.declared.entry.Neighbour.{Neighbour}
use Rattle.arp.specs.declared.packet.ArpPacket.{ArpPacket}
use Rattle.arp.specs.Cache.{added, after_sender, is_live_pair, is_pair_of, is_request_for, longest_unheard, pairs_after, sender_of, updated}
use Rattle.arp.specs.Packet.{reply_to}
use Rattle.frames.specs.declared.drop.DropCause.{DropCause}
use Rattle.frames.specs.declared.meaning.Control.{Control}
use Rattle.frames.specs.declared.meaning.Meaning.{Meaning}
use Rattle.frames.specs.declared.meaning.Meaning.TheVariants.{Arp, Tcp, Icmp, Udp, Other, UdpFragment}
use Rattle.frames.proofs.Deciding.{addr-Decides}
use Rattle.icmp.specs.declared.error.Reason.{Reason}
use Rattle.icmp.specs.declared.error.Reason.TheVariants.{ProtocolUnreachable, PortUnreachable, ReassemblyTimeExceeded}
use Rattle.interface.specs.declared.reply.Reply.{Reply}
use Rattle.interface.specs.declared.reply.Reply.TheVariants as reply
use Rattle.interface.specs.declared.reply.Waiting.{Waiting}
use Rattle.interface.specs.declared.way.Way.{Way}
use Rattle.interface.specs.declared.way.Way.TheVariants.{To, Ask, Waits}
use Rattle.interface.specs.InterfaceView.{InterfaceView}
use Rattle.interface.specs.Emission.{left_by as reply_left_by, way_at}
use Rattle.interface.specs.Replies.{is_full, learnt, owed, queued}
use Rattle.interface.specs.Timing.{after_tick as interface_after_tick, stays}
use Rattle.interface.specs.Ways.{is_routed}
use Rattle.reassembly.specs.declared.expired.Expired.{Expired}
use Rattle.reassembly.specs.Fragments.{quote_of}
use Rattle.reassembly.specs.Places.{after_take, expired, outcome_at, place_for}
use Rattle.reassembly.specs.Reassembly.{Outcome, PoolView}
use Rattle.reassembly.specs.Reassembly.Outcome.{Waits as WaitsOn, Completes, GivesUp}
use Rattle.sockets.specs.declared.datagrams.Reception.{Reception}
use Rattle.sockets.specs.declared.datagrams.Reception.TheVariants as socket
use Rattle.sockets.specs.Arrival.{Arrival, Becomes, Opens, NoRoom, Answers}
use Rattle.sockets.specs.Datagrams.{reception}
use Rattle.sockets.specs.SocketsView.{later_moment}
use Rattle.udp.specs.declared.fault.UdpFault.{UdpFault}
use Rattle.udp.specs.Datagram.{UserDatagram}
use Rattle.udp.specs.Reading.{datagram_or_fault}
use Rattle.host.specs.Arrival.{MeetsFragment, MeetsHeard, MeetsMessage, MeetsSegment, after_outcome, after_payload, after_user_datagram, is_late_copy, pool_for, segment_arrival, with_noted}
use Rattle.host.specs.Heard.{heard_by}
use Rattle.host.specs.ConfigView.{ConfigView}
use Rattle.host.specs.Emission.{Emission, Replies, Sends, Asks as AsksFor, Nothing as NothingGoes, after_emission, emission, left_by}
use Rattle.host.specs.HostView.{HostView, with_interface, with_pool, with_sockets}
use Rattle.host.specs.Messages.{Told, Asks, Refuses, Nothing, told_by}
use Rattle.host.specs.Runs.{Event, Calls, Ticks, Delivers, Emits, Makes, Runs, Begins, GoesOn}
use Rattle.host.specs.Ticks.{after_tick, all_reported, reported}
use Rattle.wire_sim.proofs.lists.FoundAfterChange.{All-added, All-filter, All-map, All-remove}

-- an ARP reply tells of the MAC and the address of this set-up
abbrev pub IsOwn : ConfigView → Reply → Type 0
IsOwn c (reply.Arp packet) = (packet.sender_mac ≡ c.mac) × (packet.sender_addr ≡ c.addr)
IsOwn c (reply.Reset to head) = Unit {0}
IsOwn c (reply.Echo to identifier number octets) = Unit {0}
IsOwn c (reply.Error to reason quoted) = Unit {0}

-- a frame side of this set-up, whose neighbours are all of a kind
pub record IsSideOf (c : ConfigView) (knows : Neighbour → Type 0) (i : InterfaceView) : Type 0 where
  pub mac : i.mac ≡ c.mac
  pub addr : i.addr ≡ c.addr
  pub routes : i.routes ≡ c.routes
  pub replies : AllByRecursion (λ (w : Waiting). IsOwn c w.reply) i.replies
  pub neighbours : AllByRecursion knows i.cache.pairs

-- whoever it is
abbrev pub Anyone : Neighbour → Type 0
Anyone pair = Unit {0}

-- whoever an event teaches a host is of that kind: the sender of an ARP packet that it delivers
abbrev pub Teaches : (Neighbour → Type 0) → Event → HostView → Type 0
Teaches knows event h =
    (now : Moment) (isn : ℕ) (octets : List ℕ) (packet : ArpPacket) → event ≡ Delivers now isn octets → heard_by h octets ≡ Ok (Arp packet) → (moment : Moment) → knows (sender_of moment packet)

-- What is learnt of a packet.

-- a pair becomes the sender's, or stays
pair-updated : (knows : Neighbour → Type 0) (sender : Neighbour) → knows sender → (pair : Neighbour) → knows pair → knows (after_sender sender pair)
pair-updated knows sender known pair is = by_test (is_pair_of sender.addr pair)
  where
    by_test : (b : Bool) → knows (cond b sender pair)
    by_test true = known
    by_test false = is

pairs-known : (knows : Neighbour → Type 0) (most : ℕ) (sender : Neighbour) (is_for_us : Bool) (pairs : List Neighbour) → AllByRecursion knows pairs → knows sender → AllByRecursion knows (pairs_after most sender is_for_us pairs)
unfolding pairs_after
pairs-known knows most sender is_for_us pairs all known = by_known (list_any (is_pair_of sender.addr) pairs)
  where
    by_room : (b : Bool) → AllByRecursion knows (cond b pairs (remove pairs (longest_unheard pairs)))
    by_room true = all
    by_room false = All-remove knows pairs (longest_unheard pairs) all

    by_us : (b : Bool) → AllByRecursion knows (cond b (added most sender pairs) pairs)
    by_us true = All-added knows (cond (nat_lt (length pairs) most) pairs (remove pairs (longest_unheard pairs))) sender (by_room (nat_lt (length pairs) most)) known
    by_us false = all

    by_known : (b : Bool) → AllByRecursion knows (cond b (updated sender pairs) (cond is_for_us (added most sender pairs) pairs))
    by_known true = All-map knows (after_sender sender) (pair-updated knows sender known) pairs all
    by_known false = by_us is_for_us

-- What an event makes of the frame side.

stays-owed : {knows : Neighbour → Type 0} (c : ConfigView) (is_owed : Bool) (now : Moment) (r : Reply) (i : InterfaceView) → IsSideOf c knows i → (is_owed ≡ true → IsOwn c r) → IsSideOf c knows (owed is_owed now r i)
stays-owed {knows} c is_owed now r i s is = by_tests is_owed (is_full i) is
  where
    by_tests : (b full : Bool) → (b ≡ true → IsOwn c r) → IsSideOf c knows (cond (b && not full) (queued now r i) i)
    by_tests true true own = s
    by_tests true false own = record { mac = s.mac; addr = s.addr; routes = s.routes; replies = All-added (λ (w : Waiting). IsOwn c w.reply) i.replies (record { since = now; reply = r }) s.replies (own refl); neighbours = s.neighbours }
    by_tests false full own = s

stays-ticked : {knows : Neighbour → Type 0} (c : ConfigView) (now : Moment) (i : InterfaceView) → IsSideOf c knows i → IsSideOf c knows (interface_after_tick i now)
stays-ticked {knows} c now i s = record { mac = s.mac; addr = s.addr; routes = s.routes; replies = All-filter (λ (w : Waiting). IsOwn c w.reply) (stays i now) i.replies s.replies; neighbours = All-filter knows (is_live_pair now) i.cache.pairs s.neighbours }

stays-expired : {knows : Neighbour → Type 0} (c : ConfigView) (now : Moment) (datagrams : List Expired) (i : InterfaceView) → IsSideOf c knows i → IsSideOf c knows (all_reported now i datagrams)
stays-expired c now [] i s = s
stays-expired c now (d ∷ ds) i s =
    stays-expired c now ds (reported now i d) (stays-owed c (is_routed i d.key.source) now (reply.Error d.key.source ReassemblyTimeExceeded (take 68 d.quote)) i s (λ is. tt))

stays-replied : {knows : Neighbour → Type 0} (c : ConfigView) (now : Moment) (place : ℕ) (i : InterfaceView) → IsSideOf c knows i → (way : Way) → IsSideOf c knows (reply_left_by i now place way)
stays-replied c now place i s (To mac) = record { mac = s.mac; addr = s.addr; routes = s.routes; replies = All-remove (λ (w : Waiting). IsOwn c w.reply) i.replies place s.replies; neighbours = s.neighbours }
stays-replied c now place i s (Ask hop) = record { mac = s.mac; addr = s.addr; routes = s.routes; replies = s.replies; neighbours = s.neighbours }
stays-replied c now place i s Waits = s

stays-left : {knows : Neighbour → Type 0} (c : ConfigView) (h : HostView) (moment : Moment) → IsSideOf c knows h.interface → (x : Emission) → IsSideOf c knows (let left = left_by h moment x in left.interface)
stays-left c h moment s (Replies place) = stays-replied c moment place h.interface s (way_at h.interface moment place)
stays-left c h moment s (Sends mac to) = s
stays-left c h moment s (AsksFor hop) = record { mac = s.mac; addr = s.addr; routes = s.routes; replies = s.replies; neighbours = s.neighbours }
stays-left c h moment s NothingGoes = s

-- what becomes of a host, by its frame side

to-new : {knows : Neighbour → Type 0} (c : ConfigView) (made new : HostView) → new ≡ made → IsSideOf c knows made.interface → IsSideOf c knows new.interface
to-new {knows} c made new is s = subst (λ (h : HostView). IsSideOf c knows h.interface) (sym is) s

stays-segment : {knows : Neighbour → Type 0} (c : ConfigView) (a : Arrival) (h : HostView) (moment : Moment) (source : Addr) (answer : Result (Unit {0}) DropCause) (new : HostView) → IsSideOf c knows h.interface → MeetsSegment a h moment source answer new → IsSideOf c knows new.interface
stays-segment c (Becomes next) h moment source answer new s met = to-new c (with_sockets h next) new met.1 s
stays-segment c (Opens next) h moment source (Ok done) new s met = to-new c (with_sockets h next) new met s
stays-segment c (Opens next) h moment source (Err cause) new s met = to-new c h new met.1 s
stays-segment c NoRoom h moment source answer new s met = to-new c h new met.1 s
stays-segment c (Answers head) h moment source answer new s met =
    let side = owed (is_routed h.interface source) moment (reply.Reset source head) h.interface in
    to-new c (with_interface h side) new met.1 (stays-owed c (is_routed h.interface source) moment (reply.Reset source head) h.interface s (λ is. tt))

stays-message : {knows : Neighbour → Type 0} (c : ConfigView) (h : HostView) (moment : Moment) (m : Control) (answer : Result (Unit {0}) DropCause) (new : HostView) → IsSideOf c knows h.interface → (told : Told) → MeetsMessage told h moment m answer new → IsSideOf c knows new.interface
stays-message c h moment m answer new s Asks met =
    let r : Reply = reply.Echo m.source m.message.identifier m.message.number m.message.payload in
    to-new c (with_interface h (owed (is_routed h.interface m.source) moment r h.interface)) new met.1 (stays-owed c (is_routed h.interface m.source) moment r h.interface s (λ is. tt))
stays-message c h moment m answer new s (Refuses quote) met = to-new c (with_sockets h _) new met.1 s
stays-message c h moment m answer new s Nothing met = to-new c h new met.1 s

-- a datagram is reported
stays-told : {knows : Neighbour → Type 0} (c : ConfigView) (h : HostView) (moment : Moment) (to : Addr) (reason : Reason) (quoted : List ℕ) → IsSideOf c knows h.interface → IsSideOf c knows (owed (is_routed h.interface to) moment (reply.Error to reason quoted) h.interface)
stays-told c h moment to reason quoted s = stays-owed c (is_routed h.interface to) moment (reply.Error to reason quoted) h.interface s (λ is. tt)

stays-user : {knows : Neighbour → Type 0} (c : ConfigView) (to : Reception) (h : HostView) (moment : Moment) (source : Addr) (u : UserDatagram) (quote : List ℕ) → IsSideOf c knows h.interface → IsSideOf c knows (let after = after_user_datagram to h moment source u quote in after.interface)
stays-user c socket.Queued h moment source u quote s = s
stays-user c socket.NoRoom h moment source u quote s = s
stays-user c socket.NoSocket h moment source u quote s = stays-told c h moment source PortUnreachable quote s

stays-payload : {knows : Neighbour → Type 0} (c : ConfigView) (read : Result UserDatagram UdpFault) (h : HostView) (moment : Moment) (source : Addr) (quote : List ℕ) → IsSideOf c knows h.interface → IsSideOf c knows (let after = after_payload read h moment source quote in after.interface)
stays-payload c (Err fault) h moment source quote s = s
stays-payload c (Ok u) h moment source quote s = stays-user c (reception h.sockets u) h moment source u (take 68 quote) s

stays-outcome : {knows : Neighbour → Type 0} (c : ConfigView) (o : Outcome) (h : HostView) (moment : Moment) (d : Datagram) → IsSideOf c knows h.interface → IsSideOf c knows (let after = after_outcome o h moment d in after.interface)
stays-outcome c (WaitsOn r) h moment d s = s
stays-outcome c GivesUp h moment d s = s
stays-outcome c (Completes payload quote) h moment d s = stays-payload c (datagram_or_fault d.source d.destination payload) (with_noted h moment d) moment d.source quote s

stays-fragment : {knows : Neighbour → Type 0} (c : ConfigView) (h : HostView) (moment : Moment) (d : Datagram) (answer : Result (Unit {0}) DropCause) (new : HostView) → IsSideOf c knows h.interface → (place : Option ℕ) (late : Bool)
    → MeetsFragment (option_map (outcome_at moment d (pool_for h.sockets.manner.guards d h.pool)) place) late h moment d answer new → IsSideOf c knows new.interface
stays-fragment c h moment d answer new s None late met = to-new c h new met.1 s
stays-fragment c h moment d answer new s (Some i) true met = to-new c h new met.1 s
stays-fragment c h moment d answer new s (Some i) false met =
    let room : PoolView = pool_for h.sockets.manner.guards d h.pool in
    let pool = after_take moment d room in
    to-new c (after_outcome (outcome_at moment d room i) (with_pool h pool) moment d) new met.1 (stays-outcome c (outcome_at moment d room i) (with_pool h pool) moment d s)

-- a request for our address is answered by it
asked-own : {knows : Neighbour → Type 0} (c : ConfigView) (i : InterfaceView) (p : ArpPacket) → IsSideOf c knows i → is_request_for i.addr p ≡ true → IsOwn c (reply.Arp (reply_to p i.mac))
asked-own c i p s is = (s.mac, (addr-Decides p.target_addr i.addr).0 (and_parts (same_addr p.target_addr i.addr) _ is).0 ∙ s.addr)

stays-heard : {knows : Neighbour → Type 0} (c : ConfigView) (h : HostView) (moment : Moment) (isn : ℕ) (answer : Result (Unit {0}) DropCause) (new : HostView) → IsSideOf c knows h.interface → (m : Result Meaning DropCause)
    → ((packet : ArpPacket) → m ≡ Ok (Arp packet) → knows (sender_of moment packet)) → MeetsHeard m h moment isn answer new → IsSideOf c knows new.interface
stays-heard {knows} c h moment isn answer new s (Ok (Arp packet)) teaches met =
    let r : Reply = reply.Arp (reply_to packet h.interface.mac) in
    let i : InterfaceView = learnt moment packet h.interface in
    let aware : IsSideOf c knows i = record {
      mac = s.mac;
      addr = s.addr;
      routes = s.routes;
      replies = s.replies;
      neighbours = pairs-known knows h.interface.cache.most (sender_of moment packet) (same_addr packet.target_addr h.interface.addr) h.interface.cache.pairs s.neighbours (teaches packet refl);
    } in
    to-new c (with_interface h (owed (is_request_for h.interface.addr packet) moment r i)) new met.1
    (stays-owed c (is_request_for h.interface.addr packet) moment r i aware (asked-own c h.interface packet s))
stays-heard c h moment isn answer new s (Ok (Tcp r)) teaches met = stays-segment c (segment_arrival h moment isn r.source r.segment) h moment r.source answer new s met
stays-heard c h moment isn answer new s (Ok (Icmp m)) teaches met = stays-message c h moment m answer new s (told_by m.message) met
stays-heard c h moment isn answer new s (Ok (Udp r)) teaches met =
    to-new c (after_user_datagram (reception h.sockets r.datagram) h moment r.carrier.source r.datagram (quote_of r.carrier)) new met.1
    (stays-user c (reception h.sockets r.datagram) h moment r.carrier.source r.datagram (quote_of r.carrier) s)
stays-heard c h moment isn answer new s (Ok (UdpFragment d)) teaches met = stays-fragment c h moment d answer new s (place_for d (pool_for h.sockets.manner.guards d h.pool)) (is_late_copy h moment d) met
stays-heard c h moment isn answer new s (Ok (Other d)) teaches met =
    to-new c (with_interface h (owed (is_routed h.interface d.source) moment (reply.Error d.source ProtocolUnreachable (quote_of d)) h.interface)) new met.1 (stays-told c h moment d.source ProtocolUnreachable (quote_of d) s)
stays-heard c h moment isn answer new s (Err cause) teaches met = to-new c h new met.1 s

-- any event
pub stays-on : {knows : Neighbour → Type 0} (c : ConfigView) (event : Event) (old new : HostView) → Teaches knows event old → IsSideOf c knows old.interface → Makes event old new → IsSideOf c knows new.interface
stays-on c (Calls call) old new teaches s makes = to-new c (with_sockets old _) new makes.1 s
stays-on c (Ticks now) old new teaches s makes =
    let moment : Moment = later_moment old.sockets now in
    to-new c (after_tick old now) new makes (stays-expired c moment (expired moment old.pool) (interface_after_tick old.interface moment) (stays-ticked c moment old.interface s))
stays-on c (Delivers now isn octets) old new teaches s makes =
    let moment : Moment = later_moment old.sockets now in
    stays-heard c old moment isn makes.0 new s (heard_by old octets) (λ packet is. teaches now isn octets packet refl is moment) makes.1
stays-on c (Emits now) old new teaches s makes =
    let moment : Moment = later_moment old.sockets now in
    to-new c (after_emission old now) new makes (stays-left c old moment s (emission old moment))

-- any list of events
pub run-stays : (c : ConfigView) (events : List Event) (h : HostView) → Runs c events h → IsSideOf c Anyone h.interface
run-stays c _ _ Begins = record { mac = refl; addr = refl; routes = refl; replies = tt; neighbours = tt }
run-stays c _ _ (GoesOn before event old new ran sound small makes) = stays-on c event old new (λ now isn octets packet is heard moment. tt) (run-stays c before old ran) makes
