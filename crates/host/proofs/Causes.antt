-- Over every list of events, each echo reply that waits has its request, and each error its cause.
use Rattle.std.proofs.Common.{◌≡◌, ℕ, zero, suc, ◌≤◌, ◌==◌, ◌&&◌, not, Bool, true, false, cond, List, [], ◌∷◌, ◌++◌, filter, length, remove, take, Option, Some, None, is_none, option_map, Result, Ok, Err, refl, sym, ◌∙◌, ap, subst, arith, length-append, length-set, length-take}
use Rattle.std.specs.List.{AllByRecursion}
use Rattle.std.proofs.lemmas.Bool.{eqb-true}
use Rattle.std.proofs.lemmas.List.{length-map, take_all, length-replicate}
use Rattle.std.proofs.lemmas.List.Elements.{Contains-append_left, Contains-append_right}
use Rattle.ether.specs.declared.mac.Mac.{Mac}
use Rattle.ipv4.specs.declared.addr.Addr.{Addr}
use Rattle.ipv4.specs.Datagram.{Datagram, header_octets}
use Rattle.clock.specs.declared.moment.Moment.{Moment}
use Rattle.arp.specs.Cache.{is_request_for}
use Rattle.arp.specs.Packet.{reply_to}
use Rattle.icmp.specs.declared.error.Reason.{Reason}
use Rattle.icmp.specs.declared.error.Reason.TheVariants.{ProtocolUnreachable, PortUnreachable, ReassemblyTimeExceeded}
use Rattle.icmp.specs.declared.quote.Quote.{Quote}
use Rattle.icmp.specs.Message.{Message, IsEchoRequest}
use Rattle.frames.specs.declared.drop.DropCause.{DropCause}
use Rattle.frames.specs.declared.meaning.Control.{Control}
use Rattle.frames.specs.declared.meaning.Meaning.{Meaning}
use Rattle.frames.specs.declared.meaning.Meaning.TheVariants.{Arp, Tcp, Icmp, Udp, Other, UdpFragment}
use Rattle.frames.specs.Meaning.{heard}
use Rattle.frames.proofs.Hearers.{fragments_fit}
use Rattle.interface.specs.declared.reply.Reply.{Reply}
use Rattle.interface.specs.declared.reply.Reply.TheVariants as reply
use Rattle.interface.specs.declared.reply.Waiting.{Waiting}
use Rattle.interface.specs.declared.way.Way.{Way}
use Rattle.interface.specs.declared.way.Way.TheVariants.{To, Ask, Waits}
use Rattle.interface.specs.InterfaceView.{InterfaceView}
use Rattle.interface.specs.Emission.{left_by as reply_left_by, way_at}
use Rattle.interface.specs.Replies.{after_report, is_full, learnt, owed, queued}
use Rattle.interface.specs.Timing.{after_tick as interface_after_tick, stays}
use Rattle.interface.specs.Ways.{is_routed}
use Rattle.sockets.specs.Arrival.{Arrival, Becomes, Opens, NoRoom as NoRoomInTable, Answers}
use Rattle.reassembly.specs.declared.expired.Expired.{Expired}
use Rattle.reassembly.specs.Fragments.{key_of, quote_of}
use Rattle.reassembly.specs.declared.finished.Finished.{Finished}
use Rattle.reassembly.specs.Lately.{noted}
use Rattle.reassembly.specs.Places.{after_take, after_take_at, after_time, expired, fits, oldest, outcome_at, place_for, without, without_oldest}
use Rattle.reassembly.specs.Events.Event.{Takes, Ages, GivesWay}
use Rattle.reassembly.proofs.Rooms.{AreShort, none_short, short_event}
use Rattle.reassembly.specs.Reassembly.{Outcome, PoolView}
use Rattle.reassembly.proofs.Late.{few}
use Rattle.reassembly.specs.Reassembly.Outcome.{Waits, Completes, GivesUp}
use Rattle.sockets.specs.declared.datagrams.Reception.{Reception}
use Rattle.sockets.specs.declared.datagrams.Reception.TheVariants as socket
use Rattle.sockets.specs.Causes.{after_event}
use Rattle.sockets.specs.Datagrams.{after_reception, reception}
use Rattle.sockets.specs.SocketsView.{SocketsView, later_moment}
use Rattle.sockets.specs.Unreachable.{after_unreachable}
use Rattle.udp.specs.declared.fault.UdpFault.{UdpFault}
use Rattle.udp.specs.Datagram.{UserDatagram}
use Rattle.udp.specs.Reading.{datagram_or_fault}
use Rattle.host.specs.Arrival.{MeetsFragment, MeetsHeard, MeetsMessage, MeetsSegment, after_outcome, after_payload, after_user_datagram, is_late_copy, pool_for, segment_arrival, with_noted}
use Rattle.host.specs.Heard.{heard_by}
use Rattle.host.proofs.Guarded.{meant_by}
use Rattle.host.specs.Causes.{IsAbout, Untaken, Unbound, UnboundInFragments, Late}
use Rattle.host.specs.ConfigView.{ConfigView}
use Rattle.host.specs.Emission.{Emission, Replies, Sends, Asks as AsksFor, Nothing as NothingGoes, after_emission, emission, left_by}
use Rattle.host.specs.HostView.{HostView, with_interface, with_pool, with_sockets}
use Rattle.host.specs.Messages.{Told, Asks, Refuses, Nothing, refused_quote, told_by, error_of_quote}
use Rattle.host.specs.Runs.{Event, Calls, Ticks, Delivers, Emits, Makes, Runs, Begins, GoesOn, WasHeard}
use Rattle.host.specs.Ticks.{after_tick, all_reported, reported}
use Rattle.host.proofs.Gathering.{AreGathered, IsExpired, IsLeft, IsQuoted, after-ageing, after-taking, made-room, expired-quoted, gathered-more, none-gathered, outcome-left}

-- Lists of which each element is sound.

all-more : {X : Type 0} (P Q : X → Type 0) → ((x : X) → P x → Q x) → (xs : List X) → AllByRecursion P xs → AllByRecursion Q xs
all-more P Q more [] all = tt
all-more P Q more (x ∷ xs) all = (more x all.0, all-more P Q more xs all.1)

pub all-behind : {X : Type 0} (P : X → Type 0) (xs : List X) (x : X) → AllByRecursion P xs → P x → AllByRecursion P (xs ++ x ∷ [])
all-behind P [] x all last = (last, tt)
all-behind P (y ∷ ys) x all last = (all.0, all-behind P ys x all.1 last)

pub all-filtered : {X : Type 0} (P : X → Type 0) (p : X → Bool) (xs : List X) → AllByRecursion P xs → AllByRecursion P (filter p xs)
all-filtered P p [] all = tt
all-filtered {X} P p (x ∷ xs) all = by_test (p x) (all-filtered P p xs all.1)
  where
    by_test : (b : Bool) → AllByRecursion P (filter p xs) → AllByRecursion P (cond b (x ∷ filter p xs) (filter p xs))
    by_test true rest = (all.0, rest)
    by_test false rest = rest

pub all-left : {X : Type 0} (P : X → Type 0) (xs : List X) (k : ℕ) → AllByRecursion P xs → AllByRecursion P (remove xs k)
all-left P [] zero all = tt
all-left P [] (suc k) all = tt
all-left P (x ∷ xs) zero all = all.1
all-left P (x ∷ xs) (suc k) all = (all.0, all-left P xs k all.1)

-- What a reply that waits answers.

-- an echo reply to this address has a request from there
pub record HasRequest (c : ConfigView) (events : List Event) (to : Addr) (identifier number : ℕ) (octets : List ℕ) : Type 0 where
  pub request : Message
  pub was_heard : WasHeard c events (Icmp (record { source = to; message = request }))
  pub asks : IsEchoRequest request
  pub same_identifier : identifier ≡ request.identifier
  pub same_number : number ≡ request.number
  pub same_octets : octets ≡ request.payload

-- an error to this address has its cause, a datagram from there
pub record HasCause (c : ConfigView) (events : List Event) (to : Addr) (reason : Reason) (quoted : List ℕ) : Type 0 where
  pub cause : Datagram
  pub meaning : Meaning
  pub about : IsAbout reason cause meaning
  pub was_heard : WasHeard c events meaning
  pub from : cause.source ≡ to
  pub quotes : quoted ≡ quote_of cause

abbrev pub IsCaused : ConfigView → List Event → Reply → Type 0
IsCaused c events (reply.Arp packet) = Unit {0}
IsCaused c events (reply.Reset to head) = Unit {0}
IsCaused c events (reply.Echo to identifier number octets) = HasRequest c events to identifier number octets
IsCaused c events (reply.Error to reason quoted) = HasCause c events to reason quoted

-- a fragment that was delivered
abbrev pub WasPart : ConfigView → List Event → Datagram → Type 0
WasPart c events d = WasHeard c events (UdpFragment d)

-- a frame side of this set-up, whose replies answer what was delivered
pub record Stands (c : ConfigView) (events : List Event) (i : InterfaceView) : Type 0 where
  pub mac : i.mac ≡ c.mac
  pub addr : i.addr ≡ c.addr
  pub replies : AllByRecursion (λ (waiting : Waiting). IsCaused c events waiting.reply) i.replies

-- and a host with it, whose pool has as many places as the set-up says with what was delivered, and that knows 64 datagrams at most as whole lately
pub record HostStands (c : ConfigView) (events : List Event) (h : HostView) : Type 0 where
  pub interface : Stands c events h.interface
  pub places : length h.pool.places ≡ c.sizes.reassemblies
  pub octets : h.pool.octets ≡ c.sizes.reassembly_octets
  pub short : AreShort h.pool
  pub pool : AreGathered (WasPart c events) h.pool.places
  pub lately : length h.lately ≤ 64

-- What was delivered by some events was delivered by more.

heard-more : (c : ConfigView) (events : List Event) (event : Event) (meaning : Meaning) → WasHeard c events meaning → WasHeard c (events ++ event ∷ []) meaning
heard-more c events event meaning was = record {
  now = was.now;
  isn = was.isn;
  octets = was.octets;
  delivered = Contains-append_left events (event ∷ []) (Delivers was.now was.isn was.octets) was.delivered;
  meant = was.meant;
}

caused-more : (c : ConfigView) (events : List Event) (event : Event) (r : Reply) → IsCaused c events r → IsCaused c (events ++ event ∷ []) r
caused-more c events event (reply.Arp packet) caused = tt
caused-more c events event (reply.Reset to head) caused = tt
caused-more c events event (reply.Echo to identifier number octets) caused = record {
  request = caused.request;
  was_heard = heard-more c events event (Icmp (record { source = to; message = caused.request })) caused.was_heard;
  asks = caused.asks;
  same_identifier = caused.same_identifier;
  same_number = caused.same_number;
  same_octets = caused.same_octets;
}
caused-more c events event (reply.Error to reason quoted) caused = record {
  cause = caused.cause;
  meaning = caused.meaning;
  about = caused.about;
  was_heard = heard-more c events event caused.meaning caused.was_heard;
  from = caused.from;
  quotes = caused.quotes;
}

stands-more : (c : ConfigView) (events : List Event) (event : Event) (i : InterfaceView) → Stands c events i → Stands c (events ++ event ∷ []) i
stands-more c events event i stands = record {
  mac = stands.mac;
  addr = stands.addr;
  replies = all-more (λ (w : Waiting). IsCaused c events w.reply) (λ (w : Waiting). IsCaused c (events ++ event ∷ []) w.reply) (λ w. caused-more c events event w.reply) i.replies stands.replies;
}

host-more : (c : ConfigView) (events : List Event) (event : Event) (h : HostView) → HostStands c events h → HostStands c (events ++ event ∷ []) h
host-more c events event h stands = record {
  interface = stands-more c events event h.interface stands.interface;
  places = stands.places;
  octets = stands.octets;
  short = stands.short;
  pool = gathered-more (WasPart c events) (WasPart c (events ++ event ∷ [])) (λ d. heard-more c events event (UdpFragment d)) h.pool.places stands.pool;
  lately = stands.lately;
}

-- what is delivered was delivered by the events with it
heard-last : (c : ConfigView) (events : List Event) (now : Moment) (isn : ℕ) (octets : List ℕ) (meaning : Meaning) → heard c.mac c.addr octets ≡ Ok meaning → WasHeard c (events ++ Delivers now isn octets ∷ []) meaning
heard-last c events now isn octets meaning is = record {
  now = now;
  isn = isn;
  octets = octets;
  delivered = Contains-append_right events (Delivers now isn octets ∷ []) (Delivers now isn octets) (0, omega arith, refl);
  meant = is;
}

-- What an event makes of the frame side.

-- a reply joins those that wait
stands-owed : (c : ConfigView) (events : List Event) (is_owed : Bool) (now : Moment) (r : Reply) (i : InterfaceView) → Stands c events i → IsCaused c events r → Stands c events (owed is_owed now r i)
stands-owed c events is_owed now r i stands caused = by_test (is_owed && not (is_full i))
  where
    by_test : (b : Bool) → Stands c events (cond b (queued now r i) i)
    by_test true = record { mac = stands.mac; addr = stands.addr; replies = all-behind (λ (w : Waiting). IsCaused c events w.reply) i.replies (record { since = now; reply = r }) stands.replies caused }
    by_test false = stands

-- an error joins them, of which a fragment zero is the cause
quote-whole : (d : Datagram) → length (header_octets d) ≤ 60 → take 68 (quote_of d) ≡ quote_of d
quote-whole d fits = take_all 68 (quote_of d) (omega (arith, length-append (header_octets d) (take 8 d.payload), length-take 8 d.payload, fits))

part-fits : (c : ConfigView) (events : List Event) (d : Datagram) → WasPart c events d → length (header_octets d) ≤ 60
part-fits c events d was = (fragments_fit c.mac c.addr was.octets d was.meant).0

zero-caused : (c : ConfigView) (events : List Event) (reason : Reason) (to : Addr) (quote : List ℕ) → ((d : Datagram) → d.offset ≡ 0 → IsAbout reason d (UdpFragment d)) → IsQuoted (WasPart c events) to quote
    → HasCause c events to reason (take 68 quote)
zero-caused c events reason to quote about q = record {
  cause = q.zero_fragment;
  meaning = UdpFragment q.zero_fragment;
  about = about q.zero_fragment q.begins;
  was_heard = q.passes;
  from = q.from;
  quotes = ap (take 68) q.is ∙ quote-whole q.zero_fragment (part-fits c events q.zero_fragment q.passes);
}

stands-reported : (c : ConfigView) (events : List Event) (now : Moment) (to : Addr) (reason : Reason) (quoted : List ℕ) (i : InterfaceView) → Stands c events i → HasCause c events to reason quoted
    → Stands c events (after_report i now to reason quoted)
stands-reported c events now to reason quoted i stands caused = stands-owed c events (is_routed i to) now (reply.Error to reason quoted) i stands caused

stands-ticked : (c : ConfigView) (events : List Event) (now : Moment) (i : InterfaceView) → Stands c events i → Stands c events (interface_after_tick i now)
stands-ticked c events now i stands = record { mac = stands.mac; addr = stands.addr; replies = all-filtered (λ (w : Waiting). IsCaused c events w.reply) (stays i now) i.replies stands.replies }

stands-expired : (c : ConfigView) (events : List Event) (now : Moment) (datagrams : List Expired) (i : InterfaceView) → Stands c events i → AllByRecursion (IsExpired (WasPart c events)) datagrams
    → Stands c events (all_reported now i datagrams)
stands-expired c events now [] i stands all = stands
stands-expired c events now (d ∷ ds) i stands all =
    let here : IsQuoted (WasPart c events) d.key.source d.quote = all.0 in
    stands-expired c events now ds (reported now i d)
    (stands-reported c events now d.key.source ReassemblyTimeExceeded (take 68 d.quote) i stands (zero-caused c events ReassemblyTimeExceeded d.key.source d.quote (λ x first. Late x first) here)) all.1

-- a reply goes out, or the request for its hop
stands-replied : (c : ConfigView) (events : List Event) (now : Moment) (place : ℕ) (i : InterfaceView) → Stands c events i → (way : Way) → Stands c events (reply_left_by i now place way)
stands-replied c events now place i stands (To mac) = record { mac = stands.mac; addr = stands.addr; replies = all-left (λ (w : Waiting). IsCaused c events w.reply) i.replies place stands.replies }
stands-replied c events now place i stands (Ask hop) = record { mac = stands.mac; addr = stands.addr; replies = stands.replies }
stands-replied c events now place i stands Waits = stands

stands-left : (c : ConfigView) (events : List Event) (h : HostView) (moment : Moment) → Stands c events h.interface → (x : Emission) → Stands c events (let left = left_by h moment x in left.interface)
stands-left c events h moment stands (Replies place) = stands-replied c events moment place h.interface stands (way_at h.interface moment place)
stands-left c events h moment stands (Sends mac to) = stands
stands-left c events h moment stands (AsksFor hop) = record { mac = stands.mac; addr = stands.addr; replies = stands.replies }
stands-left c events h moment stands NothingGoes = stands

-- what becomes of a host, by its frame side and its pool
to-new : (c : ConfigView) (events : List Event) (made new : HostView) → new ≡ made → HostStands c events made → HostStands c events new
to-new c events made new is stands = subst (HostStands c events) (sym is) stands

with-side : (c : ConfigView) (events : List Event) (h : HostView) (i : InterfaceView) → HostStands c events h → Stands c events i → HostStands c events (with_interface h i)
with-side c events h i stands side = record { interface = side; places = stands.places; octets = stands.octets; short = stands.short; pool = stands.pool; lately = stands.lately }

with-table : (c : ConfigView) (events : List Event) (h : HostView) (table : SocketsView) → HostStands c events h → HostStands c events (with_sockets h table)
with-table c events h table stands = record { interface = stands.interface; places = stands.places; octets = stands.octets; short = stands.short; pool = stands.pool; lately = stands.lately }

stands-segment : (c : ConfigView) (events : List Event) (a : Arrival) (h : HostView) (moment : Moment) (source : Addr) (answer : Result (Unit {0}) DropCause) (new : HostView)
    → HostStands c events h → MeetsSegment a h moment source answer new → HostStands c events new
stands-segment c events (Becomes next) h moment source answer new stands met = to-new c events (with_sockets h next) new met.1 (with-table c events h next stands)
stands-segment c events (Opens next) h moment source (Ok done) new stands met = to-new c events (with_sockets h next) new met (with-table c events h next stands)
stands-segment c events (Opens next) h moment source (Err cause) new stands met = to-new c events h new met.1 stands
stands-segment c events NoRoomInTable h moment source answer new stands met = to-new c events h new met.1 stands
stands-segment c events (Answers head) h moment source answer new stands met =
    let side = owed (is_routed h.interface source) moment (reply.Reset source head) h.interface in
    to-new c events (with_interface h side) new met.1
    (with-side c events h side stands (stands-owed c events (is_routed h.interface source) moment (reply.Reset source head) h.interface stands.interface tt))

-- a message tells of a request only where it is one
asks-is : (m : Message) → told_by m ≡ Asks → IsEchoRequest m
asks-is m told = by_tests (m.kind == 8) (m.code == 0) refl refl told
  where
    by_quote : (o : Option Quote) → error_of_quote o ≡ Asks → ⊥
    by_quote None e = cc
    by_quote (Some quote) e = cc

    by_tests : (k o : Bool) → (m.kind == 8) ≡ k → (m.code == 0) ≡ o → cond (k && o) Asks (error_of_quote (refused_quote m)) ≡ Asks → IsEchoRequest m
    by_tests true true kind code e = record { kind = eqb-true m.kind 8 kind; code = eqb-true m.code 0 code }
    by_tests true false kind code e = absurd (by_quote (refused_quote m) e)
    by_tests false o kind code e = absurd (by_quote (refused_quote m) e)

stands-message : (c : ConfigView) (events : List Event) (h : HostView) (moment : Moment) (m : Control) (answer : Result (Unit {0}) DropCause) (new : HostView) → HostStands c events h
    → WasHeard c events (Icmp m) → (told : Told) → told_by m.message ≡ told → MeetsMessage told h moment m answer new → HostStands c events new
stands-message c events h moment m answer new stands was Asks is met =
    let r : Reply = reply.Echo m.source m.message.identifier m.message.number m.message.payload in
    let side = owed (is_routed h.interface m.source) moment r h.interface in
    to-new c events (with_interface h side) new met.1
    (with-side c events h side stands
    (stands-owed c events (is_routed h.interface m.source) moment r h.interface stands.interface
    (record { request = m.message; was_heard = was; asks = asks-is m.message is; same_identifier = refl; same_number = refl; same_octets = refl })))
stands-message c events h moment m answer new stands was (Refuses quote) is met =
    let table = after_unreachable h.sockets quote.source quote.destination quote.number in
    to-new c events (with_sockets h table) new met.1 (with-table c events h table stands)
stands-message c events h moment m answer new stands was Nothing is met = to-new c events h new met.1 stands

-- a datagram is reported
stands-told : (c : ConfigView) (events : List Event) (h : HostView) (moment : Moment) (to : Addr) (reason : Reason) (quoted : List ℕ) → HostStands c events h → HasCause c events to reason quoted
    → HostStands c events (with_interface h (after_report h.interface moment to reason quoted))
stands-told c events h moment to reason quoted stands caused =
    with-side c events h (after_report h.interface moment to reason quoted) stands (stands-reported c events moment to reason quoted h.interface stands.interface caused)

-- a UDP datagram comes to the table
stands-user : (c : ConfigView) (events : List Event) (to : Reception) (h : HostView) (moment : Moment) (source : Addr) (u : UserDatagram) (quote : List ℕ) → HostStands c events h
    → HasCause c events source PortUnreachable quote → HostStands c events (after_user_datagram to h moment source u quote)
stands-user c events socket.Queued h moment source u quote stands caused = with-table c events h (after_reception h.sockets source u) stands
stands-user c events socket.NoRoom h moment source u quote stands caused = stands
stands-user c events socket.NoSocket h moment source u quote stands caused = stands-told c events h moment source PortUnreachable quote stands caused

stands-payload : (c : ConfigView) (events : List Event) (read : Result UserDatagram UdpFault) (h : HostView) (moment : Moment) (source : Addr) (quote : List ℕ) → HostStands c events h
    → IsQuoted (WasPart c events) source quote → HostStands c events (after_payload read h moment source quote)
stands-payload c events (Err fault) h moment source quote stands q = stands
stands-payload c events (Ok u) h moment source quote stands q =
    stands-user c events (reception h.sockets u) h moment source u (take 68 quote) stands (zero-caused c events PortUnreachable source quote (λ x first. UnboundInFragments x first) q)

-- that a datagram was whole is noted
stands-noted : (c : ConfigView) (events : List Event) (h : HostView) (moment : Moment) (d : Datagram) → HostStands c events h → HostStands c events (with_noted h moment d)
stands-noted c events h moment d stands = record { interface = stands.interface; places = stands.places; octets = stands.octets; short = stands.short; pool = stands.pool; lately = by_guards h.sockets.manner.guards }
  where
    by_guards : (guards : Bool) → length (cond guards (noted (key_of d) moment h.lately) h.lately) ≤ 64
    by_guards true = few h.lately (key_of d) moment stands.lately
    by_guards false = stands.lately

stands-outcome : (c : ConfigView) (events : List Event) (o : Outcome) (h : HostView) (moment : Moment) (d : Datagram) → HostStands c events h → IsLeft (WasPart c events) d.source o
    → HostStands c events (after_outcome o h moment d)
stands-outcome c events (Waits r) h moment d stands is = stands
stands-outcome c events GivesUp h moment d stands is = stands
stands-outcome c events (Completes payload quote) h moment d stands is =
    stands-payload c events (datagram_or_fault d.source d.destination payload) (with_noted h moment d) moment d.source quote (stands-noted c events h moment d stands) is

-- a place is taken or freed
taken-places : (moment : Moment) (d : Datagram) (pool : PoolView) → length (after_take moment d pool).places ≡ length pool.places
taken-places moment d pool = by_place (place_for d pool)
  where
    by_place : (place : Option ℕ) → length (after_take_at moment d pool place) ≡ length pool.places
    by_place None = refl
    by_place (Some i) = length-set pool.places i _

-- the pool that a fragment finds has as many places, with as much room
record IsLike (pool found : PoolView) : Type 0 where
  places : length found.places ≡ length pool.places
  octets : found.octets ≡ pool.octets
  short : AreShort pool → AreShort found

room-places : (guards : Bool) (d : Datagram) (pool : PoolView) → IsLike pool (pool_for guards d pool)
room-places guards d pool = by_test (guards && fits pool d && is_none (place_for d pool))
  where
    by_place : (place : Option ℕ) → length (without place pool.places) ≡ length pool.places
    by_place None = refl
    by_place (Some i) = length-set pool.places i None

    by_test : (b : Bool) → IsLike pool (cond b (without_oldest pool) pool)
    by_test true = record { places = by_place (oldest pool.places); octets = refl; short = short_event GivesWay pool }
    by_test false = record { places = refl; octets = refl; short = λ s. s }

stands-fragment : (c : ConfigView) (events : List Event) (h : HostView) (moment : Moment) (d : Datagram) (answer : Result (Unit {0}) DropCause) (new : HostView) → HostStands c events h → WasPart c events d
    → (place : Option ℕ) (late : Bool) → place_for d (pool_for h.sockets.manner.guards d h.pool) ≡ place → MeetsFragment (option_map (outcome_at moment d (pool_for h.sockets.manner.guards d h.pool)) place) late h moment d answer new
    → HostStands c events new
stands-fragment c events h moment d answer new stands was None late at met = to-new c events h new met.1 stands
stands-fragment c events h moment d answer new stands was (Some i) true at met = to-new c events h new met.1 stands
stands-fragment c events h moment d answer new stands was (Some i) false at met =
    let room : PoolView = pool_for h.sockets.manner.guards d h.pool in
    let like = room-places h.sockets.manner.guards d h.pool in
    let gathered : AreGathered (WasPart c events) room.places = made-room (WasPart c events) h.sockets.manner.guards d h.pool stands.pool in
    let pool = after_take moment d room in
    let taken : HostStands c events (with_pool h pool) = record {
      interface = stands.interface;
      places = taken-places moment d room ∙ like.places ∙ stands.places;
      octets = like.octets ∙ stands.octets;
      short = short_event (Takes moment d) room (like.short stands.short);
      pool = after-taking (WasPart c events) moment d room was gathered;
      lately = stands.lately;
    } in
    to-new c events (after_outcome (outcome_at moment d room i) (with_pool h pool) moment d) new met.1
    (stands-outcome c events (outcome_at moment d room i) (with_pool h pool) moment d taken (outcome-left (WasPart c events) moment d room i was gathered at))

-- a frame is delivered
stands-heard : (c : ConfigView) (events : List Event) (h : HostView) (moment : Moment) (isn : ℕ) (answer : Result (Unit {0}) DropCause) (new : HostView) → HostStands c events h
    → (m : Result Meaning DropCause) → ((meaning : Meaning) → m ≡ Ok meaning → WasHeard c events meaning) → MeetsHeard m h moment isn answer new → HostStands c events new
stands-heard c events h moment isn answer new stands (Ok (Arp packet)) was met =
    let r : Reply = reply.Arp (reply_to packet h.interface.mac) in
    let own = stands.interface in
    let aware : Stands c events (learnt moment packet h.interface) = record { mac = own.mac; addr = own.addr; replies = own.replies } in
    let side = owed (is_request_for h.interface.addr packet) moment r (learnt moment packet h.interface) in
    to-new c events (with_interface h side) new met.1
    (with-side c events h side stands (stands-owed c events (is_request_for h.interface.addr packet) moment r (learnt moment packet h.interface) aware tt))
stands-heard c events h moment isn answer new stands (Ok (Tcp r)) was met = stands-segment c events (segment_arrival h moment isn r.source r.segment) h moment r.source answer new stands met
stands-heard c events h moment isn answer new stands (Ok (Icmp m)) was met = stands-message c events h moment m answer new stands (was (Icmp m) refl) (told_by m.message) refl met
stands-heard c events h moment isn answer new stands (Ok (Udp r)) was met =
    to-new c events (after_user_datagram (reception h.sockets r.datagram) h moment r.carrier.source r.datagram (quote_of r.carrier)) new met.1
    (stands-user c events (reception h.sockets r.datagram) h moment r.carrier.source r.datagram (quote_of r.carrier) stands
    (record { cause = r.carrier; meaning = Udp r; about = Unbound r.carrier r.datagram; was_heard = was (Udp r) refl; from = refl; quotes = refl }))
stands-heard c events h moment isn answer new stands (Ok (UdpFragment d)) was met =
    stands-fragment c events h moment d answer new stands (was (UdpFragment d) refl) (place_for d (pool_for h.sockets.manner.guards d h.pool)) (is_late_copy h moment d) refl met
stands-heard c events h moment isn answer new stands (Ok (Other d)) was met =
    to-new c events (with_interface h (after_report h.interface moment d.source ProtocolUnreachable (quote_of d))) new met.1
    (stands-told c events h moment d.source ProtocolUnreachable (quote_of d) stands
    (record { cause = d; meaning = Other d; about = Untaken d; was_heard = was (Other d) refl; from = refl; quotes = refl }))
stands-heard c events h moment isn answer new stands (Err cause) was met = to-new c events h new met.1 stands

-- any event
stands-on : (c : ConfigView) (before : List Event) (event : Event) (old new : HostView) → HostStands c before old → Makes event old new → HostStands c (before ++ event ∷ []) new
stands-on c before (Calls call) old new stands makes =
    let all = before ++ Calls call ∷ [] in
    let left : SocketsView = after_event old.sockets call in
    to-new c all (with_sockets old left) new makes.1 (with-table c all old left (host-more c before (Calls call) old stands))
stands-on c before (Ticks now) old new stands makes =
    let all = before ++ Ticks now ∷ [] in
    let moment : Moment = later_moment old.sockets now in
    let more = host-more c before (Ticks now) old stands in
    to-new c all (after_tick old now) new makes (record {
      interface = stands-expired c all moment (expired moment old.pool) (interface_after_tick old.interface moment) (stands-ticked c all moment old.interface more.interface)
          (expired-quoted (WasPart c all) moment old.pool.places more.pool);
      places = length-map old.pool.places (after_time moment) ∙ stands.places;
      octets = stands.octets;
      short = short_event (Ages moment) old.pool stands.short;
      pool = after-ageing (WasPart c all) moment old.pool.places more.pool;
      lately = more.lately;
    })
stands-on c before (Delivers now isn octets) old new stands makes =
    let all = before ++ Delivers now isn octets ∷ [] in
    let own = stands.interface in
    let same : heard c.mac c.addr octets ≡ heard old.interface.mac old.interface.addr octets =
    ap (λ (mac : Mac). heard mac c.addr octets) (sym own.mac) ∙ ap (λ (addr : Addr). heard old.interface.mac addr octets) (sym own.addr) in
    stands-heard c all old (later_moment old.sockets now) isn makes.0 new (host-more c before (Delivers now isn octets) old stands) (heard_by old octets)
    (λ meaning is. heard-last c before now isn octets meaning (same ∙ meant_by old octets meaning is)) makes.1
stands-on c before (Emits now) old new stands makes =
    let all = before ++ Emits now ∷ [] in
    let more = host-more c before (Emits now) old stands in
    let moment : Moment = later_moment old.sockets now in
    to-new c all (after_emission old now) new makes (record {
      interface = stands-left c all old moment more.interface (emission old moment);
      places = ap (λ (p : PoolView). length p.places) (pool-left old moment (emission old moment)) ∙ stands.places;
      octets = ap (λ (p : PoolView). p.octets) (pool-left old moment (emission old moment)) ∙ stands.octets;
      short = subst AreShort (sym (pool-left old moment (emission old moment))) stands.short;
      pool = subst (λ (p : PoolView). AreGathered (WasPart c all) p.places) (sym (pool-left old moment (emission old moment))) more.pool;
      lately = subst (λ (l : List Finished). length l ≤ 64) (sym (lately-left old moment (emission old moment))) more.lately;
    })
  where
    pool-left : (h : HostView) (moment : Moment) (x : Emission) → (let left = left_by h moment x in left.pool) ≡ h.pool
    pool-left h moment (Replies place) = refl
    pool-left h moment (Sends mac to) = refl
    pool-left h moment (AsksFor hop) = refl
    pool-left h moment NothingGoes = refl

    lately-left : (h : HostView) (moment : Moment) (x : Emission) → (let left = left_by h moment x in left.lately) ≡ h.lately
    lately-left h moment (Replies place) = refl
    lately-left h moment (Sends mac to) = refl
    lately-left h moment (AsksFor hop) = refl
    lately-left h moment NothingGoes = refl

-- any list of events
pub run-stands : (c : ConfigView) (events : List Event) (h : HostView) → Runs c events h → HostStands c events h
run-stands c _ _ Begins = record { interface = record { mac = refl; addr = refl; replies = tt }; places = length-replicate c.sizes.reassemblies None; octets = refl; short = none_short c.sizes.reassemblies c.sizes.reassembly_octets; pool = none-gathered (WasPart c []) c.sizes.reassemblies; lately = omega arith }
run-stands c _ _ (GoesOn before event old new ran sound small makes) = stands-on c before event old new (run-stands c before old ran) makes
