-- What a frame that arrives makes of a host: what its octets are to the host is found layer by layer, from the lowest up, and the layer
-- that they reach takes them (RFC 826, RFC 1122 sections 3.2.1 and 3.2.2, RFC 9293 section 3.10.7, RFC 768).
use Rattle.std.specs.Prelude.{◌≡◌, ℕ, Bool, true, false, not, ◌&&◌, if◌then◌else◌, List, take, Option, Some, None, is_none, Result, Ok, Err, MatchResult, option_map}
use Rattle.ipv4.specs.declared.addr.Addr.{Addr}
use Rattle.ipv4.specs.declared.addr.Pair.{Pair}
use Rattle.ipv4.specs.Datagram.{Datagram}
use Rattle.clock.specs.declared.moment.Moment.{Moment}
use Rattle.tcp_segment.specs.Segment.{Segment}
use Rattle.icmp.specs.declared.error.Reason.{Reason}
use Rattle.icmp.specs.declared.error.Reason.TheVariants.{ProtocolUnreachable, PortUnreachable}
use Rattle.frames.specs.declared.drop.DropCause.{DropCause}
use Rattle.frames.specs.declared.drop.DropCause.TheVariants.{NoRoom}
use Rattle.frames.specs.declared.meaning.Control.{Control}
use Rattle.frames.specs.declared.meaning.ReceivedDatagram.{ReceivedDatagram}
use Rattle.frames.specs.declared.meaning.Meaning.{Meaning}
use Rattle.frames.specs.declared.meaning.Meaning.TheVariants.{Arp, Tcp, Icmp, Udp, Other, UdpFragment}
use Rattle.interface.specs.declared.reply.QueueFault.{QueueFault}
use Rattle.interface.specs.Ways.{is_routed}
use Rattle.interface.specs.Replies.{after_heard, heard_answer, after_answer, after_echo, after_report, answer_result}
use Rattle.sockets.specs.Arrival.{Arrival, Becomes, Opens, NoRoom as NoRoomInTable, Answers, arrival, pair_opened}
use Rattle.reassembly.specs.Events.{has_place}
use Rattle.reassembly.specs.Fragments.{key_of, quote_of}
use Rattle.reassembly.specs.Lately.{noted, was_whole}
use Rattle.reassembly.specs.Places.{after_take, fits, outcome_at, place_for, without_oldest}
use Rattle.reassembly.specs.Reassembly.{Outcome, PoolView}
use Rattle.reassembly.specs.Reassembly.Outcome.{Waits, Completes, GivesUp}
use Rattle.sockets.specs.declared.datagrams.Reception.{Reception}
use Rattle.sockets.specs.declared.datagrams.Reception.TheVariants as socket
use Rattle.sockets.specs.Datagrams.{reception, after_reception}
use Rattle.sockets.specs.SocketsView.{later_moment}
use Rattle.sockets.specs.Unreachable.{after_unreachable}
use Rattle.udp.specs.declared.fault.UdpFault.{UdpFault}
use Rattle.udp.specs.Datagram.{UserDatagram}
use Rattle.udp.specs.Reading.{datagram_or_fault}
use Rattle.host.specs.HostView.{HostView, with_interface, with_lately, with_pool, with_sockets}
use Rattle.host.specs.Heard.{heard_by}
use Rattle.host.specs.Messages.{Told, Asks, Refuses, Nothing, told_by}

-- a full queue of replies by its name as a cause
abbrev pub queue_answer : Result (Unit {0}) QueueFault → Result (Unit {0}) DropCause
queue_answer (Ok done) = Ok tt
queue_answer (Err fault) = Err NoRoom

-- a connection isn't opened to an address that no route leads to
abbrev pub arrival_by_route : Bool → Arrival → Arrival
arrival_by_route routed (Opens next) = if routed then Opens next else NoRoomInTable
arrival_by_route routed (Becomes next) = Becomes next
arrival_by_route routed NoRoomInTable = NoRoomInTable
arrival_by_route routed (Answers head) = Answers head

-- what a segment from an address leads to
abbrev pub segment_arrival : HostView → Moment → ℕ → Addr → Segment → Arrival
segment_arrival h moment isn source s = arrival_by_route (is_routed h.interface source) (arrival h.sockets moment isn source s)

-- The table becomes what the segment leads to. One that is to be answered joins the control replies, where there is room, and the table stays.
abbrev pub MeetsSegment : Arrival → HostView → Moment → Addr → Result (Unit {0}) DropCause → HostView → Type 0
MeetsSegment (Becomes next) h moment source answer new = (answer ≡ Ok tt) × (new ≡ with_sockets h next)
MeetsSegment (Opens next) h moment source answer new = MatchResult answer (λ _. new ≡ with_sockets h next) (λ cause. (cause ≡ NoRoom) × (new ≡ h))
MeetsSegment NoRoomInTable h moment source answer new = (answer ≡ Err NoRoom) × (new ≡ h)
MeetsSegment (Answers head) h moment source answer new =
    (answer ≡ queue_answer (answer_result h.interface source)) × (new ≡ with_interface h (after_answer h.interface moment source head))

-- The echo that a message asks for joins the control replies, where there is room (RFC 1122 section 3.2.2.6). An error that says for good that a
-- segment can't be delivered is told to the connection of the segment's two ends (section 4.2.3.9). What says nothing else changes nothing.
abbrev pub MeetsMessage : Told → HostView → Moment → Control → Result (Unit {0}) DropCause → HostView → Type 0
MeetsMessage Asks h moment c answer new =
    (answer ≡ queue_answer (answer_result h.interface c.source))
    × (new ≡ with_interface h (after_echo h.interface moment c.source c.message.identifier c.message.number c.message.payload))
MeetsMessage (Refuses quote) h moment c answer new = (answer ≡ Ok tt) × (new ≡ with_sockets h (after_unreachable h.sockets quote.source quote.destination quote.number))
MeetsMessage Nothing h moment c answer new = (answer ≡ Ok tt) × (new ≡ h)

-- A datagram that can't be delivered is reported to its source, with its header and 8 octets of its payload: the error joins the control
-- replies, where there is room (RFC 1122 section 3.2.2.1).
abbrev pub MeetsDatagram : Reason → HostView → Moment → Datagram → Result (Unit {0}) DropCause → HostView → Type 0
MeetsDatagram reason h moment d answer new =
    (answer ≡ queue_answer (answer_result h.interface d.source))
    × (new ≡ with_interface h (after_report h.interface moment d.source reason (quote_of d)))

-- A UDP datagram from an address goes to the socket that is bound to its port. Where none is, its source is told so, with this quote of it
-- (RFC 1122 section 4.1.3.1); a socket without room loses it.
abbrev pub after_user_datagram : Reception → HostView → Moment → Addr → UserDatagram → List ℕ → HostView
after_user_datagram socket.Queued h moment source d quote = with_sockets h (after_reception h.sockets source d)
after_user_datagram socket.NoRoom h moment source d quote = h
after_user_datagram socket.NoSocket h moment source d quote = with_interface h (after_report h.interface moment source PortUnreachable quote)

-- of one that came whole, the answer says so
abbrev pub user_datagram_answer : Reception → HostView → Addr → Result (Unit {0}) DropCause
user_datagram_answer socket.Queued h source = Ok tt
user_datagram_answer socket.NoRoom h source = Err NoRoom
user_datagram_answer socket.NoSocket h source = queue_answer (answer_result h.interface source)

abbrev pub MeetsUserDatagram : Reception → HostView → Moment → ReceivedDatagram → Result (Unit {0}) DropCause → HostView → Type 0
MeetsUserDatagram to h moment r answer new =
    (answer ≡ user_datagram_answer to h r.carrier.source)
    × (new ≡ after_user_datagram to h moment r.carrier.source r.datagram (quote_of r.carrier))

-- What a fragment comes to in the pool, where it has a place there.
abbrev pub fragment_outcome : Moment → Datagram → PoolView → Option Outcome
fragment_outcome moment d pool = option_map (outcome_at moment d pool) (place_for d pool)

-- On its guard a host lets the oldest datagram of the pool give way to a fragment that finds no place there, so that each finds one that a place has room for.
abbrev pub pool_for : Bool → Datagram → PoolView → PoolView
pool_for guards d pool = if guards && fits pool d && is_none (place_for d pool) then without_oldest pool else pool

-- And it notes which datagrams were whole. A fragment whose datagram was so within the last second, as its key says, and is not being put
-- together anew, is a late copy.
abbrev pub is_late_copy : HostView → Moment → Datagram → Bool
is_late_copy h moment d = h.sockets.manner.guards && not (has_place (key_of d) h.pool) && was_whole (key_of d) moment h.lately

abbrev pub with_noted : HostView → Moment → Datagram → HostView
with_noted h moment d = with_lately h (if h.sockets.manner.guards then noted (key_of d) moment h.lately else h.lately)

-- a payload that was put together is met as that of a datagram from this address for that one, of which an error quotes 68 octets at most
abbrev pub after_payload : Result UserDatagram UdpFault → HostView → Moment → Addr → List ℕ → HostView
after_payload (Ok d) h moment source quote = after_user_datagram (reception h.sockets d) h moment source d (take 68 quote)
after_payload (Err fault) h moment source quote = h

-- what comes of a fragment: its datagram waits for others, or is given up, or is whole
abbrev pub after_outcome : Outcome → HostView → Moment → Datagram → HostView
after_outcome (Waits r) h moment d = h
after_outcome GivesUp h moment d = h
after_outcome (Completes payload quote) h moment d = after_payload (datagram_or_fault d.source d.destination payload) (with_noted h moment d) moment d.source quote

-- A fragment is laid into the pool (RFC 791 section 3.2), where there is a place for its datagram.
abbrev pub IsLaid : Option Outcome → HostView → Moment → Datagram → Result (Unit {0}) DropCause → HostView → Type 0
IsLaid None h moment d answer new = (answer ≡ Err NoRoom) × (new ≡ h)
IsLaid (Some outcome) h moment d answer new = (answer ≡ Ok tt) × (new ≡ after_outcome outcome (with_pool h (after_take moment d h.pool)) moment d)

-- There it is on guard with the place that it is given. A late copy is taken, and changes nothing.
abbrev pub MeetsFragment : Option Outcome → Bool → HostView → Moment → Datagram → Result (Unit {0}) DropCause → HostView → Type 0
MeetsFragment None late h moment d answer new = (answer ≡ Err NoRoom) × (new ≡ h)
MeetsFragment (Some outcome) true h moment d answer new = (answer ≡ Ok tt) × (new ≡ h)
MeetsFragment (Some outcome) false h moment d answer new =
    (answer ≡ Ok tt) × (new ≡ after_outcome outcome (with_pool h (after_take moment d (pool_for h.sockets.manner.guards d h.pool))) moment d)

-- An ARP packet is learnt, and answered where it asks for our address; a segment goes to the table; a message is met by what it tells; a UDP
-- datagram goes to its socket, and a fragment of one to the pool; a datagram that nothing takes is reported; what is dropped changes nothing.
abbrev pub MeetsHeard : Result Meaning DropCause → HostView → Moment → ℕ → Result (Unit {0}) DropCause → HostView → Type 0
MeetsHeard (Ok (Arp packet)) h moment isn answer new =
    (answer ≡ queue_answer (heard_answer h.interface packet)) × (new ≡ with_interface h (after_heard h.interface moment packet))
MeetsHeard (Ok (Tcp received)) h moment isn answer new =
    MeetsSegment (segment_arrival h moment isn received.source received.segment) h moment received.source answer new
MeetsHeard (Ok (Icmp c)) h moment isn answer new = MeetsMessage (told_by c.message) h moment c answer new
MeetsHeard (Ok (Udp r)) h moment isn answer new = MeetsUserDatagram (reception h.sockets r.datagram) h moment r answer new
MeetsHeard (Ok (UdpFragment d)) h moment isn answer new =
    MeetsFragment (fragment_outcome moment d (pool_for h.sockets.manner.guards d h.pool)) (is_late_copy h moment d) h moment d answer new
MeetsHeard (Ok (Other d)) h moment isn answer new = MeetsDatagram ProtocolUnreachable h moment d answer new
MeetsHeard (Err cause) h moment isn answer new = (answer ≡ Err cause) × (new ≡ h)

-- a frame, at the later of the moment and the kept one
abbrev pub IsDelivered : HostView → Moment → ℕ → List ℕ → Result (Unit {0}) DropCause → HostView → Type 0
IsDelivered h now isn octets answer new = MeetsHeard (heard_by h octets) h (later_moment h.sockets now) isn answer new

-- the pair that octets lead to the opening of, by what they are to the host
abbrev pub foreseen_of : HostView → Result Meaning DropCause → Option Pair
foreseen_of h (Ok (Tcp received)) = if is_routed h.interface received.source then pair_opened h.sockets received.source received.segment else None
foreseen_of h (Ok (Arp packet)) = None
foreseen_of h (Ok (Icmp c)) = None
foreseen_of h (Ok (Udp r)) = None
foreseen_of h (Ok (Other d)) = None
foreseen_of h (Ok (UdpFragment d)) = None
foreseen_of h (Err cause) = None

abbrev pub foreseen : HostView → List ℕ → Option Pair
foreseen h octets = foreseen_of h (heard_by h octets)
