-- UDP datagrams that go out, whole or in fragments, and the `sendto` that took each (POSIX sendto, RFC 768, RFC 791 section 3.2).
use Rattle.std.specs.Prelude.{◌≡◌, ◌≢◌, ◌⊎◌, ℕ, ◌+◌, ◌<◌, ◌%◌, ◌^◌, Bool, true, if◌then◌else◌, List, [], ◌∷◌, length, Option, Some, None, is_ok, Ok}
use Rattle.std.specs.List.{AllByRecursion}
use Rattle.clock.specs.declared.moment.Moment.{Moment}
use Rattle.ether.specs.declared.mac.Mac.{Mac}
use Rattle.inet_sum.specs.Sum.{sum_of}
use Rattle.ipv4.specs.declared.addr.Addr.{Addr}
use Rattle.ipv4.specs.declared.addr.Endpoint.{Endpoint}
use Rattle.ipv4.specs.Datagram.{Datagram}
use Rattle.udp.specs.Datagram.{UserDatagram, spelling, summed}
use Rattle.udp_socket.specs.SocketView.{SocketView}
use Rattle.frames.specs.declared.meaning.Meaning.{Meaning}
use Rattle.frames.specs.declared.meaning.Meaning.TheVariants.{Udp, UdpFragment}
use Rattle.frames.specs.declared.meaning.ReceivedDatagram.{ReceivedDatagram}
use Rattle.frames.specs.Meaning.{heard}
use Rattle.reassembly.specs.Fragments.{end_of}
use Rattle.reassembly.specs.Parts.{IsPartOf}
use Rattle.sockets.specs.declared.entry.SocketId.{SocketId}
use Rattle.sockets.specs.declared.role.Role.TheVariants.{Datagrams}
use Rattle.sockets.specs.Causes as table
use Rattle.sockets.specs.Datagrams.{sendto_answer}
use Rattle.sockets.specs.Sound.{IsEndpoint}
use Rattle.sockets.specs.SocketsView.{role_of}
use Rattle.host.specs.ConfigView.{ConfigView}
use Rattle.host.specs.Emission.{emission_octets}
use Rattle.host.specs.HostView.{HostView}
use Rattle.host.specs.Runs.{Event, Calls, Emits}
use Rattle.host_law.specs.History.{Step, Once, Always}

-- one datagram is taken where an event is a `sendto` that isn't refused
abbrev pub taken_at : HostView → Event → ℕ
taken_at h (Calls (table.SendsTo id peer octets routed)) = if is_ok (sendto_answer h.sockets id peer octets routed) then 1 else 0
taken_at h _ = 0

-- how many were taken
abbrev pub count_taken : List Step → ℕ
count_taken [] = 0
count_taken (step ∷ earlier) = count_taken earlier + taken_at step.before step.event

-- what a `sendto` takes: octets for a peer, from a port of ours; and how many were taken before it, on any socket
pub record TakenDatagram : Type 0 where
  pub peer : Endpoint
  pub port : ℕ
  pub number : ℕ
  pub octets : List ℕ

-- A step takes it on this socket: a `sendto` for its peer, with its octets, that isn't refused and takes them all. The socket is bound to its port then.
pub record IsSendto (id : SocketId) (t : TakenDatagram) (step : Step) (earlier : List Step) : Type 0 where
  pub routed : Bool
  pub called : step.event ≡ Calls (table.SendsTo id t.peer t.octets routed)
  pub answered : sendto_answer step.before.sockets id t.peer t.octets routed ≡ Ok (length t.octets)
  pub local : Endpoint
  pub socket : SocketView
  pub bound : role_of step.after.sockets id ≡ Some (Datagrams (Some local) socket)
  pub port : t.port ≡ local.port
  pub number : t.number ≡ count_taken earlier

-- The UDP datagram of it: from its port for the peer's, with just its octets, and with a checksum, which is right: the pseudo header and the datagram have the sum 0xFFFF.
pub record IsDatagramOf (c : ConfigView) (t : TakenDatagram) (u : UserDatagram) : Type 0 where
  pub source : u.source ≡ t.port
  pub destination : u.destination ≡ t.peer.port
  pub payload : u.payload ≡ t.octets
  pub told : u.checksum ≢ 0
  pub sum : sum_of (summed c.addr t.peer.addr (spelling u)) ≡ 65535

-- a datagram of IPv4 that goes out, and what it is of: a datagram that was taken on a socket
pub record Sent : Type 0 where
  pub id : SocketId
  pub t : TakenDatagram
  pub d : Datagram

-- A `sendto` took that before, and the datagram of IPv4 has the whole of its UDP datagram, or a part: it is from our address for the peer's, and has the octets of its place; and it tells that more follows where octets do, and only there.
-- Identifications are drawn in turn, one for each that is taken, and after 65,535 comes 0 again.
pub record WasTaken (c : ConfigView) (s : Sent) (u : UserDatagram) (earlier : List Step) : Type 0 where
  pub taken : Once (IsSendto s.id s.t) earlier
  pub datagram : IsDatagramOf c s.t u
  pub source : s.d.source ≡ c.addr
  pub destination : s.d.destination ≡ s.t.peer.addr
  pub identification : s.d.identification ≡ s.t.number % 2 ^ 16
  pub part : IsPartOf (spelling u) s.d
  pub more : s.d.more_fragments ≡ true → end_of s.d < length (spelling u)

-- a frame goes out that is heard as this at an address
pub record MeansTo (to : Addr) (meaning : Meaning) (step : Step) : Type 0 where
  pub now : Moment
  pub mac : Mac
  pub goes : step.event ≡ Emits now
  pub means : heard mac to (emission_octets step.before now) ≡ Ok meaning

-- This is what goes out at a step, and whoever hears UDP hears it: the whole datagram, or a fragment.
pub record GoesOutAs (c : ConfigView) (s : Sent) (step : Step) (earlier : List Step) : Type 0 where
  pub u : UserDatagram
  pub was : WasTaken c s u earlier
  pub whole : (to : Addr) (r : ReceivedDatagram) → MeansTo to (Udp r) step → (r.carrier ≡ s.d) × (r.datagram ≡ u)
  pub fragment : (to : Addr) (d : Datagram) → MeansTo to (UdpFragment d) step → d ≡ s.d

-- no UDP goes out
pub record SendsNone (step : Step) : Type 0 where
  pub whole : (to : Addr) (r : ReceivedDatagram) → MeansTo to (Udp r) step → ⊥
  pub fragment : (to : Addr) (d : Datagram) → MeansTo to (UdpFragment d) step → ⊥

-- All UDP that goes out in these steps, the latest first: at each step this one, or none.
abbrev pub AreSent : ConfigView → List (Option Sent) → List Step → Type 0
AreSent c [] [] = Unit {0}
AreSent c [] (step ∷ earlier) = ⊥
AreSent c (o ∷ os) [] = ⊥
AreSent c (None ∷ os) (step ∷ earlier) = SendsNone step × AreSent c os earlier
AreSent c (Some s ∷ os) (step ∷ earlier) = GoesOutAs c s step earlier × AreSent c os earlier

-- A datagram of this socket goes out behind another one: where both are of one socket and for one address, that was taken before it, or is the same, and tells that more follows.
abbrev pub GoesBehind : SocketId → TakenDatagram → Option Sent → Type 0
GoesBehind id t None = Unit {0}
GoesBehind id t (Some e) = e.id ≡ id → e.t.peer.addr ≡ t.peer.addr → (e.t.number < t.number) ⊎ ((e.t.number ≡ t.number) × (e.d.more_fragments ≡ true))

-- Each does so: to one address a socket's datagrams go out in the order in which they were taken, and none again once the last of it has gone out.
abbrev pub AreInOrder : List (Option Sent) → Type 0
AreInOrder [] = Unit {0}
AreInOrder (None ∷ os) = AreInOrder os
AreInOrder (Some s ∷ os) = AllByRecursion (GoesBehind s.id s.t) os × AreInOrder os

-- an endpoint that a call names has an address of four octets and a port of 16 bits
abbrev pub NamesEndpoint : Step → List Step → Type 0
NamesEndpoint step earlier = of_event step.event
  where
    of_event : Event → Type 0
    of_event (Calls (table.Binds id local)) = IsEndpoint local
    of_event (Calls (table.SendsTo id peer octets routed)) = IsEndpoint peer
    of_event _ = Unit {0}

-- what goes out, and that it is in order
pub record SendsInOrder (c : ConfigView) (steps : List Step) : Type 0 where
  pub out : List (Option Sent)
  pub sent : AreSent c out steps
  pub in_order : AreInOrder out

-- Where calls named endpoints, whatever UDP goes out a `sendto` took, and it goes out in order.
abbrev pub SendsWhatSendtoTook : ConfigView → List Step → Type 0
SendsWhatSendtoTook c steps = Always NamesEndpoint steps → SendsInOrder c steps
