-- UDP datagrams that come to a host, whole or in fragments, and those that `recvfrom` gives (RFC 768, RFC 791 section 3.2, RFC 1122 section 3.3.2).
use Rattle.std.specs.Prelude.{◌≡◌, ◌⊎◌, ℕ, ◌+◌, ◌<◌, max, ◌==◌, if◌then◌else◌, List, [], ◌∷◌, ◌++◌, take, replicate, Some, Result, Ok, Err}
use Rattle.std.specs.List.{AllByRecursion}
use Rattle.ipv4.specs.declared.addr.Addr.{Addr}
use Rattle.ipv4.specs.declared.addr.Endpoint.{Endpoint}
use Rattle.ipv4.specs.Datagram.{Datagram}
use Rattle.udp.specs.Datagram.{UserDatagram}
use Rattle.udp.specs.Reading.{datagram_or_fault}
use Rattle.udp.specs.Waiting.{Waiting}
use Rattle.udp_socket.specs.SocketView.{SocketView}
use Rattle.frames.specs.declared.meaning.Meaning.{Meaning}
use Rattle.frames.specs.declared.meaning.Meaning.TheVariants.{Udp, UdpFragment}
use Rattle.reassembly.specs.Fragments.{IsPayload}
use Rattle.sockets.specs.declared.entry.SocketId.{SocketId}
use Rattle.sockets.specs.declared.refusal.Refusal.{Refusal}
use Rattle.sockets.specs.declared.role.Role.TheVariants.{Datagrams}
use Rattle.sockets.specs.Causes as table
use Rattle.sockets.specs.Datagrams.{recvfrom_answer, recvfrom_front}
use Rattle.sockets.specs.SocketsView.{role_of}
use Rattle.host.specs.ConfigView.{ConfigView}
use Rattle.host.specs.HostView.{HostView}
use Rattle.host.specs.Runs.{Event, Calls, Ticks}
use Rattle.host_law.specs.Frames.{Comes}
use Rattle.host_law.specs.History.{Step}

-- the later of a moment and the one that an event tells, where it is a tick
abbrev pub told_by : ℕ → Event → ℕ
told_by moment (Ticks now) = max moment now.0
told_by moment _ = moment

-- the latest moment that a tick told
abbrev pub ticked : List Step → ℕ
ticked [] = 0
ticked (step ∷ earlier) = told_by (ticked earlier) step.event

-- A frame comes and brings this, at the moment that is told with it, or at the latest that a tick told, where that is later.
pub record IsBrought (c : ConfigView) (meaning : Meaning) (moment : ℕ) (step : Step) (earlier : List Step) : Type 0 where
  pub frame : Comes c meaning step
  pub at : moment ≡ max (ticked earlier) frame.now.0

-- a UDP datagram from this address came whole
pub record CameWhole (c : ConfigView) (source : Addr) (u : UserDatagram) (step : Step) (earlier : List Step) : Type 0 where
  pub carrier : Datagram
  pub moment : ℕ
  pub brought : IsBrought c (Udp (record { carrier = carrier; datagram = u })) moment step earlier
  pub from : carrier.source ≡ source

-- These fragments came in this order, each by a frame of its own, the first of them at this moment.
pub data CameInTurn (c : ConfigView) (since : ℕ) : List Datagram → List Step → Type 0 where
  begins : (d : Datagram) (step : Step) (earlier : List Step) → IsBrought c (UdpFragment d) since step earlier → CameInTurn c since (d ∷ []) (step ∷ earlier)
  goes_on : (fragments : List Datagram) (d : Datagram) (moment : ℕ) (step : Step) (earlier : List Step) → CameInTurn c since fragments earlier → IsBrought c (UdpFragment d) moment step earlier → CameInTurn c since (fragments ++ d ∷ []) (step ∷ earlier)
  waits : (fragments : List Datagram) (step : Step) (earlier : List Step) → CameInTurn c since fragments earlier → CameInTurn c since fragments (step ∷ earlier)

-- two fragments of one datagram
pub record AreOfOne (d e : Datagram) : Type 0 where
  pub source : d.source ≡ e.source
  pub destination : d.destination ≡ e.destination
  pub protocol : d.protocol ≡ e.protocol
  pub identification : d.identification ≡ e.identification

-- A UDP datagram from this address was put together: fragments of one source, destination, protocol and identification came, and now the last of them. They make a payload: the end of it was told, and
-- each of its octets is the latest that came for its place. It spells the datagram. And by then no tick had told a moment 60,000 milliseconds past the one at which the first of them came.
pub record WasPutTogether (c : ConfigView) (source : Addr) (u : UserDatagram) (step : Step) (earlier : List Step) : Type 0 where
  pub fragments : List Datagram
  pub last : Datagram
  pub since : ℕ
  pub moment : ℕ
  pub came : CameInTurn c since fragments earlier
  pub brought : IsBrought c (UdpFragment last) moment step earlier
  pub one : AllByRecursion (λ d. AreOfOne d last) fragments
  pub from : last.source ≡ source
  pub payload : List ℕ
  pub whole : IsPayload (fragments ++ last ∷ []) payload
  pub spells : datagram_or_fault last.source last.destination payload ≡ Ok u
  pub young : ticked earlier < since + 60000

-- A datagram came for a socket: from this endpoint, with these octets, for the port to which the socket was bound.
pub record CameFor (c : ConfigView) (id : SocketId) (w : Waiting) (step : Step) (earlier : List Step) : Type 0 where
  pub source : Addr
  pub u : UserDatagram
  pub came : CameWhole c source u step earlier ⊎ WasPutTogether c source u step earlier
  pub from : w.endpoint ≡ record { addr = source; port = u.source }
  pub octets : w.octets ≡ u.payload
  pub local : Endpoint
  pub socket : SocketView
  pub bound : role_of step.before.sockets id ≡ Some (Datagrams (Some local) socket)
  pub to : local.port ≡ u.destination

-- These came for it, each by a step of its own, the latest first.
abbrev pub CameInOrder : ConfigView → SocketId → List Waiting → List Step → Type 0
CameInOrder c id [] steps = Unit {0}
CameInOrder c id (w ∷ ws) [] = ⊥
CameInOrder c id (w ∷ ws) (step ∷ earlier) = (CameFor c id w step earlier × CameInOrder c id ws earlier) ⊎ CameInOrder c id (w ∷ ws) earlier

-- what a `recvfrom` gives: the endpoint that it tells, and octets into a buffer with so much room
pub record Given : Type 0 where
  pub endpoint : Endpoint
  pub room : ℕ
  pub octets : List ℕ

-- one where a datagram is answered, and none where the call is refused
abbrev pub datagram_given : ℕ → Result (ℕ × Endpoint) Refusal → List ℕ → List Given
datagram_given room (Ok answer) buffer = record { endpoint = answer.1; room = room; octets = take answer.0 buffer } ∷ []
datagram_given room (Err refusal) buffer = []

-- what an event gives the caller of this socket so
abbrev pub given_at : SocketId → HostView → Event → List Given
given_at id h (Calls (table.ReceivesFrom named len)) = if named.0 == id.0 then datagram_given len (recvfrom_answer h.sockets named len) (recvfrom_front h.sockets named (replicate len 0)) else []
given_at id h _ = []

-- all that was given on a socket, the latest first
abbrev pub given_on : SocketId → List Step → List Given
given_on id [] = []
given_on id (step ∷ earlier) = given_at id step.before step.event ++ given_on id earlier

-- each is one of these datagrams, in their order: its endpoint, and its octets as far as the buffer had room
abbrev pub AreFrontsOf : List Waiting → List Given → Type 0
AreFrontsOf [] [] = Unit {0}
AreFrontsOf [] (g ∷ gs) = ⊥
AreFrontsOf (w ∷ ws) [] = ⊥
AreFrontsOf (w ∷ ws) (g ∷ gs) = (g.endpoint ≡ w.endpoint) × (g.octets ≡ take g.room w.octets) × AreFrontsOf ws gs

-- What `recvfrom` gives on a socket came for it: each is a datagram that came by a step of its own, and they are given in the order in which they came.
pub record GivesWhatCame (c : ConfigView) (id : SocketId) (steps : List Step) : Type 0 where
  pub came : List Waiting
  pub in_order : CameInOrder c id came steps
  pub fronts : AreFrontsOf came (given_on id steps)
