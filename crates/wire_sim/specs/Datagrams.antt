-- The law of datagrams, over every run of a world: what was read of a UDP socket was sent to it (RFC 768).
use Rattle.std.specs.Prelude.{◌≡◌, ℕ, if◌then◌else◌, List, [], ◌∷◌, ◌++◌, All, map, take, option_and_then}
use Rattle.ipv4.specs.declared.addr.Endpoint.{Endpoint}
use Rattle.sockets.specs.declared.entry.SocketId.{SocketId}
use Rattle.sockets.specs.Entries.{source_of}
use Rattle.sockets.specs.Calls.{bound_of}
use Rattle.sockets.specs.SocketsView.{SocketsView, role_of}
use Rattle.datagram_law.specs.Accepted.{Accepted, AreFew, CameFrom}
use Rattle.sides.specs.declared.side.Side.{Side}
use Rattle.wire_sim.specs.declared.event.Call.{Call}
use Rattle.wire_sim.specs.declared.event.Call.TheVariants as call
use Rattle.wire_sim.specs.declared.event.Event.{Event}
use Rattle.wire_sim.specs.declared.event.Event.TheVariants as event
use Rattle.wire_sim.specs.declared.event.Answer.{Answer}
use Rattle.wire_sim.specs.declared.event.Answer.TheVariants as reply
use Rattle.wire_sim.specs.declared.event.Happening.{Happening}
use Rattle.wire_sim.specs.Runs.{IsReached, begins, goes_on}
use Rattle.sides.specs.Sides.{same_side, other_side}
use Rattle.wire_sim.specs.Steps.{recv_len}
use Rattle.wire_sim.specs.WorldView.{WorldView, table_of}

-- a datagram that a caller read: at this end of its host, from that source, into a buffer of so many octets, and the octets that it was given
pub record ReadDatagram : Type 0 where
  pub local : Endpoint
  pub from : Endpoint
  pub room : ℕ
  pub octets : List ℕ

-- the end of a UDP socket: its host's address, and the port that it is bound to
abbrev pub socket_end : SocketsView → SocketId → Endpoint
socket_end h id = source_of h.addr (option_and_then bound_of (role_of h id))

-- what a call, answered so, adds to the datagrams that its host accepted from its callers: each from where its socket is bound then, with the
-- identification that the host drew
abbrev pub accepted_by_call : Call → Answer → SocketsView → SocketsView → List Accepted
accepted_by_call (call.SendTo id peer octets) (reply.Sent count) old new =
    record { source = socket_end new id; peer = peer; identification = old.identification; octets = octets.items } ∷ []
accepted_by_call c answer old new = []

-- and to the datagrams that its callers read
abbrev pub read_by_call : Call → Answer → SocketsView → List ReadDatagram
read_by_call (call.RecvFrom id len) (reply.Datagram octets from) old =
    record { local = socket_end old id; from = from; room = recv_len len; octets = octets.items } ∷ []
read_by_call c answer old = []

-- so what an event adds to that of a side, between two worlds
abbrev pub accepted_by : Side → Event → Answer → WorldView → WorldView → List Accepted
accepted_by side (event.Call at c) answer old new = if same_side at side then accepted_by_call c answer (table_of old.network at) (table_of new.network at) else []
accepted_by side happens answer old new = []

abbrev pub read_by : Side → Event → Answer → WorldView → List ReadDatagram
read_by side (event.Call at c) answer old = if same_side at side then read_by_call c answer (table_of old.network at) else []
read_by side happens answer old = []

-- what a side accepted in the run that led to a world, the first one first
abbrev pub accepted_in : (limit : ℕ) (w : WorldView) → IsReached limit w → Side → List Accepted
accepted_in limit w (begins a b a_is b_is apart few) side = []
accepted_in limit w (goes_on old new happens answer run step) side = accepted_in limit old run side ++ accepted_by side happens answer old new

-- and what its callers read
abbrev pub read_in : (limit : ℕ) (w : WorldView) → IsReached limit w → Side → List ReadDatagram
read_in limit w (begins a b a_is b_is apart few) side = []
read_in limit w (goes_on old new happens answer run step) side = read_in limit old run side ++ read_by side happens answer old

-- a datagram that was read is the beginning, as much as the buffer had room for, of one of these that came from its source for its end
abbrev pub WasAccepted : List Accepted → ReadDatagram → Type 0
WasAccepted accepted r = (octets : List ℕ) × CameFrom accepted r.from r.local octets × (r.octets ≡ take r.room octets)

-- The law of datagrams: each that was read at a side was accepted at the other, as long as that accepted no more than there are
-- identifications.
abbrev pub DatagramLaw : (limit : ℕ) (w : WorldView) → IsReached limit w → Type 0
DatagramLaw limit w run = (reader : Side) → AreFew (accepted_in limit w run (other_side reader))
    → All (WasAccepted (accepted_in limit w run (other_side reader))) (read_in limit w run reader)

-- over every run
abbrev pub EveryRunKeepsDatagrams : Type 0
EveryRunKeepsDatagrams = (limit : ℕ) (w : WorldView) (run : IsReached limit w) → DatagramLaw limit w run

-- What was accepted and read in a run, as the trace tells it: the peer and the octets of each `sendto` of a side that was answered ..
abbrev pub sent_by_call : Call → Answer → List (Endpoint × List ℕ)
sent_by_call (call.SendTo id peer octets) (reply.Sent count) = (peer, octets.items) ∷ []
sent_by_call c answer = []

-- .. and the source and the octets of each `recvfrom`
abbrev pub read_from_call : Call → Answer → List (Endpoint × List ℕ)
read_from_call (call.RecvFrom id len) (reply.Datagram octets from) = (from, octets.items) ∷ []
read_from_call c answer = []

-- what such a reading of a side's calls finds in what happened
abbrev pub told_by_call : (Call → Answer → List (Endpoint × List ℕ)) → Side → Event → Answer → List (Endpoint × List ℕ)
told_by_call told side (event.Call at c) answer = if same_side at side then told c answer else []
told_by_call told side happens answer = []

abbrev pub told_in : (Call → Answer → List (Endpoint × List ℕ)) → Side → List Happening → List (Endpoint × List ℕ)
told_in told side [] = []
told_in told side (h ∷ hs) = told_by_call told side h.event h.answer ++ told_in told side hs

abbrev pub sent_datagrams : Side → List Happening → List (Endpoint × List ℕ)
sent_datagrams side trace = told_in sent_by_call side trace

abbrev pub read_datagrams : Side → List Happening → List (Endpoint × List ℕ)
read_datagrams side trace = told_in read_from_call side trace

-- both are the same
abbrev pub EveryDatagramIsTraced : Type 0
EveryDatagramIsTraced = (limit : ℕ) (w : WorldView) (run : IsReached limit w) (side : Side)
    → (map (λ a. (a.peer, a.octets)) (accepted_in limit w run side) ≡ sent_datagrams side w.trace)
    × (map (λ r. (r.from, r.octets)) (read_in limit w run side) ≡ read_datagrams side w.trace)
