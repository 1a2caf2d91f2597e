-- What goes out of a socket: one of the datagrams that wait, fragment by fragment (RFC 791 section 3.2). Each has a place, the first place 0.
use Rattle.std.specs.Prelude.{ℕ, zero, suc, Bool, false, ◌+◌, nat_lt, List, [], ◌∷◌, length, if◌then◌else◌, slice_get, find, Option, Some, None}
use Rattle.std.specs.Option.{option_map}
use Rattle.ipv4.specs.declared.addr.Addr.{Addr}
use Rattle.ipv4.specs.declared.addr.Endpoint.{Endpoint}
use Rattle.udp.specs.declared.head.Head.{Head}
use Rattle.udp.specs.declared.cutting.Fragment.{Fragment}
use Rattle.udp.specs.Datagram.{UserDatagram, spelling}
use Rattle.udp.specs.Sent.{sent}
use Rattle.udp.specs.Fragments.{fragment, part_of}
use Rattle.udp.specs.declared.cutting.Part.{Part}
use Rattle.udp.specs.Waiting.{brought_forward}
use Rattle.udp_socket.specs.SocketView.{Outgoing, SocketView}

-- the endpoint that the first outgoing datagram is for
abbrev pub due_peer : List Outgoing → Option Endpoint
due_peer [] = None
due_peer (o ∷ rest) = Some o.peer

-- the endpoint that the outgoing datagram in this place is for
abbrev pub peer_at : ℕ → List Outgoing → Option Endpoint
peer_at place outbox = option_map (λ o. o.peer) (slice_get outbox place)

-- whether an outgoing datagram stands in this place
abbrev pub waits_at : ℕ → SocketView → Bool
waits_at place s = nat_lt place (length s.outbox)

-- the place of the first outgoing datagram for an address that passes a test
abbrev pub first_that : (Addr → Bool) → List Outgoing → Option ℕ
first_that test [] = None
first_that test (o ∷ rest) = if test o.peer.addr then Some 0 else option_map suc (first_that test rest)

-- the endpoint that it is for
abbrev pub due_peer_to : (Addr → Bool) → SocketView → Option Endpoint
due_peer_to test s = option_map (λ o. o.peer) (find (λ o. test o.peer.addr) s.outbox)

-- The socket with the outgoing datagram in this place first, the others in order behind it. Of one that another overtakes no fragment counts
-- as gone out any more: it begins anew, all its fragments under the same identification.
abbrev pub brought : ℕ → SocketView → SocketView
brought zero s = s
brought (suc place) s = record s { outbox = brought_forward (suc place) s.outbox; parts = 0 }

-- the header of an outgoing datagram
abbrev pub head_of : Endpoint → Outgoing → Head
head_of source o = record { source = source.port; destination = o.peer.port }

-- the UDP datagram as it goes out
abbrev pub datagram_of : Endpoint → Outgoing → UserDatagram
datagram_of source o = sent source.addr o.peer.addr (head_of source o) o.octets

-- the fragment of it with this number, counted from 0: of a payload of IPv4 that is the header of eight octets and the data
abbrev pub fragment_of : Outgoing → ℕ → Fragment
fragment_of o number = fragment (8 + length o.octets) number

-- the octets of this fragment
abbrev pub octets_of : Endpoint → Outgoing → ℕ → List ℕ
octets_of source o number = part_of (spelling (datagram_of source o)) (fragment_of o number)

-- what is told of the fragment that is due: that of the first datagram behind those that have gone out
abbrev pub due_part : SocketView → Option Part
due_part s = of_outbox s.outbox
  where
    of_outbox : List Outgoing → Option Part
    of_outbox [] = None
    of_outbox (o ∷ rest) = Some (record { identification = o.identification; fragment = fragment_of o s.parts })

-- its octets
abbrev pub due_octets : Endpoint → SocketView → List ℕ
due_octets source s = of_outbox s.outbox
  where
    of_outbox : List Outgoing → List ℕ
    of_outbox [] = []
    of_outbox (o ∷ rest) = octets_of source o s.parts

-- whether fragments of the same datagram follow it
abbrev pub has_more : SocketView → Bool
has_more s = of_outbox s.outbox
  where
    of_outbox : List Outgoing → Bool
    of_outbox [] = false
    of_outbox (o ∷ rest) = (fragment_of o s.parts).more_fragments

-- once it has gone out: one more has, or the datagram is gone, where this was its last
abbrev pub after_part : SocketView → SocketView
after_part s = of_outbox s.outbox
  where
    of_outbox : List Outgoing → SocketView
    of_outbox [] = s
    of_outbox (o ∷ rest) = if (fragment_of o s.parts).more_fragments then record s { parts = s.parts + 1 } else record s { outbox = rest; parts = 0 }
