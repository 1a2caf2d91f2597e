-- Which connection gives way to another one, where the host is on its guard (RFC 9293 section 3.6.1, RFC 1122 section 4.2.2.13).
use Rattle.std.specs.Prelude.{ℕ, if◌then◌else◌, List, Option, Some, None, Result, Ok, Err}
use Rattle.frames.specs.declared.drop.DropCause.{DropCause}
use Rattle.frames.specs.declared.meaning.Meaning.{Meaning}
use Rattle.frames.specs.declared.meaning.Meaning.TheVariants.{Arp, Tcp, Icmp, Udp, Other, UdpFragment}
use Rattle.interface.specs.Ways.{is_routed}
use Rattle.sockets.specs.declared.entry.SocketId.{SocketId}
use Rattle.ipv4.specs.declared.addr.Pair.{Pair}
use Rattle.ipv4.specs.Addresses.{pair_of as pair_with}
use Rattle.sockets.specs.Arrival.{local_end, peer_end}
use Rattle.sockets.specs.GiveWay as tables
use Rattle.host.specs.Arrival.{foreseen_of}
use Rattle.host.specs.Heard.{heard_by}
use Rattle.host.specs.HostView.{HostView, with_sockets}

-- To what a frame would open, by what its octets are to the host: a connection is opened to an address alone that a route leads to.
abbrev pub way_by : HostView → Result Meaning DropCause → Option SocketId
way_by h (Ok (Tcp received)) = if is_routed h.interface received.source then tables.way_for h.sockets received.source received.segment else None
way_by h (Ok (Arp packet)) = None
way_by h (Ok (Icmp control)) = None
way_by h (Ok (Udp received)) = None
way_by h (Ok (UdpFragment fragment)) = None
way_by h (Ok (Other datagram)) = None
way_by h (Err cause) = None

abbrev pub way_for : HostView → List ℕ → Option SocketId
way_for h octets = way_by h (heard_by h octets)

-- the pair of the two ends of a segment that is for the host
abbrev pub pair_by : HostView → Result Meaning DropCause → Option Pair
pair_by h (Ok (Tcp received)) = Some (pair_with (local_end h.sockets received.segment) (peer_end received.source received.segment))
pair_by h (Ok (Arp packet)) = None
pair_by h (Ok (Icmp control)) = None
pair_by h (Ok (Udp received)) = None
pair_by h (Ok (UdpFragment fragment)) = None
pair_by h (Ok (Other datagram)) = None
pair_by h (Err cause) = None

abbrev pub pair_of : HostView → List ℕ → Option Pair
pair_of h octets = pair_by h (heard_by h octets)

-- the pair that it opens by the same tests: where something gives way to it that of its two ends
abbrev pub pair_seen : HostView → Result Meaning DropCause → Option Pair
pair_seen h meaning = of_way (way_by h meaning)
  where
    of_way : Option SocketId → Option Pair
    of_way (Some id) = pair_by h meaning
    of_way None = foreseen_of h meaning

abbrev pub foreseen_by_way : HostView → List ℕ → Option Pair
foreseen_by_way h octets = pair_seen h (heard_by h octets)

-- it gives way, if there is one
abbrev pub without : HostView → Option SocketId → HostView
without h way = with_sockets h (tables.without h.sockets way)

-- what is in the way of a frame gave way, and of a socket
abbrev pub with_way : HostView → List ℕ → HostView
with_way h octets = without h (way_for h octets)

abbrev pub with_place : HostView → HostView
with_place h = without h (tables.way_for_socket h.sockets)
