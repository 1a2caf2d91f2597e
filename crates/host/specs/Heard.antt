-- What the octets of a frame are to a host.
use Rattle.std.specs.Prelude.{Bool, false, ◌&&◌, if◌then◌else◌, ℕ, List, Result, Ok, Err}
use Rattle.frames.specs.declared.drop.DropCause.{DropCause}
use Rattle.frames.specs.declared.drop.DropCause.TheVariants.{OtherAddress}
use Rattle.frames.specs.declared.meaning.Meaning.{Meaning}
use Rattle.frames.specs.declared.meaning.Meaning.TheVariants.{Arp, Tcp, Icmp, Udp, Other, UdpFragment}
use Rattle.frames.specs.Meaning.{heard}
use Rattle.interface.specs.InterfaceView.{InterfaceView}
use Rattle.interface.specs.Strangers.{is_no_host, is_no_neighbours}
use Rattle.ipv4.specs.declared.addr.Addr.{Addr}
use Rattle.host.specs.HostView.{HostView}

-- it comes from an address that is no host's, or an ARP packet from no neighbour (RFC 1122 section 3.2.1.3)
abbrev pub is_barred : InterfaceView → Result Meaning DropCause → Bool
is_barred i (Ok (Arp packet)) = is_no_neighbours i packet
is_barred i (Ok (Tcp received)) = is_no_host i received.source
is_barred i (Ok (Icmp control)) = is_no_host i control.source
is_barred i (Ok (Udp received)) = is_no_host i received.carrier.source
is_barred i (Ok (UdpFragment fragment)) = is_no_host i fragment.source
is_barred i (Ok (Other datagram)) = is_no_host i datagram.source
is_barred i (Err cause) = false

-- a host on its guard drops that, as it does what comes from no single host
abbrev pub guarded_by : Bool → InterfaceView → Result Meaning DropCause → Result Meaning DropCause
guarded_by guards i meaning = if guards && is_barred i meaning then Err OtherAddress else meaning

-- what the octets of a frame are to the host
abbrev pub heard_by : HostView → List ℕ → Result Meaning DropCause
heard_by h octets = guarded_by h.sockets.manner.guards h.interface (heard h.interface.mac h.interface.addr octets)

-- it takes nothing that comes from this address
abbrev pub shuts_out : HostView → Addr → Bool
shuts_out h source = h.sockets.manner.guards && is_no_host h.interface source
