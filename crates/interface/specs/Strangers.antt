-- Who is no neighbour (RFC 1122 section 3.2.1.3).
use Rattle.std.specs.Prelude.{◌≡◌, ◌%◌, ◌==◌, Bool, ◌||◌, Contains, slice_index}
use Rattle.ether.specs.declared.mac.Mac.{Mac}
use Rattle.frames.specs.Meaning.{same_mac}
use Rattle.arp.specs.declared.packet.ArpPacket.{ArpPacket}
use Rattle.ipv4.specs.declared.addr.Addr.{Addr}
use Rattle.routes.specs.declared.route.Hop.TheVariants.{Direct}
use Rattle.routes.specs.declared.route.Route.{Route}
use Rattle.routes.specs.Ends.{IsEndOf, is_link_end}
use Rattle.interface.specs.InterfaceView.{InterfaceView}

-- the address is that of a network on the link, or of all its hosts: no host sends from it
abbrev pub is_no_host : InterfaceView → Addr → Bool
is_no_host i source = is_link_end i.routes source

-- the MAC of a group: the low bit of its first octet is set (IEEE 802)
abbrev pub is_of_group : Mac → Bool
is_of_group mac = slice_index mac.0 0 % 2 == 1

-- an ARP packet of a MAC or an address that no neighbour has
abbrev pub is_no_neighbours : InterfaceView → ArpPacket → Bool
is_no_neighbours i packet = is_of_group packet.sender_mac || same_mac packet.sender_mac i.mac || is_no_host i packet.sender_addr

-- bit by bit: some network on the link has the address as its own or as that of all its hosts
pub record IsLinkEnd (i : InterfaceView) (addr : Addr) : Type 0 where
  pub route : Route
  pub listed : Contains i.routes route
  pub direct : route.hop ≡ Direct
  pub ends : IsEndOf addr route.prefix
