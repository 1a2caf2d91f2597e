-- What octets are to a host, told by what they spell: for each answer the record of each layer that they spell, and for each
-- cause to drop them that the layers below it are well and this one isn't. `laws::one_meaning` says that this is `heard`.
use Rattle.std.specs.Prelude.{◌≡◌, ◌≢◌, ◌<◌, ◌≤◌, ℕ, ◌⊎◌, false, List, length, Result, Ok, Err}
use Rattle.ether.specs.declared.head.TheConstants.{FRAME_MAX}
use Rattle.ether.specs.declared.mac.Mac.{Mac}
use Rattle.ether.specs.Frame.{Frame, Spells as SpellsFrame}
use Rattle.arp.specs.declared.packet.ArpFault.TheVariants as packet
use Rattle.arp.specs.declared.packet.ArpPacket.{ArpPacket}
use Rattle.arp.specs.Packet.{Spells as SpellsPacket, IsParsed as IsPacket}
use Rattle.ipv4.specs.declared.addr.Addr.{Addr}
use Rattle.ipv4.specs.declared.fault.Ipv4Fault.TheVariants as datagram
use Rattle.ipv4.specs.Addresses.{IsUnicast}
use Rattle.ipv4.specs.Datagram.{Datagram, Spells as SpellsDatagram, IsParsed as IsDatagram}
use Rattle.tcp_segment.specs.declared.fault.SegmentFault.TheVariants as segment
use Rattle.tcp_segment.specs.Segment.{Spells as SpellsSegment, IsParsed as IsSegment}
use Rattle.icmp.specs.declared.fault.IcmpFault.TheVariants as message
use Rattle.icmp.specs.Message.{Spells as SpellsMessage, IsParsed as IsMessage}
use Rattle.udp.specs.declared.fault.UdpFault.TheVariants as user
use Rattle.udp.specs.Datagram.{Spells as SpellsUser, IsParsed as IsUser}
use Rattle.frames.specs.declared.drop.DropCause.{DropCause}
use Rattle.frames.specs.declared.drop.DropCause.TheVariants.{Short, OtherMac, OtherType, IpHeader, IpSum, OtherAddress, UpperHeader, UpperSum, NoRoom, Fragment}
use Rattle.frames.specs.declared.meaning.Meaning.{Meaning}
use Rattle.frames.specs.declared.meaning.Meaning.TheVariants.{Arp, Tcp, Icmp, Udp, Other, UdpFragment}
use Rattle.frames.specs.Meaning.{ipv4_type, arp_type, broadcast}

-- the frame is for this interface
abbrev pub IsFor : Mac → Frame → Type 0
IsFor mac f = (f.destination ≡ mac) ⊎ ((f.destination ≡ broadcast) × (f.kind ≡ arp_type))

-- the octets are a frame for this interface, of this type and with this payload
pub record Brings (mac : Mac) (octets : List ℕ) (kind : ℕ) (payload : List ℕ) : Type 0 where
  pub frame : Frame
  pub spelled : SpellsFrame frame octets
  pub most : length octets ≤ FRAME_MAX
  pub ours : IsFor mac frame
  pub type : frame.kind ≡ kind
  pub carried : frame.payload ≡ payload

-- another host may send from this address
pub record MaySend (ours source : Addr) : Type 0 where
  pub single : IsUnicast source
  pub other : source ≢ ours

-- the octets are a frame for this interface with a datagram for this address, from one that may send
pub record BringsDatagram (mac : Mac) (ours : Addr) (octets : List ℕ) (d : Datagram) : Type 0 where
  pub payload : List ℕ
  pub brought : Brings mac octets ipv4_type payload
  pub spelled : SpellsDatagram d payload
  pub destination : d.destination ≡ ours
  pub source : MaySend ours d.source

-- the datagram is no fragment
abbrev pub IsWhole : Datagram → Type 0
IsWhole d = (d.more_fragments ≡ false) × (d.offset ≡ 0)

-- the octets are a frame for this interface with a whole datagram for this address that carries TCP
abbrev pub BringsTcp : Mac → Addr → List ℕ → Datagram → Type 0
BringsTcp mac ours octets d = BringsDatagram mac ours octets d × IsWhole d × (d.protocol ≡ 6)

-- .. one that carries ICMP
abbrev pub BringsIcmp : Mac → Addr → List ℕ → Datagram → Type 0
BringsIcmp mac ours octets d = BringsDatagram mac ours octets d × IsWhole d × (d.protocol ≡ 1)

-- .. one that carries UDP
abbrev pub BringsUdp : Mac → Addr → List ℕ → Datagram → Type 0
BringsUdp mac ours octets d = BringsDatagram mac ours octets d × IsWhole d × (d.protocol ≡ 17)

-- what octets are to a host
abbrev pub IsHeard : Mac → Addr → List ℕ → Result Meaning DropCause → Type 0
IsHeard mac ours octets (Ok (Arp p)) = (payload : List ℕ) × Brings mac octets arp_type payload × SpellsPacket p payload × MaySend ours p.sender_addr
IsHeard mac ours octets (Ok (Tcp t)) = (d : Datagram) × BringsTcp mac ours octets d × SpellsSegment d.source d.destination t.segment d.payload × (t.source ≡ d.source)
IsHeard mac ours octets (Ok (Icmp c)) = (d : Datagram) × BringsIcmp mac ours octets d × SpellsMessage c.message d.payload × (c.source ≡ d.source)
IsHeard mac ours octets (Ok (Udp r)) = BringsUdp mac ours octets r.carrier × SpellsUser r.carrier.source r.carrier.destination r.datagram r.carrier.payload
IsHeard mac ours octets (Ok (Other d)) = BringsDatagram mac ours octets d × IsWhole d × (d.protocol ≢ 6) × (d.protocol ≢ 1) × (d.protocol ≢ 17)
IsHeard mac ours octets (Ok (UdpFragment d)) = BringsDatagram mac ours octets d × (IsWhole d → ⊥) × (d.protocol ≡ 17)
IsHeard mac ours octets (Err Short) = (length octets < 14) ⊎ (FRAME_MAX < length octets)
IsHeard mac ours octets (Err OtherMac) = (f : Frame) × SpellsFrame f octets × (length octets ≤ FRAME_MAX) × (IsFor mac f → ⊥)
IsHeard mac ours octets (Err OtherType) = (kind : ℕ) × (payload : List ℕ) × Brings mac octets kind payload × (kind ≢ ipv4_type) × (kind ≢ arp_type)
IsHeard mac ours octets (Err IpHeader) = (payload : List ℕ) × Brings mac octets ipv4_type payload × IsDatagram payload (Err datagram.IpHeader)
IsHeard mac ours octets (Err IpSum) = (payload : List ℕ) × Brings mac octets ipv4_type payload × IsDatagram payload (Err datagram.IpSum)
IsHeard mac ours octets (Err OtherAddress) =
    ((payload : List ℕ) × (p : ArpPacket) × Brings mac octets arp_type payload × SpellsPacket p payload × (MaySend ours p.sender_addr → ⊥))
    ⊎ ((payload : List ℕ) × (d : Datagram) × Brings mac octets ipv4_type payload × SpellsDatagram d payload × ((d.destination ≡ ours) × MaySend ours d.source → ⊥))
IsHeard mac ours octets (Err UpperHeader) =
    ((payload : List ℕ) × Brings mac octets arp_type payload × IsPacket payload (Err packet.UpperHeader))
    ⊎ ((d : Datagram) × BringsTcp mac ours octets d × IsSegment d.source d.destination d.payload (Err segment.UpperHeader))
    ⊎ ((d : Datagram) × BringsIcmp mac ours octets d × IsMessage d.payload (Err message.UpperHeader))
    ⊎ ((d : Datagram) × BringsUdp mac ours octets d × IsUser d.source d.destination d.payload (Err user.UpperHeader))
IsHeard mac ours octets (Err UpperSum) =
    ((d : Datagram) × BringsTcp mac ours octets d × IsSegment d.source d.destination d.payload (Err segment.UpperSum))
    ⊎ ((d : Datagram) × BringsIcmp mac ours octets d × IsMessage d.payload (Err message.UpperSum))
    ⊎ ((d : Datagram) × BringsUdp mac ours octets d × IsUser d.source d.destination d.payload (Err user.UpperSum))
IsHeard mac ours octets (Err NoRoom) = ⊥
IsHeard mac ours octets (Err Fragment) = (d : Datagram) × BringsDatagram mac ours octets d × (IsWhole d → ⊥) × (d.protocol ≢ 17)
