-- What is printed of a frame: a line a layer, up to the first that can't be read or has nothing printed above it.
use Rattle.std.specs.Prelude.{◌≡◌, ℕ, List, [], ◌++◌, codes, ◌||◌, ◌==◌, not, if◌then◌else◌, Option, Some, None, Result, Ok, Err}
use Rattle.std.specs.Fmt.{decimal}
use Rattle.ether.specs.declared.head.TheConstants.{ETHERTYPE_ARP, ETHERTYPE_IPV4}
use Rattle.ether.specs.Frame.{Frame, IsParsed as IsFrame}
use Rattle.ether.specs.declared.view.FrameFault.{FrameFault}
use Rattle.ether.specs.declared.view.FrameFault.TheVariants as frame
use Rattle.arp.specs.Packet.{IsParsed as IsPacket}
use Rattle.arp.specs.declared.packet.ArpPacket.{ArpPacket}
use Rattle.arp.specs.declared.packet.ArpFault.{ArpFault}
use Rattle.arp.specs.declared.packet.ArpFault.TheVariants as packet
use Rattle.ipv4.specs.Datagram.{Datagram, IsParsed as IsDatagram}
use Rattle.ipv4.specs.declared.fault.Ipv4Fault.{Ipv4Fault}
use Rattle.ipv4.specs.declared.fault.Ipv4Fault.TheVariants as datagram
use Rattle.icmp.specs.Message.{Message, IsParsed as IsMessage}
use Rattle.icmp.specs.declared.fault.IcmpFault.{IcmpFault}
use Rattle.icmp.specs.declared.fault.IcmpFault.TheVariants as message
use Rattle.udp.specs.Datagram.{UserDatagram, IsParsed as IsUserDatagram}
use Rattle.udp.specs.declared.fault.UdpFault.{UdpFault}
use Rattle.udp.specs.declared.fault.UdpFault.TheVariants as user
use Rattle.tcp_segment.specs.Segment.{Segment, IsParsed as IsSegment}
use Rattle.tcp_segment.specs.declared.fault.SegmentFault.{SegmentFault}
use Rattle.tcp_segment.specs.declared.fault.SegmentFault.TheVariants as segment
use Rattle.decode.specs.declared.unreadable.Unreadable.{Unreadable}
use Rattle.decode.specs.declared.unreadable.Unreadable.TheVariants.{Short, OtherType, IpHeader, IpSum, UpperHeader, UpperSum}
use Rattle.decode.specs.declared.carried.Carried.{Carried}
use Rattle.decode.specs.declared.carried.Carried.TheVariants.{Arp, Ipv4, Other}
use Rattle.decode.specs.declared.carried.Upper.{Upper}
use Rattle.decode.specs.declared.carried.Upper.TheVariants.{Icmp, Tcp, Udp, Unread}
use Rattle.decode.specs.Lines.{ether_line, arp_line, ipv4_line, icmp_line, udp_line, tcp_line}

-- the number of a cause
abbrev pub number_of : Unreadable → ℕ
number_of Short = 1
number_of OtherType = 3
number_of IpHeader = 4
number_of IpSum = 5
number_of UpperHeader = 7
number_of UpperSum = 8

-- the lines of layers, and why what stands above them can't be read, if so
pub record Shown : Type 0 where
  pub lines : List ℕ
  pub cause : Option Unreadable

-- no line: nothing more is to be read, or it can't be
abbrev pub nothing : Shown
nothing = record { lines = []; cause = None }

abbrev pub dropped : Unreadable → Shown
dropped cause = record { lines = []; cause = Some cause }

-- one line alone
abbrev pub line : List ℕ → Shown
line text = record { lines = text; cause = None }

-- a line, and behind it what is shown of the layers above
abbrev pub above : List ℕ → Shown → Shown
above text rest = record rest { lines = text ++ rest.lines }

-- an ARP packet, or why there is none
abbrev pub arp_shown : Result ArpPacket ArpFault → Shown
arp_shown (Ok p) = line (arp_line p)
arp_shown (Err packet.UpperHeader) = dropped UpperHeader

-- an ICMP message
abbrev pub icmp_shown : Result Message IcmpFault → Shown
icmp_shown (Ok m) = line (icmp_line m)
icmp_shown (Err message.UpperHeader) = dropped UpperHeader
icmp_shown (Err message.UpperSum) = dropped UpperSum

-- a UDP datagram
abbrev pub udp_shown : Result UserDatagram UdpFault → Shown
udp_shown (Ok d) = line (udp_line d)
udp_shown (Err user.UpperHeader) = dropped UpperHeader
udp_shown (Err user.UpperSum) = dropped UpperSum

-- a TCP segment
abbrev pub tcp_shown : Result Segment SegmentFault → Shown
tcp_shown (Ok s) = line (tcp_line s)
tcp_shown (Err segment.UpperHeader) = dropped UpperHeader
tcp_shown (Err segment.UpperSum) = dropped UpperSum

-- what a protocol's number stands for
abbrev pub upper_named : ℕ → Upper
upper_named protocol = if protocol == 1 then Icmp else if protocol == 6 then Tcp else if protocol == 17 then Udp else Unread

-- a fragment is a part alone, which isn't read
abbrev pub upper_in : Datagram → Upper
upper_in d = if d.more_fragments || not (d.offset == 0) then Unread else upper_named d.protocol

-- what is shown of a datagram's payload
abbrev pub IsUpperShown : Upper → Datagram → Shown → Type 0
IsUpperShown Unread d shown = shown ≡ nothing
IsUpperShown Icmp d shown = (read : Result Message IcmpFault) × IsMessage d.payload read × (shown ≡ icmp_shown read)
IsUpperShown Udp d shown = (read : Result UserDatagram UdpFault) × IsUserDatagram d.source d.destination d.payload read × (shown ≡ udp_shown read)
IsUpperShown Tcp d shown = (read : Result Segment SegmentFault) × IsSegment d.source d.destination d.payload read × (shown ≡ tcp_shown read)

-- why there is no datagram
abbrev pub ipv4_cause : Ipv4Fault → Unreadable
ipv4_cause datagram.IpHeader = IpHeader
ipv4_cause datagram.IpSum = IpSum

-- what is shown of a datagram, or why there is none
abbrev pub IsDatagramShown : Result Datagram Ipv4Fault → Shown → Type 0
IsDatagramShown (Ok d) shown = (rest : Shown) × IsUpperShown (upper_in d) d rest × (shown ≡ above (ipv4_line d) rest)
IsDatagramShown (Err fault) shown = shown ≡ dropped (ipv4_cause fault)

-- what a frame of this type carries
abbrev pub carried_by : ℕ → Carried
carried_by kind = if kind == ETHERTYPE_IPV4 then Ipv4 else if kind == ETHERTYPE_ARP then Arp else Other

-- what is shown of a frame's payload
abbrev pub IsPayloadShown : Carried → List ℕ → Shown → Type 0
IsPayloadShown Other payload shown = shown ≡ dropped OtherType
IsPayloadShown Arp payload shown = (read : Result ArpPacket ArpFault) × IsPacket payload read × (shown ≡ arp_shown read)
IsPayloadShown Ipv4 payload shown = (read : Result Datagram Ipv4Fault) × IsDatagram payload read × IsDatagramShown read shown

-- what is shown of a frame, or why there is none
abbrev pub IsFrameShown : Result Frame FrameFault → Shown → Type 0
IsFrameShown (Ok f) shown = (rest : Shown) × IsPayloadShown (carried_by f.kind) f.payload rest × (shown ≡ above (ether_line f) rest)
IsFrameShown (Err frame.Short) shown = shown ≡ dropped Short

-- what is shown of octets: of the frame that they spell
abbrev pub IsShown : List ℕ → Shown → Type 0
IsShown octets shown = (read : Result Frame FrameFault) × IsFrame octets read × IsFrameShown read shown

-- `drop F4`, and so on, where something can't be read
abbrev pub drop_line : Option Unreadable → List ℕ
drop_line (Some cause) = codes "drop F" ++ (decimal (number_of cause) ++ codes "\n")
drop_line None = []

-- a text grew by these lines, and this is why what stands above them can't be read
pub record Shows (shown : Shown) (cause : Option Unreadable) (old new : List ℕ) : Type 0 where
  pub why : cause ≡ shown.cause
  pub grown : new ≡ old ++ shown.lines

-- the same of lines that are shown so
abbrev pub Grows : (Shown → Type 0) → Option Unreadable → List ℕ → List ℕ → Type 0
Grows Is cause old new = (shown : Shown) × Is shown × Shows shown cause old new

-- a text grew by all that is shown of octets, and by the line of a drop
abbrev pub Decodes : List ℕ → Option Unreadable → List ℕ → List ℕ → Type 0
Decodes octets cause old new = (shown : Shown) × IsShown octets shown × (cause ≡ shown.cause) × (new ≡ old ++ (shown.lines ++ drop_line cause))
