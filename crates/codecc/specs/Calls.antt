-- What calls answer and leave. A parse answers 0, or the number of the fault, negative; an emit how many octets stand there then, or why it wrote none.
use Rattle.std.specs.Prelude.{◌≡◌, ◌-◌, ◌^◌, ℕ, ℤ, pos, neg_ℤ, min, nat_lt, Bool, if◌then◌else◌, List, ◌++◌, length, drop, Result, Ok, Err}
use Rattle.std.specs.Int.{to_be_bytes, from_be_bytes, w32}
use Rattle.ether.specs.declared.view.FrameFault.{FrameFault}
use Rattle.ether.specs.declared.view.FrameFault.TheVariants.{Short}
use Rattle.arp.specs.declared.packet.ArpFault.{ArpFault}
use Rattle.arp.specs.declared.packet.ArpFault.TheVariants.{UpperHeader}
use Rattle.ipv4.specs.declared.addr.Addr.{Addr}
use Rattle.ipv4.specs.declared.fault.Ipv4Fault.{Ipv4Fault}
use Rattle.ipv4.specs.declared.fault.Ipv4Fault.TheVariants.{IpHeader, IpSum}
use Rattle.icmp.specs.declared.fault.IcmpFault.{IcmpFault}
use Rattle.icmp.specs.declared.fault.IcmpFault.TheVariants as icmp
use Rattle.udp.specs.declared.fault.UdpFault.{UdpFault}
use Rattle.udp.specs.declared.fault.UdpFault.TheVariants as udp
use Rattle.tcp_segment.specs.declared.fault.SegmentFault.{SegmentFault}
use Rattle.tcp_segment.specs.declared.fault.SegmentFault.TheVariants as tcp

-- an address is a number whose highest octet is the first
abbrev pub addr_of : ℕ → Addr
addr_of number = record { 0 = to_be_bytes w32 number }

abbrev pub number_of : Addr → ℕ
number_of addr = from_be_bytes w32 addr.0

-- a length, and the greatest number that can be told in place of one that is over it
abbrev pub told : ℕ → ℤ
told len = pos (min len (2 ^ 63 - 1))

-- the number behind the F of a fault's text
abbrev pub frame_fault : FrameFault → ℕ
frame_fault Short = 1

abbrev pub arp_fault : ArpFault → ℕ
arp_fault UpperHeader = 7

abbrev pub ipv4_fault : Ipv4Fault → ℕ
ipv4_fault IpHeader = 4
ipv4_fault IpSum = 5

abbrev pub icmp_fault : IcmpFault → ℕ
icmp_fault icmp.UpperHeader = 7
icmp_fault icmp.UpperSum = 8

abbrev pub udp_fault : UdpFault → ℕ
udp_fault udp.UpperHeader = 7
udp_fault udp.UpperSum = 8

abbrev pub segment_fault : SegmentFault → ℕ
segment_fault tcp.UpperHeader = 7
segment_fault tcp.UpperSum = 8

-- 0, or the number of the fault
abbrev pub parsed : {T E : Type 0} → (E → ℕ) → Result T E → ℤ
parsed number (Ok found) = pos 0
parsed number (Err fault) = neg_ℤ (pos (number fault))

-- what is found is told, and the struct stays as it was where there is a fault
abbrev pub left : {T U E : Type 0} → (T → U) → Result T E → U → U
left tell (Ok found) old = tell found
left tell (Err fault) old = old

-- a parse: of what its format's own parse may answer, of which there is one
abbrev pub Parses : {T U E : Type 0} → (Result T E → Type 0) → (E → ℕ) → (T → U) → ℤ → U → U → Type 0
Parses {T} {U} {E} IsAnswer number tell answer old new =
    (found : Result T E) × IsAnswer found × (answer ≡ parsed number found) × (new ≡ left tell found old)

-- an emit of so many octets into a buffer: their number; -11 where a field can't be written, and -12 where the buffer is too short
abbrev pub emitted : Bool → ℕ → List ℕ → ℤ
emitted fits len old = if fits then (if nat_lt (length old) len then neg_ℤ (pos 12) else told len) else neg_ℤ (pos 11)

-- what it leaves: this header in the place of as many octets, and all of the buffer where it is refused
abbrev pub after_emit : Bool → ℕ → List ℕ → List ℕ → List ℕ
after_emit fits len header old = if fits then (if nat_lt (length old) len then old else header ++ drop (length header) old) else old
