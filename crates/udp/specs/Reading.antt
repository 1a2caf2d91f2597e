-- The UDP datagram that octets spell, as the plain reading of them from left to right (RFC 768). The clause `parsed` of
-- `UdpView::parse` does not rest on this page: it says what is read by the spelling alone. What octets are to a host rests on it.
use Rattle.std.specs.Prelude.{◌≡◌, ℕ, ◌<◌, ◌≤◌, ◌^◌, nat_lt, ◌||◌, ◌==◌, if◌then◌else◌, List, length, take, drop, Option, Some, None, Result, Ok, Err}
use Rattle.byteorder.specs.Endian.{big_number}
use Rattle.inet_sum.specs.Sum.{sum_of}
use Rattle.ipv4.specs.declared.addr.Addr.{Addr}
use Rattle.udp.specs.declared.fault.UdpFault.{UdpFault}
use Rattle.udp.specs.declared.fault.UdpFault.TheVariants.{UpperHeader, UpperSum}
use Rattle.udp.specs.Datagram.{UserDatagram, IsDatagram, spelling, summed}

-- the number of sixteen bits at a place
abbrev pub word_at : List ℕ → ℕ → ℕ
word_at octets at = big_number 2 (drop at octets)

-- the UDP datagram of these octets, without padding
abbrev pub datagram_of : List ℕ → UserDatagram
datagram_of octets = record {
  source = word_at octets 0;
  destination = word_at octets 2;
  checksum = word_at octets 6;
  payload = drop 8 octets;
}

-- these octets are those of a UDP datagram, without padding
pub record IsWhole (octets : List ℕ) : Type 0 where
  pub fields : IsDatagram (datagram_of octets)
  pub spelled : octets ≡ spelling (datagram_of octets)
  pub least : 8 ≤ length octets
  pub most : length octets < 2 ^ 16

-- the length that octets tell, where they have room for it and it for a header
abbrev pub len_in : List ℕ → Option ℕ
len_in octets =
    if nat_lt (length octets) 8 then None
    else if nat_lt (word_at octets 4) 8 || nat_lt (length octets) (word_at octets 4) then None
    else Some (word_at octets 4)

-- the UDP datagram of these octets, without padding, where it has no checksum or a right one
abbrev pub summed_datagram : Addr → Addr → List ℕ → Result UserDatagram UdpFault
summed_datagram src dst octets =
    if word_at octets 6 == 0 || sum_of (summed src dst octets) == 65535 then Ok (datagram_of octets) else Err UpperSum

-- what is read where they tell this length
abbrev pub read_at : Addr → Addr → List ℕ → Option ℕ → Result UserDatagram UdpFault
read_at src dst octets None = Err UpperHeader
read_at src dst octets (Some len) = summed_datagram src dst (take len octets)

-- the UDP datagram that octets from src for dst spell, or the first fault: one of the length comes before the checksum
abbrev pub datagram_or_fault : Addr → Addr → List ℕ → Result UserDatagram UdpFault
datagram_or_fault src dst octets = read_at src dst octets (len_in octets)
