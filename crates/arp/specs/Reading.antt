-- The packet that octets spell, as the plain reading of them from left to right (RFC 826). The contract of `ArpPacket::parse`
-- does not rest on this page: it says what is read by the spelling alone.
use Rattle.std.specs.Prelude.{ℕ, ◌==◌, nat_eq, nat_lt, not, ◌||◌, if◌then◌else◌, List, length, take, drop, Option, Some, None}
use Rattle.std.specs.List.{starts_with}
use Rattle.std.specs.Option.{option_map}
use Rattle.byteorder.specs.Endian.{big_number}
use Rattle.arp.specs.declared.packet.ArpPacket.{ArpPacket}
use Rattle.arp.specs.declared.packet.Operation.{Operation}
use Rattle.arp.specs.declared.packet.Operation.TheVariants.{Request, Reply}
use Rattle.arp.specs.Packet.{ethernet_and_ipv4}

-- the operation with this number, if there is one
abbrev pub operation_with : ℕ → Option Operation
operation_with number = if number == 1 then Some Request else if number == 2 then Some Reply else None

-- the packet of this operation, whose addresses stand behind it
abbrev pub packet_of : List ℕ → Operation → ArpPacket
packet_of octets operation = record {
  operation = operation;
  sender_mac = record { 0 = take 6 (drop 8 octets) };
  sender_addr = record { 0 = take 4 (drop 14 octets) };
  target_mac = record { 0 = take 6 (drop 18 octets) };
  target_addr = record { 0 = take 4 (drop 24 octets) };
}

-- the packet that octets spell, if they do
abbrev pub packet_in : List ℕ → Option ArpPacket
packet_in octets =
    if nat_lt (length octets) 28 || not (starts_with nat_eq octets ethernet_and_ipv4) then None
    else option_map (packet_of octets) (operation_with (big_number 2 (drop 6 octets)))
