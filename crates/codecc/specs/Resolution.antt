-- Packets of ARP as they are told and written (RFC 826).
use Rattle.std.specs.Prelude.{ℕ, ◌==◌, ◌||◌, Bool, if◌then◌else◌, List}
use Rattle.arp.specs.declared.packet.ArpPacket.{ArpPacket}
use Rattle.arp.specs.declared.packet.Operation.{Operation}
use Rattle.arp.specs.declared.packet.Operation.TheVariants.{Request, Reply}
use Rattle.arp.specs.Packet.{operation_number, spelling}
use Rattle.codecc.specs.declared.types.CodecArp.{CodecArp}
use Rattle.codecc.specs.Calls.{addr_of, number_of}

-- a packet as it is told
abbrev pub told_packet : ArpPacket → CodecArp
told_packet p = record {
  sender_addr = number_of p.sender_addr;
  target_addr = number_of p.target_addr;
  operation = operation_number p.operation;
  sender_mac = p.sender_mac.0;
  target_mac = p.target_mac.0;
}

-- whether a number is that of an operation: 1 of a request, and 2 of a reply
abbrev pub is_operation : ℕ → Bool
is_operation number = number == 1 || number == 2

abbrev pub operation_of : ℕ → Operation
operation_of number = if number == 1 then Request else Reply

-- the octets of a packet
abbrev pub packet_octets : CodecArp → List ℕ
packet_octets c = spelling (record {
  operation = operation_of c.operation;
  sender_mac = record { 0 = c.sender_mac };
  sender_addr = addr_of c.sender_addr;
  target_mac = record { 0 = c.target_mac };
  target_addr = addr_of c.target_addr;
})
