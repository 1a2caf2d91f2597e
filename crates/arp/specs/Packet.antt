-- An ARP packet for IPv4 over Ethernet, and the octets that spell it (RFC 826).
use Rattle.std.specs.Prelude.{◌≡◌, ℕ, List, [], ◌∷◌, ◌++◌, length, replicate, Result, Ok, Err}
use Rattle.byteorder.specs.Endian.{big_bytes}
use Rattle.ether.specs.declared.mac.Mac.{Mac}
use Rattle.ipv4.specs.declared.addr.Addr.{Addr}
use Rattle.arp.specs.declared.packet.ArpFault.{ArpFault}
use Rattle.arp.specs.declared.packet.ArpFault.TheVariants.{UpperHeader}
use Rattle.arp.specs.declared.packet.ArpPacket.{ArpPacket}
use Rattle.arp.specs.declared.packet.Operation.{Operation}
use Rattle.arp.specs.declared.packet.Operation.TheVariants.{Request, Reply}

-- hardware type 1 (Ethernet), protocol type 0x0800 (IPv4), and the lengths of their addresses in octets
abbrev pub ethernet_and_ipv4 : List ℕ
ethernet_and_ipv4 = big_bytes 2 1 ++ big_bytes 2 0x0800 ++ 6 ∷ 4 ∷ []

abbrev pub operation_number : Operation → ℕ
operation_number Request = 1
operation_number Reply = 2

-- the 28 octets of a packet: what kinds of addresses, the operation, the sender's two addresses, the target's
abbrev pub spelling : ArpPacket → List ℕ
spelling p = ethernet_and_ipv4 ++ big_bytes 2 (operation_number p.operation)
    ++ p.sender_mac.0 ++ p.sender_addr.0
    ++ p.target_mac.0 ++ p.target_addr.0

-- each address is as long as the packet says
pub record HasWidths (p : ArpPacket) : Type 0 where
  pub sender_mac : length p.sender_mac.0 ≡ 6
  pub sender_addr : length p.sender_addr.0 ≡ 4
  pub target_mac : length p.target_mac.0 ≡ 6
  pub target_addr : length p.target_addr.0 ≡ 4

-- the octets spell this packet; what stands behind it is padding
pub record Spells (p : ArpPacket) (octets : List ℕ) : Type 0 where
  pub padding : List ℕ
  pub widths : HasWidths p
  pub spelled : octets ≡ spelling p ++ padding

-- what is made of octets: the packet that they spell, or the one fault where they spell none
abbrev pub IsParsed : List ℕ → Result ArpPacket ArpFault → Type 0
IsParsed octets (Ok p) = Spells p octets
IsParsed octets (Err UpperHeader) = (p : ArpPacket) → Spells p octets → ⊥

-- a request goes to every host of the link, so it names no MAC of the target
abbrev pub request_of : Mac → Addr → Addr → ArpPacket
request_of sender_mac sender_addr target_addr = record {
  operation = Request;
  sender_mac = sender_mac;
  sender_addr = sender_addr;
  target_mac = record { 0 = replicate 6 0 };
  target_addr = target_addr;
}

-- the reply to a packet: the pairs are swapped, and the MAC that was asked for is put in
abbrev pub reply_to : ArpPacket → Mac → ArpPacket
reply_to p mac = record {
  operation = Reply;
  sender_mac = mac;
  sender_addr = p.target_addr;
  target_mac = p.sender_mac;
  target_addr = p.sender_addr;
}
