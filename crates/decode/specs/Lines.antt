-- The line that each layer of a frame prints.
use Rattle.std.specs.Prelude.{ℕ, ◌*◌, List, ◌++◌, codes, length}
use Rattle.std.specs.Fmt.{decimal}
use Rattle.ether.specs.Frame.{Frame}
use Rattle.arp.specs.declared.packet.ArpPacket.{ArpPacket}
use Rattle.arp.specs.declared.packet.Operation.{Operation}
use Rattle.arp.specs.declared.packet.Operation.TheVariants.{Request, Reply}
use Rattle.ipv4.specs.Datagram.{Datagram}
use Rattle.icmp.specs.Message.{Message}
use Rattle.udp.specs.Datagram.{UserDatagram}
use Rattle.tcp_segment.specs.Segment.{Segment, mss_option_of}
use Rattle.decode.specs.Words.{hex_of_two, mac_text, addr_text, fragment_flags, flags_text, mss_text}

-- two words, with a blank between them
abbrev pub parted : List ℕ → List ℕ → List ℕ
parted first second = first ++ (codes " " ++ second)

-- `ether DESTINATION SOURCE TYPE`
abbrev pub ether_line : Frame → List ℕ
ether_line f = codes "ether " ++ (parted (mac_text f.destination) (mac_text f.source) ++ (codes " " ++ (hex_of_two f.kind ++ codes "\n")))

-- what an ARP packet is for
abbrev pub operation_text : Operation → List ℕ
operation_text Request = codes "request"
operation_text Reply = codes "reply"

-- `arp request MAC ADDRESS MAC ADDRESS`, or `reply`: the sender's, and then the target's
abbrev pub packet_text : ArpPacket → List ℕ
packet_text p =
    codes "arp " ++ (operation_text p.operation ++ (codes " " ++ (parted (mac_text p.sender_mac) (addr_text p.sender_addr)
    ++ (codes " " ++ parted (mac_text p.target_mac) (addr_text p.target_addr)))))

abbrev pub arp_line : ArpPacket → List ℕ
arp_line p = packet_text p ++ codes "\n"

-- `ipv4 SOURCE DESTINATION proto P ttl T id I off OCTETS flags F payload N`
abbrev pub ipv4_line : Datagram → List ℕ
ipv4_line d =
    codes "ipv4 " ++ (parted (addr_text d.source) (addr_text d.destination) ++ (codes " proto " ++ (decimal d.protocol
    ++ (codes " ttl " ++ (decimal d.ttl ++ (codes " id " ++ (decimal d.identification ++ (codes " off " ++ (decimal (8 * d.offset)
    ++ (codes " flags " ++ (fragment_flags d.dont_fragment d.more_fragments
    ++ (codes " payload " ++ (decimal (length d.payload) ++ codes "\n")))))))))))))

-- `icmp type T code C data N`
abbrev pub message_text : Message → List ℕ
message_text m = codes "icmp type " ++ (decimal m.kind ++ (codes " code " ++ (decimal m.code ++ (codes " data " ++ decimal (length m.payload)))))

abbrev pub icmp_line : Message → List ℕ
icmp_line m = message_text m ++ codes "\n"

-- `udp SOURCE DESTINATION data N`
abbrev pub user_text : UserDatagram → List ℕ
user_text d = codes "udp " ++ (decimal d.source ++ (codes " " ++ (decimal d.destination ++ (codes " data " ++ decimal (length d.payload)))))

abbrev pub udp_line : UserDatagram → List ℕ
udp_line d = user_text d ++ codes "\n"

-- `tcp SOURCE DESTINATION seq S ack A flags F win W mss M data N`
abbrev pub tcp_line : Segment → List ℕ
tcp_line s =
    codes "tcp " ++ (decimal s.source ++ (codes " " ++ (decimal s.destination ++ (codes " seq " ++ (decimal s.number
    ++ (codes " ack " ++ (decimal s.acknowledgement ++ (codes " flags " ++ (flags_text s.flags ++ (codes " win " ++ (decimal s.window
    ++ (codes " mss " ++ (mss_text (mss_option_of s) ++ (codes " data " ++ (decimal (length s.octets) ++ codes "\n")))))))))))))))
