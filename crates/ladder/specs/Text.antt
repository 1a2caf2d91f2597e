-- What a ladder tells of a frame, in the words of `decode`, from what the frame is to the host that it is for.
use Rattle.std.specs.Prelude.{ℕ, ◌*◌, if◌then◌else◌, List, [], ◌∷◌, ◌++◌, codes, length, Result, Ok, Err}
use Rattle.std.specs.Fmt.{decimal}
use Rattle.ipv4.specs.declared.addr.Addr.{Addr}
use Rattle.ipv4.specs.Datagram.{Datagram}
use Rattle.tcp_segment.specs.Segment.{Segment}
use Rattle.frames.specs.declared.drop.DropCause.{DropCause}
use Rattle.frames.specs.declared.meaning.Meaning.{Meaning}
use Rattle.frames.specs.declared.meaning.Meaning.TheVariants.{Arp, Tcp, Icmp, Udp, Other, UdpFragment}
use Rattle.frames.specs.declared.meaning.ReceivedSegment.{ReceivedSegment}
use Rattle.frames.specs.Drops.{number_of}
use Rattle.decode.specs.Words.{flags_text, fragment_flags}
use Rattle.decode.specs.Lines.{message_text, packet_text, user_text}
use Rattle.ladder.specs.declared.numbers.Direction.{Direction}
use Rattle.ladder.specs.declared.numbers.Syn.{Syn}
use Rattle.ladder.specs.declared.numbers.Numbering.{Numbering}
use Rattle.ladder.specs.Numbers.{back, initial_in, number_text}

-- where a segment goes that came to this address
abbrev pub direction_of : Addr → ReceivedSegment → Direction
direction_of to r = record {
  source = record { addr = r.source; port = r.segment.source };
  destination = record { addr = to; port = r.segment.destination };
}

-- the SYN of a segment, if it has one
abbrev pub syns_in : Addr → Result Meaning DropCause → List Syn
syns_in to (Ok (Tcp r)) =
    if r.segment.flags.syn then record { direction = direction_of to r; number = record { 0 = r.segment.number } } ∷ [] else []
syns_in to _ = []

-- the acknowledgement, where it counts: it is a number of the other direction
abbrev pub acknowledgement_text : Numbering → List Syn → Direction → Segment → List ℕ
acknowledgement_text how syns d s = if s.flags.ack then codes " ack " ++ number_text how (initial_in (back d) syns) s.acknowledgement else []

-- `tcp SOURCE DESTINATION FLAGS seq S ack A win W data N`
abbrev pub segment_text : Numbering → List Syn → Direction → Segment → List ℕ
segment_text how syns d s =
    codes "tcp " ++ (decimal s.source ++ (codes " " ++ (decimal s.destination ++ (codes " " ++ (flags_text s.flags
    ++ (codes " seq " ++ (number_text how (initial_in d syns) s.number ++ (acknowledgement_text how syns d s
    ++ (codes " win " ++ (decimal s.window ++ (codes " data " ++ decimal (length s.octets))))))))))))

-- `ipv4 proto P id I off OCTETS flags F payload N`: a fragment, or a datagram of another protocol
abbrev pub datagram_text : Datagram → List ℕ
datagram_text d =
    codes "ipv4 proto " ++ (decimal d.protocol ++ (codes " id " ++ (decimal d.identification ++ (codes " off " ++ (decimal (8 * d.offset)
    ++ (codes " flags " ++ (fragment_flags d.dont_fragment d.more_fragments ++ (codes " payload " ++ decimal (length d.payload)))))))))

-- what is told of a frame that goes to this address, after these SYNs: what it carries, or `drop F7` and so on, why the host will not take it
abbrev pub text_of : Numbering → List Syn → Addr → Result Meaning DropCause → List ℕ
text_of how syns to (Ok (Arp p)) = packet_text p
text_of how syns to (Ok (Tcp r)) = segment_text how syns (direction_of to r) r.segment
text_of how syns to (Ok (Icmp c)) = message_text c.message
text_of how syns to (Ok (Udp u)) = user_text u.datagram
text_of how syns to (Ok (Other d)) = datagram_text d
text_of how syns to (Ok (UdpFragment d)) = datagram_text d
text_of how syns to (Err cause) = codes "drop F" ++ decimal (number_of cause)
