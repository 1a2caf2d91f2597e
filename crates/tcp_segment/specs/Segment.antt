-- A TCP segment, and the octets that spell it (RFC 9293 section 3.1).
use Rattle.std.specs.Prelude.{◌≡◌, ℕ, ◌+◌, ◌*◌, ◌<◌, ◌^◌, List, [], ◌++◌, length, Bool, ◌&&◌, if◌then◌else◌, max, min, unwrap_or, Option, None, Result, Ok, Err}
use Rattle.std.specs.List.{list_any}
use Rattle.byteorder.specs.Endian.{big_bytes}
use Rattle.inet_sum.specs.Sum.{sum_of, pseudo_octets}
use Rattle.ipv4.specs.declared.addr.Addr.{Addr}
use Rattle.tcp_segment.specs.declared.TheConstants.{FIXED_LEN, MSS, DEFAULT_MSS, LEAST_MSS, MAX_SHIFT}
use Rattle.tcp_segment.specs.declared.blocks.Block.{Block}
use Rattle.tcp_segment.specs.declared.fault.SegmentFault.{SegmentFault}
use Rattle.tcp_segment.specs.declared.fault.SegmentFault.TheVariants.{UpperHeader, UpperSum}
use Rattle.tcp_segment.specs.declared.flags.Flags.{Flags}
use Rattle.tcp_segment.specs.Options.{HeaderOption, joined, AreOptions, last_mss, last_scale, permits, last_blocks}

-- what a segment says
pub record Segment : Type 0 where
  pub source : ℕ
  pub destination : ℕ
  pub number : ℕ
  pub acknowledgement : ℕ
  pub flags : Flags
  pub window : ℕ
  pub urgent : ℕ
  pub options : List HeaderOption
  pub octets : List ℕ

abbrev pub bit : Bool → ℕ → ℕ
bit set worth = if set then worth else 0

-- the control bits as a number of six bits
abbrev pub control_bits : Flags → ℕ
control_bits flags =
    bit flags.fin 1 + bit flags.syn 2 + bit flags.rst 4 + bit flags.psh 8 + bit flags.ack 16 + bit flags.urg 32

-- The octets of a header before its options. The data offset counts words of four octets. Six bits stand
-- between it and the control bits: four that are reserved, and two of congestion notification (RFC 3168),
-- which this stack leaves alone.
abbrev pub fixed_fields : Segment → ℕ → ℕ → ℕ → List ℕ
fixed_fields segment offset reserved checksum =
    big_bytes 2 segment.source ++ big_bytes 2 segment.destination
    ++ big_bytes 4 segment.number
    ++ big_bytes 4 segment.acknowledgement
    ++ big_bytes 2 (4096 * offset + 64 * reserved + control_bits segment.flags) ++ big_bytes 2 segment.window
    ++ big_bytes 2 checksum ++ big_bytes 2 segment.urgent

-- the octets of a segment: its fields, its options, the padding up to the data offset, its own octets
abbrev pub spelling : Segment → ℕ → ℕ → ℕ → List ℕ → List ℕ
spelling segment offset reserved checksum padding =
    fixed_fields segment offset reserved checksum ++ (joined segment.options ++ padding) ++ segment.octets

-- each field is a number of its width
pub record FieldsFit (segment : Segment) : Type 0 where
  pub source : segment.source < 2 ^ 16
  pub destination : segment.destination < 2 ^ 16
  pub number : segment.number < 2 ^ 32
  pub acknowledgement : segment.acknowledgement < 2 ^ 32
  pub window : segment.window < 2 ^ 16
  pub urgent : segment.urgent < 2 ^ 16

-- The octets have the form of this segment, whatever their checksum: the reserved bits and what stands
-- behind the end of the options may be anything. A segment is at most as long as the pseudo header can say.
pub record HasForm (segment : Segment) (octets : List ℕ) : Type 0 where
  pub offset : ℕ
  pub reserved : ℕ
  pub checksum : ℕ
  pub padding : List ℕ
  pub fields : FieldsFit segment
  pub options : AreOptions segment.options padding
  pub offset_fits : offset < 2 ^ 4
  pub reserved_fits : reserved < 2 ^ 6
  pub checksum_fits : checksum < 2 ^ 16
  pub header : 4 * offset ≡ FIXED_LEN + length (joined segment.options ++ padding)
  pub len : length octets < 2 ^ 16
  pub spelled : octets ≡ spelling segment offset reserved checksum padding

-- the pseudo header of a segment of this length, and the segment's octets (RFC 9293 section 3.1)
abbrev pub summed_octets : Addr → Addr → List ℕ → List ℕ
summed_octets src dst octets =
    pseudo_octets (record { src = src.0; dst = dst.0; protocol = 6; length = length octets }) ++ octets

-- the checksum is right: all that it covers has the sum 0xFFFF
abbrev pub SumIsRight : Addr → Addr → List ℕ → Type 0
SumIsRight src dst octets = sum_of (summed_octets src dst octets) ≡ 65535

-- the octets that came from src for dst spell this segment
pub record Spells (src dst : Addr) (segment : Segment) (octets : List ℕ) : Type 0 where
  pub form : HasForm segment octets
  pub sum : SumIsRight src dst octets

-- What is made of octets: the segment that they spell, or the first fault. A fault of the header comes
-- first, whatever the checksum is.
abbrev pub IsParsed : Addr → Addr → List ℕ → Result Segment SegmentFault → Type 0
IsParsed src dst octets (Ok segment) = Spells src dst segment octets
IsParsed src dst octets (Err UpperHeader) = (segment : Segment) → HasForm segment octets → ⊥
IsParsed src dst octets (Err UpperSum) = (segment : Segment) × HasForm segment octets × (SumIsRight src dst octets → ⊥)

-- the maximum segment size in the options of a segment (RFC 9293 section 3.7.1): that of its last such option, read where SYN is set
abbrev pub mss_option_of : Segment → Option ℕ
mss_option_of segment = if segment.flags.syn then last_mss None segment.options else None

-- SendMSS, the size that the sender of a segment takes (RFC 9293 section 3.7.1): the default where it has no such option, and never
-- under the least
abbrev pub send_mss : Segment → ℕ
send_mss segment = max (unwrap_or (mss_option_of segment) DEFAULT_MSS) LEAST_MSS

-- SMSS, the most octets that are sent to this peer in one segment (RFC 5681 section 2, RFC 9293 section 3.7.1)
abbrev pub smss_of : Segment → ℕ
smss_of segment = min (send_mss segment) MSS

-- the shift in the window scale option of a segment (RFC 7323 section 2.2): that of its last such option, read where SYN is set
abbrev pub scale_option_of : Segment → Option ℕ
scale_option_of segment = if segment.flags.syn then last_scale None segment.options else None

-- the shift of the windows that the sender of a segment tells (RFC 7323 section 2.3): none where it has no such option, and never
-- over the most
abbrev pub shift_of : Segment → ℕ
shift_of segment = min (unwrap_or (scale_option_of segment) 0) MAX_SHIFT

-- whether the sender of a segment takes selective acknowledgements (RFC 2018 section 2): an option says so, read where SYN is set
abbrev pub sack_permitted_of : Segment → Bool
sack_permitted_of segment = segment.flags.syn && list_any permits segment.options

-- the blocks that the sender of a segment holds ahead of a gap (RFC 2018 section 3): those of the last option that reports some
abbrev pub blocks_of : Segment → List Block
blocks_of segment = last_blocks [] segment.options

-- the length in sequence numbers (RFC 9293 section 3.4): the octets, and one each for SYN and FIN
abbrev pub span_of : Segment → ℕ
span_of segment = length segment.octets + bit segment.flags.syn 1 + bit segment.flags.fin 1
