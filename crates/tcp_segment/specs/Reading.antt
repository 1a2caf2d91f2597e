-- The segment that octets spell, as the plain reading of them from left to right (RFC 9293 sections 3.1 and 3.2). The
-- contract of `TcpView::parse` does not rest on this page: it says what is read by the spelling alone. What a world
-- foresees of a frame rests on it.
use Rattle.std.specs.Prelude.{ℕ, zero, suc, ◌-◌, ◌*◌, ◌/◌, ◌%◌, ◌==◌, nat_lt, ◌||◌, Bool, if◌then◌else◌, List, [], ◌∷◌, length, take, drop, slice_index, Option, Some, None, Result, Ok, Err}
use Rattle.std.specs.Option.{option_map}
use Rattle.byteorder.specs.Endian.{big_number}
use Rattle.tcp_segment.specs.declared.TheConstants.{FIXED_LEN}
use Rattle.tcp_segment.specs.declared.fault.SegmentFault.{SegmentFault}
use Rattle.tcp_segment.specs.declared.fault.SegmentFault.TheVariants.{UpperHeader, UpperSum}
use Rattle.tcp_segment.specs.declared.flags.Flags.{Flags}
use Rattle.tcp_segment.specs.Options.{HeaderOption, EndOfOptions, NoOperation, MaximumSegmentSize, WindowScale, Other}
use Rattle.ipv4.specs.declared.addr.Addr.{Addr}
use Rattle.inet_sum.specs.Sum.{sum_of}
use Rattle.tcp_segment.specs.Segment.{Segment, summed_octets}

-- an option and those behind it, where it and they are well-formed
abbrev pub with_first : Option HeaderOption → Option (List HeaderOption) → Option (List HeaderOption)
with_first None rest = None
with_first (Some first) rest = option_map (λ options. first ∷ options) rest

-- of the octets of an option from its length on: those behind its length, and what stands behind the option
abbrev pub body_in : List ℕ → Option (List ℕ × List ℕ)
body_in [] = None
body_in (len ∷ xs) = if nat_lt len 2 || nat_lt (length xs) (len - 2) then None else Some (take (len - 2) xs, drop (len - 2) xs)

-- the size in the body of an MSS option
abbrev pub mss_in : List ℕ → Option ℕ
mss_in body = if length body == 2 then Some (big_number 2 body) else None

-- the shift in the body of a window scale option
abbrev pub scale_in : List ℕ → Option ℕ
scale_in body = if length body == 1 then Some (slice_index body 0) else None

-- the option of a kind that has a length, by its body
abbrev pub option_in : ℕ → List ℕ → Option HeaderOption
option_in kind body =
    if kind == 2 then option_map MaximumSegmentSize (mss_in body)
    else if kind == 3 then option_map WindowScale (scale_in body)
    else Some (Other kind body)

-- the options that stand behind so many octets, if they are well-formed
abbrev pub options_behind : List ℕ → ℕ → Option (List HeaderOption)
options_behind [] zero = Some []
options_behind [] (suc n) = None
options_behind (x ∷ xs) (suc n) = options_behind xs n
options_behind (kind ∷ []) zero =
    if kind == 0 then Some (EndOfOptions ∷ []) else if kind == 1 then Some (NoOperation ∷ []) else None
options_behind (kind ∷ len ∷ xs) zero =
    if kind == 0 then Some (EndOfOptions ∷ [])
    else if kind == 1 then with_first (Some NoOperation) (options_behind (len ∷ xs) zero)
    else if nat_lt len 2 then None
    else with_first (option_in kind (take (len - 2) xs)) (options_behind xs (len - 2))

-- the control bits in the low six bits of an octet
abbrev pub flags_in : ℕ → Flags
flags_in octet = record {
  fin = octet % 2 == 1;
  syn = octet / 2 % 2 == 1;
  rst = octet / 4 % 2 == 1;
  psh = octet / 8 % 2 == 1;
  ack = octet / 16 % 2 == 1;
  urg = octet / 32 % 2 == 1;
}

-- the segment whose header has so many octets, and these options
abbrev pub segment_with : List ℕ → ℕ → List HeaderOption → Segment
segment_with octets header options = record {
  source = big_number 2 octets;
  destination = big_number 2 (drop 2 octets);
  number = big_number 4 (drop 4 octets);
  acknowledgement = big_number 4 (drop 8 octets);
  flags = flags_in (slice_index octets 13);
  window = big_number 2 (drop 14 octets);
  urgent = big_number 2 (drop 18 octets);
  options = options;
  octets = drop header octets;
}

-- the data offset: the length of the header in words of four octets
abbrev pub offset_in : List ℕ → ℕ
offset_in octets = slice_index octets 12 / 16

-- the checksum in the header
abbrev pub checksum_in : List ℕ → ℕ
checksum_in octets = big_number 2 (drop 16 octets)

-- the length of the header in octets
abbrev pub header_len : List ℕ → ℕ
header_len octets = 4 * offset_in octets

-- the length of the header, if the octets have room for it and it for the fixed fields
abbrev pub header_in : List ℕ → Option ℕ
header_in octets =
    if nat_lt (length octets) FIXED_LEN || nat_lt 65535 (length octets) then None
    else if nat_lt (header_len octets) FIXED_LEN || nat_lt (length octets) (header_len octets) then None
    else Some (header_len octets)

-- the segment with these options, if they are well-formed
abbrev pub with_options : List ℕ → ℕ → Option (List HeaderOption) → Option Segment
with_options octets header None = None
with_options octets header (Some options) = Some (segment_with octets header options)

-- the segment behind a header of this length, if there is one
abbrev pub in_header : List ℕ → Option ℕ → Option Segment
in_header octets None = None
in_header octets (Some header) = with_options octets header (options_behind (take (header - FIXED_LEN) (drop FIXED_LEN octets)) 0)

-- the segment that octets from src for dst spell, if they do and their checksum is right
abbrev pub segment_in : Addr → Addr → List ℕ → Option Segment
segment_in src dst octets = if sum_of (summed_octets src dst octets) == 65535 then in_header octets (header_in octets) else None

-- a segment that was read, if its checksum is right, or the first fault
abbrev pub checked : Bool → Option Segment → Result Segment SegmentFault
checked right None = Err UpperHeader
checked right (Some segment) = if right then Ok segment else Err UpperSum

-- the segment that octets from src for dst spell, or the first fault: one of the header comes before the checksum
abbrev pub segment_or_fault : Addr → Addr → List ℕ → Result Segment SegmentFault
segment_or_fault src dst octets = checked (sum_of (summed_octets src dst octets) == 65535) (in_header octets (header_in octets))
