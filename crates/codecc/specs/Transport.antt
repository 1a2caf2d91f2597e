-- Segments of TCP as they are told and written (RFC 9293 section 3.1).
use Rattle.std.specs.Prelude.{ℕ, get_or, ◌+◌, ◌*◌, ◌/◌, ◌&&◌, nat_lt, Bool, ℤ, pos, neg_ℤ, List, [], ◌∷◌, ◌++◌, length, slice_index, slice_range, Option, Some, None}
use Rattle.byteorder.specs.Endian.{big_bytes}
use Rattle.inet_sum.specs.Sum.{checksum_of}
use Rattle.ipv4.specs.declared.addr.Addr.{Addr}
use Rattle.tcp_segment.specs.Segment.{Segment, bit, mss_option_of, scale_option_of, sack_permitted_of, blocks_of, summed_octets}
use Rattle.tcp_segment.specs.Options.{HeaderOption}
use Rattle.tcp_segment.specs.Reading.{header_len, checksum_in, flags_in}
use Rattle.tcp_segment.specs.declared.blocks.Block.{Block}
use Rattle.tcp_segment.specs.Blocks.{nothing}
use Rattle.codecc.specs.declared.types.CodecBlock.{CodecBlock}
use Rattle.codecc.specs.declared.types.CodecTcp.{CodecTcp}
use Rattle.codecc.specs.Network.{is_header_len}

-- -1 where there is none
abbrev pub told_or_none : Option ℕ → ℤ
told_or_none None = neg_ℤ (pos 1)
told_or_none (Some number) = pos number

-- the block of a place as it is told, and zeros where there is none
abbrev pub block_at : List Block → ℕ → CodecBlock
block_at blocks place = let block = get_or blocks place nothing in record { left = block.left.0; right = block.right.0 }

-- blocks as they are told: four places
abbrev pub told_blocks : List Block → List CodecBlock
told_blocks blocks = block_at blocks 0 ∷ block_at blocks 1 ∷ block_at blocks 2 ∷ block_at blocks 3 ∷ []

-- A segment of these octets as it is told. Its payload begins behind the header; the control bits are all eight of their octet, the two of
-- congestion notification among them (RFC 3168).
abbrev pub told_segment : List ℕ → Segment → CodecTcp
told_segment octets s = record {
  number = s.number;
  acknowledgement = s.acknowledgement;
  mss = told_or_none (mss_option_of s);
  shift = told_or_none (scale_option_of s);
  blocks = told_blocks (blocks_of s);
  source = s.source;
  destination = s.destination;
  header_len = header_len octets;
  payload_len = length s.octets;
  window = s.window;
  checksum = checksum_in octets;
  urgent = s.urgent;
  flags = slice_index octets 13;
  sacks = bit (sack_permitted_of s) 1;
  block_count = length (blocks_of s);
}

abbrev pub segment_len : CodecTcp → ℕ
segment_len c = c.header_len + c.payload_len

-- lengths that a header can say, and the pseudo header
abbrev pub segment_fits : CodecTcp → Bool
segment_fits c = is_header_len c.header_len && nat_lt (segment_len c) 65536

-- The octets of a header before its options, with this checksum: ports, number, acknowledgement, the header's length in words and the control
-- bits, window, checksum, urgent pointer. The four bits between are zero.
abbrev pub segment_header : CodecTcp → ℕ → List ℕ
segment_header c checksum =
    big_bytes 2 c.source ++ big_bytes 2 c.destination
    ++ big_bytes 4 c.number
    ++ big_bytes 4 c.acknowledgement
    ++ big_bytes 2 (4096 * (c.header_len / 4) + c.flags) ++ big_bytes 2 c.window
    ++ big_bytes 2 checksum ++ big_bytes 2 c.urgent

-- the checksum before these octets: that of the pseudo header and the segment with a checksum of zero
abbrev pub segment_checksum : Addr → Addr → CodecTcp → List ℕ → ℕ
segment_checksum src dst c behind = checksum_of (summed_octets src dst (segment_header c 0 ++ behind))

-- its header before what stands in a buffer
abbrev pub written_segment_header : Addr → Addr → CodecTcp → List ℕ → List ℕ
written_segment_header src dst c old = segment_header c (segment_checksum src dst c (slice_range old 20 (segment_len c)))

-- the segment that a struct says, with these options and these octets
abbrev pub segment_of : CodecTcp → List HeaderOption → List ℕ → Segment
segment_of c options octets = record {
  source = c.source;
  destination = c.destination;
  number = c.number;
  acknowledgement = c.acknowledgement;
  flags = flags_in c.flags;
  window = c.window;
  urgent = c.urgent;
  options = options;
  octets = octets;
}

-- a struct with this checksum, and with what the options of this segment tell
abbrev pub with_options_told : CodecTcp → ℕ → Segment → CodecTcp
with_options_told c checksum s = record c {
  mss = told_or_none (mss_option_of s);
  shift = told_or_none (scale_option_of s);
  blocks = told_blocks (blocks_of s);
  payload_len = length s.octets;
  checksum = checksum;
  sacks = bit (sack_permitted_of s) 1;
  block_count = length (blocks_of s);
}
