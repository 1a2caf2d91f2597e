-- A segment as this stack sends it (RFC 9293 section 3.1).
use Rattle.std.specs.Prelude.{◌≡◌, ℕ, ◌+◌, ◌*◌, ◌<◌, ◌^◌, Bool, if◌then◌else◌, List, [], ◌∷◌, length, take, All}
use Rattle.inet_sum.specs.Sum.{checksum_of}
use Rattle.ipv4.specs.declared.addr.Addr.{Addr}
use Rattle.tcp_segment.specs.declared.TheConstants.{MSS, SHIFT, MOST_BLOCKS}
use Rattle.tcp_segment.specs.declared.blocks.Block.{Block}
use Rattle.tcp_segment.specs.declared.head.Head.{Head}
use Rattle.tcp_segment.specs.Options.{HeaderOption, NoOperation, MaximumSegmentSize, WindowScale, sack_permitted, sack}
use Rattle.tcp_segment.specs.Blocks.{BlockFits}
use Rattle.tcp_segment.specs.Segment.{Segment, FieldsFit, spelling, summed_octets}

-- the blocks that a head reports: an option has room for four of them (RFC 2018 section 3)
abbrev pub sent_blocks : Head → List Block
sent_blocks head = take MOST_BLOCKS head.blocks

-- The option of selective acknowledgement that a SYN carries, where it is offered (RFC 2018 section 2), and the one that a segment
-- without SYN carries, where there are blocks to report (section 3). Octets of no operation fill their words.
abbrev pub permission : Bool → List HeaderOption
permission sacks = if sacks then NoOperation ∷ NoOperation ∷ sack_permitted ∷ [] else []

abbrev pub report : List Block → List HeaderOption
report [] = []
report blocks = NoOperation ∷ NoOperation ∷ sack blocks ∷ []

-- The options that are sent. With SYN the MSS option of this stack (RFC 9293 section 3.7.1); where the head offers window scaling, one
-- octet of no operation and the shift of this stack's windows (RFC 7323 section 2.2); and where it offers selective acknowledgement,
-- the permission. Without SYN the blocks that it reports.
abbrev pub sent_options : Head → List HeaderOption
sent_options head =
    if head.flags.syn then MaximumSegmentSize MSS ∷ (if head.scales then NoOperation ∷ WindowScale SHIFT ∷ permission head.sacks else permission head.sacks)
    else report (sent_blocks head)

-- a segment as this stack sends it
abbrev pub sent_segment : Head → List ℕ → Segment
sent_segment head octets = record {
  source = head.source;
  destination = head.destination;
  number = head.number.0;
  acknowledgement = head.acknowledgement.0;
  flags = head.flags;
  window = head.window;
  urgent = 0;
  options = sent_options head;
  octets = octets;
}

-- one word more, where that is so
abbrev pub one_more : Bool → ℕ → ℕ
one_more so words = if so then words + 1 else words

-- the length of a header that reports these blocks, of two words each, behind one word of the option
abbrev pub reporting_offset : List Block → ℕ
reporting_offset [] = 5
reporting_offset blocks = 6 + 2 * length blocks

-- the length of its header in words of four octets
abbrev pub sent_offset : Head → ℕ
sent_offset head = if head.flags.syn then one_more head.sacks (one_more head.scales 6) else reporting_offset (sent_blocks head)

-- its octets with this checksum: the reserved bits are zero
abbrev pub sent_with : Head → List ℕ → ℕ → List ℕ
sent_with head octets checksum = spelling (sent_segment head octets) (sent_offset head) 0 checksum []

-- its one spelling: the checksum is that of the pseudo header and the segment with a checksum of zero
unfoldable pub sent_octets : Addr → Addr → Head → List ℕ → List ℕ
sent_octets src dst head octets = sent_with head octets (checksum_of (summed_octets src dst (sent_with head octets 0)))

-- a segment that can be sent: its fields and blocks are of their width, and its length is one that the pseudo header can say
pub record CanBeSent (src dst : Addr) (head : Head) (octets : List ℕ) : Type 0 where
  pub src_octets : length src.0 ≡ 4
  pub dst_octets : length dst.0 ≡ 4
  pub fields : FieldsFit (sent_segment head octets)
  pub blocks : All BlockFits head.blocks
  pub len : 4 * sent_offset head + length octets < 2 ^ 16
