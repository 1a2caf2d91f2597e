-- What an acknowledgement reports of the octets that are kept ahead of a gap (RFC 2018).
use Rattle.std.specs.Prelude.{ℕ, ◌+◌, ◌%◌, ◌^◌, ◌&&◌, not, nat_le, nat_lt, Bool, List, ◌++◌, map, filter, reverse, take}
use Rattle.stream_buf.specs.declared.ranges.Range.{Range}
use Rattle.stream_buf.specs.Receiving.{runs}
use Rattle.tcp_segment.specs.declared.TheConstants.{MOST_BLOCKS}
use Rattle.tcp_segment.specs.declared.blocks.Block.{Block}
use Rattle.tcp_segment.specs.Wire.{past}
use Rattle.tcp_halves.specs.Halves.{Receiving}

-- the numbers of a range of places that are kept, which are counted from RCV.NXT on
abbrev pub block_of : ℕ → Range → Block
block_of rnext range = record { left = record { 0 = (rnext + range.start) % 2 ^ 32 }; right = record { 0 = (rnext + range.end) % 2 ^ 32 } }

-- the range has this place
abbrev pub has_place : ℕ → Range → Bool
has_place place range = nat_le range.start place && nat_lt place range.end

-- First the range with this place, then the others, the furthest first, which came last where nothing overtakes another.
abbrev pub in_turn : ℕ → List Range → List Range
in_turn place ranges = filter (has_place place) ranges ++ filter (λ range. not (has_place place range)) (reverse ranges)

-- First the range with the octet of the latest segment, then the others, as many as an option has room for (sections 3 and 4)
abbrev pub reported : Receiving → ℕ → List Block
reported r latest = take MOST_BLOCKS (map (block_of r.rnext) (in_turn (past latest r.rnext) (runs r.kept)))
