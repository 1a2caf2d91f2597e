-- What reports are of, in words that name no range. Only laws speak of it.
use Rattle.std.specs.Prelude.{ℕ, ◌<◌, IsSome, None, List, Any, slice_index_or}
use Rattle.tcp_segment.specs.declared.blocks.Block.{Block}
use Rattle.tcp_segment.specs.Wire.{past}
use Rattle.tcp_halves.specs.Halves.{Receiving}

-- the octet of this number is kept ahead of a gap
abbrev pub IsKept : Receiving → ℕ → Type 0
IsKept r number = IsSome (slice_index_or r.kept (past number r.rnext) None)

-- a number is of a block: from its left edge on, and before its right one
abbrev pub IsOf : Block → ℕ → Type 0
IsOf block number = past number block.left.0 < past block.right.0 block.left.0

-- .. and of one of these
abbrev pub IsOfOne : List Block → ℕ → Type 0
IsOfOne blocks number = Any (λ block. IsOf block number) blocks
