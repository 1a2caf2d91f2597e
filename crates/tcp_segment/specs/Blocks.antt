-- Blocks, and how they are kept in four places: those behind the last one hold nothing.
use Rattle.std.specs.Prelude.{◌≡◌, ℕ, ◌-◌, ◌<◌, ◌^◌, List, ◌++◌, length, replicate}
use Rattle.std.proofs.Common.{◌∙◌, ap}
use Rattle.tcp_segment.specs.declared.blocks.Block.{Block}

-- a block whose numbers are of their width
pub record BlockFits (block : Block) : Type 0 where
  pub left : block.left.0 < 2 ^ 32
  pub right : block.right.0 < 2 ^ 32

-- what a place without a block holds
abbrev pub nothing : Block
nothing = record { left = record { 0 = 0 }; right = record { 0 = 0 } }

-- blocks, and the places behind them
abbrev pub filled : List Block → List Block
filled blocks = blocks ++ replicate (4 - length blocks) nothing

-- what is made of the same places and the same count is the same
pub alike : {A : Type 0} (make : List Block → ℕ → A) (some items : List Block) (count len : ℕ) → some ≡ items → count ≡ len → make some count ≡ make items len
alike make some items count len e f = ap (λ xs. make xs count) e ∙ ap (make items) f
