-- The options of a TCP header: their shape, and what stands behind the end of the list (RFC 9293 section 3.1); the kinds 0,
-- 1 and 2 (section 3.2), 3 (RFC 7323 section 2.2), and 4 and 5 (RFC 2018 sections 2 and 3).
use Rattle.std.specs.Prelude.{◌≡◌, ℕ, zero, suc, ◌+◌, ◌/◌, ◌%◌, ◌≤◌, ◌<◌, ◌^◌, ◌==◌, nat_lt, nat_le, ◌&&◌, Bool, false, if◌then◌else◌, List, [], ◌∷◌, ◌++◌, length, drop, Option, Some, None, is_some, unwrap_or, IsFalse}
use Rattle.std.specs.List.{flat_map}
use Rattle.byteorder.specs.Endian.{big_bytes, big_number}
use Rattle.tcp_segment.specs.declared.blocks.Block.{Block}

-- one option: the end of the list, no operation, the maximum segment size, the shift of the sender's windows, or another kind
-- with its octets
pub data HeaderOption : Type 0 where
  EndOfOptions : HeaderOption
  NoOperation : HeaderOption
  MaximumSegmentSize : ℕ → HeaderOption
  WindowScale : ℕ → HeaderOption
  Other : ℕ → List ℕ → HeaderOption

-- the octets of an option: its kind, and but for the first two its length, itself included
abbrev pub option_octets : HeaderOption → List ℕ
option_octets EndOfOptions = 0 ∷ []
option_octets NoOperation = 1 ∷ []
option_octets (MaximumSegmentSize size) = 2 ∷ 4 ∷ big_bytes 2 size
option_octets (WindowScale shift) = 3 ∷ 3 ∷ shift ∷ []
option_octets (Other kind octets) = kind ∷ (2 + length octets) ∷ octets

-- the octets of options, one after another
abbrev pub joined : List HeaderOption → List ℕ
joined options = flat_map option_octets options

-- an option that octets can spell: each number fits its field, and `Other` is none of the four kinds above
abbrev pub IsOption : HeaderOption → Type 0
IsOption EndOfOptions = Unit {0}
IsOption NoOperation = Unit {0}
IsOption (MaximumSegmentSize size) = size < 2 ^ 16
IsOption (WindowScale shift) = shift < 2 ^ 8
IsOption (Other kind octets) = (4 ≤ kind) × (kind < 2 ^ 8) × (2 + length octets < 2 ^ 8)

-- What may stand between a list of options and the end of the header: nothing, or anything behind the
-- end of the list, behind which no option stands.
abbrev pub AreOptions : List HeaderOption → List ℕ → Type 0
AreOptions [] padding = padding ≡ []
AreOptions (EndOfOptions ∷ rest) padding = rest ≡ []
AreOptions (option ∷ rest) padding = IsOption option × AreOptions rest padding

-- an option other than the MSS option
abbrev pub TellsNoSize : HeaderOption → Type 0
TellsNoSize (MaximumSegmentSize size) = ⊥
TellsNoSize option = Unit {0}

-- The maximum segment size in a list of options, read from left to right with the one found so far: that of the
-- last such option (RFC 9293 section 3.7.1). `laws::last_size_stands` says so without a walk.
abbrev pub last_mss : Option ℕ → List HeaderOption → Option ℕ
last_mss told [] = told
last_mss told (MaximumSegmentSize size ∷ rest) = last_mss (Some size) rest
last_mss told (option ∷ rest) = last_mss told rest

-- an option other than the window scale option
abbrev pub TellsNoScale : HeaderOption → Type 0
TellsNoScale (WindowScale shift) = ⊥
TellsNoScale option = Unit {0}

-- The shift in a list of options, read in the same way: that of the last window scale option (RFC 7323 section 2.2).
-- `laws::last_scale_stands` says so without a walk.
abbrev pub last_scale : Option ℕ → List HeaderOption → Option ℕ
last_scale told [] = told
last_scale told (WindowScale shift ∷ rest) = last_scale (Some shift) rest
last_scale told (option ∷ rest) = last_scale told rest

-- The options of selective acknowledgement are of the other kinds: one of a length that isn't its own is passed over like an
-- option of an unknown kind.

-- the option of a SYN whose sender takes selective acknowledgements (RFC 2018 section 2)
abbrev pub sack_permitted : HeaderOption
sack_permitted = Other 4 []

-- whether an option is that one
abbrev pub permits : HeaderOption → Bool
permits (Other kind octets) = kind == 4 && length octets == 0
permits option = false

-- the octets of blocks: of each the number of its first octet, and the one behind its last (RFC 2018 section 3)
abbrev pub block_octets : List Block → List ℕ
block_octets blocks = flat_map (λ block. big_bytes 4 block.left.0 ++ big_bytes 4 block.right.0) blocks

-- the option that reports blocks (RFC 2018 section 3)
abbrev pub sack : List Block → HeaderOption
sack blocks = Other 5 (block_octets blocks)

-- the block that octets begin with
abbrev pub block_in : List ℕ → Block
block_in octets = record { left = record { 0 = big_number 4 octets }; right = record { 0 = big_number 4 (drop 4 octets) } }

-- so many blocks, from the front of octets on
abbrev pub blocks_at : ℕ → List ℕ → List Block
blocks_at zero octets = []
blocks_at (suc n) octets = block_in octets ∷ blocks_at n (drop 8 octets)

-- the blocks in the body of such an option: one block or more, up to four
abbrev pub blocks_in : List ℕ → Option (List Block)
blocks_in body = if length body % 8 == 0 && nat_lt 0 (length body) && nat_le (length body) 32 then Some (blocks_at (length body / 8) body) else None

-- whether an option reports blocks
abbrev pub reports : HeaderOption → Bool
reports (Other kind body) = kind == 5 && is_some (blocks_in body)
reports option = false

-- an option that reports none
abbrev pub ReportsNothing : HeaderOption → Type 0
ReportsNothing option = IsFalse (reports option)

-- The blocks in a list of options, read like the sizes: those of the last option that reports some. `laws::last_report_stands` says
-- so without a walk.
abbrev pub last_blocks : List Block → List HeaderOption → List Block
last_blocks told [] = told
last_blocks told (Other kind body ∷ rest) = last_blocks (if kind == 5 then unwrap_or (blocks_in body) told else told) rest
last_blocks told (option ∷ rest) = last_blocks told rest
