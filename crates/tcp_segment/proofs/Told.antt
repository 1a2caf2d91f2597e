-- Which option tells the maximum segment size, which the shift, and which blocks.
use Rattle.std.proofs.Common.{◌≡◌, ℕ, ◌<◌, ◌≤◌, ◌==◌, ◌&&◌, Bool, true, false, cond, IsFalse, List, [], ◌∷◌, ◌++◌, length, Option, Some, None, is_some, All, refl, ◌∙◌, ap}
use Rattle.std.proofs.lemmas.List.Elements.{All-head, All-tail}
use Rattle.std.specs.Option.{unwrap_or}
use Rattle.tcp_segment.proofs.BlockLists.{sack_read}
use Rattle.tcp_segment.specs.Blocks.{BlockFits}
use Rattle.tcp_segment.specs.declared.blocks.Block.{Block}
use Rattle.tcp_segment.specs.Options.{HeaderOption, EndOfOptions, NoOperation, MaximumSegmentSize, WindowScale, Other, sack, blocks_in, TellsNoSize, TellsNoScale, ReportsNothing, last_mss, last_scale, last_blocks}

-- options that tell no size leave what was told
pub untold : (told : Option ℕ) (options : List HeaderOption) → All TellsNoSize options → last_mss told options ≡ told
untold told [] none = refl
untold told (EndOfOptions ∷ rest) none = untold told rest (All-tail TellsNoSize EndOfOptions rest none)
untold told (NoOperation ∷ rest) none = untold told rest (All-tail TellsNoSize NoOperation rest none)
untold told (MaximumSegmentSize size ∷ rest) none = absurd (All-head TellsNoSize (MaximumSegmentSize size) rest none)
untold told (WindowScale shift ∷ rest) none = untold told rest (All-tail TellsNoSize (WindowScale shift) rest none)
untold told (Other kind octets ∷ rest) none = untold told rest (All-tail TellsNoSize (Other kind octets) rest none)

-- the last size that is told stands
pub last_stands : (told : Option ℕ) (before after : List HeaderOption) (size : ℕ) → All TellsNoSize after
    → last_mss told (before ++ MaximumSegmentSize size ∷ after) ≡ Some size
last_stands told [] after size none = untold (Some size) after none
last_stands told (EndOfOptions ∷ before) after size none = last_stands told before after size none
last_stands told (NoOperation ∷ before) after size none = last_stands told before after size none
last_stands told (MaximumSegmentSize other ∷ before) after size none = last_stands (Some other) before after size none
last_stands told (WindowScale shift ∷ before) after size none = last_stands told before after size none
last_stands told (Other kind octets ∷ before) after size none = last_stands told before after size none

-- options that tell no shift leave what was told
pub unscaled : (told : Option ℕ) (options : List HeaderOption) → All TellsNoScale options → last_scale told options ≡ told
unscaled told [] none = refl
unscaled told (EndOfOptions ∷ rest) none = unscaled told rest (All-tail TellsNoScale EndOfOptions rest none)
unscaled told (NoOperation ∷ rest) none = unscaled told rest (All-tail TellsNoScale NoOperation rest none)
unscaled told (MaximumSegmentSize size ∷ rest) none = unscaled told rest (All-tail TellsNoScale (MaximumSegmentSize size) rest none)
unscaled told (WindowScale shift ∷ rest) none = absurd (All-head TellsNoScale (WindowScale shift) rest none)
unscaled told (Other kind octets ∷ rest) none = unscaled told rest (All-tail TellsNoScale (Other kind octets) rest none)

-- the last shift that is told stands
pub last_shift_stands : (told : Option ℕ) (before after : List HeaderOption) (shift : ℕ) → All TellsNoScale after
    → last_scale told (before ++ WindowScale shift ∷ after) ≡ Some shift
last_shift_stands told [] after shift none = unscaled (Some shift) after none
last_shift_stands told (EndOfOptions ∷ before) after shift none = last_shift_stands told before after shift none
last_shift_stands told (NoOperation ∷ before) after shift none = last_shift_stands told before after shift none
last_shift_stands told (MaximumSegmentSize size ∷ before) after shift none = last_shift_stands told before after shift none
last_shift_stands told (WindowScale other ∷ before) after shift none = last_shift_stands (Some other) before after shift none
last_shift_stands told (Other kind octets ∷ before) after shift none = last_shift_stands told before after shift none

-- options that report nothing leave what was reported
pub unreported : (told : List Block) (options : List HeaderOption) → All ReportsNothing options → last_blocks told options ≡ told
unreported told [] none = refl
unreported told (EndOfOptions ∷ rest) none = unreported told rest (All-tail ReportsNothing EndOfOptions rest none)
unreported told (NoOperation ∷ rest) none = unreported told rest (All-tail ReportsNothing NoOperation rest none)
unreported told (MaximumSegmentSize size ∷ rest) none = unreported told rest (All-tail ReportsNothing (MaximumSegmentSize size) rest none)
unreported told (WindowScale shift ∷ rest) none = unreported told rest (All-tail ReportsNothing (WindowScale shift) rest none)
unreported told (Other kind body ∷ rest) none =
    ap (λ (blocks : List Block). last_blocks blocks rest) (nothing (kind == 5) (blocks_in body) (All-head ReportsNothing (Other kind body) rest none))
    ∙ unreported told rest (All-tail ReportsNothing (Other kind body) rest none)
  where
    nothing : (is : Bool) (blocks : Option (List Block)) → IsFalse (is && is_some blocks) → cond is (unwrap_or blocks told) told ≡ told
    nothing true None e = refl
    nothing true (Some blocks) e = cc
    nothing false blocks e = refl

-- the last report stands
pub last_report_stands : (told : List Block) (before after : List HeaderOption) (blocks : List Block) → 0 < length blocks → length blocks ≤ 4 → All BlockFits blocks
    → All ReportsNothing after → last_blocks told (before ++ sack blocks ∷ after) ≡ blocks
last_report_stands told [] after blocks some few fit none =
    ap (λ (all : List Block). last_blocks all after) (ap (λ (o : Option (List Block)). unwrap_or o told) (sack_read blocks some few fit)) ∙ unreported blocks after none
last_report_stands told (EndOfOptions ∷ before) after blocks some few fit none = last_report_stands told before after blocks some few fit none
last_report_stands told (NoOperation ∷ before) after blocks some few fit none = last_report_stands told before after blocks some few fit none
last_report_stands told (MaximumSegmentSize size ∷ before) after blocks some few fit none = last_report_stands told before after blocks some few fit none
last_report_stands told (WindowScale shift ∷ before) after blocks some few fit none = last_report_stands told before after blocks some few fit none
last_report_stands told (Other kind body ∷ before) after blocks some few fit none =
    last_report_stands (cond (kind == 5) (unwrap_or (blocks_in body) told) told) before after blocks some few fit none
