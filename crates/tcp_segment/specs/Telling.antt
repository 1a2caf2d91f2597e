-- What options tell: all of it at once, as the walk through them gathers it.
use Rattle.std.specs.Prelude.{◌==◌, ◌||◌, if◌then◌else◌, List, [], None, Some, unwrap_or}
use Rattle.std.specs.List.{list_any}
use Rattle.tcp_segment.specs.declared.options.Told.{Told}
use Rattle.tcp_segment.specs.Options.{HeaderOption, MaximumSegmentSize, WindowScale, Other, last_mss, last_scale, permits, blocks_in, last_blocks}

-- what one option adds to what those before it told
abbrev pub told_with : Told → HeaderOption → Told
told_with told (MaximumSegmentSize size) = record { mss = Some size; scale = told.scale; sacks = told.sacks; blocks = told.blocks }
told_with told (WindowScale shift) = record { mss = told.mss; scale = Some shift; sacks = told.sacks; blocks = told.blocks }
told_with told (Other kind body) = record {
  mss = told.mss;
  scale = told.scale;
  sacks = told.sacks || permits (Other kind body);
  blocks = if kind == 5 then unwrap_or (blocks_in body) told.blocks else told.blocks;
}
told_with told option = told

-- what a list of options tells
abbrev pub told_of : List HeaderOption → Told
told_of options = record { mss = last_mss None options; scale = last_scale None options; sacks = list_any permits options; blocks = last_blocks [] options }
