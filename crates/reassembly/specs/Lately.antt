-- The datagrams that were whole lately, so that a copy of one of their fragments that comes late begins no new one.
use Rattle.std.specs.Prelude.{Bool, ◌&&◌, nat_lt, if◌then◌else◌, List, [], ◌∷◌, ◌++◌, length, drop}
use Rattle.std.specs.List.{list_any}
use Rattle.clock.specs.declared.moment.Moment.{Moment}
use Rattle.clock.specs.Moments.{after}
use Rattle.reassembly.specs.declared.finished.Finished.{Finished}
use Rattle.reassembly.specs.declared.key.Key.{Key}
use Rattle.reassembly.specs.declared.lately.TheConstants.{MOST_LATELY}
use Rattle.reassembly.specs.Keys.{same_key}

-- there is room for one more; where 64 are known the first of them leaves
abbrev pub with_room : List Finished → List Finished
with_room finished = if nat_lt (length finished) MOST_LATELY then finished else drop 1 finished

-- one with this key is whole at this moment
abbrev pub noted : Key → Moment → List Finished → List Finished
noted key now finished = with_room finished ++ record { key = key; since = now } ∷ []

-- it has this key, and less than a second has passed since
abbrev pub is_recent : Key → Moment → Finished → Bool
is_recent key now f = same_key f.key key && nat_lt now.0 (after f.since 1000).0

-- one with this key was whole within the last second
abbrev pub was_whole : Key → Moment → List Finished → Bool
was_whole key now finished = list_any (is_recent key now) finished
