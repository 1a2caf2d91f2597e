-- The two sides of a link, one host on each.
use Rattle.std.specs.Prelude.{Bool, true, false}
use Rattle.sides.specs.declared.side.Side.{Side}
use Rattle.sides.specs.declared.side.Side.TheVariants.{A, B}

-- one side and no other
abbrev pub same_side : Side → Side → Bool
same_side A A = true
same_side A B = false
same_side B A = false
same_side B B = true

-- of the two the one that this isn't
abbrev pub other_side : Side → Side
other_side A = B
other_side B = A
