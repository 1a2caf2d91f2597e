-- A tree of least moments. Its nodes stand in a list, and the keys of the moments, its leaves, behind them: below the node at i stand what is at 2 * i and at 2 * i + 1.
use Rattle.std.specs.Prelude.{◌≡◌, ℕ, ◌+◌, ◌-◌, ◌*◌, ◌^◌, ◌<◌, ◌≤◌, min, List, ◌++◌, length, get_or, map, Option, Some, None}
use Rattle.std.specs.Int.{IsPowerOfTwo}
use Rattle.clock.specs.declared.moment.Moment.{Moment}

-- the key of no deadline, behind all others
abbrev pub never : ℕ
never = 2 ^ 64 - 1

-- a deadline as a number: the last two moments of the clock share one
abbrev pub key : Option Moment → ℕ
key None = 2 ^ 64 - 1
key (Some deadline) = min deadline.0 (2 ^ 64 - 2)

abbrev pub keys : List (Option Moment) → List ℕ
keys moments = map key moments

-- what stands at this place: a node, behind the nodes a leaf, and behind all of them never
abbrev pub at_place : List ℕ → List ℕ → ℕ → ℕ
at_place nodes leaves place = get_or (nodes ++ leaves) place never

-- the lesser of the two below this node
abbrev pub least_below : List ℕ → List ℕ → ℕ → ℕ
least_below nodes leaves node = min (at_place nodes leaves (2 * node)) (at_place nodes leaves (2 * node + 1))

-- each node is the lesser of the two below it, but for those from one place to another
pub record IsTreeBut (from to : ℕ) (nodes leaves : List ℕ) : Type 0 where
  pub right : (node : ℕ) → 0 < node → node < length nodes → (from ≤ node → to < node) → at_place nodes leaves node ≡ least_below nodes leaves node

-- each node is: the first is at 1
abbrev pub IsTree : List ℕ → List ℕ → Type 0
IsTree nodes leaves = IsTreeBut 0 0 nodes leaves

-- a tree whose leaves all lie as deep, with room for so many
pub record IsTreeOf (most : ℕ) (nodes : List ℕ) (moments : List (Option Moment)) : Type 0 where
  pub even : IsPowerOfTwo (length nodes)
  pub top : 1 < length nodes
  pub room : most ≤ length nodes
  pub held : length moments ≤ most
  pub tree : IsTree nodes (keys moments)
