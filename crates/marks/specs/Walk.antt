-- How the first moment that has come is looked for, from a leaf on, in a tree of least moments.
use Rattle.std.specs.Prelude.{◌≡◌, ℕ, ◌+◌, ◌*◌, ◌^◌, ◌<◌, ◌≤◌, List, length, get_or}
use Rattle.marks.specs.Tree.{at_place, never}

-- none of the leaves from one up to another has come
abbrev pub ArePassed : List ℕ → ℕ → ℕ → ℕ → Type 0
ArePassed leaves now from to = (leaf : ℕ) → from ≤ leaf → leaf < to → now < get_or leaves leaf never

-- below this node of a tree of so many nodes lie 2 ^ height leaves, of which this one is the first
pub record Stands (nodes node start height : ℕ) : Type 0 where
  pub place : node * 2 ^ height ≡ nodes + start
  pub within : start + 2 ^ height ≤ nodes

-- below this node lies the first leaf from a place on that has come
pub record LiesBelow (nodes leaves : List ℕ) (now from node : ℕ) : Type 0 where
  pub height : ℕ
  pub start : ℕ
  pub stands : Stands (length nodes) node start height
  pub behind : from ≤ start
  pub passed : ArePassed leaves now from start
  pub come : at_place nodes leaves node ≤ now

-- no leaf from a place on up to those below this node has come, and this is where its level ends
pub record IsReached (nodes leaves : List ℕ) (now from node end : ℕ) : Type 0 where
  pub height : ℕ
  pub level : ℕ
  pub start : ℕ
  pub place : node * 2 ^ height ≡ length nodes + start
  pub last : end * 2 ^ height ≡ length nodes + length nodes
  pub power : end ≡ 2 ^ level
  pub within : node ≤ end
  pub behind : from ≤ start
  pub passed : ArePassed leaves now from start

-- this leaf is the first from a place on that has come
pub record IsFirst (leaves : List ℕ) (now from leaf : ℕ) : Type 0 where
  pub behind : from ≤ leaf
  pub passed : ArePassed leaves now from leaf
  pub come : get_or leaves leaf never ≤ now
