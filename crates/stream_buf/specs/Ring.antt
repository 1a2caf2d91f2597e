-- What is seen of a ring, and how its octets lie in its block: from a place on, round its end. The contracts of the buffers do not rest
-- on this page.
use Rattle.std.specs.Prelude.{◌≡◌, ◌⊎◌, ℕ, ◌+◌, ◌≤◌, List, ◌++◌, length, take, drop}

-- the octets, from the front to the back, and how many there may be
pub record Buffer : Type 0 where
  pub items : List ℕ
  pub capacity : ℕ

abbrev pub buffer : List ℕ → ℕ → Buffer
buffer items capacity = record { items = items; capacity = capacity }

-- the octets from a place on, and behind the end those in front of it
abbrev pub turned : ℕ → List ℕ → List ℕ
turned start block = drop start block ++ take start block

-- Of the places of a block the first ones were written. So many octets are in use, from a place on, and so many there may be.
abbrev pub ring_view : List ℕ → ℕ → ℕ → ℕ → Buffer
ring_view written capacity start len = buffer (take len (turned start written)) capacity

-- The place is one of those that were written, or their end, and no more octets are in use than these are; and they go round the end only where every place of the
-- block was written.
pub record IsRing (written : List ℕ) (capacity start len : ℕ) : Type 0 where
  pub there : start ≤ length written
  pub fits : len ≤ length written
  pub places : length written ≤ capacity
  pub round : (start + len ≤ length written) ⊎ (length written ≡ capacity)

-- these octets stand in the place of as many others, from a place on
abbrev pub overlaid : ℕ → List ℕ → List ℕ → List ℕ
overlaid at new octets = take at octets ++ new ++ drop (at + length new) octets
