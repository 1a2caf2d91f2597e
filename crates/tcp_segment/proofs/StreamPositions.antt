-- Stream positions and their sequence numbers (RFC 9293 section 3.4). Below, p and q are positions, and
-- a and b are numbers.
use Rattle.std.proofs.Common.{◌≡◌, ℕ, ◌+◌, ◌-◌, ◌%◌, ◌^◌, ◌<◌, ◌≤◌, ◌↔◌, pos, ◌-ℤ◌, arith}
use Rattle.std.proofs.lemmas.Int.{ints}
use Rattle.tcp_segment.specs.Wire.{wire, past, difference, IsBefore, IsAtMost}

-- a number is below 2 ^ 32, and so is a distance
pub wire-lt : (initial p : ℕ) → wire initial p < 2 ^ 32
wire-lt initial p = omega arith

pub past-lt : (a b : ℕ) → past a b < 2 ^ 32
past-lt a b = omega arith

-- a number is past itself by nothing
pub past_itself : (a : ℕ) → a < 2 ^ 32 → past a a ≡ 0
past_itself a h = omega arith

-- how far the number of a later position is past that of an earlier one
pub past-wire : (initial p q : ℕ) → p ≤ q → q - p < 2 ^ 32 → past (wire initial q) (wire initial p) ≡ q - p
past-wire initial p q order near = omega arith

-- and that of an earlier one past that of a later one
pub past-wire_back : (initial p q : ℕ) → p < q → q - p < 2 ^ 32 → past (wire initial p) (wire initial q) ≡ 2 ^ 32 - (q - p)
past-wire_back initial p q order near = omega arith

-- each number is that of a position at or past any position
pub wire-past : (initial p a : ℕ) → a < 2 ^ 32 → wire initial (p + past a (wire initial p)) ≡ a
wire-past initial p a h = omega arith

-- positions that are near have the same number only where they are one
pub wire_one : (initial p q : ℕ) → p ≤ q → q - p < 2 ^ 32 → wire initial p ≡ wire initial q → p ≡ q
wire_one initial p q order near same = omega arith

-- a length added to a number
pub wire-add : (initial p n : ℕ) → (wire initial p + n) % 2 ^ 32 ≡ wire initial (p + n)
wire-add initial p n = omega arith

pub past-add : (a n : ℕ) → a < 2 ^ 32 → n < 2 ^ 32 → past ((a + n) % 2 ^ 32) a ≡ n
past-add a n h k = omega arith

-- a number that is no further past the first than the last is, is that of a position between them
pub wire_between : (initial first last a : ℕ) → first ≤ last → last - first < 2 ^ 32 → a < 2 ^ 32
    → past a (wire initial first) ≤ past (wire initial last) (wire initial first)
    → (p : ℕ) × (first ≤ p) × (p ≤ last) × (a ≡ wire initial p)
wire_between initial first last a order near h inside =
    (first + past a (wire initial first), omega arith, omega arith, omega arith)

-- the signed difference of the numbers of positions that are near is that of the positions
pub difference-wire : (initial p q : ℕ) → p < q + 2 ^ 31 → q < p + 2 ^ 31 → difference (wire initial q) (wire initial p) ≡ pos q -ℤ pos p
difference-wire initial p q h k = grind (arith, ints)

-- and their order is that of the positions
pub is_before-wire : (initial p q : ℕ) → p < q + 2 ^ 31 → q < p + 2 ^ 31 → IsBefore (wire initial p) (wire initial q) ↔ (p < q)
is_before-wire initial p q h k = (λ before. grind (arith, ints), λ order. grind (arith, ints))

pub is_at_most-wire : (initial p q : ℕ) → p < q + 2 ^ 31 → q < p + 2 ^ 31 → IsAtMost (wire initial p) (wire initial q) ↔ (p ≤ q)
is_at_most-wire initial p q h k = (λ at_most. grind (arith, ints), λ order. grind (arith, ints))

-- the order of numbers by distances alone
pub is_before-past : (a b : ℕ) → a < 2 ^ 32 → b < 2 ^ 32 → IsBefore a b ↔ (2 ^ 31 ≤ past a b)
is_before-past a b h k = (λ before. grind (arith, ints), λ far. grind (arith, ints))

pub is_at_most-past : (a b : ℕ) → a < 2 ^ 32 → b < 2 ^ 32 → IsAtMost a b ↔ (past b a ≤ 2 ^ 31)
is_at_most-past a b h k = (λ at_most. grind (arith, ints), λ near. grind (arith, ints))
