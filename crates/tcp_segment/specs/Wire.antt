-- Positions in a stream, and the sequence numbers that stand for them on the wire (RFC 9293 section 3.4).
use Rattle.std.specs.Prelude.{ℕ, ◌+◌, ◌-◌, ◌%◌, ◌^◌, ℤ, pos, ◌<ℤ◌, ◌≤ℤ◌}
use Rattle.std.specs.Int.{w32, cast_signed}

-- the sequence number of a position: position 0 is the SYN, 1 to L are the octets, L + 1 is the FIN
abbrev pub wire : ℕ → ℕ → ℕ
wire initial position = (initial + position) % 2 ^ 32

-- how far the number a is past the number b
abbrev pub past : ℕ → ℕ → ℕ
past a b = (a + (2 ^ 32 - b)) % 2 ^ 32

-- how far a is past b, or before it where that is nearer: `past a b` as a signed number of 32 bits
abbrev pub difference : ℕ → ℕ → ℤ
difference a b = cast_signed w32 (past a b)

-- the order of numbers: by the sign of their difference
abbrev pub IsBefore : ℕ → ℕ → Type 0
IsBefore a b = difference a b <ℤ pos 0

abbrev pub IsAtMost : ℕ → ℕ → Type 0
IsAtMost a b = difference a b ≤ℤ pos 0
