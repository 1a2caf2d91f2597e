-- The order of sequence numbers as a test, and the later of two (RFC 9293 section 3.4).
use Rattle.std.specs.Prelude.{ℕ, Bool, ◌^◌, nat_le, if◌then◌else◌}
use Rattle.tcp_segment.specs.Wire.{past}

-- whether a stands before b: the difference in 32 bits, read as a signed number, is below zero
abbrev pub is_before : ℕ → ℕ → Bool
is_before a b = nat_le (2 ^ 31) (past a b)

-- the later of two numbers, both at or past una
abbrev pub later_number : ℕ → ℕ → ℕ → ℕ
later_number una a b = if nat_le (past a una) (past b una) then b else a
