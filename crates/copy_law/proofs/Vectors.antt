-- Octets as a program holds them, which some definitions of a world want.
use Rattle.std.proofs.Common.{ℕ, ◌<◌, ◌≤◌, ◌^◌, List, length, arith, refl}
use Rattle.std.specs.Global.{Vec}
use denote.RawPtr.{null_ptr}

pub le_same : (n : ℕ) → n ≤ n
le_same n = omega arith

-- these octets, somewhere
abbrev pub held : (octets : List ℕ) → length octets < 2 ^ 63 → Vec ℕ
held octets small = record { ptr = null_ptr; len = length octets; cap = length octets; alloc = record { memory = record { seal = tt } }; items = octets; ok = (refl, le_same (length octets)); small = small }
