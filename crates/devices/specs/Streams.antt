-- What a source and a sink say of themselves: how often they failed, and which octets they moved.
use Rattle.std.specs.Prelude.{◌≡◌, ℕ, ◌+◌, ◌-◌, ◌^◌, ◌++◌, Bool, true, ◌&&◌, ◌==◌, not, min, length, List, if◌then◌else◌, take, MatchResult, Option, Result, Ok, Err}
use Rattle.std.specs.Io.KnownBytes.{Appends, Keeps}

-- a count of failures after one more: 64 bits hold it, and at its last value it stays
abbrev pub one_more : ℕ → ℕ
one_more count = min (count + 1) (2 ^ 64 - 1)

-- a count of failures after a call that failed or didn't
abbrev pub counted : Bool → ℕ → ℕ
counted failed count = if failed then one_more count else count

-- a write fails where it answers an error, and where it takes nothing of some octets
abbrev pub write_fails : {E : Type 0} → Result ℕ E → List ℕ → Bool
write_fails (Err e) octets = true
write_fails (Ok n) octets = n == 0 && not (length octets == 0)

-- whether all that a sink took is handed on, after a write: not where that took octets
abbrev pub written_on : {E : Type 0} → Result ℕ E → Bool → Bool
written_on (Err e) flushed = flushed
written_on (Ok n) flushed = flushed && n == 0

-- and after a flush: it is, unless the flush failed and it wasn't before
abbrev pub handed_on : {E : Type 0} → Result (Unit {0}) E → Bool → Bool
handed_on (Err e) flushed = flushed
handed_on (Ok done) flushed = true

-- the known octets grew by what a read answered: the first n of the buffer, or nothing where it failed
abbrev pub ReadGives : {E : Type 0} → Option (List ℕ) → Option (List ℕ) → Result ℕ E → List ℕ → Type 0
ReadGives old new r buffer = MatchResult r (λ n. Appends old new (take n buffer)) (λ _. Keeps old new)

-- the known octets grew by a front of these
abbrev pub TakesFront : Option (List ℕ) → Option (List ℕ) → List ℕ → Type 0
TakesFront old new octets = (front : List ℕ) × (rest : List ℕ) × (octets ≡ front ++ rest) × Appends old new front
