-- How octets move in several calls.
use Rattle.std.specs.Prelude.{◌≡◌, ◌++◌, ℕ, Bool, true, false, List, [], Option}
use Rattle.std.specs.Io.KnownBytes.{Appends, Consumes, IsAtEnd}

-- the known octets grew by these, but for the last of them, which wait
abbrev pub TakesAllBut : Option (List ℕ) → Option (List ℕ) → List ℕ → List ℕ → Type 0
TakesAllBut old new octets waiting = (front : List ℕ) × (octets ≡ front ++ waiting) × Appends old new front

-- octets grew by what a read took from the front of those to come, or there were none to come
abbrev pub AddsRead : Bool → Option (List ℕ) → Option (List ℕ) → List ℕ → List ℕ → Type 0
AddsRead true before after old new = (gained : List ℕ) × (new ≡ old ++ gained) × Consumes before after gained
AddsRead false before after old new = (new ≡ old) × Consumes before after [] × IsAtEnd after
