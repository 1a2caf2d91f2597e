-- The width of a ladder's lines, and the numbers in them.
use Rattle.std.proofs.Common.{◌≡◌, ◌++◌, ◌^◌, ◌<◌, ◌≤◌, ℕ, Bool, true, false, List, codes, length, take, get_or, [], ◌∷◌, nat_le, ap, refl, arith, if◌then◌else◌}
use Rattle.std.proofs.lemmas.List.{length-take-le, length-append}
use Rattle.std.proofs.lemmas.List.Elements.{All-map}
use Rattle.std.proofs.lemmas.Bool.{leb-true, leb-false}
use Rattle.std.specs.Fmt.{decimal}
use Rattle.tcp_segment.specs.declared.seq.Seq.{Seq}
use Rattle.tcp_segment.specs.Wire.{past, wire}
use Rattle.ladder.specs.Ladder.{EveryLineFits, fitted, lines_from, names_line}

width-by : (short : Bool) (line : List ℕ) → (short ≡ true → length line ≤ 80) → (short ≡ false → 80 < length line) →
    length (if short then line else take 78 line ++ codes "..") ≤ 80
width-by true line within over = within refl
width-by false line within over =
    let long : 80 < length line = over refl in
    let front : length (take 78 line) ≡ 78 = length-take-le 78 line (omega arith) in
    omega (arith, length-append (take 78 line) (codes ".."))

fitted-width : (line : List ℕ) → length (fitted line) ≤ 80
fitted-width line = width-by (nat_le (length line) 80) line (leb-true (length line) 80) (leb-false (length line) 80)

pub every-line : EveryLineFits
every-line r =
    All-map (λ line. length line ≤ 80) fitted (names_line ∷ lines_from r [] r.happened) (λ k d within. fitted-width (get_or (names_line ∷ lines_from r [] r.happened) k d))

past-wire : (initial position : ℕ) → initial < 2 ^ 32 → position < 2 ^ 32 → past (wire initial position) initial ≡ position
past-wire initial position small within = omega arith

pub at-position : (initial : Seq) (position : ℕ) → initial.0 < 2 ^ 32 → position < 2 ^ 32 → decimal (past (wire initial.0 position) initial.0) ≡ decimal position
at-position initial position small within = ap decimal (past-wire initial.0 position small within)
