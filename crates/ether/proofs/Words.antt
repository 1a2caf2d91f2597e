-- Addresses compared by numbers: one of their first four octets, and one of their last two.
use Rattle.std.proofs.Common.{◌≡◌, ℕ, ◌+◌, ◌*◌, ◌<◌, ◌&&◌, true, nat_eq, List, [], ◌∷◌, length, get_or, Fits, w8, arith}
use Rattle.std.proofs.lemmas.Bool.{eq-eqb}
use Rattle.std.proofs.lemmas.Bool.Decides.{nat_tests}
use Rattle.std.specs.Cmp.Lexicographic.{pointwise}
use Rattle.ether.proofs.Framing.{six}

-- two octets are those of another number of two exactly where the numbers are equal
same_two : (a b x y : ℕ) → a < 256 → x < 256 → nat_eq (a + b * 256) (x + y * 256) ≡ (nat_eq a x && (nat_eq b y && true))
same_two a b x y a_fits x_fits = grind (arith, nat_tests)

-- where the first four octets are the same number, the last two decide
same_six : (a0 a1 a2 a3 a4 a5 b0 b1 b2 b3 b4 b5 : ℕ) → a0 < 256 → a1 < 256 → a2 < 256 → a3 < 256 → a4 < 256
    → b0 < 256 → b1 < 256 → b2 < 256 → b3 < 256 → b4 < 256
    → a0 + a1 * 256 + a2 * 65536 + a3 * 16777216 ≡ b0 + b1 * 256 + b2 * 65536 + b3 * 16777216
    → nat_eq (a4 + a5 * 256) (b4 + b5 * 256) ≡ pointwise nat_eq (a0 ∷ a1 ∷ a2 ∷ a3 ∷ a4 ∷ a5 ∷ []) (b0 ∷ b1 ∷ b2 ∷ b3 ∷ b4 ∷ b5 ∷ [])
same_six a0 a1 a2 a3 a4 a5 b0 b1 b2 b3 b4 b5 p0 p1 p2 p3 p4 q0 q1 q2 q3 q4 same =
    let e0 : nat_eq a0 b0 ≡ true = eq-eqb a0 b0 (omega (arith, p0, p1, p2, p3, q0, q1, q2, q3, same)) in
    let e1 : nat_eq a1 b1 ≡ true = eq-eqb a1 b1 (omega (arith, p0, p1, p2, p3, q0, q1, q2, q3, same)) in
    let e2 : nat_eq a2 b2 ≡ true = eq-eqb a2 b2 (omega (arith, p0, p1, p2, p3, q0, q1, q2, q3, same)) in
    let e3 : nat_eq a3 b3 ≡ true = eq-eqb a3 b3 (omega (arith, p0, p1, p2, p3, q0, q1, q2, q3, same)) in
    rw (e0, e1, e2, e3) (same_two a4 a5 b4 b5 p4 q4)

pub same_words : (xs ys : List ℕ) → length xs ≡ 6 → length ys ≡ 6 → ((k : ℕ) → Fits w8 (get_or xs k 0)) → ((k : ℕ) → Fits w8 (get_or ys k 0))
    → get_or xs 0 0 + get_or xs 1 0 * 256 + get_or xs 2 0 * 65536 + get_or xs 3 0 * 16777216 ≡ get_or ys 0 0 + get_or ys 1 0 * 256 + get_or ys 2 0 * 65536 + get_or ys 3 0 * 16777216
    → nat_eq (get_or xs 4 0 + get_or xs 5 0 * 256) (get_or ys 4 0 + get_or ys 5 0 * 256) ≡ pointwise nat_eq xs ys
same_words xs ys xs_six ys_six xs_fit ys_fit same =
    rw (six xs xs_six, six ys ys_six)
    (same_six (get_or xs 0 0) (get_or xs 1 0) (get_or xs 2 0) (get_or xs 3 0) (get_or xs 4 0) (get_or xs 5 0)
    (get_or ys 0 0) (get_or ys 1 0) (get_or ys 2 0) (get_or ys 3 0) (get_or ys 4 0) (get_or ys 5 0)
    (xs_fit 0).fits (xs_fit 1).fits (xs_fit 2).fits (xs_fit 3).fits (xs_fit 4).fits
    (ys_fit 0).fits (ys_fit 1).fits (ys_fit 2).fits (ys_fit 3).fits (ys_fit 4).fits same)
