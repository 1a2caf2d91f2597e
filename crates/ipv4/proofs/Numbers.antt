-- Addresses compared as numbers.
use Rattle.std.proofs.Common.{◌≡◌, ℕ, ◌+◌, ◌*◌, ◌<◌, ◌&&◌, true, nat_eq, List, length, get_or, Fits, w8, arith}
use Rattle.std.proofs.lemmas.Bool.Decides.{nat_tests}
use Rattle.std.specs.Cmp.Lexicographic.{pointwise}
use Rattle.ipv4.proofs.Sending.{four}

-- four octets are those of another number of four exactly where the numbers are equal
same_four : (a b c d x y z w : ℕ) → a < 256 → b < 256 → c < 256 → x < 256 → y < 256 → z < 256
    → nat_eq (a + b * 256 + c * 65536 + d * 16777216) (x + y * 256 + z * 65536 + w * 16777216) ≡ (nat_eq a x && (nat_eq b y && (nat_eq c z && (nat_eq d w && true))))
same_four a b c d x y z w a_fits b_fits c_fits x_fits y_fits z_fits = grind (arith, nat_tests)

pub same_number : (xs ys : List ℕ) → length xs ≡ 4 → length ys ≡ 4 → ((k : ℕ) → Fits w8 (get_or xs k 0)) → ((k : ℕ) → Fits w8 (get_or ys k 0))
    → nat_eq (get_or xs 0 0 + get_or xs 1 0 * 256 + get_or xs 2 0 * 65536 + get_or xs 3 0 * 16777216) (get_or ys 0 0 + get_or ys 1 0 * 256 + get_or ys 2 0 * 65536 + get_or ys 3 0 * 16777216) ≡ pointwise nat_eq xs ys
same_number xs ys xs_four ys_four xs_fit ys_fit =
    rw (four xs xs_four, four ys ys_four)
    (same_four (get_or xs 0 0) (get_or xs 1 0) (get_or xs 2 0) (get_or xs 3 0) (get_or ys 0 0) (get_or ys 1 0) (get_or ys 2 0) (get_or ys 3 0)
    (xs_fit 0).fits (xs_fit 1).fits (xs_fit 2).fits (ys_fit 0).fits (ys_fit 1).fits (ys_fit 2).fits)
