-- Numbers in either order, and what stands behind them.
use Rattle.std.proofs.Common.{◌≡◌, ℕ, ◌+◌, ◌<◌, ◌^◌, List, ◌++◌, length, drop, slice_index, sym, ◌∙◌, ap}
use Rattle.std.proofs.lemmas.List.{drop-drop, drop_at}
use Rattle.byteorder.specs.Numbers.{big_number-reads_back, little_number-reads_back, length-bytes_high_first, length-bytes_low_first, big_from-lt, little_from-lt}
use Rattle.capture.specs.declared.format.Order.{Order}
use Rattle.capture.specs.declared.format.Order.TheVariants.{Big, Little}
use Rattle.capture.specs.Capture.{number_in, number_octets}

-- each item is an octet
abbrev pub AreOctets : List ℕ → Type 0
AreOctets xs = (i : ℕ) → slice_index xs i < 256

-- what was written is read
pub number_back : (o : Order) (n x : ℕ) (rest : List ℕ) → x < 256 ^ n → number_in o n (number_octets o n x ++ rest) ≡ x
number_back Little n x rest fits = little_number-reads_back n x rest fits
number_back Big n x rest fits = big_number-reads_back n x rest fits

pub length-number : (o : Order) (n x : ℕ) → length (number_octets o n x) ≡ n
length-number Little n x = length-bytes_low_first 0 n x
length-number Big n x = length-bytes_high_first n x

-- what is read fits
pub number_fits : (o : Order) (n : ℕ) (xs : List ℕ) → AreOctets xs → number_in o n xs < 256 ^ n
number_fits Little n xs each = little_from-lt 0 n xs each
number_fits Big n xs each = big_from-lt 0 n xs each

-- what stands behind one part
pub behind : (n m : ℕ) (xs p q : List ℕ) → drop n xs ≡ p ++ q → length p ≡ m → drop (n + m) xs ≡ q
behind n m xs p q e len = sym (drop-drop m n xs) ∙ (ap (drop m) e ∙ drop_at p q m len)
