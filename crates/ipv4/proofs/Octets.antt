-- Lists of octets, and the numbers that their first two and four spell (RFC 791, appendix B: the most significant octet first).
use Rattle.std.proofs.Common.{◌≡◌, ℕ, zero, suc, ◌<◌, ◌^◌, List, [], ◌∷◌, ◌++◌, length, All, get_or, take, drop, arith, sym, ⊎_elim, subst}
use Rattle.std.proofs.lemmas.Bool.{cases_lt}
use Rattle.std.proofs.lemmas.List.{get_or_past}
use Rattle.std.specs.Int.{byte_at}
use Rattle.byteorder.specs.Endian.{big_bytes, big_number}

-- each item is an octet
abbrev pub AreOctets : List ℕ → Type 0
AreOctets octets = (i : ℕ) → get_or octets i 0 < 256

-- of octets each is below 256, and so is what stands for one past them
pub each_octet : (octets : List ℕ) → All (λ octet. octet < 256) octets → AreOctets octets
each_octet octets each i =
    ⊎_elim (λ within. each i 0 within) (λ past. subst (λ n. n < 256) (sym (get_or_past octets i 0 past)) (omega arith)) (cases_lt i (length octets))

pub take_octets : (n : ℕ) (xs : List ℕ) → AreOctets xs → AreOctets (take n xs)
take_octets zero xs b i = omega arith
take_octets (suc n) [] b i = omega arith
take_octets (suc n) (x ∷ xs) b zero = b 0
take_octets (suc n) (x ∷ xs) b (suc i) = take_octets n xs (λ j. b (suc j)) i

pub drop_octets : (n : ℕ) (xs : List ℕ) → AreOctets xs → AreOctets (drop n xs)
drop_octets zero xs b i = b i
drop_octets (suc n) [] b i = omega arith
drop_octets (suc n) (x ∷ xs) b i = drop_octets n xs (λ j. b (suc j)) i

-- a number of 16 bits is spelled by the two octets that it is read of
pub two_spelled : (x y : ℕ) (rest : List ℕ) → x < 256 → y < 256
    → let n = big_number 2 (x ∷ y ∷ rest) in (x ∷ y ∷ rest ≡ big_bytes 2 n ++ rest) × (n < 2 ^ 16)
two_spelled x y rest x_fits y_fits =
    let n : ℕ = big_number 2 (x ∷ y ∷ rest) in
    let first : x ≡ byte_at 1 n = omega arith in
    let second : y ≡ byte_at 0 n = omega arith in
    let spelled : x ∷ y ∷ rest ≡ big_bytes 2 n ++ rest = cc in
    (spelled, omega arith)

-- and one of 32 bits by four
pub four_spelled : (w x y z : ℕ) (rest : List ℕ) → w < 256 → x < 256 → y < 256 → z < 256
    → let n = big_number 4 (w ∷ x ∷ y ∷ z ∷ rest) in (w ∷ x ∷ y ∷ z ∷ rest ≡ big_bytes 4 n ++ rest) × (n < 2 ^ 32)
four_spelled w x y z rest w_fits x_fits y_fits z_fits =
    let n : ℕ = big_number 4 (w ∷ x ∷ y ∷ z ∷ rest) in
    let first : w ≡ byte_at 3 n = omega arith in
    let second : x ≡ byte_at 2 n = omega arith in
    let third : y ≡ byte_at 1 n = omega arith in
    let fourth : z ≡ byte_at 0 n = omega arith in
    let spelled : w ∷ x ∷ y ∷ z ∷ rest ≡ big_bytes 4 n ++ rest = cc in
    (spelled, omega arith)
