-- Words, and what they come to by their halves.
use Rattle.std.proofs.Common.{◌≡◌, ℕ, zero, suc, ◌+◌, ◌*◌, ◌/◌, ◌%◌, ◌^◌, ◌<◌, ◌≤◌, List, [], ◌∷◌, ◌++◌, length, take, drop, refl, sym, ◌∙◌, ap, length-drop, arith}
use Rattle.std.proofs.lemmas.List.{take-append-le, drop-append-le, length-take-le}
use Rattle.std.proofs.Math.Nat.{mul_assoc, pow-succ'}
use Rattle.std.specs.Simd.Lanes.{number_l, Each1}
use Rattle.inet_sum.specs.Lanes.{wide_sum, words_sum, uppers_sum}

abbrev IsOctet : ℕ → Type 0
IsOctet octet = octet < 256

-- what is taken from octets, or left of them, is octets
octets_taken : (k : ℕ) (xs : List ℕ) → Each1 IsOctet xs → Each1 IsOctet (take k xs)
octets_taken zero xs fit = tt
octets_taken (suc k) [] fit = tt
octets_taken (suc k) (x ∷ xs) fit = (fit.0, octets_taken k xs fit.1)

octets_left : (k : ℕ) (xs : List ℕ) → Each1 IsOctet xs → Each1 IsOctet (drop k xs)
octets_left zero xs fit = fit
octets_left (suc k) [] fit = tt
octets_left (suc k) (x ∷ xs) fit = octets_left k xs fit.1

-- a number splits where its octets do
number_split : (k power : ℕ) (xs : List ℕ) → 256 ^ k ≡ power → number_l 256 xs ≡ number_l 256 (take k xs) + power * number_l 256 (drop k xs)
number_split zero power xs is = rw (← is) (omega arith)
number_split (suc k) power [] is = omega arith
number_split (suc k) power (x ∷ xs) is =
    let rest = number_l 256 (drop k xs) in
    let whole : power * rest ≡ 256 * (256 ^ k * rest) = ap (λ (n : ℕ). n * rest) (sym is ∙ pow-succ' 256 k) ∙ mul_assoc 256 (256 ^ k) rest in
    omega (arith, number_split k (256 ^ k) xs refl, whole)

number_fits : (xs : List ℕ) → Each1 IsOctet xs → number_l 256 xs < 256 ^ length xs
number_fits [] fit = omega arith
number_fits (x ∷ xs) fit = omega (arith, fit.0, number_fits xs fit.1, pow-succ' 256 (length xs))

-- so many octets are a number below a power of 256
fits_in : (k : ℕ) (xs : List ℕ) → Each1 IsOctet xs → k ≤ length xs → number_l 256 (take k xs) < 256 ^ k
fits_in k xs fit long = rw (length-take-le k xs long) at (number_fits (take k xs) (octets_taken k xs fit))

-- the first word of a number, and the rest
pub first_word : (xs : List ℕ) → Each1 IsOctet xs → 8 ≤ length xs
    → (number_l 256 xs % 2 ^ 64 ≡ number_l 256 (take 8 xs)) × (number_l 256 xs / 2 ^ 64 ≡ number_l 256 (drop 8 xs))
first_word xs fit long =
    let split : number_l 256 xs ≡ number_l 256 (take 8 xs) + 2 ^ 64 * number_l 256 (drop 8 xs) = number_split 8 (2 ^ 64) xs refl in
    let within : number_l 256 (take 8 xs) < 2 ^ 64 = fits_in 8 xs fit long in
    (omega (arith, split, within), omega (arith, split, within))

-- words behind others
pub words_sum-append : (count more total : ℕ) (xs ys : List ℕ) → total ≡ count + more → length xs ≡ 8 * count
    → words_sum total (xs ++ ys) ≡ words_sum count xs + words_sum more ys
words_sum-append zero more total [] ys is whole =
    let same : total ≡ more = omega (arith, is) in
    rw same (omega arith)
words_sum-append zero more total (x ∷ xs) ys is whole = absurd (omega (arith, whole))
words_sum-append (suc count) more zero xs ys is whole = absurd (omega (arith, is))
words_sum-append (suc count) more (suc total) xs ys is whole =
    let long : 8 ≤ length xs = omega (arith, whole) in
    let fewer : length (drop 8 xs) ≡ 8 * count = omega (arith, whole, length-drop 8 xs) in
    let first : take 8 (xs ++ ys) ≡ take 8 xs = take-append-le 8 xs ys long in
    let rest : drop 8 (xs ++ ys) ≡ drop 8 xs ++ ys = drop-append-le 8 xs ys long in
    ap (λ (zs : List ℕ). number_l 256 zs + words_sum total (drop 8 (xs ++ ys))) first
    ∙ ap (λ (zs : List ℕ). number_l 256 (take 8 xs) + words_sum total zs) rest
    ∙ omega (arith, words_sum-append count more total (drop 8 xs) ys (omega (arith, is)) fewer)

-- so many words are their halves, and the halves are 32-bit words
pub halves_sum : (count : ℕ) (xs : List ℕ) → Each1 IsOctet xs → length xs ≡ 8 * count
    → (words_sum count xs + uppers_sum count xs ≡ wide_sum xs + 2 ^ 32 * uppers_sum count xs)
    × (uppers_sum count xs ≤ wide_sum xs)
halves_sum zero [] fit whole = (omega arith, omega arith)
halves_sum zero (x ∷ xs) fit whole = absurd (omega (arith, whole))
halves_sum (suc count) (a ∷ b ∷ c ∷ d ∷ e ∷ f ∷ g ∷ h ∷ rest) fit whole =
    let fewer = halves_sum count rest fit.1.1.1.1.1.1.1.1 (omega (arith, whole)) in
    (omega (arith, fewer.0), omega (arith, fewer.1))
halves_sum (suc count) [] fit whole = absurd (omega (arith, whole))
halves_sum (suc count) (a ∷ []) fit whole = absurd (omega (arith, whole))
halves_sum (suc count) (a ∷ b ∷ []) fit whole = absurd (omega (arith, whole))
halves_sum (suc count) (a ∷ b ∷ c ∷ []) fit whole = absurd (omega (arith, whole))
halves_sum (suc count) (a ∷ b ∷ c ∷ d ∷ []) fit whole = absurd (omega (arith, whole))
halves_sum (suc count) (a ∷ b ∷ c ∷ d ∷ e ∷ []) fit whole = absurd (omega (arith, whole))
halves_sum (suc count) (a ∷ b ∷ c ∷ d ∷ e ∷ f ∷ []) fit whole = absurd (omega (arith, whole))
halves_sum (suc count) (a ∷ b ∷ c ∷ d ∷ e ∷ f ∷ g ∷ []) fit whole = absurd (omega (arith, whole))

-- the four words of 32 octets
record Quarters (octets : List ℕ) (n : ℕ) : Type 0 where
  first : n % 2 ^ 64 ≡ number_l 256 (take 8 octets)
  second : n / 2 ^ 64 % 2 ^ 64 ≡ number_l 256 (take 8 (drop 8 octets))
  rest : n / 2 ^ 64 / 2 ^ 64 ≡ number_l 256 (drop 8 (drop 8 octets))

quarters : (octets : List ℕ) (n : ℕ) → n ≡ number_l 256 octets → Each1 IsOctet octets → 16 ≤ length octets → Quarters octets n
quarters octets n is fit size =
    let size-2 : 8 ≤ length (drop 8 octets) = omega (arith, size, length-drop 8 octets) in
    let fit-2 = octets_left 8 octets fit in
    let one = first_word octets fit (omega (arith, size)) in
    let two = first_word (drop 8 octets) fit-2 size-2 in
    let behind : n / 2 ^ 64 ≡ number_l 256 (drop 8 octets) = ap (λ (m : ℕ). m / 2 ^ 64) is ∙ one.1 in
    record {
      first = ap (λ (m : ℕ). m % 2 ^ 64) is ∙ one.0;
      second = ap (λ (m : ℕ). m % 2 ^ 64) behind ∙ two.0;
      rest = ap (λ (m : ℕ). m / 2 ^ 64) behind ∙ two.1;
    }

-- their sum
pub four_words : (octets : List ℕ) (n : ℕ) → n ≡ number_l 256 octets → Each1 IsOctet octets → length octets ≡ 32
    → n % 2 ^ 64 + n / 2 ^ 64 % 2 ^ 64 + n / 2 ^ 64 / 2 ^ 64 % 2 ^ 64 + n / 2 ^ 64 / 2 ^ 64 / 2 ^ 64 % 2 ^ 64 ≡ words_sum 4 octets
four_words octets n is fit size =
    let half = drop 8 (drop 8 octets) in
    let front = quarters octets n is fit (omega (arith, size)) in
    let room : 16 ≤ length half = omega (arith, size, length-drop 8 octets, length-drop 8 (drop 8 octets)) in
    let back = quarters half (n / 2 ^ 64 / 2 ^ 64) front.rest (octets_left 8 (drop 8 octets) (octets_left 8 octets fit)) room in
    omega (arith, front.first, front.second, back.first, back.second)

-- 32-bit words are no more than octets fit
pub wide_fits : (xs : List ℕ) → Each1 IsOctet xs → wide_sum xs ≤ 2 ^ 32 * length xs
wide_fits [] fit = omega arith
wide_fits (a ∷ []) fit = omega (arith, fit.0)
wide_fits (a ∷ b ∷ []) fit = omega (arith, fit.0, fit.1.0)
wide_fits (a ∷ b ∷ c ∷ []) fit = omega (arith, fit.0, fit.1.0, fit.1.1.0)
wide_fits (a ∷ b ∷ c ∷ d ∷ rest) fit = omega (arith, fit.0, fit.1.0, fit.1.1.0, fit.1.1.1.0, wide_fits rest fit.1.1.1.1)

-- whole blocks stand apart from what follows them
pub wide_sum-append : (count : ℕ) (xs ys : List ℕ) → length xs ≡ 4 * count → wide_sum (xs ++ ys) ≡ wide_sum xs + wide_sum ys
wide_sum-append zero [] ys whole = omega arith
wide_sum-append zero (x ∷ xs) ys whole = absurd (omega (arith, whole))
wide_sum-append (suc count) [] ys whole = absurd (omega (arith, whole))
wide_sum-append (suc count) (a ∷ []) ys whole = absurd (omega (arith, whole))
wide_sum-append (suc count) (a ∷ b ∷ []) ys whole = absurd (omega (arith, whole))
wide_sum-append (suc count) (a ∷ b ∷ c ∷ []) ys whole = absurd (omega (arith, whole))
wide_sum-append (suc count) (a ∷ b ∷ c ∷ d ∷ rest) ys whole = omega (arith, wide_sum-append count rest ys (omega (arith, whole)))
