-- The length of a frame, of which 32 bits are told.
use Rattle.std.proofs.Common.{◌≡◌, ℕ, ◌/◌, ◌%◌, List, [], ◌∷◌, ◌++◌, refl, sym, ap, ◌∙◌, arith}

low_0 : (n : ℕ) → n % 4294967296 % 256 ≡ n % 256
low_0 n = omega arith

low_1 : (n : ℕ) → n % 4294967296 / 256 % 256 ≡ n / 256 % 256
low_1 n = omega arith

low_2 : (n : ℕ) → n % 4294967296 / 65536 % 256 ≡ n / 65536 % 256
low_2 n = omega arith

low_3 : (n : ℕ) → n % 4294967296 / 16777216 % 256 ≡ n / 16777216 % 256
low_3 n = omega arith

-- the four octets of a number
four : ℕ → List ℕ
four n = n % 256 ∷ n / 256 % 256 ∷ n / 65536 % 256 ∷ n / 16777216 % 256 ∷ []

-- they are those of its lowest 32 bits
low : (n : ℕ) → four (n % 4294967296) ≡ four n
unfolding four
low n = rw (low_0 n, low_1 n, low_2 n, low_3 n) refl

-- they stand twice behind what tells the moment
pub told_twice : (front : List ℕ) (n len told : ℕ) → n ≡ len → told ≡ len % 4294967296 →
    front ++ (told % 256 ∷ told / 256 % 256 ∷ told / 65536 % 256 ∷ told / 16777216 % 256 ∷ told % 256 ∷ told / 256 % 256 ∷ told / 65536 % 256
    ∷ told / 16777216 % 256 ∷ [])
    ≡ front ++ (n % 256 ∷ n / 256 % 256 ∷ n / 65536 % 256 ∷ n / 16777216 % 256 ∷ n % 256 ∷ n / 256 % 256 ∷ n / 65536 % 256 ∷ n / 16777216 % 256 ∷ [])
unfolding four
told_twice front n len told is low_of =
    ap (λ t. front ++ (four t ++ four t)) low_of ∙ ap (λ f. front ++ (f ++ f)) (low len) ∙ ap (λ t. front ++ (four t ++ four t)) (sym is)
