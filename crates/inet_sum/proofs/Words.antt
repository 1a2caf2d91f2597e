-- How sums of words split, and which changes of a total leave its one's complement number as it is.
use Rattle.std.proofs.Common.{◌≡◌, ℕ, ◌+◌, ◌-◌, ◌*◌, List, [], ◌∷◌, ◌++◌, length, arith, ap, ◌∙◌}
use Rattle.inet_sum.specs.Sum.{word_sum, ones_complement}

-- the same number in one's complement, whatever is added
pub ones_complement-add : (a b c : ℕ) → ones_complement a ≡ ones_complement b → ones_complement (a + c) ≡ ones_complement (b + c)
ones_complement-add a b c same = grind arith

pub ones_complement-behind : (c a b : ℕ) → ones_complement a ≡ ones_complement b → ones_complement (c + a) ≡ ones_complement (c + b)
ones_complement-behind c a b same = grind arith

-- what is read as one number stays it when read again
pub ones_complement-ones_complement : (a : ℕ) → ones_complement (ones_complement a) ≡ ones_complement a
ones_complement-ones_complement a = grind arith

-- the words of an even number of octets stand apart from what follows them
pub word_sum-append : (first : List ℕ) (words : ℕ) (second : List ℕ) → length first ≡ 2 * words → word_sum (first ++ second) ≡ word_sum first + word_sum second
word_sum-append [] words second even = omega arith
word_sum-append (high ∷ []) words second even = absurd (omega arith)
word_sum-append (high ∷ low ∷ rest) words second even =
    let fewer : length rest ≡ 2 * (words - 1) = omega arith in
    omega (arith, word_sum-append rest (words - 1) second fewer)

-- a sum goes on from a sum
pub ones_complement-chain : (a b c d e f g h i : ℕ) → ones_complement b ≡ ones_complement (a + c) → ones_complement d ≡ ones_complement (b + e) → ones_complement f ≡ ones_complement (d + g)
    → ones_complement h ≡ ones_complement (f + i) → ones_complement h ≡ ones_complement (a + c + e + g + i)
ones_complement-chain a b c d e f g h i first second third fourth =
    fourth ∙ (ones_complement-add f (d + g) i third ∙ (ap ones_complement (regroup d g i) ∙ (ones_complement-add d (b + e) (g + i) second ∙ (ap ones_complement (regroup b e (g + i)) ∙ (ones_complement-add b (a + c) (e + (g + i)) first ∙ ap ones_complement (omega arith))))))
  where
    regroup : (x y z : ℕ) → (x + y) + z ≡ x + (y + z)
    regroup x y z = omega arith
