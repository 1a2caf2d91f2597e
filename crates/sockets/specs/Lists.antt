-- The first element of a list that passes a test.
use Rattle.std.specs.Prelude.{Bool, cond, List, [], ◌∷◌}

-- the first element that passes the test is changed, and the others stay
abbrev pub change_first : {X : Type 0} → (X → Bool) → (X → X) → List X → List X
change_first test change [] = []
change_first test change (x ∷ xs) = cond (test x) (change x ∷ xs) (x ∷ change_first test change xs)

-- the first element that passes is taken out
abbrev pub remove_first : {X : Type 0} → (X → Bool) → List X → List X
remove_first test [] = []
remove_first test (x ∷ xs) = cond (test x) xs (x ∷ remove_first test xs)
