-- What `retain` leaves, for callers of a `FixedVec`.
use Rattle.std.proofs.Common.{◌≡◌, Bool, cond, List, [], ◌∷◌, filter, subst, ◌∙◌}
use Rattle.std.specs.List.Retain.{RetainsInTurn}

-- where no call changes the closure or the element, `retain` leaves what passes the test
pub filter-from_retain : {X F : Type 0} (R : F → X → Bool → F → X → Type 0) (test : X → Bool) (f : F)
    → ((x : X) (b : Bool) (f' : F) (y : X) → R f x b f' y → (b ≡ test x) × (f' ≡ f) × (y ≡ x))
    → (xs ys : List X) → RetainsInTurn R f xs ys → ys ≡ filter test xs
filter-from_retain R test f says [] ys left = left
filter-from_retain R test f says (x ∷ xs) ys left =
    let said = says x left.0 left.1 left.2 left.3 in
    let later = subst (λ g. RetainsInTurn R g xs left.4) said.1 left.5 in
    let rest = filter-from_retain R test f says xs left.4 later in
    left.6 ∙ (λ i. cond (said.0 i) (said.2 i ∷ rest i) (rest i))
