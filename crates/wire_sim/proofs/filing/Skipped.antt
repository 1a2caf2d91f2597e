-- What is read off the first openings stays the same while the last of them is filed under another number.
use Rattle.std.proofs.Common.{◌≡◌, ◌≢◌, ℕ, zero, suc, ◌+◌, ◌-◌, ◌%◌, ◌<◌, ◌≤◌, Bool, true, false, List, [], ◌∷◌, length, get_or, map, refl, ◌∙◌, ap, arith}
use Rattle.std.proofs.lemmas.List.{get_or-map}
use Rattle.wire_sim.specs.declared.event.Opening.{Opening}
use Rattle.wire_sim.specs.Filing.{EndsAt, chain_at}

steady_over : {A : Type 0} (F : ℕ → A) (r k : ℕ) → ((i : ℕ) → r ≤ i → i < r + k → F (suc i) ≡ F i) → F (r + k) ≡ F r
steady_over F r zero step = let e : r + 0 ≡ r = omega arith in ap F e
steady_over F r (suc k) step =
    let e : r + suc k ≡ suc (r + k) = omega arith in
    ap F e ∙ step (r + k) (omega arith) (omega arith) ∙ steady_over F r k (λ i from below. step i from (omega arith))

steady : {A : Type 0} (F : ℕ → A) (r n : ℕ) → r ≤ n → ((i : ℕ) → r ≤ i → i < n → F (suc i) ≡ F i) → F n ≡ F r
steady F r n le step =
    let e : n ≡ r + (n - r) = omega arith in
    ap F e ∙ steady_over F r (n - r) (λ i from below. step i from (omega arith))

-- an opening that is filed under another number fails the test
fails : (test : Opening → Bool) (number_of : Opening → ℕ) (os : List Opening) (numbers : List ℕ) (number size i : ℕ) (o : Opening) → numbers ≡ map number_of os
    → ((x : Opening) → test x ≡ true → number_of x ≡ number) → i < length os → chain_at size numbers i ≢ number % size → (b : Bool) → test (get_or os i o) ≡ b → test (get_or os i o) ≡ false
fails test number_of os numbers number size i o filed sound below other true is =
    absurd (other (ap (λ (ns : List ℕ). get_or ns i 0 % size) filed ∙ ap (λ (v : ℕ). v % size) (get_or-map number_of os i o 0 below ∙ sound (get_or os i o) is)))
fails test number_of os numbers number size i o filed sound below other false is = is

skipped_one : {A : Type 0} (F : ℕ → A) (test : Opening → Bool) (number_of : Opening → ℕ) (os : List Opening) (numbers : List ℕ) (number size i : ℕ) → numbers ≡ map number_of os
    → ((x : Opening) → test x ≡ true → number_of x ≡ number) → ((o : Opening) → test (get_or os i o) ≡ false → F (suc i) ≡ F i) → i < length os → chain_at size numbers i ≢ number % size → F (suc i) ≡ F i
skipped_one F test number_of [] numbers number size i filed sound step below other = absurd (omega arith)
skipped_one F test number_of (o ∷ os) numbers number size i filed sound step below other =
    step o (fails test number_of (o ∷ os) numbers number size i o filed sound below other (test (get_or (o ∷ os) i o)) refl)

-- so all of them may be skipped down to the last one of the chain
pub skipped : {A : Type 0} (F : ℕ → A) (test : Opening → Bool) (number_of : Opening → ℕ) (os : List Opening) (numbers : List ℕ) (number size n r : ℕ) → numbers ≡ map number_of os
    → ((x : Opening) → test x ≡ true → number_of x ≡ number) → ((i : ℕ) (o : Opening) → i < length os → test (get_or os i o) ≡ false → F (suc i) ≡ F i) → n ≤ length os
    → EndsAt (chain_at size numbers) (number % size) n r → F n ≡ F r
skipped F test number_of os numbers number size n r filed sound step le at =
    steady F r n at.within (λ i from below.
    let inside : i < length os = omega arith in
    skipped_one F test number_of os numbers number size i filed sound (λ o. step i o inside) inside (at.past i from below))
