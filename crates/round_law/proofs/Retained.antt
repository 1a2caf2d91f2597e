-- Lists of which a front stays as it is.
use Rattle.std.proofs.Common.{◌≡◌, Bool, true, false, cond, List, [], ◌∷◌, ◌++◌, Some, None, refl, ◌∙◌, ap}
use Rattle.std.specs.List.{find, retain_mut, AllByRecursion}
use Rattle.sockets.specs.Lists.{change_first}

-- an element passes the test, and the change leaves it
abbrev pub StaysSame : {X : Type 0} → (X → Bool) → (X → X) → X → Type 0
StaysSame test change x = (test x ≡ true) × (change x ≡ x)

pub front_retained : {X : Type 0} (test : X → Bool) (change : X → X) (xs ys : List X) → AllByRecursion (StaysSame test change) xs → retain_mut test change (xs ++ ys) ≡ xs ++ retain_mut test change ys
front_retained test change [] ys all = refl
front_retained test change (x ∷ xs) ys all =
    let rest = retain_mut test change (xs ++ ys) in
    ap (λ b. cond b (change x ∷ rest) rest) all.0.0 ∙ (ap (λ y. y ∷ rest) all.0.1 ∙ ap (λ l. x ∷ l) (front_retained test change xs ys all.1))

pub all_retained : {X : Type 0} (test : X → Bool) (change : X → X) (xs : List X) → AllByRecursion (StaysSame test change) xs → retain_mut test change xs ≡ xs
all_retained test change [] all = refl
all_retained test change (x ∷ xs) all =
    let rest = retain_mut test change xs in
    ap (λ b. cond b (change x ∷ rest) rest) all.0.0 ∙ (ap (λ y. y ∷ rest) all.0.1 ∙ ap (λ l. x ∷ l) (all_retained test change xs all.1))

-- one of them stays in its place, and changes
pub one_retained : {X : Type 0} (test : X → Bool) (change : X → X) (before : List X) (x : X) (behind : List X) → AllByRecursion (StaysSame test change) before → AllByRecursion (StaysSame test change) behind → test x ≡ true
    → retain_mut test change (before ++ x ∷ behind) ≡ before ++ change x ∷ behind
one_retained test change before x behind front back kept =
    let rest = retain_mut test change behind in
    front_retained test change before (x ∷ behind) front
    ∙ (ap (λ b. before ++ cond b (change x ∷ rest) rest) kept ∙ ap (λ l. before ++ change x ∷ l) (all_retained test change behind back))

-- what holds of all of two parts, and of the one between them
pub all_front : {X : Type 0} (P : X → Type 0) (xs ys : List X) → AllByRecursion P (xs ++ ys) → AllByRecursion P xs
all_front P [] ys all = tt
all_front P (x ∷ xs) ys all = (all.0, all_front P xs ys all.1)

pub all_back : {X : Type 0} (P : X → Type 0) (xs ys : List X) → AllByRecursion P (xs ++ ys) → AllByRecursion P ys
all_back P [] ys all = all
all_back P (x ∷ xs) ys all = all_back P xs ys all.1

-- what follows from three that hold of all
pub all_by : {X : Type 0} (P Q R S : X → Type 0) → ((x : X) → P x → Q x → R x → S x) → (xs : List X) → AllByRecursion P xs → AllByRecursion Q xs → AllByRecursion R xs → AllByRecursion S xs
all_by P Q R S follows [] p q r = tt
all_by P Q R S follows (x ∷ xs) p q r = (follows x p.0 q.0 r.0, all_by P Q R S follows xs p.1 q.1 r.1)

-- what holds of each follows of all
pub all_of : {X : Type 0} (P Q : X → Type 0) → ((x : X) → P x → Q x) → (xs : List X) → AllByRecursion P xs → AllByRecursion Q xs
all_of P Q follows [] p = tt
all_of P Q follows (x ∷ xs) p = (follows x p.0, all_of P Q follows xs p.1)

-- The first that passes a test, behind a front of which none does.

abbrev pub Fails : {X : Type 0} → (X → Bool) → X → Type 0
Fails test x = test x ≡ false

pub found_behind : {X : Type 0} (test : X → Bool) (before : List X) (x : X) (behind : List X) → AllByRecursion (Fails test) before → test x ≡ true → find test (before ++ x ∷ behind) ≡ Some x
found_behind test [] x behind fail passes = ap (λ b. cond b (Some x) (find test behind)) passes
found_behind test (y ∷ before) x behind fail passes = ap (λ b. cond b (Some y) (find test (before ++ x ∷ behind))) fail.0 ∙ found_behind test before x behind fail.1 passes

pub none_found : {X : Type 0} (test : X → Bool) (xs : List X) → AllByRecursion (Fails test) xs → find test xs ≡ None
none_found test [] fail = refl
none_found test (x ∷ xs) fail = ap (λ b. cond b (Some x) (find test xs)) fail.0 ∙ none_found test xs fail.1

pub changed_behind : {X : Type 0} (test : X → Bool) (change : X → X) (before : List X) (x : X) (behind : List X) → AllByRecursion (Fails test) before → test x ≡ true
    → change_first test change (before ++ x ∷ behind) ≡ before ++ change x ∷ behind
changed_behind test change [] x behind fail passes = ap (λ b. cond b (change x ∷ behind) (x ∷ change_first test change behind)) passes
changed_behind test change (y ∷ before) x behind fail passes =
    let rest = before ++ x ∷ behind in
    ap (λ b. cond b (change y ∷ rest) (y ∷ change_first test change rest)) fail.0 ∙ ap (λ l. y ∷ l) (changed_behind test change before x behind fail.1 passes)

pub all_parts : {X : Type 0} (P : X → Type 0) (xs ys : List X) → AllByRecursion P xs → AllByRecursion P ys → AllByRecursion P (xs ++ ys)
all_parts P [] ys front back = back
all_parts P (x ∷ xs) ys front back = (front.0, all_parts P xs ys front.1 back)
