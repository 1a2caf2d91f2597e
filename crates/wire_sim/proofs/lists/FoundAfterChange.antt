-- What a search finds in a list of which the first element that passes another test was changed.
use Rattle.std.proofs.Common.{◌≡◌, ℕ, zero, suc, Bool, true, false, cond, List, [], ◌∷◌, ◌++◌, map, filter, remove, Option, Some, None, option_map, refl, sym, ◌∙◌, ap, subst}
use Rattle.std.specs.List.{find, slice_get, AllByRecursion}
use Rattle.sockets.specs.Lists.{change_first, remove_first}

-- at most one element passes
abbrev pub IsSole : {X : Type 0} → (X → Bool) → List X → Type 0
IsSole t [] = Unit {0}
IsSole t (x ∷ xs) = (t x ≡ true → find t xs ≡ None) × IsSole t xs

-- what holds of every element holds of the one that is found
pub All-find : {X : Type 0} (P : X → Type 0) (t : X → Bool) (xs : List X) (x : X) → AllByRecursion P xs → find t xs ≡ Some x → P x
All-find {X} P t xs x = go xs
  where
    step : (y : X) (o : Option X) → P y → (o ≡ Some x → P x) → (b : Bool) → cond b (Some y) o ≡ Some x → P x
    step y o h more true e = let same : y ≡ x = cc in subst P same h
    step y o h more false e = more e

    go : (ys : List X) → AllByRecursion P ys → find t ys ≡ Some x → P x
    go [] h e = cc
    go (y ∷ ys) h e = step y (find t ys) h.0 (go ys h.1) (t y) e

-- what is found passes
pub find-passes : {X : Type 0} (t : X → Bool) (xs : List X) (x : X) → find t xs ≡ Some x → t x ≡ true
find-passes {X} t xs x = go xs
  where
    step : (y : X) (o : Option X) → (o ≡ Some x → t x ≡ true) → (b : Bool) → t y ≡ b → cond b (Some y) o ≡ Some x → t x ≡ true
    step y o more true is e = let same : y ≡ x = cc in ap t (sym same) ∙ is
    step y o more false is e = more e

    go : (ys : List X) → find t ys ≡ Some x → t x ≡ true
    go [] e = cc
    go (y ∷ ys) e = step y (find t ys) (go ys) (t y) refl e

-- a change that no test sees, and that shows the same, is not seen
pub shown-change_first : {X Y : Type 0} (s t : X → Bool) (f : X → X) (g : X → Y) → ((x : X) → t (f x) ≡ t x) → ((x : X) → g (f x) ≡ g x) → (xs : List X)
    → option_map g (find t (change_first s f xs)) ≡ option_map g (find t xs)
shown-change_first {X} {Y} s t f g tests shows = go
  where
    same : (x : X) (o : Option X) (b : Bool) → option_map g (cond b (Some (f x)) o) ≡ option_map g (cond b (Some x) o)
    same x o true = ap Some (shows x)
    same x o false = refl

    rest : (x : X) (o p : Option X) → option_map g o ≡ option_map g p → (b : Bool) → option_map g (cond b (Some x) o) ≡ option_map g (cond b (Some x) p)
    rest x o p e true = refl
    rest x o p e false = e

    step : (x : X) (xs : List X) → option_map g (find t (change_first s f xs)) ≡ option_map g (find t xs) → (b : Bool)
        → option_map g (find t (cond b (f x ∷ xs) (x ∷ change_first s f xs))) ≡ option_map g (find t (x ∷ xs))
    step x xs more true = ap (λ b. option_map g (cond b (Some (f x)) (find t xs))) (tests x) ∙ same x (find t xs) (t x)
    step x xs more false = rest x (find t (change_first s f xs)) (find t xs) more (t x)

    go : (xs : List X) → option_map g (find t (change_first s f xs)) ≡ option_map g (find t xs)
    go [] = refl
    go (x ∷ xs) = step x xs (go xs) (s x)

-- where at most one passes, another search finds none but it
pub found-sole : {X : Type 0} (s t : X → Bool) (xs : List X) (x : X) → find s xs ≡ Some x → t x ≡ true → IsSole t xs → find t xs ≡ Some x
found-sole {X} s t xs x = go xs
  where
    step : (y : X) (ys : List X) → (find s ys ≡ Some x → t x ≡ true → find t ys ≡ Some x) → (b c : Bool) → t y ≡ c → cond b (Some y) (find s ys) ≡ Some x → t x ≡ true
        → (c ≡ true → find t ys ≡ None) → cond c (Some y) (find t ys) ≡ Some x
    step y ys more true true is e passes none = e
    step y ys more true false is e passes none = let same : y ≡ x = cc in let bad : true ≡ false = sym passes ∙ (ap t (sym same) ∙ is) in cc
    step y ys more false true is e passes none = let bad : Some x ≡ None = sym (more e passes) ∙ none refl in cc
    step y ys more false false is e passes none = more e passes

    go : (ys : List X) → find s ys ≡ Some x → t x ≡ true → IsSole t ys → find t ys ≡ Some x
    go [] e passes sole = cc
    go (y ∷ ys) e passes sole = step y ys (λ e p. go ys e p sole.1) (s y) (t y) refl e passes sole.0

-- the one that was changed is found changed
pub found-changed : {X : Type 0} (s t : X → Bool) (f : X → X) (xs : List X) (x : X) → find s xs ≡ Some x → t x ≡ true → t (f x) ≡ true → IsSole t xs → find t (change_first s f xs) ≡ Some (f x)
found-changed {X} s t f xs x = go xs
  where
    head : (y : X) (o : Option X) (b : Bool) → y ≡ x → b ≡ true → cond b (Some (f y)) o ≡ Some (f x)
    head y o b same is = ap (λ b. cond b (Some (f y)) o) is ∙ ap (λ z. Some (f z)) same

    step : (y : X) (ys : List X) → (find s ys ≡ Some x → find t (change_first s f ys) ≡ Some (f x)) → (find s ys ≡ Some x → find t ys ≡ Some x) → (b c : Bool) → t y ≡ c
        → cond b (Some y) (find s ys) ≡ Some x → t (f x) ≡ true → (c ≡ true → find t ys ≡ None) → find t (cond b (f y ∷ ys) (y ∷ change_first s f ys)) ≡ Some (f x)
    step y ys more one true c is e passes none = let same : y ≡ x = cc in head y (find t ys) (t (f y)) same (ap (λ z. t (f z)) same ∙ passes)
    step y ys more one false true is e passes none = let bad : Some x ≡ None = sym (one e) ∙ none refl in cc
    step y ys more one false false is e passes none = ap (λ b. cond b (Some y) (find t (change_first s f ys))) is ∙ more e

    go : (ys : List X) → find s ys ≡ Some x → t x ≡ true → t (f x) ≡ true → IsSole t ys → find t (change_first s f ys) ≡ Some (f x)
    go [] e at passes sole = cc
    go (y ∷ ys) e at passes sole = step y ys (λ e. go ys e at passes sole.1) (λ e. found-sole s t ys x e at sole.1) (s y) (t y) refl e passes sole.0

-- a change of an element that does not pass, and does not then, is not seen
pub found-other : {X : Type 0} (s t : X → Bool) (f : X → X) (xs : List X) (x : X) → find s xs ≡ Some x → t x ≡ false → t (f x) ≡ false → find t (change_first s f xs) ≡ find t xs
found-other {X} s t f xs x = go xs
  where
    head : (y : X) (o : Option X) → y ≡ x → t x ≡ false → t (f x) ≡ false → cond (t (f y)) (Some (f y)) o ≡ cond (t y) (Some y) o
    head y o same old new = ap (λ b. cond b (Some (f y)) o) (ap (λ z. t (f z)) same ∙ new) ∙ sym (ap (λ b. cond b (Some y) o) (ap t same ∙ old))

    step : (y : X) (ys : List X) → (find s ys ≡ Some x → find t (change_first s f ys) ≡ find t ys) → (b : Bool) → cond b (Some y) (find s ys) ≡ Some x → t x ≡ false → t (f x) ≡ false
        → find t (cond b (f y ∷ ys) (y ∷ change_first s f ys)) ≡ find t (y ∷ ys)
    step y ys more true e old new = let same : y ≡ x = cc in head y (find t ys) same old new
    step y ys more false e old new = ap (λ o. cond (t y) (Some y) o) (more e)

    go : (ys : List X) → find s ys ≡ Some x → t x ≡ false → t (f x) ≡ false → find t (change_first s f ys) ≡ find t ys
    go [] e old new = cc
    go (y ∷ ys) e old new = step y ys (λ e. go ys e old new) (s y) e old new

-- an element that passes only since it was changed is found where none passed
pub found-made : {X : Type 0} (s t : X → Bool) (f : X → X) (xs : List X) (x : X) → find s xs ≡ Some x → find t xs ≡ None → t (f x) ≡ true → find t (change_first s f xs) ≡ Some (f x)
found-made {X} s t f xs x = go xs
  where
    head : (y : X) (o : Option X) → y ≡ x → t (f x) ≡ true → cond (t (f y)) (Some (f y)) o ≡ Some (f x)
    head y o same new = ap (λ b. cond b (Some (f y)) o) (ap (λ z. t (f z)) same ∙ new) ∙ ap (λ z. Some (f z)) same

    step : (y : X) (ys : List X) → (find s ys ≡ Some x → find t ys ≡ None → find t (change_first s f ys) ≡ Some (f x)) → (b c : Bool) → t y ≡ c → cond b (Some y) (find s ys) ≡ Some x → cond c (Some y) (find t ys) ≡ None → t (f x) ≡ true
        → find t (cond b (f y ∷ ys) (y ∷ change_first s f ys)) ≡ Some (f x)
    step y ys more true c is e none new = let same : y ≡ x = cc in head y (find t ys) same new
    step y ys more false true is e none new = cc
    step y ys more false false is e none new = ap (λ b. cond b (Some y) (find t (change_first s f ys))) is ∙ more e none

    go : (ys : List X) → find s ys ≡ Some x → find t ys ≡ None → t (f x) ≡ true → find t (change_first s f ys) ≡ Some (f x)
    go [] e none new = cc
    go (y ∷ ys) e none new = step y ys (λ e n. go ys e n new) (s y) (t y) refl e none new

-- at the end of a list
pub find-added_none : {X : Type 0} (t : X → Bool) (xs : List X) (x : X) → t x ≡ false → find t (xs ++ x ∷ []) ≡ find t xs
find-added_none t [] x e = ap (λ b. cond b (Some x) None) e
find-added_none t (y ∷ ys) x e = ap (λ o. cond (t y) (Some y) o) (find-added_none t ys x e)

pub find-added : {X : Type 0} (t : X → Bool) (xs : List X) (x : X) → find t xs ≡ None → t x ≡ true → find t (xs ++ x ∷ []) ≡ Some x
find-added {X} t xs x none passes = go xs none
  where
    step : (y : X) (ys : List X) → (find t ys ≡ None → find t (ys ++ x ∷ []) ≡ Some x) → (b : Bool) → cond b (Some y) (find t ys) ≡ None → cond b (Some y) (find t (ys ++ x ∷ [])) ≡ Some x
    step y ys more true e = cc
    step y ys more false e = more e

    go : (ys : List X) → find t ys ≡ None → find t (ys ++ x ∷ []) ≡ Some x
    go [] none = ap (λ b. cond b (Some x) None) passes
    go (y ∷ ys) none = step y ys (go ys) (t y) none

-- what is found stays found
pub find-added_some : {X : Type 0} (t : X → Bool) (xs : List X) (x y : X) → find t xs ≡ Some y → find t (xs ++ x ∷ []) ≡ Some y
find-added_some {X} t xs x y = go xs
  where
    step : (z : X) (zs : List X) → (find t zs ≡ Some y → find t (zs ++ x ∷ []) ≡ Some y) → (b : Bool) → cond b (Some z) (find t zs) ≡ Some y → cond b (Some z) (find t (zs ++ x ∷ [])) ≡ Some y
    step z zs more true e = e
    step z zs more false e = more e

    go : (zs : List X) → find t zs ≡ Some y → find t (zs ++ x ∷ []) ≡ Some y
    go [] e = cc
    go (z ∷ zs) e = step z zs (go zs) (t z) e

-- of a list whose every element was changed
pub find-map : {X : Type 0} (t : X → Bool) (f : X → X) → ((x : X) → t (f x) ≡ t x) → (xs : List X) → find t (map f xs) ≡ option_map f (find t xs)
find-map {X} t f tests = go
  where
    step : (x : X) (o : Option X) (b : Bool) → cond b (Some (f x)) (option_map f o) ≡ option_map f (cond b (Some x) o)
    step x o true = refl
    step x o false = refl

    go : (xs : List X) → find t (map f xs) ≡ option_map f (find t xs)
    go [] = refl
    go (x ∷ xs) = ap (λ b. cond b (Some (f x)) (find t (map f xs))) (tests x) ∙ (ap (λ o. cond (t x) (Some (f x)) o) (go xs) ∙ step x (find t xs) (t x))

-- Soleness, after each change.

-- none passes, nor one that the test sees alike
pub find-none-change_first : {X : Type 0} (s t : X → Bool) (f : X → X) → ((x : X) → t (f x) ≡ t x) → (xs : List X) → find t xs ≡ None → find t (change_first s f xs) ≡ None
find-none-change_first {X} s t f tests = go
  where
    step : (x : X) (xs : List X) → (find t xs ≡ None → find t (change_first s f xs) ≡ None) → (b c : Bool) → t x ≡ c → cond c (Some x) (find t xs) ≡ None → find t (cond b (f x ∷ xs) (x ∷ change_first s f xs)) ≡ None
    step x xs more b true is e = cc
    step x xs more true false is e = ap (λ b. cond b (Some (f x)) (find t xs)) (tests x ∙ is) ∙ e
    step x xs more false false is e = ap (λ b. cond b (Some x) (find t (change_first s f xs))) is ∙ more e

    go : (xs : List X) → find t xs ≡ None → find t (change_first s f xs) ≡ None
    go [] e = refl
    go (x ∷ xs) e = step x xs (go xs) (s x) (t x) refl e

pub IsSole-change_first : {X : Type 0} (s t : X → Bool) (f : X → X) → ((x : X) → t (f x) ≡ t x) → (xs : List X) → IsSole t xs → IsSole t (change_first s f xs)
IsSole-change_first {X} s t f tests = go
  where
    step : (x : X) (xs : List X) → (IsSole t xs → IsSole t (change_first s f xs)) → (b : Bool) → IsSole t (x ∷ xs) → IsSole t (cond b (f x ∷ xs) (x ∷ change_first s f xs))
    step x xs more true sole = (λ e. sole.0 (sym (tests x) ∙ e), sole.1)
    step x xs more false sole = (λ e. find-none-change_first s t f tests xs (sole.0 e), more sole.1)

    go : (xs : List X) → IsSole t xs → IsSole t (change_first s f xs)
    go [] sole = tt
    go (x ∷ xs) sole = step x xs (go xs) (s x) sole

-- a change of one that did not pass, where none passes
pub IsSole-made : {X : Type 0} (s t : X → Bool) (f : X → X) (xs : List X) → find t xs ≡ None → IsSole t (change_first s f xs)
IsSole-made {X} s t f = go
  where
    none_passes : (xs : List X) → find t xs ≡ None → IsSole t xs
    none_passes [] e = tt
    none_passes (x ∷ xs) e = step x (find t xs) (IsSole t xs) (none_passes xs) (t x) refl e
      where
        step : (x : X) (o : Option X) (S : Type 0) → (o ≡ None → S) → (b : Bool) → t x ≡ b → cond b (Some x) o ≡ None → (t x ≡ true → o ≡ None) × S
        step x o S more true is e = cc
        step x o S more false is e = (λ _. e, more e)

    one : (x : X) (xs : List X) → (find t xs ≡ None → IsSole t (change_first s f xs)) → (b c : Bool) → t x ≡ c → cond c (Some x) (find t xs) ≡ None → IsSole t (cond b (f x ∷ xs) (x ∷ change_first s f xs))
    one x xs more b true is e = cc
    one x xs more true false is e = (λ _. e, none_passes xs e)
    one x xs more false false is e = (λ bad. let no : true ≡ false = sym bad ∙ is in cc, more e)

    go : (xs : List X) → find t xs ≡ None → IsSole t (change_first s f xs)
    go [] e = tt
    go (x ∷ xs) e = one x xs (go xs) (s x) (t x) refl e

-- a change of one that does not pass, and does not then
pub IsSole-other : {X : Type 0} (s t : X → Bool) (f : X → X) (xs : List X) (x : X) → find s xs ≡ Some x → t x ≡ false → t (f x) ≡ false → IsSole t xs → IsSole t (change_first s f xs)
IsSole-other {X} s t f xs x = go xs
  where
    step : (y : X) (ys : List X) → (find s ys ≡ Some x → IsSole t ys → IsSole t (change_first s f ys)) → (b : Bool) → cond b (Some y) (find s ys) ≡ Some x → t x ≡ false → t (f x) ≡ false → IsSole t (y ∷ ys)
        → IsSole t (cond b (f y ∷ ys) (y ∷ change_first s f ys))
    step y ys more true e old new sole = let same : y ≡ x = cc in (λ bad. let no : true ≡ false = sym bad ∙ (ap (λ z. t (f z)) same ∙ new) in cc, sole.1)
    step y ys more false e old new sole = (λ p. found-other s t f ys x e old new ∙ sole.0 p, more e sole.1)

    go : (ys : List X) → find s ys ≡ Some x → t x ≡ false → t (f x) ≡ false → IsSole t ys → IsSole t (change_first s f ys)
    go [] e old new sole = tt
    go (y ∷ ys) e old new sole = step y ys (λ e l. go ys e old new l) (s y) e old new sole

pub IsSole-added : {X : Type 0} (t : X → Bool) (xs : List X) (x : X) → find t xs ≡ None → IsSole t (xs ++ x ∷ [])
IsSole-added {X} t xs x = go xs
  where
    step : (y : X) (ys : List X) → (find t ys ≡ None → IsSole t (ys ++ x ∷ [])) → (b : Bool) → t y ≡ b → cond b (Some y) (find t ys) ≡ None → IsSole t (y ∷ (ys ++ x ∷ []))
    step y ys more true is e = cc
    step y ys more false is e = (λ bad. let no : true ≡ false = sym bad ∙ is in cc, more e)

    go : (ys : List X) → find t ys ≡ None → IsSole t (ys ++ x ∷ [])
    go [] e = (λ _. refl, tt)
    go (y ∷ ys) e = step y ys (go ys) (t y) refl e

pub IsSole-added_other : {X : Type 0} (t : X → Bool) (xs : List X) (x : X) → t x ≡ false → IsSole t xs → IsSole t (xs ++ x ∷ [])
IsSole-added_other t [] x e sole = (λ _. refl, tt)
IsSole-added_other t (y ∷ ys) x e sole = (λ p. find-added_none t ys x e ∙ sole.0 p, IsSole-added_other t ys x e sole.1)

pub IsSole-map : {X : Type 0} (t : X → Bool) (f : X → X) → ((x : X) → t (f x) ≡ t x) → (xs : List X) → IsSole t xs → IsSole t (map f xs)
IsSole-map {X} t f tests = go
  where
    go : (xs : List X) → IsSole t xs → IsSole t (map f xs)
    go [] sole = tt
    go (x ∷ xs) sole = (λ e. find-map t f tests xs ∙ ap (option_map f) (sole.0 (sym (tests x) ∙ e)), go xs sole.1)

-- What holds of every element, after each change.

pub All-change_first : {X : Type 0} (P : X → Type 0) (s : X → Bool) (f : X → X) → ((x : X) → P x → P (f x)) → (xs : List X) → AllByRecursion P xs → AllByRecursion P (change_first s f xs)
All-change_first {X} P s f keeps = go
  where
    step : (x : X) (xs ys : List X) → P x → AllByRecursion P xs → AllByRecursion P ys → (b : Bool) → AllByRecursion P (cond b (f x ∷ xs) (x ∷ ys))
    step x xs ys h hs more true = (keeps x h, hs)
    step x xs ys h hs more false = (h, more)

    go : (xs : List X) → AllByRecursion P xs → AllByRecursion P (change_first s f xs)
    go [] h = tt
    go (x ∷ xs) h = step x xs (change_first s f xs) h.0 h.1 (go xs h.1) (s x)

-- where the one that is changed is known
pub All-changed : {X : Type 0} (P : X → Type 0) (s : X → Bool) (f : X → X) (xs : List X) (x : X) → find s xs ≡ Some x → P (f x) → AllByRecursion P xs → AllByRecursion P (change_first s f xs)
All-changed {X} P s f xs x = go xs
  where
    step : (y : X) (ys : List X) → (find s ys ≡ Some x → AllByRecursion P (change_first s f ys)) → (b : Bool) → cond b (Some y) (find s ys) ≡ Some x → P (f x) → P y → AllByRecursion P ys → AllByRecursion P (cond b (f y ∷ ys) (y ∷ change_first s f ys))
    step y ys more true e new h hs = let same : y ≡ x = cc in (subst (λ z. P (f z)) (sym same) new, hs)
    step y ys more false e new h hs = (h, more e)

    go : (ys : List X) → find s ys ≡ Some x → P (f x) → AllByRecursion P ys → AllByRecursion P (change_first s f ys)
    go [] e new h = tt
    go (y ∷ ys) e new h = step y ys (λ e. go ys e new h.1) (s y) e new h.0 h.1

pub All-added : {X : Type 0} (P : X → Type 0) (xs : List X) (x : X) → AllByRecursion P xs → P x → AllByRecursion P (xs ++ x ∷ [])
All-added P [] x h new = (new, tt)
All-added P (y ∷ ys) x h new = (h.0, All-added P ys x h.1 new)

pub All-map : {X : Type 0} (P : X → Type 0) (f : X → X) → ((x : X) → P x → P (f x)) → (xs : List X) → AllByRecursion P xs → AllByRecursion P (map f xs)
All-map {X} P f keeps = go
  where
    go : (xs : List X) → AllByRecursion P xs → AllByRecursion P (map f xs)
    go [] h = tt
    go (x ∷ xs) h = (keeps x h.0, go xs h.1)

pub All-filter : {X : Type 0} (P : X → Type 0) (t : X → Bool) (xs : List X) → AllByRecursion P xs → AllByRecursion P (filter t xs)
All-filter P t [] all = tt
All-filter {X} P t (x ∷ xs) all = by_test (t x) (All-filter P t xs all.1)
  where
    by_test : (b : Bool) → AllByRecursion P (filter t xs) → AllByRecursion P (cond b (x ∷ filter t xs) (filter t xs))
    by_test true rest = (all.0, rest)
    by_test false rest = rest

pub All-remove : {X : Type 0} (P : X → Type 0) (xs : List X) (k : ℕ) → AllByRecursion P xs → AllByRecursion P (remove xs k)
All-remove P [] zero all = tt
All-remove P [] (suc k) all = tt
All-remove P (x ∷ xs) zero all = all.1
All-remove P (x ∷ xs) (suc k) all = (all.0, All-remove P xs k all.1)

pub All-weaker : {X : Type 0} (P Q : X → Type 0) → ((x : X) → P x → Q x) → (xs : List X) → AllByRecursion P xs → AllByRecursion Q xs
All-weaker {X} P Q weaker = go
  where
    go : (xs : List X) → AllByRecursion P xs → AllByRecursion Q xs
    go [] h = tt
    go (x ∷ xs) h = (weaker x h.0, go xs h.1)

-- none is found of which it holds that it fails
pub find-none : {X : Type 0} (t : X → Bool) (xs : List X) → AllByRecursion (λ x. t x ≡ false) xs → find t xs ≡ None
find-none t [] h = refl
find-none t (x ∷ xs) h = ap (λ b. cond b (Some x) (find t xs)) h.0 ∙ find-none t xs h.1

-- Of the one element that is known to be changed, and that passes as before.

pub none-found : {X : Type 0} (s t : X → Bool) (f : X → X) (xs : List X) (x : X) → find s xs ≡ Some x → t (f x) ≡ t x → find t xs ≡ None → find t (change_first s f xs) ≡ None
none-found {X} s t f xs x = go xs
  where
    step : (y : X) (ys : List X) → (find s ys ≡ Some x → find t ys ≡ None → find t (change_first s f ys) ≡ None) → (b c : Bool) → t y ≡ c → cond b (Some y) (find s ys) ≡ Some x → t (f x) ≡ t x → cond c (Some y) (find t ys) ≡ None
        → find t (cond b (f y ∷ ys) (y ∷ change_first s f ys)) ≡ None
    step y ys more b true is e same none = cc
    step y ys more true false is e same none = let at : y ≡ x = cc in ap (λ b. cond b (Some (f y)) (find t ys)) (ap (λ z. t (f z)) at ∙ (same ∙ (ap t (sym at) ∙ is))) ∙ none
    step y ys more false false is e same none = ap (λ b. cond b (Some y) (find t (change_first s f ys))) is ∙ more e none

    go : (ys : List X) → find s ys ≡ Some x → t (f x) ≡ t x → find t ys ≡ None → find t (change_first s f ys) ≡ None
    go [] e same none = cc
    go (y ∷ ys) e same none = step y ys (λ e n. go ys e same n) (s y) (t y) refl e same none

pub none-before : {X : Type 0} (s t : X → Bool) (f : X → X) (xs : List X) (x : X) → find s xs ≡ Some x → (t (f x) ≡ false → t x ≡ false) → find t (change_first s f xs) ≡ None → find t xs ≡ None
none-before {X} s t f xs x = go xs
  where
    head : (y : X) (o : Option X) → y ≡ x → (t (f x) ≡ false → t x ≡ false) → (b : Bool) → t (f x) ≡ b → cond b (Some (f y)) o ≡ None → cond (t y) (Some y) o ≡ None
    head y o at fails true is e = cc
    head y o at fails false is e = ap (λ b. cond b (Some y) o) (ap t at ∙ fails is) ∙ e

    step : (y : X) (ys : List X) → (find s ys ≡ Some x → find t (change_first s f ys) ≡ None → find t ys ≡ None) → (b : Bool) → cond b (Some y) (find s ys) ≡ Some x → (t (f x) ≡ false → t x ≡ false)
        → find t (cond b (f y ∷ ys) (y ∷ change_first s f ys)) ≡ None → find t (y ∷ ys) ≡ None
    step y ys more true e fails none = let at : y ≡ x = cc in head y (find t ys) at fails (t (f x)) refl (ap (λ b. cond b (Some (f y)) (find t ys)) (ap (λ z. t (f z)) (sym at)) ∙ none)
    step y ys more false e fails none = kept (t y) none (more e)
      where
        kept : (c : Bool) → cond c (Some y) (find t (change_first s f ys)) ≡ None → (find t (change_first s f ys) ≡ None → find t ys ≡ None) → cond c (Some y) (find t ys) ≡ None
        kept true n m = cc
        kept false n m = m n

    go : (ys : List X) → find s ys ≡ Some x → (t (f x) ≡ false → t x ≡ false) → find t (change_first s f ys) ≡ None → find t ys ≡ None
    go [] e fails none = refl
    go (y ∷ ys) e fails none = step y ys (λ e n. go ys e fails n) (s y) e fails none

pub IsSole-found : {X : Type 0} (s t : X → Bool) (f : X → X) (xs : List X) (x : X) → find s xs ≡ Some x → t (f x) ≡ t x → IsSole t xs → IsSole t (change_first s f xs)
IsSole-found {X} s t f xs x = go xs
  where
    step : (y : X) (ys : List X) → (find s ys ≡ Some x → IsSole t ys → IsSole t (change_first s f ys)) → (b : Bool) → cond b (Some y) (find s ys) ≡ Some x → t (f x) ≡ t x → IsSole t (y ∷ ys)
        → IsSole t (cond b (f y ∷ ys) (y ∷ change_first s f ys))
    step y ys more true e same sole = let at : y ≡ x = cc in (λ p. sole.0 (ap t at ∙ (sym same ∙ (ap (λ z. t (f z)) (sym at) ∙ p))), sole.1)
    step y ys more false e same sole = (λ p. none-found s t f ys x e same (sole.0 p), more e sole.1)

    go : (ys : List X) → find s ys ≡ Some x → t (f x) ≡ t x → IsSole t ys → IsSole t (change_first s f ys)
    go [] e same sole = tt
    go (y ∷ ys) e same sole = step y ys (λ e l. go ys e same l) (s y) e same sole

-- an element that passes is not missed
pub not-missed : {X : Type 0} (s t : X → Bool) (f : X → X) (xs : List X) (x : X) → find s xs ≡ Some x → t (f x) ≡ true → find t (change_first s f xs) ≡ None → ⊥
not-missed {X} s t f xs x = go xs
  where
    head : (y : X) (o : Option X) → y ≡ x → t (f x) ≡ true → cond (t (f y)) (Some (f y)) o ≡ None → ⊥
    head y o at is e = let bad : Some (f y) ≡ None = sym (ap (λ b. cond b (Some (f y)) o) (ap (λ z. t (f z)) at ∙ is)) ∙ e in cc

    step : (y : X) (ys : List X) → (find s ys ≡ Some x → find t (change_first s f ys) ≡ None → ⊥) → (b : Bool) → cond b (Some y) (find s ys) ≡ Some x → t (f x) ≡ true → find t (cond b (f y ∷ ys) (y ∷ change_first s f ys)) ≡ None → ⊥
    step y ys more true e is none = let at : y ≡ x = cc in head y (find t ys) at is none
    step y ys more false e is none = kept (t y) none (more e)
      where
        kept : (c : Bool) → cond c (Some y) (find t (change_first s f ys)) ≡ None → (find t (change_first s f ys) ≡ None → ⊥) → ⊥
        kept true n m = cc
        kept false n m = m n

    go : (ys : List X) → find s ys ≡ Some x → t (f x) ≡ true → find t (change_first s f ys) ≡ None → ⊥
    go [] e is none = cc
    go (y ∷ ys) e is none = step y ys (λ e n. go ys e is n) (s y) e is none

-- none passes a narrower test than one that only another element passes
pub none-sole : {X : Type 0} (s t u : X → Bool) (xs : List X) (x : X) → find s xs ≡ Some x → t x ≡ true → u x ≡ false → ((y : X) → u y ≡ true → t y ≡ true) → IsSole t xs → find u xs ≡ None
none-sole {X} s t u xs x found passes fails narrower sole = decide (find u xs) refl
  where
    decide : (o : Option X) → find u xs ≡ o → find u xs ≡ None
    decide None e = e
    decide (Some y) e =
        let in_t = found-sole u t xs y e (narrower y (find-passes u xs y e)) sole in
        let same : Some x ≡ Some y = sym (found-sole s t xs x found passes sole) ∙ in_t in
        let one : x ≡ y = cc in
        let bad : true ≡ false = sym (find-passes u xs y e) ∙ (ap u (sym one) ∙ fails) in cc

-- at the end of a list, backwards
pub none-added : {X : Type 0} (t : X → Bool) (xs : List X) (x : X) → find t (xs ++ x ∷ []) ≡ None → find t xs ≡ None
none-added {X} t xs x = go xs
  where
    step : (y : X) (ys : List X) → (find t (ys ++ x ∷ []) ≡ None → find t ys ≡ None) → (b : Bool) → cond b (Some y) (find t (ys ++ x ∷ [])) ≡ None → cond b (Some y) (find t ys) ≡ None
    step y ys more true e = cc
    step y ys more false e = more e

    go : (ys : List X) → find t (ys ++ x ∷ []) ≡ None → find t ys ≡ None
    go [] e = refl
    go (y ∷ ys) e = step y ys (go ys) (t y) e

pub none-map : {X : Type 0} (t : X → Bool) (f : X → X) → ((x : X) → t (f x) ≡ t x) → (xs : List X) → find t (map f xs) ≡ None → find t xs ≡ None
none-map {X} t f tests xs e = back (find t xs) (sym (find-map t f tests xs) ∙ e)
  where
    back : (o : Option X) → option_map f o ≡ None → o ≡ None
    back None e = refl
    back (Some x) e = cc

pub none-change_first : {X : Type 0} (s t : X → Bool) (f : X → X) → ((x : X) → t (f x) ≡ t x) → (xs : List X) → find t (change_first s f xs) ≡ None → find t xs ≡ None
none-change_first {X} s t f tests = go
  where
    step : (x : X) (xs : List X) → (find t (change_first s f xs) ≡ None → find t xs ≡ None) → (b c : Bool) → t x ≡ c → find t (cond b (f x ∷ xs) (x ∷ change_first s f xs)) ≡ None → cond c (Some x) (find t xs) ≡ None
    step x xs more true true is e = let bad : Some (f x) ≡ None = sym (ap (λ b. cond b (Some (f x)) (find t xs)) (tests x ∙ is)) ∙ e in cc
    step x xs more true false is e = sym (ap (λ b. cond b (Some (f x)) (find t xs)) (tests x ∙ is)) ∙ e
    step x xs more false true is e = let bad : Some x ≡ None = sym (ap (λ b. cond b (Some x) (find t (change_first s f xs))) is) ∙ e in cc
    step x xs more false false is e = more (sym (ap (λ b. cond b (Some x) (find t (change_first s f xs))) is) ∙ e)

    go : (xs : List X) → find t (change_first s f xs) ≡ None → find t xs ≡ None
    go [] e = refl
    go (x ∷ xs) e = step x xs (go xs) (s x) (t x) refl e

-- where none passes, nothing is changed
pub change-none : {X : Type 0} (s : X → Bool) (f : X → X) (xs : List X) → find s xs ≡ None → change_first s f xs ≡ xs
change-none {X} s f = go
  where
    step : (x : X) (xs : List X) → (find s xs ≡ None → change_first s f xs ≡ xs) → (b : Bool) → cond b (Some x) (find s xs) ≡ None → cond b (f x ∷ xs) (x ∷ change_first s f xs) ≡ x ∷ xs
    step x xs more true e = cc
    step x xs more false e = ap (λ l. x ∷ l) (more e)

    go : (xs : List X) → find s xs ≡ None → change_first s f xs ≡ xs
    go [] e = refl
    go (x ∷ xs) e = step x xs (go xs) (s x) e

-- Of a list from which the first element that passes was taken.

pub none-removed : {X : Type 0} (s t : X → Bool) (xs : List X) → find t xs ≡ None → find t (remove_first s xs) ≡ None
none-removed {X} s t = go
  where
    step : (x : X) (xs : List X) → (find t xs ≡ None → find t (remove_first s xs) ≡ None) → (b c : Bool) → t x ≡ c → cond c (Some x) (find t xs) ≡ None → find t (cond b xs (x ∷ remove_first s xs)) ≡ None
    step x xs more b true is e = cc
    step x xs more true false is e = e
    step x xs more false false is e = ap (λ b. cond b (Some x) (find t (remove_first s xs))) is ∙ more e

    go : (xs : List X) → find t xs ≡ None → find t (remove_first s xs) ≡ None
    go [] e = refl
    go (x ∷ xs) e = step x xs (go xs) (s x) (t x) refl e

-- it is found no longer, where at most one passes
pub removed-itself : {X : Type 0} (s t : X → Bool) (xs : List X) (x : X) → find s xs ≡ Some x → t x ≡ true → IsSole t xs → find t (remove_first s xs) ≡ None
removed-itself {X} s t xs x = go xs
  where
    step : (y : X) (ys : List X) → (find s ys ≡ Some x → find t (remove_first s ys) ≡ None) → (find s ys ≡ Some x → find t ys ≡ Some x) → (b c : Bool) → t y ≡ c → cond b (Some y) (find s ys) ≡ Some x → t x ≡ true
        → (c ≡ true → find t ys ≡ None) → find t (cond b ys (y ∷ remove_first s ys)) ≡ None
    step y ys more one true true is e passes none = none refl
    step y ys more one true false is e passes none = let same : y ≡ x = cc in let bad : true ≡ false = sym passes ∙ (ap t (sym same) ∙ is) in cc
    step y ys more one false true is e passes none = let bad : Some x ≡ None = sym (one e) ∙ none refl in cc
    step y ys more one false false is e passes none = ap (λ b. cond b (Some y) (find t (remove_first s ys))) is ∙ more e

    go : (ys : List X) → find s ys ≡ Some x → t x ≡ true → IsSole t ys → find t (remove_first s ys) ≡ None
    go [] e passes sole = refl
    go (y ∷ ys) e passes sole = step y ys (λ e. go ys e passes sole.1) (λ e. found-sole s t ys x e passes sole.1) (s y) (t y) refl e passes sole.0

-- others are found as before
pub removed-other : {X : Type 0} (s t : X → Bool) (xs : List X) (x : X) → find s xs ≡ Some x → t x ≡ false → find t (remove_first s xs) ≡ find t xs
removed-other {X} s t xs x = go xs
  where
    step : (y : X) (ys : List X) → (find s ys ≡ Some x → find t (remove_first s ys) ≡ find t ys) → (b : Bool) → cond b (Some y) (find s ys) ≡ Some x → t x ≡ false → find t (cond b ys (y ∷ remove_first s ys)) ≡ find t (y ∷ ys)
    step y ys more true e fails = let same : y ≡ x = cc in sym (ap (λ b. cond b (Some y) (find t ys)) (ap t same ∙ fails))
    step y ys more false e fails = ap (λ o. cond (t y) (Some y) o) (more e)

    go : (ys : List X) → find s ys ≡ Some x → t x ≡ false → find t (remove_first s ys) ≡ find t ys
    go [] e fails = cc
    go (y ∷ ys) e fails = step y ys (λ e. go ys e fails) (s y) e fails

pub IsSole-removed : {X : Type 0} (s t : X → Bool) (xs : List X) → IsSole t xs → IsSole t (remove_first s xs)
IsSole-removed {X} s t = go
  where
    step : (x : X) (xs : List X) → IsSole t (remove_first s xs) → (b : Bool) → IsSole t (x ∷ xs) → IsSole t (cond b xs (x ∷ remove_first s xs))
    step x xs more true sole = sole.1
    step x xs more false sole = (λ p. none-removed s t xs (sole.0 p), more)

    go : (xs : List X) → IsSole t xs → IsSole t (remove_first s xs)
    go [] sole = tt
    go (x ∷ xs) sole = step x xs (go xs sole.1) (s x) sole

-- an element of the list that passes is not missed
pub find-missed : {X : Type 0} (s t : X → Bool) (xs : List X) (x : X) → find s xs ≡ Some x → t x ≡ true → find t xs ≡ None → ⊥
find-missed {X} s t xs x = go xs
  where
    step : (y : X) (ys : List X) → (find s ys ≡ Some x → find t ys ≡ None → ⊥) → (b c : Bool) → t y ≡ c → cond b (Some y) (find s ys) ≡ Some x → t x ≡ true → cond c (Some y) (find t ys) ≡ None → ⊥
    step y ys more b true is e passes none = cc
    step y ys more true false is e passes none = let same : y ≡ x = cc in let bad : true ≡ false = sym passes ∙ (ap t (sym same) ∙ is) in cc
    step y ys more false false is e passes none = more e none

    go : (ys : List X) → find s ys ≡ Some x → t x ≡ true → find t ys ≡ None → ⊥
    go [] e passes none = cc
    go (y ∷ ys) e passes none = step y ys (λ e n. go ys e passes n) (s y) (t y) refl e passes none

-- what holds of all holds of what stands at a place
pub All-at : {X : Type 0} (P : X → Type 0) (xs : List X) (k : ℕ) (x : X) → AllByRecursion P xs → slice_get xs k ≡ Some x → P x
All-at P [] k x all e = cc
All-at P (y ∷ ys) zero x all e = let same : y ≡ x = cc in subst P same all.0
All-at P (y ∷ ys) (suc k) x all e = All-at P ys k x all.1 e
