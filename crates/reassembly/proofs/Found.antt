-- What is found among fragments.
use Rattle.std.proofs.Common.{◌≡◌, ℕ, ◌==◌, ◌<◌, ◌&&◌, ◌||◌, Bool, true, false, nat_lt, nat_le, cond, List, [], ◌∷◌, length, reverse, find, Option, Some, None, is_some, option_map, slice_index, refl, sym, ◌∙◌, ap, arith}
use Rattle.std.specs.List.{list_any}
use Rattle.std.specs.Option.{option_or}
use Rattle.std.proofs.lemmas.Bool.Decides.{nat_tests}
use Rattle.std.proofs.lemmas.List.{reverse-append}
use Rattle.std.proofs.lemmas.List.Folds.{find-append}
use Rattle.ipv4.specs.Datagram.{Datagram}
use Rattle.reassembly.specs.Fragments.{begin_of, end_of, is_last, quote_of, covers, octet_for, latest, latest_quote, IsPayload}

is_some-map : {X Y : Type 0} (f : X → Y) (o : Option X) → is_some (option_map f o) ≡ is_some o
is_some-map f None = refl
is_some-map f (Some x) = refl

is_some-or : {X : Type 0} (a b : Option X) → is_some (option_or a b) ≡ (is_some b || is_some a)
is_some-or None None = refl
is_some-or None (Some y) = refl
is_some-or (Some x) None = refl
is_some-or (Some x) (Some y) = refl

-- whichever way the list is gone through
pub found_last : {X : Type 0} (p : X → Bool) (xs : List X) → is_some (find p (reverse xs)) ≡ list_any p xs
found_last p [] = refl
found_last p (x ∷ xs) =
    ap (λ l. is_some (find p l)) (reverse-append (x ∷ []) xs)
    ∙ ap (λ o. is_some o) (find-append p (reverse xs) (x ∷ []))
    ∙ is_some-or (find p (reverse xs)) (cond (p x) (Some x) None)
    ∙ ap (λ b. is_some (cond (p x) (Some x) None) || b) (found_last p xs)
    ∙ ap (λ b. b || list_any p xs) (alone (p x))
  where
    alone : (b : Bool) → is_some (cond b (Some x) None) ≡ b
    alone true = refl
    alone false = refl

-- what passes one test passes another
pub any_implied : {X : Type 0} (p q : X → Bool) → ((x : X) → p x ≡ true → q x ≡ true) → (xs : List X) → list_any p xs ≡ true → list_any q xs ≡ true
any_implied p q implies [] h = cc
any_implied p q implies (x ∷ xs) h = step (any_implied p q implies xs) (p x) refl h
  where
    or_true : (b : Bool) → (b || true) ≡ true
    or_true true = refl
    or_true false = refl

    step : (list_any p xs ≡ true → list_any q xs ≡ true) → (b : Bool) → p x ≡ b → (b || list_any p xs) ≡ true → (q x || list_any q xs) ≡ true
    step rest true e k = rw (implies x e) refl
    step rest false e k = rw (rest k) (or_true (q x))

-- one that is found and passes another test
pub any_found : {X : Type 0} (p q : X → Bool) (xs : List X) (x : X) → find p xs ≡ Some x → q x ≡ true → list_any q xs ≡ true
any_found p q [] x e h = cc
any_found p q (y ∷ ys) x e h = step (λ f. any_found p q ys x f h) (p y) e
  where
    or_true : (b : Bool) → (b || true) ≡ true
    or_true true = refl
    or_true false = refl

    step : (find p ys ≡ Some x → list_any q ys ≡ true) → (b : Bool) → cond b (Some y) (find p ys) ≡ Some x → (q y || list_any q ys) ≡ true
    step rest true f = let same : y ≡ x = cc in let here : q y ≡ true = ap q same ∙ h in rw here refl
    step rest false f = rw (rest f) (or_true (q y))

-- a place has its octet where a fragment covers it
pub covered_place : (fragments : List Datagram) (i : ℕ) → is_some (latest fragments i) ≡ list_any (covers i) fragments
covered_place fragments i = is_some-map (octet_for i) (find (covers i) (reverse fragments)) ∙ found_last (covers i) fragments

-- there is something to quote where one of them is a fragment zero
pub quoted_where : (fragments : List Datagram) → is_some (latest_quote fragments) ≡ list_any (λ d. d.offset == 0) fragments
quoted_where fragments = is_some-map quote_of (find (λ d. d.offset == 0) (reverse fragments)) ∙ found_last (λ d. d.offset == 0) fragments

-- what covers the first place, or ends there, is a fragment zero
starts_at : (d : Datagram) → begin_of d ≡ 0 → (d.offset == 0) ≡ true
starts_at d h = let none : d.offset ≡ 0 = omega arith in rw none refl

covers_first : (d : Datagram) → covers 0 d ≡ true → (d.offset == 0) ≡ true
covers_first d h = starts_at d (of_le (nat_le (begin_of d) 0) refl h)
  where
    of_le : (b : Bool) → nat_le (begin_of d) 0 ≡ b → (b && nat_lt 0 (end_of d)) ≡ true → begin_of d ≡ 0
    of_le true e k = grind (arith, nat_tests, e)
    of_le false e k = cc

is_zero_by : (fragments : List Datagram) (payload : List ℕ) (last : Option Datagram) → find is_last fragments ≡ last
    → option_map end_of last ≡ Some (length payload) → ((i : ℕ) → i < length payload → latest fragments i ≡ Some (slice_index payload i))
    → list_any (λ d. d.offset == 0) fragments ≡ true
is_zero_by fragments payload None f e each = cc
is_zero_by fragments [] (Some last) f e each =
    let ends : end_of last ≡ 0 = cc in
    any_found is_last (λ d. d.offset == 0) fragments last f (starts_at last (omega (arith, ends)))
is_zero_by fragments (x ∷ payload) (Some last) f e each =
    any_implied (covers 0) (λ d. d.offset == 0) covers_first fragments
    (sym (covered_place fragments 0) ∙ ap (λ o. is_some o) (each 0 (omega arith)))

pub wholes_are_quoted : (fragments : List Datagram) (payload : List ℕ) → IsPayload fragments payload → is_some (latest_quote fragments) ≡ true
wholes_are_quoted fragments payload p =
    quoted_where fragments
    ∙ is_zero_by fragments payload (find is_last fragments) refl p.ends p.latest_octets
