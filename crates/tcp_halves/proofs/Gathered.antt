-- How the blocks of a report are gathered, one after another.
use Rattle.std.proofs.Common.{◌≡◌, ℕ, zero, suc, ◌+◌, ◌<◌, Bool, true, false, cond, List, [], ◌∷◌, ◌++◌, length, get_or, take, drop, map, filter, reverse, refl, sym, ◌∙◌, ap}
use Rattle.std.proofs.lemmas.List.{append-nil, append_assoc, map-append, reverse-append, drop_more}
use Rattle.std.proofs.lemmas.List.Elements.{filter-append, filter_more}

module _ {X : Type 0} where
  -- what was left out stays out
  pub take_again : (n : ℕ) (xs ys : List X) → take n (take n xs ++ ys) ≡ take n (xs ++ ys)
  take_again zero xs ys = refl
  take_again (suc n) [] ys = refl
  take_again (suc n) (x ∷ xs) ys = ap (λ l. x ∷ l) (take_again n xs ys)

  -- the last of a list turned round
  pub reverse_more : (xs : List X) (i : ℕ) (d : X) → i < length xs → reverse (drop i xs) ≡ reverse (drop (i + 1) xs) ++ get_or xs i d ∷ []
  reverse_more xs i d lt = ap reverse (drop_more xs i d lt) ∙ reverse-append (get_or xs i d ∷ []) (drop (i + 1) xs)

module _ {X Y : Type 0} (f : X → Y) (p q : X → Bool) (xs : List X) where
  -- the blocks after the ranges before a place, of which those pass that have the octet
  abbrev pub front_at : ℕ → List Y
  front_at i = take 4 (map f (filter p (take i xs)))

  -- .. and behind them those from a place on, the last first
  abbrev pub both_at : ℕ → List Y
  both_at i = take 4 (map f (filter p xs ++ filter q (reverse (drop i xs))))

  one_more : (ys : List X) (x : X) → take 4 (take 4 (map f ys) ++ f x ∷ []) ≡ take 4 (map f (ys ++ x ∷ []))
  one_more ys x = take_again 4 (map f ys) (f x ∷ []) ∙ ap (take 4) (sym (map-append f ys (x ∷ [])))

  pub front_passes : (i : ℕ) (x : X) → i < length xs → get_or xs i x ≡ x → p x ≡ true → take 4 (front_at i ++ f x ∷ []) ≡ front_at (i + 1)
  front_passes i x lt is passes =
      one_more (filter p (take i xs)) x
      ∙ ap (λ b. take 4 (map f (filter p (take i xs) ++ cond b (x ∷ []) []))) (sym passes)
      ∙ ap (λ y. take 4 (map f (filter p (take i xs) ++ cond (p y) (y ∷ []) []))) (sym is)
      ∙ ap (λ l. take 4 (map f l)) (sym (filter_more p xs i x lt))

  pub front_stays : (i : ℕ) (x : X) → i < length xs → get_or xs i x ≡ x → p x ≡ false → front_at i ≡ front_at (i + 1)
  front_stays i x lt is fails =
      ap (λ l. take 4 (map f l)) (sym (append-nil (filter p (take i xs))))
      ∙ ap (λ b. take 4 (map f (filter p (take i xs) ++ cond b (x ∷ []) []))) (sym fails)
      ∙ ap (λ y. take 4 (map f (filter p (take i xs) ++ cond (p y) (y ∷ []) []))) (sym is)
      ∙ ap (λ l. take 4 (map f l)) (sym (filter_more p xs i x lt))

  last_one : (i : ℕ) (x : X) → i < length xs → get_or xs i x ≡ x
      → filter q (reverse (drop i xs)) ≡ filter q (reverse (drop (i + 1) xs)) ++ cond (q x) (x ∷ []) []
  last_one i x lt is =
      ap (filter q) (reverse_more xs i x lt ∙ ap (λ y. reverse (drop (i + 1) xs) ++ y ∷ []) is)
      ∙ filter-append q (reverse (drop (i + 1) xs)) (x ∷ [])

  pub both_pass : (i : ℕ) (x : X) → i < length xs → get_or xs i x ≡ x → q x ≡ true → take 4 (both_at (i + 1) ++ f x ∷ []) ≡ both_at i
  both_pass i x lt is passes =
      let before = filter q (reverse (drop (i + 1) xs)) in
      one_more (filter p xs ++ before) x
      ∙ ap (λ l. take 4 (map f l)) (append_assoc (filter p xs) before (x ∷ []))
      ∙ ap (λ b. take 4 (map f (filter p xs ++ (before ++ cond b (x ∷ []) [])))) (sym passes)
      ∙ ap (λ l. take 4 (map f (filter p xs ++ l))) (sym (last_one i x lt is))

  pub both_stay : (i : ℕ) (x : X) → i < length xs → get_or xs i x ≡ x → q x ≡ false → both_at (i + 1) ≡ both_at i
  both_stay i x lt is fails =
      let before = filter q (reverse (drop (i + 1) xs)) in
      ap (λ l. take 4 (map f (filter p xs ++ l))) (sym (append-nil before))
      ∙ ap (λ b. take 4 (map f (filter p xs ++ (before ++ cond b (x ∷ []) [])))) (sym fails)
      ∙ ap (λ l. take 4 (map f (filter p xs ++ l))) (sym (last_one i x lt is))
