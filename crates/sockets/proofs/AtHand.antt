-- The first place and the least of a list, where one element is looked at apart.
use Rattle.std.proofs.Common.{◌≡◌, ℕ, zero, suc, ◌<◌, ◌&&◌, Bool, true, false, nat_le, if◌then◌else◌, List, [], ◌∷◌, length, get_or, set, Option, Some, None, refl, sym, ◌∙◌, ap, arith}
use Rattle.std.specs.List.{fold}
use Rattle.std.proofs.lemmas.Bool.Decides.{nat_tests}
use Rattle.clock.specs.declared.moment.Moment.{Moment}
use Rattle.clock.specs.Moments.{sooner}
use Rattle.marks.specs.First.{first_from}
use Rattle.sockets.specs.Outlook.{first_of}
use Rattle.sockets.proofs.FirstFrom.{further, first-here, first-behind}
use Rattle.sockets.proofs.Followed.{by_test}

further-of : (a b : Option ℕ) → further (first_of a b) ≡ first_of (further a) (further b)
further-of None b = refl
further-of (Some a) None = refl
further-of (Some a) (Some b) = by_order (nat_le a b) refl
  where
    by_order : (c : Bool) → nat_le a b ≡ c → further (if c then Some a else Some b) ≡ (if nat_le (suc a) (suc b) then Some (suc a) else Some (suc b))
    by_order true is = let same : nat_le (suc a) (suc b) ≡ true = grind (arith, nat_tests) in rw same refl
    by_order false is = let same : nat_le (suc a) (suc b) ≡ false = grind (arith, nat_tests) in rw same refl

zero-first : (o : Option ℕ) → Some 0 ≡ first_of (Some 0) (further o)
zero-first None = refl
zero-first (Some a) = let less : nat_le 0 (suc a) ≡ true = grind (arith, nat_tests) in rw less refl

first-zero : (o : Option ℕ) → Some 0 ≡ first_of (further o) (Some 0)
first-zero None = refl
first-zero (Some a) = let less : nat_le (suc a) 0 ≡ false = grind (arith, nat_tests) in rw less refl

further-if : (b : Bool) (i : ℕ) → further (if b then Some i else None) ≡ (if b then Some (suc i) else None)
further-if true i = refl
further-if false i = refl

pub apart : (bs : List Bool) (i from : ℕ) → i < length bs → first_from (λ b. b) from bs ≡ first_of (if nat_le from i && get_or bs i false then Some i else None) (first_from (λ b. b) from (set bs i false))
apart [] i from within = absurd (omega arith)
apart (true ∷ bs) zero zero within = first-here (λ b. b) true bs ∙ zero-first (first_from (λ b. b) 0 bs) ∙ ap (first_of (Some 0)) (sym (first-here (λ b. b) false bs))
apart (false ∷ bs) zero zero within = refl
apart (b ∷ bs) zero (suc n) within =
    let before : nat_le (suc n) 0 ≡ false = grind (arith, nat_tests) in
    first-behind (λ b. b) n b bs ∙ rw before (sym (first-behind (λ b. b) n false bs))
apart (true ∷ bs) (suc i) zero within =
    first-here (λ b. b) true bs ∙ first-zero (if nat_le 0 i && get_or bs i false then Some i else None)
    ∙ ap (λ o. first_of o (Some 0)) (further-if (nat_le 0 i && get_or bs i false) i ∙ ap (λ c. if c && get_or bs i false then Some (suc i) else None) same)
    ∙ ap (first_of (if nat_le 0 (suc i) && get_or bs i false then Some (suc i) else None)) (sym (first-here (λ b. b) true (set bs i false)))
  where
    same : nat_le 0 i ≡ nat_le 0 (suc i)
    same = grind (arith, nat_tests)
apart (false ∷ bs) (suc i) zero within =
    first-here (λ b. b) false bs ∙ ap further (apart bs i 0 (omega arith)) ∙ further-of (if nat_le 0 i && get_or bs i false then Some i else None) (first_from (λ b. b) 0 (set bs i false))
    ∙ ap (λ o. first_of o (further (first_from (λ b. b) 0 (set bs i false)))) (further-if (nat_le 0 i && get_or bs i false) i ∙ ap (λ c. if c && get_or bs i false then Some (suc i) else None) same)
    ∙ ap (first_of (if nat_le 0 (suc i) && get_or bs i false then Some (suc i) else None)) (sym (first-here (λ b. b) false (set bs i false)))
  where
    same : nat_le 0 i ≡ nat_le 0 (suc i)
    same = grind (arith, nat_tests)
apart (b ∷ bs) (suc i) (suc n) within =
    first-behind (λ b. b) n b bs ∙ ap further (apart bs i n (omega arith)) ∙ further-of (if nat_le n i && get_or bs i false then Some i else None) (first_from (λ b. b) n (set bs i false))
    ∙ ap (λ o. first_of o (further (first_from (λ b. b) n (set bs i false)))) (further-if (nat_le n i && get_or bs i false) i ∙ ap (λ c. if c && get_or bs i false then Some (suc i) else None) same)
    ∙ ap (first_of (if nat_le (suc n) (suc i) && get_or bs i false then Some (suc i) else None)) (sym (first-behind (λ b. b) n b (set bs i false)))
  where
    same : nat_le n i ≡ nat_le (suc n) (suc i)
    same = grind (arith, nat_tests)

-- The least.

sooner-assoc : (a b c : Option Moment) → sooner (sooner a b) c ≡ sooner a (sooner b c)
sooner-assoc None b c = refl
sooner-assoc (Some a) None c = refl
sooner-assoc (Some a) (Some b) None = by_order (nat_le a.0 b.0)
  where
    by_order : (x : Bool) → sooner (if x then Some a else Some b) None ≡ (if x then Some a else Some b)
    by_order true = refl
    by_order false = refl
sooner-assoc (Some a) (Some b) (Some c) =
    by_test (nat_le a.0 b.0)
    (λ ab. by_test (nat_le b.0 c.0)
    (λ bc. let ac : nat_le a.0 c.0 ≡ true = grind (arith, nat_tests) in rw (ab, bc, ab, ac) refl)
    (λ cb. rw (ab, cb) refl))
    (λ ba. by_test (nat_le b.0 c.0)
    (λ bc. rw (ba, bc, ba) refl)
    (λ cb. let ca : nat_le a.0 c.0 ≡ false = grind (arith, nat_tests) in rw (ba, cb, ca) refl))

sooner-none : (a : Option Moment) → sooner a None ≡ a
sooner-none None = refl
sooner-none (Some a) = refl

-- equal moments are the same one
sooner-comm : (a b : Option Moment) → sooner a b ≡ sooner b a
sooner-comm None b = sym (sooner-none b)
sooner-comm (Some a) None = refl
sooner-comm (Some a) (Some b) =
    by_test (nat_le a.0 b.0)
    (λ ab. by_test (nat_le b.0 a.0)
    (λ ba. let same : a.0 ≡ b.0 = grind (arith, nat_tests) in rw (ab, ba) (λ i. Some (record { 0 = same i })))
    (λ ba. rw (ab, ba) refl))
    (λ ab. let ba : nat_le b.0 a.0 ≡ true = grind (arith, nat_tests) in rw (ab, ba) refl)

fold-from : (a : Option Moment) (ds : List (Option Moment)) → fold sooner a ds ≡ sooner a (fold sooner None ds)
fold-from a [] = sym (sooner-none a)
fold-from a (d ∷ ds) = fold-from (sooner a d) ds ∙ sooner-assoc a d (fold sooner None ds) ∙ ap (sooner a) (sym (fold-from d ds))

pub least : (ds : List (Option Moment)) (i : ℕ) → i < length ds → fold sooner None ds ≡ sooner (fold sooner None (set ds i None)) (get_or ds i None)
least [] i within = absurd (omega arith)
least (d ∷ ds) zero within = fold-from d ds ∙ sooner-comm d (fold sooner None ds)
least (d ∷ ds) (suc i) within =
    fold-from d ds ∙ ap (sooner d) (least ds i (omega arith)) ∙ sym (sooner-assoc d (fold sooner None (set ds i None)) (get_or ds i None))
    ∙ ap (λ o. sooner o (get_or ds i None)) (sym (fold-from d (set ds i None)))
