-- The least of the deadlines of what waits.
use Rattle.std.proofs.Common.{◌≡◌, suc, ◌<◌, ◌≤◌, ◌⊎◌, inl, inr, Bool, true, false, nat_le, if◌then◌else◌, List, [], ◌∷◌, fold, All, Contains, Option, Some, None, IfSome, refl, sym, ap, arith, subst}
use Rattle.std.proofs.lemmas.Bool.Decides.{nat_tests}
use Rattle.std.proofs.lemmas.List.Elements.{All-nil, All-cons}
use Rattle.clock.specs.declared.moment.Moment.{Moment}
use Rattle.clock.specs.Moments.{sooner}
use Rattle.interface.specs.declared.reply.Waiting.{Waiting}
use Rattle.interface.specs.InterfaceView.{InterfaceView}
use Rattle.interface.specs.Timing.{deadline_of, least_deadline}

-- as far as there is a moment, it isn't before this one
abbrev pub IsNotBefore : Moment → Option Moment → Type 0
IsNotBefore m o = IfSome o (λ other. m.0 ≤ other.0)

-- The sooner of two.

record IsSooner (a b : Option Moment) (m : Moment) : Type 0 where
  one : (a ≡ Some m) ⊎ (b ≡ Some m)
  left : IsNotBefore m a
  right : IsNotBefore m b

same_moment : (a m : Moment) → ◌≡◌ {A = Option Moment} (Some a) (Some m) → m.0 ≤ a.0
same_moment a m e = let same : a ≡ m = cc in let number : a.0 ≡ m.0 = ap (λ (x : Moment). x.0) same in omega (arith, number)

sooner_is : (a b : Option Moment) (m : Moment) → sooner a b ≡ Some m → IsSooner a b m
sooner_is None None m e = absurd cc
sooner_is None (Some b) m e = record { one = inr e; left = tt; right = same_moment b m e }
sooner_is (Some a) None m e = record { one = inl e; left = same_moment a m e; right = tt }
sooner_is (Some a) (Some b) m e = by_test (nat_le a.0 b.0) refl e
  where
    by_test : (t : Bool) → nat_le a.0 b.0 ≡ t → (let o : Option Moment = if t then Some a else Some b in o) ≡ Some m → IsSooner (Some a) (Some b) m
    by_test true order is =
        let less : a.0 ≤ b.0 = grind (arith, nat_tests, order) in
        let first : m.0 ≤ a.0 = same_moment a m is in
        record { one = inl is; left = first; right = omega (arith, less, first) }
    by_test false order is =
        let less : b.0 < a.0 = grind (arith, nat_tests, order) in
        let first : m.0 ≤ b.0 = same_moment b m is in
        record { one = inr is; left = omega (arith, less, first); right = first }

neither : (a b : Option Moment) → sooner a b ≡ None → (a ≡ None) × (b ≡ None)
neither None b e = (refl, e)
neither (Some a) None e = absurd cc
neither (Some a) (Some b) e = by_test (nat_le a.0 b.0) e
  where
    by_test : (t : Bool) → (let o : Option Moment = if t then Some a else Some b in o) ≡ None → (◌≡◌ {A = Option Moment} (Some a) None) × (◌≡◌ {A = Option Moment} (Some b) None)
    by_test true is = absurd cc
    by_test false is = absurd cc

-- The least of a list, from one on.

least_from : {X : Type 0} (f : X → Option Moment) → Option Moment → List X → Option Moment
least_from f first xs = fold (λ least x. sooner least (f x)) first xs

record IsLeast {X : Type 0} (f : X → Option Moment) (first : Option Moment) (xs : List X) (m : Moment) : Type 0 where
  one : (first ≡ Some m) ⊎ ((x : X) × Contains xs x × (f x ≡ Some m))
  before : IsNotBefore m first
  others : All (λ x. IsNotBefore m (f x)) xs

later_on : (m n : Moment) (o : Option Moment) → IsNotBefore m (Some n) → IsNotBefore n o → IsNotBefore m o
later_on m n None p q = tt
later_on m n (Some d) p q = omega (arith, p, q)

least : {X : Type 0} (f : X → Option Moment) (first : Option Moment) (xs : List X) (m : Moment) → least_from f first xs ≡ Some m → IsLeast f first xs m
unfolding least_from
least {X} f first [] m e = record { one = inl e; before = own first e; others = All-nil (λ x. IsNotBefore m (f x)) }
  where
    own : (o : Option Moment) → o ≡ Some m → IsNotBefore m o
    own None is = tt
    own (Some d) is = same_moment d m is
least {X} f first (x ∷ xs) m e = joined (least f (sooner first (f x)) xs m e)
  where
    joined : IsLeast f (sooner first (f x)) xs m → IsLeast f first (x ∷ xs) m
    joined rest = by_both (sooner first (f x)) refl rest.before
      where
        HasOne : Type 0
        HasOne = (first ≡ Some m) ⊎ ((y : X) × Contains (x ∷ xs) y × (f y ≡ Some m))

        there : (y : X) × Contains xs y × (f y ≡ Some m) → HasOne
        there h = let at = h.1 in inr (h.0, (suc at.0, omega (arith, at.1), at.2), h.2)

        here : (first ≡ Some m) ⊎ (f x ≡ Some m) → HasOne
        here (inl is) = inl is
        here (inr is) = inr (x, (0, omega arith, refl), is)

        one_of : (sooner first (f x) ≡ Some m) ⊎ ((y : X) × Contains xs y × (f y ≡ Some m)) → HasOne
        one_of (inl is) = here (sooner_is first (f x) m is).one
        one_of (inr h) = there h

        by_both : (o : Option Moment) → sooner first (f x) ≡ o → IsNotBefore m o → IsLeast f first (x ∷ xs) m
        by_both None is p =
            let none = neither first (f x) is in
            record { one = one_of rest.one; before = subst (IsNotBefore m) (sym none.0) tt; others = All-cons (λ y. IsNotBefore m (f y)) x xs (subst (IsNotBefore m) (sym none.1) tt) rest.others }
        by_both (Some n) is p =
            let both = sooner_is first (f x) n is in
            record { one = one_of rest.one; before = later_on m n first p both.left; others = All-cons (λ y. IsNotBefore m (f y)) x xs (later_on m n (f x) p both.right) rest.others }

none_from : {X : Type 0} (f : X → Option Moment) (first : Option Moment) (xs : List X) → least_from f first xs ≡ None → (first ≡ None) × All (λ x. f x ≡ None) xs
unfolding least_from
none_from f first [] e = (e, All-nil (λ x. f x ≡ None))
none_from f first (x ∷ xs) e =
    let rest = none_from f (sooner first (f x)) xs e in
    let both = neither first (f x) rest.0 in
    (both.0, All-cons (λ y. f y ≡ None) x xs both.1 rest.1)

-- what waits has this deadline, and nothing that waits has one before it
pub least_found : (h : InterfaceView) (now m : Moment) → least_deadline h now ≡ Some m
    → ((w : Waiting) × Contains h.replies w × (deadline_of h now w ≡ Some m)) × All (λ w. IsNotBefore m (deadline_of h now w)) h.replies
unfolding least_from
least_found h now m e =
    let is : IsLeast (deadline_of h now) None h.replies m = least (deadline_of h now) None h.replies m e in
    (one is.one, is.others)
  where
    one : (None ≡ Some m) ⊎ ((w : Waiting) × Contains h.replies w × (deadline_of h now w ≡ Some m)) → (w : Waiting) × Contains h.replies w × (deadline_of h now w ≡ Some m)
    one (inl none) = absurd cc
    one (inr has) = has

pub none_found : (h : InterfaceView) (now : Moment) → least_deadline h now ≡ None → All (λ w. deadline_of h now w ≡ None) h.replies
unfolding least_from
none_found h now e = (none_from (deadline_of h now) None h.replies e).1
