-- The least deadline of the places, and what the time ends before it and from it on.
use Rattle.std.proofs.Common.{◌≡◌, ◌≢◌, ◌⊎◌, ◌↔◌, suc, ◌<◌, ◌≤◌, Bool, true, false, nat_le, cond, List, [], ◌∷◌, fold, map, get_or, Option, Some, None, IfSome, option_map, All, inl, inr, refl, sym, ◌∙◌, ap, subst, arith}
use Rattle.std.proofs.lemmas.Bool.Decides.{nat_tests}
use Rattle.std.proofs.lemmas.List.{get_or-map}
use Rattle.std.proofs.lemmas.List.Elements.{All-from_recursion, recursion_from_All}
use Rattle.std.specs.List.{Any, AllByRecursion, filter_map}
use Rattle.clock.specs.declared.moment.Moment.{Moment}
use Rattle.clock.specs.Moments.{sooner}
use Rattle.reassembly.specs.Places.{is_over, after_time, expired_of, after_age, expired, next_deadline}
use Rattle.reassembly.specs.Reassembly.{Reassembly, PoolView, deadline_of}

-- the soonest of these deadlines and this one
abbrev soonest : Option Moment → List (Option Reassembly) → Option Moment
soonest first places = fold (λ so_far place. sooner so_far (option_map deadline_of place)) first places

-- a deadline is no sooner than this moment
abbrev Reaches : Moment → Option Moment → Type 0
Reaches m deadline = IfSome deadline (λ d. m.0 ≤ d.0)

-- the time of a datagram runs out no sooner than at this moment
abbrev EndsFrom : Moment → Option Reassembly → Type 0
EndsFrom m place = IfSome place (λ r. m.0 ≤ (deadline_of r).0)

-- the sooner of two
abbrev earlier : Bool → Moment → Moment → Option Moment
earlier b x y = cond b (Some x) (Some y)

sooner_none : (a b : Option Moment) → sooner a b ≡ None → (a ≡ None) × (b ≡ None)
sooner_none None b e = (refl, e)
sooner_none (Some x) None e = cc
sooner_none (Some x) (Some y) e = by_test (nat_le x.0 y.0) e
  where
    by_test : (b : Bool) → earlier b x y ≡ None → (Some x ≡ None) × (Some y ≡ None)
    by_test true f = cc
    by_test false f = cc

sooner_either : (a b : Option Moment) (m : Moment) → sooner a b ≡ Some m → (a ≡ Some m) ⊎ (b ≡ Some m)
sooner_either None b m e = inr e
sooner_either (Some x) None m e = inl e
sooner_either (Some x) (Some y) m e = by_test (nat_le x.0 y.0) e
  where
    by_test : (b : Bool) → earlier b x y ≡ Some m → (Some x ≡ Some m) ⊎ (Some y ≡ Some m)
    by_test true f = inl f
    by_test false f = inr f

sooner_reaches : (a b : Option Moment) (m : Moment) → Reaches m (sooner a b) → Reaches m a × Reaches m b
sooner_reaches None b m h = (tt, h)
sooner_reaches (Some x) None m h = (h, tt)
sooner_reaches (Some x) (Some y) m h = by_test (nat_le x.0 y.0) refl h
  where
    by_test : (b : Bool) → nat_le x.0 y.0 ≡ b → Reaches m (earlier b x y) → (m.0 ≤ x.0) × (m.0 ≤ y.0)
    by_test true t k = (k, grind (arith, nat_tests, t, k))
    by_test false t k = (grind (arith, nat_tests, t, k), k)

-- none is the soonest where there is none
soonest_none : (first : Option Moment) (places : List (Option Reassembly)) → soonest first places ≡ None
    → (first ≡ None) × AllByRecursion (λ place. place ≡ None) places
soonest_none first [] e = (e, tt)
soonest_none first (None ∷ places) e =
    let rest = soonest_none (sooner first None) places e in
    ((sooner_none first None rest.0).0, (refl, rest.1))
soonest_none first (Some r ∷ places) e =
    let rest = soonest_none (sooner first (Some (deadline_of r))) places e in
    let here : Some (deadline_of r) ≡ None = (sooner_none first (Some (deadline_of r)) rest.0).1 in
    cc

none_soonest : (places : List (Option Reassembly)) → AllByRecursion (λ place. place ≡ None) places → soonest None places ≡ None
none_soonest [] h = refl
none_soonest (None ∷ places) h = none_soonest places h.1
none_soonest (Some r ∷ places) h = let here : Some r ≡ None = h.0 in cc

pub none_is : (pool : PoolView) → (next_deadline pool ≡ None) ↔ All (λ place. place ≡ None) pool.places
none_is pool = (
  λ e. All-from_recursion (λ place. place ≡ None) pool.places (soonest_none None pool.places e).1,
  λ h. none_soonest pool.places (recursion_from_All (λ place. place ≡ None) pool.places h),
)

-- the soonest is one of them
any_later : (m : Moment) (place : Option Reassembly) (places : List (Option Reassembly)) → Any (λ p. option_map deadline_of p ≡ Some m) places
    → Any (λ p. option_map deadline_of p ≡ Some m) (place ∷ places)
any_later m place places (k, found, within, there, is) = (suc k, found, omega (arith, within), there, is)

soonest_some : (first : Option Moment) (places : List (Option Reassembly)) (m : Moment) → soonest first places ≡ Some m
    → (first ≡ Some m) ⊎ Any (λ place. option_map deadline_of place ≡ Some m) places
soonest_some first [] m e = inl e
soonest_some first (place ∷ places) m e = by_rest (soonest_some (sooner first (option_map deadline_of place)) places m e)
  where
    here : option_map deadline_of place ≡ Some m → Any (λ p. option_map deadline_of p ≡ Some m) (place ∷ places)
    here is = (0, place, omega arith, refl, is)

    by_first : (first ≡ Some m) ⊎ (option_map deadline_of place ≡ Some m) → (first ≡ Some m) ⊎ Any (λ p. option_map deadline_of p ≡ Some m) (place ∷ places)
    by_first (inl f) = inl f
    by_first (inr f) = inr (here f)

    by_rest : (sooner first (option_map deadline_of place) ≡ Some m) ⊎ Any (λ p. option_map deadline_of p ≡ Some m) places
        → (first ≡ Some m) ⊎ Any (λ p. option_map deadline_of p ≡ Some m) (place ∷ places)
    by_rest (inl f) = by_first (sooner_either first (option_map deadline_of place) m f)
    by_rest (inr any) = inr (any_later m place places any)

pub some_is : (pool : PoolView) (next : Moment) → next_deadline pool ≡ Some next → Any (λ place. option_map deadline_of place ≡ Some next) pool.places
some_is pool next e = of_either (soonest_some None pool.places next e)
  where
    of_either : (None ≡ Some next) ⊎ Any (λ place. option_map deadline_of place ≡ Some next) pool.places
        → Any (λ place. option_map deadline_of place ≡ Some next) pool.places
    of_either (inl f) = cc
    of_either (inr any) = any

-- none of them is sooner
soonest_reaches : (first : Option Moment) (places : List (Option Reassembly)) (m : Moment) → Reaches m (soonest first places)
    → Reaches m first × AllByRecursion (EndsFrom m) places
soonest_reaches first [] m h = (h, tt)
soonest_reaches first (None ∷ places) m h =
    let rest = soonest_reaches (sooner first None) places m h in
    ((sooner_reaches first None m rest.0).0, (tt, rest.1))
soonest_reaches first (Some r ∷ places) m h =
    let rest = soonest_reaches (sooner first (Some (deadline_of r))) places m h in
    let both = sooner_reaches first (Some (deadline_of r)) m rest.0 in
    (both.0, (both.1, rest.1))

all_end_from : (places : List (Option Reassembly)) (next : Option Moment) (m : Moment) → soonest None places ≡ next → Reaches m next
    → AllByRecursion (EndsFrom m) places
all_end_from places next m e h = (soonest_reaches None places m (subst (Reaches m) (sym e) h)).1

pub least_is : (pool : PoolView) (next : Moment) → next_deadline pool ≡ Some next
    → All (λ place. IfSome place (λ r. next.0 ≤ (deadline_of r).0)) pool.places
least_is pool next e = All-from_recursion (EndsFrom next) pool.places (all_end_from pool.places (Some next) next e (omega arith))

-- before it
not_over : (now : Moment) (r : Reassembly) → now.0 < (deadline_of r).0 → is_over now r ≡ false
not_over now r h = grind (arith, nat_tests, h)

place_stays : (now next : Moment) (place : Option Reassembly) → now.0 < next.0 → EndsFrom next place → (after_time now place ≡ place) × (expired_of now place ≡ None)
place_stays now next None before h = (refl, refl)
place_stays now next (Some r) before h =
    let yet : is_over now r ≡ false = not_over now r (omega (arith, before, h)) in
    (rw yet refl, rw yet refl)

all_stay : (now next : Moment) (places : List (Option Reassembly)) → now.0 < next.0 → AllByRecursion (EndsFrom next) places
    → (map (after_time now) places ≡ places) × (filter_map (expired_of now) places ≡ [])
all_stay now next [] before h = (refl, refl)
all_stay now next (place ∷ places) before h =
    let here = place_stays now next place before h.0 in
    let rest = all_stay now next places before h.1 in
    (rw (here.0, rest.0) refl, rw (here.1, rest.1) refl)

pub nothing_before : (pool : PoolView) (now : Moment) → IfSome (next_deadline pool) (λ next. now.0 < next.0)
    → (after_age now pool ≡ pool) × (expired now pool ≡ [])
nothing_before pool now h = by_next (next_deadline pool) refl h
  where
    later : Moment
    later = record { 0 = suc now.0 }

    of_all : (map (after_time now) pool.places ≡ pool.places) × (filter_map (expired_of now) pool.places ≡ []) → (after_age now pool ≡ pool) × (expired now pool ≡ [])
    of_all stay = (ap (λ places. record pool { places = places }) stay.0, stay.1)

    by_next : (next : Option Moment) → next_deadline pool ≡ next → IfSome next (λ n. now.0 < n.0) → (after_age now pool ≡ pool) × (expired now pool ≡ [])
    by_next None e before = of_all (all_stay now later pool.places (omega arith) (all_end_from pool.places None later e tt))
    by_next (Some next) e before = of_all (all_stay now next pool.places before (all_end_from pool.places (Some next) next e (omega arith)))

-- from it on
over_changes : (now next : Moment) (place : Option Reassembly) → option_map deadline_of place ≡ Some next → next.0 ≤ now.0 → after_time now place ≡ place → ⊥
over_changes now next None is from same = cc
over_changes now next (Some r) is from same =
    let when : deadline_of r ≡ next = cc in
    let reached : (deadline_of r).0 ≤ now.0 = subst (λ (n : Moment). n.0 ≤ now.0) (sym when) from in
    let over : is_over now r ≡ true = grind (arith, nat_tests, reached) in
    let gone : after_time now (Some r) ≡ None = rw over refl in
    cc

pub ended_from : (pool : PoolView) (now : Moment) → IfSome (next_deadline pool) (λ next. next.0 ≤ now.0 → after_age now pool ≢ pool)
ended_from pool now = by_next (next_deadline pool) refl
  where
    at : (next : Moment) → Any (λ place. option_map deadline_of place ≡ Some next) pool.places → next.0 ≤ now.0 → after_age now pool ≢ pool
    at next (k, place, within, there, is) from same =
        over_changes now next place is from
        (sym (ap (after_time now) there) ∙ sym (get_or-map (after_time now) pool.places k place place within) ∙ ap (λ (p : PoolView). get_or p.places k place) same ∙ there)

    by_next : (next : Option Moment) → next_deadline pool ≡ next → IfSome next (λ n. n.0 ≤ now.0 → after_age now pool ≢ pool)
    by_next None e = tt
    by_next (Some next) e = at next (some_is pool next e)
