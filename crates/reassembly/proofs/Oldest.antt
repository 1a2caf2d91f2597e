-- The datagram that gives way.
use Rattle.std.proofs.Common.{◌≡◌, ◌⊎◌, ℕ, suc, ◌+◌, ◌<◌, ◌≤◌, ◌&&◌, Bool, true, false, nat_le, nat_lt, cond, List, [], ◌∷◌, length, get_or, set, Option, Some, None, is_none, is_some, inl, inr, refl, sym, ◌∙◌, ap, subst, arith, All}
use Rattle.std.specs.List.{count_by, list_all, position, position_or_len}
use Rattle.std.specs.Option.{option_or}
use Rattle.std.proofs.lemmas.Bool.Decides.{nat_tests}
use Rattle.std.proofs.lemmas.List.{get_or-set_same, get_or-set_other, length-set}
use Rattle.std.proofs.lemmas.List.Folds.{list_all_at}
use Rattle.std.proofs.lemmas.List.Quantifiers.{position-Some}
use Rattle.std.proofs.lemmas.List.Sums.{fails_before_first, sum_by-set}
use Rattle.clock.specs.declared.moment.Moment.{Moment}
use Rattle.ipv4.specs.Datagram.{Datagram}
use Rattle.reassembly.specs.Fragments.{key_of, ends_within}
use Rattle.reassembly.specs.Places.{is_of, began_from, is_oldest, oldest, without, without_oldest, fits, place_for, LosesOldest}
use Rattle.reassembly.specs.Reassembly.{Reassembly, PoolView}
use Rattle.reassembly.proofs.OverEvents.{at, none_at, within as taken_within}

le_true : (a b : ℕ) → a ≤ b → nat_le a b ≡ true
le_true a b h = grind (arith, nat_tests, h)

-- each of them began no earlier
each_from : (m : Moment) (places : List (Option Reassembly)) → list_all (began_from m) places ≡ true → (i : ℕ) (b : Reassembly) → i < length places
    → at places i ≡ Some b → m.0 ≤ b.since.0
each_from m places all i b within there = by_test (nat_le m.0 b.since.0) refl
  where
    by_test : (t : Bool) → nat_le m.0 b.since.0 ≡ t → m.0 ≤ b.since.0
    by_test true e = grind (arith, nat_tests, e)
    by_test false e =
        let not : list_all (began_from m) places ≡ false = list_all_at (began_from m) places i None within (ap (began_from m) there ∙ e) in
        let both : true ≡ false = sym all ∙ not in
        cc

-- none of them began before an earlier moment
from_earlier : (m n : Moment) (places : List (Option Reassembly)) → n.0 ≤ m.0 → list_all (began_from m) places ≡ true → list_all (began_from n) places ≡ true
from_earlier m n [] h all = refl
from_earlier m n (None ∷ places) h all = from_earlier m n places h all
from_earlier m n (Some r ∷ places) h all = by_test (from_earlier m n places h) (nat_le m.0 r.since.0) refl all
  where
    by_test : (list_all (began_from m) places ≡ true → list_all (began_from n) places ≡ true) → (t : Bool) → nat_le m.0 r.since.0 ≡ t
        → (t && list_all (began_from m) places) ≡ true → (nat_le n.0 r.since.0 && list_all (began_from n) places) ≡ true
    by_test rest true e k =
        let here : m.0 ≤ r.since.0 = grind (arith, nat_tests, e) in
        rw (le_true n.0 r.since.0 (omega (arith, here, h)), rest k) refl
    by_test rest false e k = cc

from_none : (m : Moment) (places : List (Option Reassembly)) → list_all is_none places ≡ true → list_all (began_from m) places ≡ true
from_none m [] all = refl
from_none m (None ∷ places) all = from_none m places all
from_none m (Some r ∷ places) all = cc

-- one of them began before no other
record HasOldest (places : List (Option Reassembly)) : Type 0 where
  i : ℕ
  a : Reassembly
  within : i < length places
  there : at places i ≡ Some a
  all : list_all (began_from a.since) places ≡ true

least : (places : List (Option Reassembly)) → (list_all is_none places ≡ true) ⊎ HasOldest places
least [] = inl refl
least (None ∷ places) = behind (least places)
  where
    behind : (list_all is_none places ≡ true) ⊎ HasOldest places → (list_all is_none (None ∷ places) ≡ true) ⊎ HasOldest (None ∷ places)
    behind (inl none) = inl none
    behind (inr o) = inr (record { i = suc o.i; a = o.a; within = omega (arith, o.within); there = o.there; all = o.all })
least (Some r ∷ places) = inr (ahead (least places))
  where
    itself : nat_le r.since.0 r.since.0 ≡ true
    itself = le_true r.since.0 r.since.0 (omega arith)

    here : list_all (began_from r.since) places ≡ true → HasOldest (Some r ∷ places)
    here rest = record { i = 0; a = r; within = omega arith; there = refl; all = rw (itself, rest) refl }

    by_test : (o : HasOldest places) (t : Bool) → nat_le r.since.0 o.a.since.0 ≡ t → HasOldest (Some r ∷ places)
    by_test o true e = here (from_earlier o.a.since r.since places (grind (arith, nat_tests, e)) o.all)
    by_test o false e =
        let later : o.a.since.0 ≤ r.since.0 = grind (arith, nat_tests, e) in
        record {
          i = suc o.i;
          a = o.a;
          within = omega (arith, o.within);
          there = o.there;
          all = rw (le_true o.a.since.0 r.since.0 later, o.all) refl;
        }

    ahead : (list_all is_none places ≡ true) ⊎ HasOldest places → HasOldest (Some r ∷ places)
    ahead (inl none) = here (from_none r.since places none)
    ahead (inr o) = by_test o (nat_le r.since.0 o.a.since.0) refl

-- the first place
first_place : {X : Type 0} (p : X → Bool) (xs : List X) (k : ℕ) → position p xs ≡ Some k → position_or_len p xs ≡ k
first_place p xs k e = by_test (nat_lt (position_or_len p xs) (length xs)) e
  where
    by_test : (t : Bool) → cond t (Some (position_or_len p xs)) None ≡ Some k → position_or_len p xs ≡ k
    by_test true f = cc
    by_test false f = cc

-- what is found
record Found (places : List (Option Reassembly)) : Type 0 where
  k : ℕ
  r : Reassembly
  is : oldest places ≡ Some k
  within : k < length places
  there : at places k ≡ Some r
  all : list_all (began_from r.since) places ≡ true

found_at : (places : List (Option Reassembly)) (k : ℕ) → oldest places ≡ Some k → k < length places → (o : Option Reassembly) → at places k ≡ o
    → is_oldest places o ≡ true → Found places
found_at places k is within None there h = cc
found_at places k is within (Some r) there h = record { k = k; r = r; is = is; within = within; there = there; all = h }

found : (places : List (Option Reassembly)) → HasOldest places → Found places
found places h = by_place (oldest places) refl
  where
    by_place : (o : Option ℕ) → oldest places ≡ o → Found places
    by_place None e =
        let no : is_oldest places (at places h.i) ≡ false = none_at (is_oldest places) places None e h.i h.within in
        let yes : is_oldest places (at places h.i) ≡ true = ap (is_oldest places) h.there ∙ h.all in
        let both : true ≡ false = sym yes ∙ no in
        cc
    by_place (Some k) e =
        let is = position-Some (is_oldest places) places k None e in
        found_at places k e is.0 (at places k) refl is.1

one_if : Option Reassembly → ℕ
one_if place = cond (is_some place) 1 0

one_fewer : (places : List (Option Reassembly)) (i : ℕ) (a : Reassembly) → i < length places → at places i ≡ Some a
    → count_by is_some places ≡ count_by is_some (set places i None) + 1
unfolding one_if
one_fewer places i a within there =
    let both : count_by is_some (set places i None) + one_if (at places i) ≡ count_by is_some places + 0 = sum_by-set one_if places i None None within in
    let one : one_if (at places i) ≡ 1 = ap one_if there in
    omega (arith, both, one)

-- an earlier place of the same moment would have been found
is_first : (places : List (Option Reassembly)) (f : Found places) (i : ℕ) (other : Reassembly) → i < f.k → at places i ≡ Some other
    → f.r.since.0 < other.since.0
is_first places f i other before there = by_test (nat_lt f.r.since.0 other.since.0) refl
  where
    by_test : (t : Bool) → nat_lt f.r.since.0 other.since.0 ≡ t → f.r.since.0 < other.since.0
    by_test true e = grind (arith, nat_tests, e)
    by_test false e =
        let no_later : other.since.0 ≤ f.r.since.0 = grind (arith, nat_tests, e) in
        let yes : is_oldest places (at places i) ≡ true =
        ap (is_oldest places) there ∙ from_earlier f.r.since other.since places no_later f.all in
        let no : is_oldest places (at places i) ≡ false =
        fails_before_first (is_oldest places) places i None (omega (arith, before, first_place (is_oldest places) places f.k f.is)) in
        let both : true ≡ false = sym yes ∙ no in
        cc

loses : (places : List (Option Reassembly)) → Found places → LosesOldest places (without (oldest places) places)
loses places f =
    subst (λ (o : Option ℕ). LosesOldest places (without o places)) (sym f.is)
    (record {
      place = f.k;
      gone = f.r;
      stood = f.there;
      oldest = λ i other there. each_from f.r.since places f.all i other (taken_within places i other there) there;
      first = λ i other before there. is_first places f i other before there;
      free = get_or-set_same places f.k None None f.within;
      others = λ i other. get_or-set_other places f.k i None None other;
      fewer = one_fewer places f.k f.r f.within f.there;
      same_length = length-set places f.k None;
    })

are_free : (places : List (Option Reassembly)) → list_all is_none places ≡ true → All (λ place. place ≡ None) places
are_free places all i d within = by_place (get_or places i d) refl
  where
    by_place : (o : Option Reassembly) → get_or places i d ≡ o → o ≡ None
    by_place None e = refl
    by_place (Some r) e =
        let not : list_all is_none places ≡ false = list_all_at is_none places i d within (ap is_none e) in
        let both : true ≡ false = sym all ∙ not in
        cc

-- a taken one is among them
all_free : (places : List (Option Reassembly)) (i : ℕ) (r : Reassembly) → list_all is_none places ≡ true → at places i ≡ Some r → ⊥
all_free places i r all there =
    let not : list_all is_none places ≡ false = list_all_at is_none places i None (taken_within places i r there) (ap is_none there) in
    let both : true ≡ false = sym all ∙ not in
    cc

pub oldest_gone : (pool : PoolView) (i : ℕ) (r : Reassembly) → at pool.places i ≡ Some r → LosesOldest pool.places (without_oldest pool).places
oldest_gone pool i r there = by_least (least pool.places)
  where
    by_least : (list_all is_none pool.places ≡ true) ⊎ HasOldest pool.places → LosesOldest pool.places (without_oldest pool).places
    by_least (inl none) = absurd (all_free pool.places i r none there)
    by_least (inr h) = loses pool.places (found pool.places h)

-- where none is taken
none_oldest : (places : List (Option Reassembly)) → All (λ place. place ≡ None) places → oldest places ≡ None
none_oldest places free = by_place (oldest places) refl
  where
    by_place : (o : Option ℕ) → oldest places ≡ o → o ≡ None
    by_place None e = refl
    by_place (Some k) e =
        let is = position-Some (is_oldest places) places k None e in
        let none : at places k ≡ None = free k None is.0 in
        let no : is_oldest places (at places k) ≡ false = ap (is_oldest places) none in
        let both : true ≡ false = sym is.1 ∙ no in
        cc

pub none_gone : (pool : PoolView) → All (λ place. place ≡ None) pool.places → without_oldest pool ≡ pool
none_gone pool free = ap (λ (o : Option ℕ). record pool { places = without o pool.places }) (none_oldest pool.places free)

-- where one is free there is a place
place_where_free : (d : Datagram) (pool : PoolView) (i : ℕ) → ends_within pool.octets d ≡ true → i < length pool.places → at pool.places i ≡ None
    → is_some (place_for d pool) ≡ true
place_where_free d pool i fits within there =
    rw fits (by_own (position (is_of (key_of d)) pool.places))
  where
    by_free : (o : Option ℕ) → position is_none pool.places ≡ o → is_some o ≡ true
    by_free (Some k) e = refl
    by_free None e =
        let no : is_none (at pool.places i) ≡ false = none_at is_none pool.places None e i within in
        let both : true ≡ false = sym (ap is_none there) ∙ no in
        cc

    by_own : (o : Option ℕ) → is_some (option_or o (position is_none pool.places)) ≡ true
    by_own (Some k) = refl
    by_own None = by_free (position is_none pool.places) refl

first_free : (places : List (Option Reassembly)) → list_all is_none places ≡ true → at places 0 ≡ None
first_free [] all = refl
first_free (None ∷ places) all = refl
first_free (Some r ∷ places) all = cc

both_true : (a b : Bool) → (a && b) ≡ true → (a ≡ true) × (b ≡ true)
both_true true true h = (refl, refl)
both_true true false h = cc
both_true false b h = cc

pub room_left : (pool : PoolView) (d : Datagram) → fits pool d ≡ true → is_some (place_for d (without_oldest pool)) ≡ true
room_left pool d fit = by_least (least pool.places)
  where
    both : (nat_lt 0 (length pool.places) ≡ true) × (ends_within pool.octets d ≡ true)
    both = both_true (nat_lt 0 (length pool.places)) (ends_within pool.octets d) fit

    some : 0 < length pool.places
    some = grind (arith, nat_tests, both.0)

    by_least : (list_all is_none pool.places ≡ true) ⊎ HasOldest pool.places → is_some (place_for d (without_oldest pool)) ≡ true
    by_least (inl none) =
        subst (λ (p : PoolView). is_some (place_for d p) ≡ true) (sym (none_gone pool (are_free pool.places none)))
        (place_where_free d pool 0 both.1 some (first_free pool.places none))
    by_least (inr h) =
        let f = found pool.places h in
        subst (λ (o : Option ℕ). is_some (place_for d (record pool { places = without o pool.places })) ≡ true) (sym f.is)
        (place_where_free d (record pool { places = set pool.places f.k None }) f.k both.1 (omega (arith, f.within, length-set pool.places f.k None))
        (get_or-set_same pool.places f.k None None f.within))
