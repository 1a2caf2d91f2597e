-- One range more among those that are apart.
use Rattle.std.proofs.Common.{◌≡◌, ℕ, suc, ◌+◌, ◌-◌, ◌<◌, ◌≤◌, min, max, nat_lt, nat_le, Bool, true, false, ◌&&◌, ◌||◌, if◌then◌else◌, inl, inr, List, [], ◌∷◌, length, map, refl, sym, ◌∙◌, ap, subst, arith}
use Rattle.std.proofs.lemmas.Bool.{cases_lt, lt-ltb, le-ltb, le-leb, lt-leb}
use Rattle.std.proofs.lemmas.Bool.Decides.{nat_tests}
use Rattle.std.proofs.lemmas.List.Recursion.{is_count_by}
use Rattle.std.specs.List.{count_by}
use Rattle.stream_buf.specs.declared.ranges.Range.{Range}
use Rattle.stream_buf.specs.Ranges.{range, touches, hull, AreApart, AreWithin, with_range, nearer, further}
use Rattle.stream_buf.specs.Stored.{is_in, is_kept}

-- by the two tests
abbrev chosen : Bool → Bool → Range → List Range → Range → List Range
chosen below touching r rs new = if below then r ∷ with_range rs new else (if touching then with_range rs (hull r new) else new ∷ r ∷ rs)

pub with_below : (r : Range) (rs : List Range) (new : Range) → r.end < new.start → with_range (r ∷ rs) new ≡ r ∷ with_range rs new
with_below r rs new below = ap (λ (t : Bool). chosen t (nat_le r.start new.end) r rs new) (lt-ltb r.end new.start below)

pub with_touching : (r : Range) (rs : List Range) (new : Range) → new.start ≤ r.end → r.start ≤ new.end → with_range (r ∷ rs) new ≡ with_range rs (hull r new)
with_touching r rs new first second =
    ap (λ (t : Bool). chosen t (nat_le r.start new.end) r rs new) (le-ltb r.end new.start first) ∙ ap (λ (t : Bool). chosen false t r rs new) (le-leb r.start new.end second)

pub with_above : (r : Range) (rs : List Range) (new : Range) → new.start ≤ r.end → new.end < r.start → with_range (r ∷ rs) new ≡ new ∷ r ∷ rs
with_above r rs new first second =
    ap (λ (t : Bool). chosen t (nat_le r.start new.end) r rs new) (le-ltb r.end new.start first) ∙ ap (λ (t : Bool). chosen false t r rs new) (lt-leb r.start new.end second)

-- what holds in each of the three cases holds
with_cases : (P : List Range → Type 0) (r : Range) (rs : List Range) (new : Range) → (r.end < new.start → P (r ∷ with_range rs new))
    → (new.start ≤ r.end → r.start ≤ new.end → P (with_range rs (hull r new))) → (new.start ≤ r.end → new.end < r.start → P (new ∷ r ∷ rs)) → P (with_range (r ∷ rs) new)
with_cases P r rs new below touching above =
    elim (cases_lt r.end new.start) [
      | inl lt ↦ subst P (sym (with_below r rs new lt)) (below lt)
      | inr ge ↦ elim (cases_lt new.end r.start) [
        | inl lt ↦ subst P (sym (with_above r rs new ge lt)) (above ge lt)
        | inr le ↦ subst P (sym (with_touching r rs new ge le)) (touching ge le)
      ]
    ]

-- those that are apart behind a place are so behind an earlier one
pub apart_before : (rs : List Range) (place before : ℕ) → before ≤ place → AreApart place rs → AreApart before rs
apart_before [] place before le apart = tt
apart_before (r ∷ rs) place before le apart = (omega (arith, le, apart.0), apart.1, apart.2)

pub apart_with : (rs : List Range) (place : ℕ) (new : Range) → AreApart place rs → place ≤ new.start → new.start < new.end → AreApart place (with_range rs new)
apart_with [] place new apart at some = (at, some, tt)
apart_with (r ∷ rs) place new apart at some =
    with_cases (AreApart place) r rs new
    (λ below. (apart.0, apart.1, apart_with rs (suc r.end) new apart.2 (omega (arith, below)) some))
    (λ first second.
    apart_with rs place (hull r new) (apart_before rs (suc r.end) place (omega (arith, apart.0, apart.1)) apart.2) (omega (arith, apart.0, at)) (omega (arith, apart.1, some)))
    (λ first second. (at, some, (omega (arith, second), apart.1, apart.2)))

-- none reaches further than before, or than the new one
pub within_further : (rs : List Range) (place further : ℕ) → place ≤ further → AreWithin place rs → AreWithin further rs
within_further [] place further le within = tt
within_further (r ∷ rs) place further le within = (omega (arith, le, within.0), within_further rs place further le within.1)

pub within_with : (rs : List Range) (place : ℕ) (new : Range) → AreWithin place rs → new.end ≤ place → AreWithin place (with_range rs new)
within_with [] place new within at = (at, tt)
within_with (r ∷ rs) place new within at =
    with_cases (AreWithin place) r rs new
    (λ below. (within.0, within_with rs place new within.1 at))
    (λ first second. within_with rs place (hull r new) within.1 (omega (arith, within.0, at)))
    (λ first second. (at, within))

-- places in either of two that touch are those of their hull
in_both : (place a b c d : ℕ) → a < b → c < d → c ≤ b → a ≤ d
    → (nat_le (min a c) place && nat_lt place (max b d)) ≡ ((nat_le a place && nat_lt place b) || (nat_le c place && nat_lt place d))
in_both place a b c d first second third fourth = grind (arith, nat_tests)

in_hull : (place : ℕ) (r s : Range) → r.start < r.end → s.start < s.end → s.start ≤ r.end → r.start ≤ s.end → is_in place (hull r s) ≡ (is_in place r || is_in place s)
in_hull place r s first second third fourth = in_both place r.start r.end s.start s.end first second third fourth

or_swap : (a b c : Bool) → (a || (b || c)) ≡ (b || (a || c))
or_swap true true c = refl
or_swap true false c = refl
or_swap false b c = refl

or_join : (a b c : Bool) → ((a || b) || c) ≡ (b || (a || c))
or_join true true c = refl
or_join true false c = refl
or_join false b c = refl

-- a place is in one of them where it was before, or where it is in the new one
pub kept_with : (rs : List Range) (from : ℕ) (new : Range) (place : ℕ) → AreApart from rs → new.start < new.end
    → is_kept (with_range rs new) place ≡ (is_in place new || is_kept rs place)
kept_with [] from new place apart some = refl
kept_with (r ∷ rs) from new place apart some =
    with_cases (λ (l : List Range). is_kept l place ≡ (is_in place new || is_kept (r ∷ rs) place)) r rs new
    (λ below.
    ap (λ (b : Bool). is_in place r || b) (kept_with rs (suc r.end) new place apart.2 some)
    ∙ or_swap (is_in place r) (is_in place new) (is_kept rs place))
    (λ first second.
    kept_with rs (suc r.end) (hull r new) place apart.2 (omega (arith, apart.1, some))
    ∙ ap (λ (b : Bool). b || is_kept rs place) (in_hull place r new apart.1 some first second)
    ∙ or_join (is_in place r) (is_in place new) (is_kept rs place))
    (λ first second. refl)

-- of those behind a range that is joined, as many touch the one that it is joined with
abbrev pub touching : Range → List Range → ℕ
touching new [] = 0
touching new (r ∷ rs) = if touches r new then 1 + touching new rs else touching new rs

pub touching_counted : (new : Range) (rs : List Range) → touching new rs ≡ count_by (λ (r : Range). touches r new) rs
touching_counted new rs = is_count_by (touching new) (λ (r : Range). touches r new) refl (λ r rs. refl) rs

touches_same : (a b c d e f : ℕ) → a < b → c < d → c ≤ b → b < e → e < f → (nat_le e (max b d) && nat_le (min a c) f) ≡ (nat_le e d && nat_le c f)
touches_same a b c d e f first second third fourth fifth = grind (arith, nat_tests)

touching_same : (rs : List Range) (from : ℕ) (r new : Range) → AreApart from rs → r.end < from → r.start < r.end → new.start < new.end → new.start ≤ r.end
    → touching (hull r new) rs ≡ touching new rs
touching_same [] from r new apart behind some others first = refl
touching_same (s ∷ rs) from r new apart behind some others first =
    let rest = touching_same rs (suc s.end) r new apart.2 (omega (arith, behind, apart.0, apart.1)) some others first in
    let here : touches s (hull r new) ≡ touches s new =
    touches_same r.start r.end new.start new.end s.start s.end some others first (omega (arith, behind, apart.0)) apart.1 in
    ap (λ (b : Bool). if b then 1 + touching (hull r new) rs else touching (hull r new) rs) here ∙ ap (λ (n : ℕ). if touches s new then 1 + n else n) rest

touches_none : (a b c d : ℕ) → d < a → (nat_le a d && nat_le c b) ≡ false
touches_none a b c d above = grind (arith, nat_tests)

touches_below : (a b c d : ℕ) → b < c → (nat_le a d && nat_le c b) ≡ false
touches_below a b c d below = grind (arith, nat_tests)

touches_here : (a b c d : ℕ) → c ≤ b → a ≤ d → (nat_le a d && nat_le c b) ≡ true
touches_here a b c d first second = grind (arith, nat_tests)

none_touching : (rs : List Range) (from : ℕ) (new : Range) → AreApart from rs → new.end < from → touching new rs ≡ 0
none_touching [] from new apart behind = refl
none_touching (s ∷ rs) from new apart behind =
    ap (λ (b : Bool). if b then 1 + touching new rs else touching new rs) (touches_none s.start s.end new.start new.end (omega (arith, behind, apart.0)))
    ∙ none_touching rs (suc s.end) new apart.2 (omega (arith, behind, apart.0, apart.1))

-- there is one range more, without those that it touches
pub length_with : (rs : List Range) (from : ℕ) (new : Range) → AreApart from rs → new.start < new.end → length (with_range rs new) + touching new rs ≡ suc (length rs)
length_with [] from new apart some = omega arith
length_with (r ∷ rs) from new apart some =
    with_cases (λ (l : List Range). length l + touching new (r ∷ rs) ≡ suc (length (r ∷ rs))) r rs new
    (λ below.
    let none : touching new (r ∷ rs) ≡ touching new rs = ap (λ (b : Bool). if b then 1 + touching new rs else touching new rs) (touches_below r.start r.end new.start new.end below) in
    let rest = length_with rs (suc r.end) new apart.2 some in
    omega (arith, none, rest))
    (λ first second.
    let one : touching new (r ∷ rs) ≡ 1 + touching new rs = ap (λ (b : Bool). if b then 1 + touching new rs else touching new rs) (touches_here r.start r.end new.start new.end first second) in
    let same = touching_same rs (suc r.end) r new apart.2 (omega arith) apart.1 some first in
    let rest = length_with rs (suc r.end) (hull r new) apart.2 (omega (arith, apart.1, some)) in
    omega (arith, one, same, rest))
    (λ first second.
    let none : touching new (r ∷ rs) ≡ touching new rs = ap (λ (b : Bool). if b then 1 + touching new rs else touching new rs) (touches_none r.start r.end new.start new.end second) in
    let rest = none_touching rs (suc r.end) new apart.2 (omega (arith, second, apart.1)) in
    omega (arith, none, rest))

-- ranges as they are told from a place further on
pub apart_nearer : (rs : List Range) (place count : ℕ) → AreApart (place + count) rs → AreApart place (map (nearer count) rs)
apart_nearer [] place count apart = tt
apart_nearer (r ∷ rs) place count apart =
    (omega (arith, apart.0), omega (arith, apart.0, apart.1), apart_nearer rs (suc (r.end - count)) count (apart_before rs (suc r.end) (suc (r.end - count) + count) (omega (arith, apart.0, apart.1)) apart.2))

further_nearer : (a b count : ℕ) → count ≤ a → a < b → range (a - count + count) (b - count + count) ≡ range a b
further_nearer a b count first second =
    let start : a - count + count ≡ a = omega (arith, first) in
    let end : b - count + count ≡ b = omega (arith, first, second) in
    ap (λ (n : ℕ). range n (b - count + count)) start ∙ ap (λ (n : ℕ). range a n) end

pub further_from : (rs : List Range) (place count : ℕ) → count ≤ place → AreApart place rs → map (further count) (map (nearer count) rs) ≡ rs
further_from [] place count le apart = refl
further_from (r ∷ rs) place count le apart =
    ap (λ (s : Range). s ∷ map (further count) (map (nearer count) rs)) (further_nearer r.start r.end count (omega (arith, le, apart.0)) apart.1)
    ∙ ap (λ (l : List Range). r ∷ l) (further_from rs (suc r.end) count (omega (arith, le, apart.0, apart.1)) apart.2)

pub within_nearer : (rs : List Range) (place count : ℕ) → AreWithin (place + count) (map (further count) rs) → AreWithin place rs
within_nearer [] place count within = tt
within_nearer (r ∷ rs) place count within = (omega (arith, within.0), within_nearer rs place count within.1)

in_further : (place count a b : ℕ) → (nat_le (a + count) (count + place) && nat_lt (count + place) (b + count)) ≡ (nat_le a place && nat_lt place b)
in_further place count a b = grind (arith, nat_tests)

pub kept_further : (rs : List Range) (count place : ℕ) → is_kept (map (further count) rs) (count + place) ≡ is_kept rs place
kept_further [] count place = refl
kept_further (r ∷ rs) count place =
    ap (λ (b : Bool). b || is_kept (map (further count) rs) (count + place)) (in_further place count r.start r.end)
    ∙ ap (λ (b : Bool). is_in place r || b) (kept_further rs count place)

-- no place before them is in one
pub not_in : (place a b : ℕ) → place < a → (nat_le a place && nat_lt place b) ≡ false
not_in place a b before = grind (arith, nat_tests)

pub not_in_past : (place a b : ℕ) → b ≤ place → (nat_le a place && nat_lt place b) ≡ false
not_in_past place a b past = grind (arith, nat_tests)

pub in_here : (place a b : ℕ) → a ≤ place → place < b → (nat_le a place && nat_lt place b) ≡ true
in_here place a b first second = grind (arith, nat_tests)

pub none_before : (rs : List Range) (from place : ℕ) → AreApart from rs → place < from → is_kept rs place ≡ false
none_before [] from place apart before = refl
none_before (r ∷ rs) from place apart before =
    ap (λ (b : Bool). b || is_kept rs place) (not_in place r.start r.end (omega (arith, apart.0, before)))
    ∙ none_before rs (suc r.end) place apart.2 (omega (arith, apart.0, apart.1, before))

-- and none past them
pub none_past : (rs : List Range) (end place : ℕ) → AreWithin end rs → end ≤ place → is_kept rs place ≡ false
none_past [] end place within past = refl
none_past (r ∷ rs) end place within past =
    ap (λ (b : Bool). b || is_kept rs place) (not_in_past place r.start r.end (omega (arith, within.0, past)))
    ∙ none_past rs end place within.1 past

-- behind the first range, a place is in one of the others
pub kept_behind : (r : Range) (rs : List Range) (place : ℕ) → r.end ≤ place → is_kept (r ∷ rs) place ≡ is_kept rs place
kept_behind r rs place past = ap (λ (b : Bool). b || is_kept rs place) (not_in_past place r.start r.end past)

-- and in it, it is in one of all
pub in_first : (r : Range) (rs : List Range) (place : ℕ) → r.start ≤ place → place < r.end → is_kept (r ∷ rs) place ≡ true
in_first r rs place low high = ap (λ (b : Bool). b || is_kept rs place) (in_here place r.start r.end low high)
