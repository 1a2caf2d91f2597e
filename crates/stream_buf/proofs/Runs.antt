-- The longest runs of kept octets: which places they have, how they lie, and how many there are.
use Rattle.std.proofs.Common.{◌≡◌, ℕ, zero, suc, ◌+◌, ◌-◌, ◌<◌, ◌≤◌, ◌↔◌, nat_le, nat_lt, true, inl, inr, List, [], ◌∷◌, ◌++◌, length, get_or, Option, Some, None, is_some, IsSome, Any, unwrap_or, refl, sym, ◌∙◌, ap, arith}
use Rattle.std.proofs.lemmas.Bool.{leb-true, ltb-true, and_parts, or_cases, or_right}
use Rattle.std.proofs.lemmas.List.Recursion.{is_sum_by}
use Rattle.stream_buf.specs.declared.ranges.Range.{Range}
use Rattle.stream_buf.specs.Ranges.{range, covered, AreApart}
use Rattle.stream_buf.specs.Receiving.{front, open_run, runs_from, runs, ranges_after, ranges, kept_count}
use Rattle.stream_buf.specs.Stored.{is_in, is_kept}
use Rattle.stream_buf.proofs.Joining.{none_before, kept_behind, apart_before, in_first}

-- a run that is open before a place began before it
abbrev IsOpen : Option ℕ → ℕ → Type 0
IsOpen None place = Unit {0}
IsOpen (Some start) place = start < place

opens : (start : Option ℕ) (place : ℕ) → IsOpen start place → IsOpen (Some (unwrap_or start place)) (place + 1)
opens None place before = omega arith
opens (Some s) place before = omega (arith, before)

-- they are in order, none is empty, and there is a gap between two of them
pub runs_apart : (start : Option ℕ) (place : ℕ) (places : List (Option ℕ)) → IsOpen start place → AreApart (unwrap_or start place) (runs_from start place places)
runs_apart None place [] before = tt
runs_apart (Some s) place [] before = (omega arith, before, tt)
runs_apart None place (None ∷ places) before = apart_before (runs_from None (place + 1) places) (place + 1) place (omega arith) (runs_apart None (place + 1) places tt)
runs_apart (Some s) place (None ∷ places) before =
    (omega arith, before, apart_before (runs_from None (place + 1) places) (place + 1) (suc place) (omega arith) (runs_apart None (place + 1) places tt))
runs_apart start place (Some x ∷ places) before = runs_apart (Some (unwrap_or start place)) (place + 1) places (opens start place before)

-- none begins at the first place, where nothing stands in front
pub runs_ahead : (places : List (Option ℕ)) → front places ≡ [] → AreApart 1 (runs places)
runs_ahead [] gap = tt
runs_ahead (None ∷ places) gap = runs_apart None (0 + 1) places tt
runs_ahead (Some x ∷ places) gap = absurd (cc)

-- the places of the open run are in it
in_open : (start place : ℕ) (places : List (Option ℕ)) (at : ℕ) → start ≤ at → at < place → is_kept (runs_from (Some start) place places) at ≡ true
in_open start place [] at low high = in_first (range start place) [] at low high
in_open start place (None ∷ places) at low high = in_first (range start place) (runs_from None (place + 1) places) at low high
in_open start place (Some x ∷ places) at low high = in_open start (place + 1) places at low (omega (arith, high))

-- and none behind it
past_open : (start : Option ℕ) (place : ℕ) (rs : List Range) (at : ℕ) → place ≤ at → is_kept (open_run start place ++ rs) at ≡ is_kept rs at
past_open None place rs at past = refl
past_open (Some s) place rs at past = kept_behind (range s place) rs at past

-- a place keeps an octet where it is in one of them
has_kept : (start : Option ℕ) (place : ℕ) (places : List (Option ℕ)) (k : ℕ) → IsOpen start place
    → is_kept (runs_from start place places) (place + k) ≡ is_some (get_or places k None)
has_kept None place [] k before = refl
has_kept (Some s) place [] k before = past_open (Some s) place [] (place + k) (omega arith)
has_kept start place (None ∷ places) zero before =
    past_open start place (runs_from None (place + 1) places) (place + 0) (omega arith)
    ∙ none_before (runs_from None (place + 1) places) (place + 1) (place + 0) (runs_apart None (place + 1) places tt) (omega arith)
has_kept start place (None ∷ places) (suc k) before =
    past_open start place (runs_from None (place + 1) places) (place + suc k) (omega arith)
    ∙ ap (λ (n : ℕ). is_kept (runs_from None (place + 1) places) n) (omega arith) ∙ has_kept None (place + 1) places k tt
has_kept None place (Some x ∷ places) zero before = in_open place (place + 1) places (place + 0) (omega arith) (omega arith)
has_kept (Some s) place (Some x ∷ places) zero before = in_open s (place + 1) places (place + 0) (omega (arith, before)) (omega arith)
has_kept start place (Some x ∷ places) (suc k) before =
    ap (λ (n : ℕ). is_kept (runs_from (Some (unwrap_or start place)) (place + 1) places) n) (omega arith)
    ∙ has_kept (Some (unwrap_or start place)) (place + 1) places k (opens start place before)

-- a place is in one of these
abbrev IsInOne : ℕ → List Range → Type 0
IsInOne place rs = Any (λ (r : Range). (r.start ≤ place) × (place < r.end)) rs

in_one : (rs : List Range) (place : ℕ) → is_kept rs place ≡ true → IsInOne place rs
in_one [] place is = absurd (cc)
in_one (r ∷ rs) place is =
    elim (or_cases (is_in place r) (is_kept rs place) is) [
      | inl here ↦
          let parts = and_parts (nat_le r.start place) (nat_lt place r.end) here in
          (0, r, omega arith, refl, (leb-true r.start place parts.0, ltb-true place r.end parts.1))
      | inr there ↦ let one = in_one rs place there in (suc one.0, one.1, omega (arith, one.2), one.3, one.4)
    ]

kept_in : (rs : List Range) (k place : ℕ) (r : Range) → k < length rs → get_or rs k r ≡ r → r.start ≤ place → place < r.end → is_kept rs place ≡ true
kept_in [] k place r below is low high = absurd (omega (arith, below))
kept_in (s ∷ rs) zero place r below is low high = ap (λ (t : Range). is_kept (t ∷ rs) place) is ∙ in_first r rs place low high
kept_in (s ∷ rs) (suc k) place r below is low high = or_right (is_in place s) (is_kept rs place) (kept_in rs k place r (omega (arith, below)) is low high)

-- and so, in both directions
pub runs_keep : (places : List (Option ℕ)) (place : ℕ) → IsSome (get_or places place None) ↔ IsInOne place (runs places)
runs_keep places place =
    let same : is_kept (runs places) place ≡ is_some (get_or places place None) = ap (λ (n : ℕ). is_kept (runs places) n) (omega arith) ∙ has_kept None 0 places place tt in (
      λ some. in_one (runs places) place (same ∙ some),
      λ one. sym same ∙ kept_in (runs places) one.0 place one.1 one.2 one.3 one.4.0 one.4.1,
    )

-- there are as many as ranges are counted
as_many : (start : Option ℕ) (place : ℕ) (places : List (Option ℕ)) → length (runs_from start place places) ≡ length (open_run start place) + ranges_after (is_some start) places
as_many None place [] = omega arith
as_many (Some s) place [] = omega arith
as_many None place (None ∷ places) = as_many None (place + 1) places
as_many (Some s) place (None ∷ places) = let rest = as_many None (place + 1) places in omega (arith, rest)
as_many None place (Some x ∷ places) = let rest = as_many (Some place) (place + 1) places in omega (arith, rest)
as_many (Some s) place (Some x ∷ places) = as_many (Some s) (place + 1) places

-- the places of ranges, one range after the other
abbrev pub places_of : List Range → ℕ
places_of [] = 0
places_of (r ∷ rs) = r.end - r.start + places_of rs

pub places_are_covered : (rs : List Range) → places_of rs ≡ covered rs
places_are_covered rs = is_sum_by places_of (λ (r : Range). r.end - r.start) refl (λ r more. refl) rs

-- and they have as many places as octets are kept
as_long : (start : Option ℕ) (place : ℕ) (places : List (Option ℕ)) → IsOpen start place
    → places_of (runs_from start place places) ≡ place - unwrap_or start place + kept_count places
as_long None place [] before = omega arith
as_long (Some s) place [] before = refl
as_long None place (None ∷ places) before = let rest = as_long None (place + 1) places tt in omega (arith, rest)
as_long (Some s) place (None ∷ places) before = let rest = as_long None (place + 1) places tt in omega (arith, rest)
as_long start place (Some x ∷ places) before =
    let next = opens start place before in
    let rest = as_long (Some (unwrap_or start place)) (place + 1) places next in
    omega (arith, next, rest)

pub runs_covered : (places : List (Option ℕ)) → covered (runs places) ≡ kept_count places
runs_covered places = let long = as_long None 0 places tt in sym (places_are_covered (runs places)) ∙ omega (arith, long)

pub runs_counted : (places : List (Option ℕ)) → length (runs places) ≡ ranges places
runs_counted places = let many = as_many None 0 places in omega (arith, many)
