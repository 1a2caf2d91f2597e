-- The runs of kept octets are the ranges of a buffer: there are as many of these, and they have as many places as octets are kept.
use Rattle.std.proofs.Common.{◌≡◌, ℕ, zero, suc, ◌+◌, ◌-◌, ◌<◌, ◌≤◌, Bool, true, false, if◌then◌else◌, inl, inr, List, [], ◌∷◌, ◌++◌, length, map, Option, Some, None, unwrap_or, refl, sym, ◌∙◌, ap, arith}
use Rattle.std.proofs.lemmas.Bool.{cases_lt}
use Rattle.std.proofs.lemmas.Option.{slice_get-get_or}
use Rattle.std.specs.List.{slice_get, range_with_len}
use Rattle.stream_buf.specs.declared.ranges.Range.{Range}
use Rattle.stream_buf.specs.Ranges.{AreApart, AreWithin, covered}
use Rattle.stream_buf.specs.Receiving.{open_run, runs_from, runs, ranges, kept_count}
use Rattle.stream_buf.specs.Stored.{is_kept, kept_at, kept_places}
use Rattle.stream_buf.proofs.Joining.{none_before, kept_behind, in_first, apart_before, within_further}
use Rattle.stream_buf.proofs.Runs.{places_of, places_are_covered, runs_counted, runs_covered}
use Rattle.stream_buf.proofs.Storing.{kept_there, not_kept}

-- ranges that are apart have no more places than lie between the ends
within_ends : (rs : List Range) (at end : ℕ) → AreApart at rs → AreWithin end rs → places_of rs ≤ end - at
within_ends [] at end apart within = omega arith
within_ends (r ∷ rs) at end apart within =
    let rest = within_ends rs (suc r.end) end apart.2 within.1 in omega (arith, apart.0, apart.1, within.0, rest)

pub covered_within : (rs : List Range) (end : ℕ) → AreApart 1 rs → AreWithin end rs → covered rs ≤ end
covered_within rs end apart within = omega (arith, within_ends rs 1 end apart within, places_are_covered rs)

-- the runs in the places from one on
module _ (ahead : List ℕ) where
  abbrev places_from : List Range → ℕ → ℕ → List (Option ℕ)
  places_from rs at count = map (kept_at rs ahead) (range_with_len at count)

  places_behind : (r : Range) (rs : List Range) (count at : ℕ) → r.end ≤ at → places_from (r ∷ rs) at count ≡ places_from rs at count
  places_behind r rs zero at past = refl
  places_behind r rs (suc count) at past =
      ap (λ (b : Bool). (if b then slice_get ahead at else None) ∷ places_from (r ∷ rs) (at + 1) count) (kept_behind r rs at past)
      ∙ ap (λ (ps : List (Option ℕ)). kept_at rs ahead at ∷ ps) (places_behind r rs count (at + 1) (omega (arith, past)))

  -- by the first of them
  gap_first : (start : Option ℕ) (rs : List Range) (count at : ℕ) → is_kept rs at ≡ false
      → runs_from start at (places_from rs at (suc count)) ≡ open_run start at ++ runs_from None (at + 1) (places_from rs (at + 1) count)
  gap_first start rs count at none = ap (λ (o : Option ℕ). runs_from start at (o ∷ places_from rs (at + 1) count)) (not_kept rs ahead at none)

  kept_first : (start : Option ℕ) (rs : List Range) (count at : ℕ) → is_kept rs at ≡ true → at < length ahead
      → runs_from start at (places_from rs at (suc count)) ≡ runs_from (Some (unwrap_or start at)) (at + 1) (places_from rs (at + 1) count)
  kept_first start rs count at kept there =
      ap (λ (o : Option ℕ). runs_from start at (o ∷ places_from rs (at + 1) count)) (kept_there rs ahead at kept ∙ slice_get-get_or ahead at 0 there)

  -- from a place before all ranges on
  abbrev AreAll : ℕ → Type 0
  AreAll count = (rs : List Range) (at : ℕ) → AreApart at rs → AreWithin (at + count) rs → AreWithin (length ahead) rs
      → runs_from None at (places_from rs at count) ≡ rs

  -- from a place on that is in the first of them, or directly behind it
  abbrev AreRest : ℕ → Type 0
  AreRest count = (r : Range) (rs : List Range) (at : ℕ) → r.start < at → at ≤ r.end → AreApart (suc r.end) rs → AreWithin (at + count) (r ∷ rs) → AreWithin (length ahead) (r ∷ rs)
      → runs_from (Some r.start) at (places_from (r ∷ rs) at count) ≡ r ∷ rs

  -- the open run ends with the first range
  ended : (r : Range) (rs : List Range) (at : ℕ) → at ≡ r.end → open_run (Some r.start) at ++ rs ≡ r ∷ rs
  ended r rs at is = ap (λ (n : ℕ). open_run (Some r.start) n ++ rs) is

  all_of_none : AreAll 0
  all_of_none [] at apart within reach = refl
  all_of_none (r ∷ rs) at apart within reach = absurd (omega (arith, apart.0, apart.1, within.0))

  rest_of_none : AreRest 0
  rest_of_none r [] at low high apart within reach = ended r [] at (omega (arith, high, within.0))
  rest_of_none r (s ∷ rs) at low high apart within reach = absurd (omega (arith, high, apart.0, apart.1, within.1.0))

  all_of_more : (count : ℕ) → AreAll count → AreRest count → AreAll (suc count)
  all_of_more count all rest [] at apart within reach = gap_first None [] count at refl ∙ all [] (at + 1) tt tt tt
  all_of_more count all rest (r ∷ rs) at apart within reach =
      let near : AreWithin (at + 1 + count) (r ∷ rs) = within_further (r ∷ rs) (at + suc count) (at + 1 + count) (omega arith) within in
      elim (cases_lt at r.start) [
        | inl lt ↦
            gap_first None (r ∷ rs) count at (none_before (r ∷ rs) (suc at) at (omega (arith, lt), apart.1, apart.2) (omega arith))
            ∙ all (r ∷ rs) (at + 1) (omega (arith, lt), apart.1, apart.2) near reach
        | inr ge ↦
            kept_first None (r ∷ rs) count at (in_first r rs at ge (omega (arith, apart.0, apart.1, ge))) (omega (arith, apart.0, apart.1, reach.0))
            ∙ ap (λ (n : ℕ). runs_from (Some n) (at + 1) (places_from (r ∷ rs) (at + 1) count)) (omega (arith, apart.0, ge))
            ∙ rest r rs (at + 1) (omega (arith, ge)) (omega (arith, apart.0, apart.1)) apart.2 near reach
      ]

  rest_of_more : (count : ℕ) → AreAll count → AreRest count → AreRest (suc count)
  rest_of_more count all rest r rs at low high apart within reach =
      let near : AreWithin (at + 1 + count) (r ∷ rs) = within_further (r ∷ rs) (at + suc count) (at + 1 + count) (omega arith) within in
      elim (cases_lt at r.end) [
        | inl lt ↦
            kept_first (Some r.start) (r ∷ rs) count at (in_first r rs at (omega (arith, low)) lt) (omega (arith, lt, reach.0))
            ∙ rest r rs (at + 1) (omega (arith, low)) (omega (arith, lt)) apart near reach
        | inr ge ↦
            gap_first (Some r.start) (r ∷ rs) count at (kept_behind r rs at ge ∙ none_before rs (suc r.end) at apart (omega (arith, high)))
            ∙ ap (λ (ps : List (Option ℕ)). open_run (Some r.start) at ++ runs_from None (at + 1) ps) (places_behind r rs count (at + 1) (omega (arith, ge)))
            ∙ ap (λ (l : List Range). open_run (Some r.start) at ++ l)
            (all rs (at + 1) (apart_before rs (suc r.end) (at + 1) (omega (arith, high)) apart) near.1 reach.1)
            ∙ ended r rs at (omega (arith, high, ge))
      ]

  are_runs : (count : ℕ) → AreAll count × AreRest count
  are_runs zero = (all_of_none, rest_of_none)
  are_runs (suc count) = let less = are_runs count in (all_of_more count less.0 less.1, rest_of_more count less.0 less.1)

module _ (rs : List Range) (ahead : List ℕ) (room : ℕ) (apart : AreApart 1 rs) (reach : AreWithin (length ahead) rs) (fits : length ahead ≤ room) where
  pub runs_kept : runs (kept_places rs ahead room) ≡ rs
  unfolding kept_places
  runs_kept = (are_runs ahead room).0 rs 0 (apart_before rs 1 0 (omega arith) apart) (within_further rs (length ahead) (0 + room) (omega (arith, fits)) reach) reach

  pub ranges_kept : ranges (kept_places rs ahead room) ≡ length rs
  ranges_kept = sym (runs_counted (kept_places rs ahead room)) ∙ ap (λ (l : List Range). length l) runs_kept

  pub octets_kept : kept_count (kept_places rs ahead room) ≡ covered rs
  octets_kept = sym (runs_covered (kept_places rs ahead room)) ∙ ap (λ (l : List Range). covered l) runs_kept
