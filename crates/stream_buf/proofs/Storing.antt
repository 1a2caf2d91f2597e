-- What stands at the places of a receive buffer, by what its ring holds and its ranges say.
use Rattle.std.proofs.Common.{◌≡◌, ℕ, zero, suc, ◌+◌, ◌-◌, ◌<◌, ◌≤◌, Bool, true, false, if◌then◌else◌, inl, inr, List, [], ◌∷◌, ◌++◌, length, get_or, map, take, drop, replicate, Option, Some, None, refl, sym, ◌∙◌, ap, length-append, max, ◌||◌, arith}
use Rattle.std.proofs.lemmas.Bool.{cases_lt}
use Rattle.std.proofs.lemmas.List.{length-take, length-drop, length-replicate, get_or-drop, get_or-take, get_or-replicate, get_or_past}
use Rattle.std.proofs.lemmas.List.FromFn.{length-map-range_with_len, get_or-map-range_with_len, fill_by_all}
use Rattle.std.proofs.lemmas.Option.{slice_get-get_or, slice_get_past}
use Rattle.std.specs.List.{slice_get}
use Rattle.stream_buf.specs.declared.ranges.Range.{Range}
use Rattle.stream_buf.specs.Ranges.{range, AreApart, AreWithin, with_range, further}
use Rattle.stream_buf.specs.Receiving.{front, behind_front, laid}
use Rattle.stream_buf.specs.Ring.{overlaid}
use Rattle.stream_buf.specs.Stored.{is_in, is_kept, kept_at, kept_places, filled_to, laid_at}
use Rattle.stream_buf.proofs.Standing.{laid_own, laid_before, laid_behind, at_more}
use Rattle.stream_buf.proofs.Inserting.{length-laid}
use Rattle.stream_buf.proofs.Joining.{none_before, none_past, kept_behind, kept_further, kept_with, in_here, not_in, not_in_past}

-- the octet at a place, where the place is in a range and where it isn't
pub kept_there : (rs : List Range) (ahead : List ℕ) (k : ℕ) → is_kept rs k ≡ true → kept_at rs ahead k ≡ slice_get ahead k
kept_there rs ahead k is = ap (λ (b : Bool). if b then slice_get ahead k else None) is

pub not_kept : (rs : List Range) (ahead : List ℕ) (k : ℕ) → is_kept rs k ≡ false → kept_at rs ahead k ≡ None
not_kept rs ahead k is = ap (λ (b : Bool). if b then slice_get ahead k else None) is

-- none is kept past the octets that are there
kept_past : (rs : List Range) (ahead : List ℕ) (k : ℕ) → length ahead ≤ k → kept_at rs ahead k ≡ None
kept_past rs ahead k past = nothing (is_kept rs k)
  where
    nothing : (b : Bool) → (if b then slice_get ahead k else None) ≡ None
    nothing true = slice_get_past ahead k past
    nothing false = refl

-- as many places as there is room
pub length-kept : (rs : List Range) (ahead : List ℕ) (room : ℕ) → length (kept_places rs ahead room) ≡ room
unfolding kept_places
length-kept rs ahead room = length-map-range_with_len (kept_at rs ahead) 0 room

pub at_kept : (rs : List Range) (ahead : List ℕ) (room k : ℕ) → k < room → get_or (kept_places rs ahead room) k None ≡ kept_at rs ahead k
unfolding kept_places
at_kept rs ahead room k below = get_or-map-range_with_len (kept_at rs ahead) 0 room k k None below (omega arith)

-- places that hold what is kept are those
pub are_kept : (rs : List Range) (ahead : List ℕ) (room : ℕ) (ps : List (Option ℕ)) → length ps ≡ room → ((k : ℕ) → k < room → get_or ps k None ≡ kept_at rs ahead k)
    → ps ≡ kept_places rs ahead room
unfolding kept_places
are_kept rs ahead room ps size each = fill_by_all (kept_at rs ahead) ps room None size each

-- a place for each octet that may still come, all of them free
pub none_kept : (ahead : List ℕ) (room : ℕ) → kept_places [] ahead room ≡ replicate room None
none_kept ahead room =
    sym (are_kept [] ahead room (replicate room None) (length-replicate {A = Option ℕ} room None) (λ k below. get_or-replicate room k None None below))

-- where octets are read, there are more
pub kept_more : (rs : List Range) (ahead : List ℕ) (room more : ℕ) → length ahead ≤ room
    → kept_places rs ahead (room + more) ≡ kept_places rs ahead room ++ replicate more None
kept_more rs ahead room more fits =
    let ps : List (Option ℕ) = kept_places rs ahead room in
    sym (are_kept rs ahead (room + more) (ps ++ replicate more None)
    (omega (arith, length-append ps (replicate more None), length-kept rs ahead room, length-replicate {A = Option ℕ} more None))
    (λ k below.
    at_more ps more k
    ∙ elim (cases_lt k room) [
      | inl lt ↦ at_kept rs ahead room k lt
      | inr ge ↦ get_or_past ps k None (omega (arith, length-kept rs ahead room, ge)) ∙ sym (kept_past rs ahead k (omega (arith, fits, ge)))
    ]))

-- what stands without a gap
pub front_is : (xs : List ℕ) (ps : List (Option ℕ)) → ((k : ℕ) → k < length xs → get_or ps k None ≡ Some (get_or xs k 0)) → get_or ps (length xs) None ≡ None → front ps ≡ xs
front_is [] [] each gap = refl
front_is [] (None ∷ ps) each gap = refl
front_is [] (Some x ∷ ps) each gap = absurd (cc)
front_is (x ∷ xs) [] each gap = let first = each 0 (omega arith) in absurd (cc)
front_is (x ∷ xs) (None ∷ ps) each gap = let first = each 0 (omega arith) in absurd (cc)
front_is (x ∷ xs) (Some y ∷ ps) each gap =
    let first : Some y ≡ Some x = each 0 (omega arith) in
    let same : y ≡ x = cc in
    ap (λ (z : ℕ). z ∷ front ps) same ∙ ap (λ (zs : List ℕ). x ∷ zs) (front_is xs ps (λ k below. each (suc k) (omega (arith, below))) gap)

-- elements of lists that are made of others
slice_get-drop : (n : ℕ) (xs : List ℕ) (i : ℕ) → slice_get (drop n xs) i ≡ slice_get xs (n + i)
slice_get-drop zero xs i = ap (λ (m : ℕ). slice_get xs m) (omega arith)
slice_get-drop (suc n) [] i = refl
slice_get-drop (suc n) (x ∷ xs) i = let next : suc (n + i) ≡ suc n + i = omega arith in slice_get-drop n xs i ∙ ap (λ (m : ℕ). slice_get (x ∷ xs) m) next

slice_get-take : (n : ℕ) (xs : List ℕ) (i : ℕ) → i < n → slice_get (take n xs) i ≡ slice_get xs i
slice_get-take zero xs i below = absurd (omega (arith, below))
slice_get-take (suc n) [] i below = refl
slice_get-take (suc n) (x ∷ xs) zero below = refl
slice_get-take (suc n) (x ∷ xs) (suc i) below = slice_get-take n xs i (omega (arith, below))

slice_get_first : (xs ys : List ℕ) (i : ℕ) → i < length xs → slice_get (xs ++ ys) i ≡ slice_get xs i
slice_get_first [] ys i below = absurd (omega (arith, below))
slice_get_first (x ∷ xs) ys zero below = refl
slice_get_first (x ∷ xs) ys (suc i) below = slice_get_first xs ys i (omega (arith, below))

slice_get_second : (xs ys : List ℕ) (i j : ℕ) → i ≡ length xs + j → slice_get (xs ++ ys) i ≡ slice_get ys j
slice_get_second [] ys i j is = ap (λ (m : ℕ). slice_get ys m) (omega (arith, is))
slice_get_second (x ∷ xs) ys zero j is = absurd (omega (arith, is))
slice_get_second (x ∷ xs) ys (suc i) j is = slice_get_second xs ys i j (omega (arith, is))

-- what is laid over octets that reach so far
module _ (at : ℕ) (new octets : List ℕ) (there : at ≤ length octets) where
  length-overlaid : length (overlaid at new octets) ≡ max (length octets) (at + length new)
  length-overlaid =
      omega (
        arith,
        length-append (take at octets ++ new) (drop (at + length new) octets),
        length-append (take at octets) new,
        length-take at octets,
        length-drop (at + length new) octets,
      )

  overlaid_before : (k : ℕ) → k < at → slice_get (overlaid at new octets) k ≡ slice_get octets k
  overlaid_before k below =
      slice_get_first (take at octets ++ new) (drop (at + length new) octets) k (omega (arith, length-append (take at octets) new, length-take at octets))
      ∙ slice_get_first (take at octets) new k (omega (arith, length-take at octets)) ∙ slice_get-take at octets k below

  overlaid_own : (j : ℕ) → j < length new → slice_get (overlaid at new octets) (at + j) ≡ Some (get_or new j 0)
  overlaid_own j below =
      slice_get_first (take at octets ++ new) (drop (at + length new) octets) (at + j) (omega (arith, length-append (take at octets) new, length-take at octets))
      ∙ slice_get_second (take at octets) new (at + j) j (omega (arith, length-take at octets)) ∙ slice_get-get_or new j 0 below

  overlaid_behind : (k : ℕ) → at + length new ≤ k → slice_get (overlaid at new octets) k ≡ slice_get octets k
  overlaid_behind k past =
      slice_get_second (take at octets ++ new) (drop (at + length new) octets) k (k - (at + length new))
      (omega (arith, length-append (take at octets) new, length-take at octets))
      ∙ slice_get-drop (at + length new) octets (k - (at + length new)) ∙ ap (λ (m : ℕ). slice_get octets m) (omega (arith, past))

length-filled : (len : ℕ) (octets : List ℕ) → length (filled_to len octets) ≡ max (length octets) len
length-filled len octets = omega (arith, length-append octets (replicate (len - length octets) 0), length-replicate {A = ℕ} (len - length octets) 0)

filled_there : (len : ℕ) (octets : List ℕ) (k : ℕ) → k < length octets → slice_get (filled_to len octets) k ≡ slice_get octets k
filled_there len octets k below = slice_get_first octets (replicate (len - length octets) 0) k below

pub length-laid_at : (at : ℕ) (new octets : List ℕ) → length (laid_at at new octets) ≡ max (length octets) (at + length new)
length-laid_at at new octets =
    omega (arith, length-overlaid at new (filled_to at octets) (omega (arith, length-filled at octets)), length-filled at octets)

-- octets at a distance stand in the ring, and their places are one range more
module _ (rs : List Range) (ahead new : List ℕ) (room distance : ℕ) (apart : AreApart 1 rs) (reach : AreWithin (length ahead) rs)
    (within : distance + length new ≤ room) (some : 0 < length new) where
  is_kept_with : (k : ℕ) (b : Bool) → is_in k (range distance (distance + length new)) ≡ b
      → is_kept (with_range rs (range distance (distance + length new))) k ≡ (b || is_kept rs k)
  is_kept_with k b is = kept_with rs 1 (range distance (distance + length new)) k apart (omega (arith, some)) ∙ ap (λ (c : Bool). c || is_kept rs k) is

  -- a place that the octets don't take
  stays : (k : ℕ) → is_in k (range distance (distance + length new)) ≡ false
      → (k < length ahead → slice_get (laid_at distance new ahead) k ≡ slice_get ahead k)
      → kept_at rs ahead k ≡ kept_at (with_range rs (range distance (distance + length new))) (laid_at distance new ahead) k
  stays k others same =
      let kept = is_kept_with k false others in
      elim (cases_lt k (length ahead)) [
        | inl lt ↦
            ap (λ (o : Option ℕ). if is_kept rs k then o else None) (sym (same lt))
            ∙ ap (λ (b : Bool). if b then slice_get (laid_at distance new ahead) k else None) (sym kept)
        | inr ge ↦
            let none = none_past rs (length ahead) k reach ge in
            not_kept rs ahead k none
            ∙ sym (not_kept (with_range rs (range distance (distance + length new))) (laid_at distance new ahead) k (kept ∙ none))
      ]

  pub kept_laid : laid (kept_places rs ahead room) distance new
      ≡ kept_places (with_range rs (range distance (distance + length new))) (laid_at distance new ahead) room
  kept_laid =
      let ps : List (Option ℕ) = kept_places rs ahead room in
      let size : length ps ≡ room = length-kept rs ahead room in
      let fits : distance + length new ≤ length ps = omega (arith, size, within) in
      let there : distance ≤ length (filled_to distance ahead) = omega (arith, length-filled distance ahead) in
      are_kept (with_range rs (range distance (distance + length new))) (laid_at distance new ahead) room (laid ps distance new) (length-laid ps distance new fits ∙ size)
      (λ k below.
      elim (cases_lt k distance) [
        | inl lt ↦
            laid_before ps distance new k fits lt ∙ at_kept rs ahead room k below
            ∙ stays k (not_in k distance (distance + length new) lt)
            (λ here. overlaid_before distance new (filled_to distance ahead) there k lt ∙ filled_there distance ahead k here)
        | inr ge ↦ elim (cases_lt k (distance + length new)) [
          | inl lt ↦
              let j : ℕ = k - distance in
              let is : distance + j ≡ k = omega (arith, ge) in
              let small : j < length new = omega (arith, ge, lt) in
              let mine : is_in k (range distance (distance + length new)) ≡ true = in_here k distance (distance + length new) ge lt in
              ap (λ (m : ℕ). get_or (laid ps distance new) m None) (sym is) ∙ laid_own ps distance new j fits small
              ∙ sym (overlaid_own distance new (filled_to distance ahead) there j small)
              ∙ ap (λ (m : ℕ). slice_get (laid_at distance new ahead) m) is
              ∙ sym (kept_there (with_range rs (range distance (distance + length new))) (laid_at distance new ahead) k (is_kept_with k true mine))
          | inr past ↦
              laid_behind ps distance new k (k - (distance + length new)) fits (omega (arith, past)) ∙ at_kept rs ahead room k below
              ∙ stays k (not_in_past k distance (distance + length new) past)
              (λ here. overlaid_behind distance new (filled_to distance ahead) there k past ∙ filled_there distance ahead k here)
        ]
      ])

-- where the first range begins at RCV.NXT, it is what stands without a gap, and the others lie behind it
module _ (n : ℕ) (rs : List Range) (ahead : List ℕ) (room : ℕ) (fits : length ahead ≤ room) (there : n ≤ length ahead) (apart : AreApart 1 rs) where
  behind_first : (k : ℕ) → kept_at (range 0 n ∷ map (further n) rs) ahead (n + k) ≡ kept_at rs (drop n ahead) k
  behind_first k =
      ap (λ (b : Bool). if b then slice_get ahead (n + k) else None) (kept_behind (range 0 n) (map (further n) rs) (n + k) (omega arith) ∙ kept_further rs n k)
      ∙ ap (λ (o : Option ℕ). if is_kept rs k then o else None) (sym (slice_get-drop n ahead k))

  first_kept : (k : ℕ) → k < n → is_kept (range 0 n ∷ map (further n) rs) k ≡ true
  first_kept k below = ap (λ (b : Bool). b || is_kept (map (further n) rs) k) (in_here k 0 n (omega arith) below)

  pub front_joined : front (kept_places (range 0 n ∷ map (further n) rs) ahead room) ≡ take n ahead
  front_joined =
      let all : List Range = range 0 n ∷ map (further n) rs in
      let ps : List (Option ℕ) = kept_places all ahead room in
      let size : length (take n ahead) ≡ n = omega (arith, length-take n ahead, there) in
      front_is (take n ahead) ps
      (λ k below.
      let lt : k < n = omega (arith, size, below) in
      at_kept all ahead room k (omega (arith, lt, there, fits)) ∙ kept_there all ahead k (first_kept k lt)
      ∙ slice_get-get_or ahead k 0 (omega (arith, lt, there))
      ∙ ap (λ (x : ℕ). Some x) (sym (get_or-take n ahead k 0 lt)))
      (ap (λ (m : ℕ). get_or ps m None) size
      ∙ elim (cases_lt n room) [
        | inl lt ↦
            at_kept all ahead room n lt
            ∙ ap (λ (m : ℕ). kept_at all ahead m) (omega arith)
            ∙ behind_first 0
            ∙ not_kept rs (drop n ahead) 0 (none_before rs 1 0 apart (omega arith))
        | inr ge ↦ get_or_past ps n None (omega (arith, length-kept all ahead room, ge))
      ])

  pub behind_joined : behind_front (kept_places (range 0 n ∷ map (further n) rs) ahead room) ≡ kept_places rs (drop n ahead) (room - n)
  behind_joined =
      let all : List Range = range 0 n ∷ map (further n) rs in
      let ps : List (Option ℕ) = kept_places all ahead room in
      let size : length (take n ahead) ≡ n = omega (arith, length-take n ahead, there) in
      ap (λ (xs : List ℕ). drop (length xs) ps) front_joined ∙ ap (λ (m : ℕ). drop m ps) size
      ∙ are_kept rs (drop n ahead) (room - n) (drop n ps) (omega (arith, length-drop n ps, length-kept all ahead room))
      (λ k below. get_or-drop n ps k None ∙ at_kept all ahead room (n + k) (omega (arith, below)) ∙ behind_first k)

-- none is kept at RCV.NXT
pub gap_kept : (rs : List Range) (ahead : List ℕ) (room : ℕ) → AreApart 1 rs → front (kept_places rs ahead room) ≡ []
gap_kept rs ahead room apart =
    front_is [] (kept_places rs ahead room) (λ k below. absurd (omega (arith, below)))
    (elim (cases_lt 0 room) [
      | inl lt ↦ at_kept rs ahead room 0 lt ∙ not_kept rs ahead 0 (none_before rs 1 0 apart (omega arith))
      | inr ge ↦ get_or_past (kept_places rs ahead room) 0 None (omega (arith, length-kept rs ahead room, ge))
    ])
