-- Why the octets of a segment stand at their positions afterwards, readable or kept.
use Rattle.std.proofs.Common.{◌≡◌, ℕ, zero, suc, ◌+◌, ◌-◌, ◌%◌, ◌^◌, ◌<◌, ◌≤◌, ◌==◌, ◌||◌, ◌&&◌, nat_le, nat_lt, if◌then◌else◌, Bool, true, false, List, [], ◌∷◌, ◌++◌, length, get_or, map, take, drop, Option, None, inl, inr, arith, refl, sym, ◌∙◌, ap}
use Rattle.std.specs.List.{slice_get}
use Rattle.std.specs.Option.{option_or}
use Rattle.std.proofs.lemmas.Option.{slice_get_past, slice_get-get_or}
use Rattle.std.proofs.lemmas.List.{length-take}
use Rattle.std.proofs.lemmas.Bool.{lt-leb, le-leb}
use Rattle.std.proofs.lemmas.Bool.Decides.{leb_tells}
use Rattle.stream_buf.specs.Receiving.{front, behind_front, ranges, laid, IsReceiving}
use Rattle.stream_buf.proofs.Inserting.{some, laid_none, gap_behind, fewer_behind_front}
use Rattle.stream_buf.proofs.Standing.{front_split, first_free, laid_own, laid_before, laid_behind}
use Rattle.stream_buf.proofs.Taking.{taken_first}
use Rattle.tcp_segment.specs.Wire.{wire, past}
use Rattle.tcp_halves.specs.Numbers.{is_before}
use Rattle.tcp_halves.specs.Halves.{Receiving}
use Rattle.tcp_halves.specs.Stream.{buffer_of, receive_window, distance_of, octets_within, after_octets}
use Rattle.tcp_state.specs.Positions.{ReceivesAt, AreNear, brought, known_at, places_after, takes_octets, kept_with}
use Rattle.tcp_halves.proofs.Keeping.{inserted_if}
use Rattle.tcp_state.proofs.Positions.{window_at}

slice_get-take : {A : Type 0} (n : ℕ) (xs : List A) (i : ℕ) → i < n → slice_get (take n xs) i ≡ slice_get xs i
slice_get-take zero xs i h = absurd (omega (arith, h))
slice_get-take (suc n) [] i h = refl
slice_get-take (suc n) (x ∷ xs) zero h = refl
slice_get-take (suc n) (x ∷ xs) (suc i) h = slice_get-take n xs i (omega (arith, h))

slice_get-drop : {A : Type 0} (n : ℕ) (xs : List A) (i : ℕ) → slice_get (drop n xs) i ≡ slice_get xs (n + i)
slice_get-drop zero xs i = let e : i ≡ 0 + i = omega arith in ap (slice_get xs) e
slice_get-drop (suc n) [] i = slice_get_past [] i (omega arith) ∙ sym (slice_get_past [] (suc n + i) (omega arith))
slice_get-drop (suc n) (x ∷ xs) i = let e : suc (n + i) ≡ suc n + i = omega arith in slice_get-drop n xs i ∙ ap (slice_get (x ∷ xs)) e

-- Octets that are laid over places.

-- what stands where octets were laid, by distance
at_laid : (places : List (Option ℕ)) (distance : ℕ) (octets : List ℕ) (i : ℕ) → distance + length octets ≤ length places
    → get_or (laid places distance octets) i None ≡ option_or (if nat_le distance i then slice_get octets (i - distance) else None) (get_or places i None)
at_laid places distance octets i within =
    let was : Option ℕ = get_or places i None in
    elim (leb_tells distance i) [
      | inl t ↦
          let k : ℕ = i - distance in
          let own : (if nat_le distance i then slice_get octets k else None) ≡ slice_get octets k = ap (λ (b : Bool). if b then slice_get octets k else None) t.0 in
          let place : distance + k ≡ i = omega (arith, t.1) in
          elim (leb_tells (suc k) (length octets)) [
            | inl u ↦ ap (λ (n : ℕ). get_or (laid places distance octets) n None) (sym place) ∙ laid_own places distance octets k within u.1
                ∙ sym (ap (λ (o : Option ℕ). option_or o was) (own ∙ slice_get-get_or octets k 0 u.1))
            | inr u ↦ laid_behind places distance octets i (i - (distance + length octets)) within (omega (arith, u.1, t.1))
                ∙ sym (ap (λ (o : Option ℕ). option_or o was) (own ∙ slice_get_past octets k (omega (arith, u.1))))
          ]
      | inr t ↦ laid_before places distance octets i within (omega (arith, t.1))
          ∙ sym (ap (λ (b : Bool). option_or (if b then slice_get octets (i - distance) else None) was) t.0)
    ]

at_laid_within : (places : List (Option ℕ)) (distance : ℕ) (octets : List ℕ) (i : ℕ) → (0 < length octets → distance + length octets ≤ length places)
    → get_or (laid places distance octets) i None ≡ option_or (if nat_le distance i then slice_get octets (i - distance) else None) (get_or places i None)
at_laid_within places distance [] i within =
    let was : Option ℕ = get_or places i None in
    let none : (if nat_le distance i then slice_get [] (i - distance) else None) ≡ None = either_none (nat_le distance i) (slice_get [] (i - distance)) (slice_get_past [] (i - distance) (omega arith)) in
    ap (λ (ps : List (Option ℕ)). get_or ps i None) (laid_none places distance) ∙ sym (ap (λ (o : Option ℕ). option_or o was) none)
  where
    either_none : (test : Bool) (o : Option ℕ) → o ≡ None → (if test then o else None) ≡ None
    either_none true o e = e
    either_none false o e = refl
at_laid_within places distance (x ∷ octets) i within = at_laid places distance (x ∷ octets) i (within (omega arith))

-- where a segment's octets are taken, what became readable and what is kept behind it are what they were laid over
all_after : (r : Receiving) (number : ℕ) (octets : List ℕ) → takes_octets r number octets ≡ true → places_after r number octets ≡ kept_with r number octets
all_after r number octets taken = by (takes_octets r number octets) taken
  where
    places : List (Option ℕ)
    places = kept_with r number octets

    by : (test : Bool) → test ≡ true → map some (if test then front places else []) ++ (inserted_if (buffer_of r) (distance_of r number) (octets_within r number octets) test).kept ≡ places
    by true e = front_split places
    by false e = cc

-- The octets of a segment that lie in the window, by position.

brought_ahead : (next edge first position : ℕ) (octets : List ℕ) → next < first → next ≤ position
    → (if nat_le (first - next) (position - next) then slice_get (take ((edge - next) - (first - next)) octets) ((position - next) - (first - next)) else None) ≡ brought first edge octets position
brought_ahead next edge first position octets ahead reached =
    let n : ℕ = (edge - next) - (first - next) in
    let d : ℕ = first - next in
    let i : ℕ = position - next in
    elim (leb_tells d i) [
      | inl t ↦
          let begun : nat_le first position ≡ true = le-leb first position (omega (arith, t.1, ahead, reached)) in
          let place : i - d ≡ position - first = omega (arith, t.1, ahead, reached) in
          let left : (if nat_le d i then slice_get (take n octets) (i - d) else None) ≡ slice_get (take n octets) (position - first) =
          ap (λ (b : Bool). if b then slice_get (take n octets) (i - d) else None) t.0 ∙ ap (slice_get (take n octets)) place in
          let right : brought first edge octets position ≡ (if nat_lt position edge then slice_get octets (position - first) else None) =
          ap (λ (b : Bool). if b && nat_lt position edge then slice_get octets (position - first) else None) begun in
          elim (leb_tells (suc position) edge) [
            | inl u ↦ left ∙ slice_get-take n octets (position - first) (omega (arith, u.1, ahead, reached, t.1))
                ∙ sym (right ∙ ap (λ (b : Bool). if b then slice_get octets (position - first) else None) u.0)
            | inr u ↦ left ∙ slice_get_past (take n octets) (position - first) (omega (arith, u.1, ahead, length-take n octets))
                ∙ sym (right ∙ ap (λ (b : Bool). if b then slice_get octets (position - first) else None) u.0)
          ]
      | inr t ↦
          let before : nat_le first position ≡ false = lt-leb first position (omega (arith, t.1, ahead, reached)) in
          ap (λ (b : Bool). if b then slice_get (take n octets) (i - d) else None) t.0
          ∙ sym (ap (λ (b : Bool). if b && nat_lt position edge then slice_get octets (position - first) else None) before)
    ]

brought_behind : (next edge first position : ℕ) (octets : List ℕ) → first ≤ next → next ≤ position
    → (if nat_le 0 (position - next) then slice_get (take (edge - next) (drop (next - first) octets)) ((position - next) - 0) else None) ≡ brought first edge octets position
brought_behind next edge first position octets begins reached =
    let i : ℕ = position - next in
    let new : List ℕ = drop (next - first) octets in
    let same : i - 0 ≡ i = omega arith in
    let left : (if nat_le 0 i then slice_get (take (edge - next) new) (i - 0) else None) ≡ slice_get (take (edge - next) new) i =
    ap (λ (b : Bool). if b then slice_get (take (edge - next) new) (i - 0) else None) (le-leb 0 i (omega arith))
    ∙ ap (slice_get (take (edge - next) new)) same in
    let begun : nat_le first position ≡ true = le-leb first position (omega (arith, begins, reached)) in
    let right : brought first edge octets position ≡ (if nat_lt position edge then slice_get octets (position - first) else None) =
    ap (λ (b : Bool). if b && nat_lt position edge then slice_get octets (position - first) else None) begun in
    let place : (next - first) + i ≡ position - first = omega (arith, begins, reached) in
    elim (leb_tells (suc position) edge) [
      | inl u ↦ left ∙ slice_get-take (edge - next) new i (omega (arith, u.1, reached)) ∙ slice_get-drop (next - first) octets i ∙ ap (slice_get octets) place
          ∙ sym (right ∙ ap (λ (b : Bool). if b then slice_get octets (position - first) else None) u.0)
      | inr u ↦ left ∙ slice_get_past (take (edge - next) new) i (omega (arith, u.1, length-take (edge - next) new))
          ∙ sym (right ∙ ap (λ (b : Bool). if b then slice_get octets (position - first) else None) u.0)
    ]

-- what a segment that begins past RCV.NXT lays
ahead_is : (initial next edge first : ℕ) (r : Receiving) (octets : List ℕ) → ReceivesAt initial next edge r → next < first → first < next + 2 ^ 31
    → (distance_of r (wire initial first) ≡ first - next) × (octets_within r (wire initial first) octets ≡ take ((edge - next) - (first - next)) octets)
ahead_is initial next edge first r octets at ahead near =
    let number : ℕ = wire initial first in
    let before : is_before r.rnext number ≡ true = le-leb (2 ^ 31) (past r.rnext number) (omega (arith, at.next_number, ahead, near)) in
    let distance : past number r.rnext ≡ first - next = omega (arith, at.next_number, ahead, near) in (
      ap (λ (b : Bool). if b then past number r.rnext else 0) before ∙ distance,
      ap (λ (b : Bool). if b then take (receive_window r - past number r.rnext) octets else take (receive_window r) (drop (past r.rnext number) octets)) before
          ∙ ap (λ (n : ℕ). take (n - past number r.rnext) octets) (window_at initial next edge r at) ∙ ap (λ (n : ℕ). take ((edge - next) - n) octets) distance,
    )

-- and one that begins at RCV.NXT or before it
behind_is : (initial next edge first : ℕ) (r : Receiving) (octets : List ℕ) → ReceivesAt initial next edge r → first ≤ next → next < first + 2 ^ 31
    → (distance_of r (wire initial first) ≡ 0) × (octets_within r (wire initial first) octets ≡ take (edge - next) (drop (next - first) octets))
behind_is initial next edge first r octets at begins near =
    let number : ℕ = wire initial first in
    let known : past r.rnext number ≡ next - first = omega (arith, at.next_number, begins, near) in
    let behind : is_before r.rnext number ≡ false = lt-leb (2 ^ 31) (past r.rnext number) (omega (arith, known, near)) in (
      ap (λ (b : Bool). if b then past number r.rnext else 0) behind,
      ap (λ (b : Bool). if b then take (receive_window r - past number r.rnext) octets else take (receive_window r) (drop (past r.rnext number) octets)) behind
          ∙ ap (λ (n : ℕ). take n (drop (past r.rnext number) octets)) (window_at initial next edge r at) ∙ ap (λ (n : ℕ). take (edge - next) (drop n octets)) known,
    )

-- what stands in the places where these octets are laid from this distance on
laid_there : (r : Receiving) (number : ℕ) (octets : List ℕ) (distance : ℕ) (within : List ℕ) (i : ℕ) → distance_of r number ≡ distance → octets_within r number octets ≡ within
    → (0 < length within → distance + length within ≤ length r.kept)
    → get_or (kept_with r number octets) i None ≡ option_or (if nat_le distance i then slice_get within (i - distance) else None) (get_or r.kept i None)
laid_there r number octets distance within i at is room =
    ap (λ (n : ℕ). get_or (laid r.kept n (octets_within r number octets)) i None) at ∙ ap (λ (l : List ℕ). get_or (laid r.kept distance l) i None) is
    ∙ at_laid_within r.kept distance within i room

pub each_known : (initial next edge first position : ℕ) (r : Receiving) (octets : List ℕ) → ReceivesAt initial next edge r → edge ≤ next + length r.kept → AreNear first next
    → takes_octets r (wire initial first) octets ≡ true → next ≤ position
    → known_at next (places_after r (wire initial first) octets) position ≡ option_or (brought first edge octets position) (known_at next r.kept position)
each_known initial next edge first position r octets at room near taken reached =
    let number : ℕ = wire initial first in
    let i : ℕ = position - next in
    let was : Option ℕ = get_or r.kept i None in
    ap (λ (ps : List (Option ℕ)). get_or ps i None) (all_after r number octets taken)
    ∙ elim (leb_tells (suc next) first) [
      | inl t ↦
          let n : ℕ = (edge - next) - (first - next) in
          let shown = ahead_is initial next edge first r octets at t.1 near.one in
          laid_there r number octets (first - next) (take n octets) i shown.0 shown.1 (λ some. omega (arith, some, length-take n octets, room, at.order))
          ∙ ap (λ (o : Option ℕ). option_or o was) (brought_ahead next edge first position octets t.1 reached)
      | inr t ↦
          let begins : first ≤ next = omega (arith, t.1) in
          let new : List ℕ = drop (next - first) octets in
          let shown = behind_is initial next edge first r octets at begins near.other in
          laid_there r number octets 0 (take (edge - next) new) i shown.0 shown.1 (λ some. omega (arith, length-take (edge - next) new, room, at.order))
          ∙ ap (λ (o : Option ℕ). option_or o was) (brought_behind next edge first position octets begins reached)
    ]

-- nothing is kept at RCV.NXT, since it could be read
pub none_at_next : (r : Receiving) (number : ℕ) (octets : List ℕ) → IsReceiving (buffer_of r) → get_or (after_octets r number octets).kept 0 None ≡ None
none_at_next r number octets is = first_free (after_octets r number octets).kept (by (takes_octets r number octets))
  where
    by : (test : Bool) → front (inserted_if (buffer_of r) (distance_of r number) (octets_within r number octets) test).kept ≡ []
    by true = gap_behind (kept_with r number octets)
    by false = is.gap

pub first_taken : (initial next edge first : ℕ) (r : Receiving) (octets : List ℕ) → ReceivesAt initial next edge r → first ≤ next → next < first + 2 ^ 31 → takes_octets r (wire initial first) octets ≡ true
first_taken initial next edge first r octets at begins near =
    taken_first (buffer_of r) (distance_of r (wire initial first)) (octets_within r (wire initial first) octets) (behind_is initial next edge first r octets at begins near).0

pub refused_changes : (r : Receiving) (number : ℕ) (octets : List ℕ) → r.rnext < 2 ^ 32 → takes_octets r number octets ≡ false → (after_octets r number octets ≡ r) × (32 < ranges (kept_with r number octets))
refused_changes r number octets small refused =
    let places : List (Option ℕ) = kept_with r number octets in
    let fewer = fewer_behind_front false places in
    let most : (distance_of r number == 0 || nat_le (ranges (behind_front places)) 32) ≡ false = refused in
    (by (takes_octets r number octets) refused, omega (arith, fewer, many (distance_of r number == 0) (ranges (behind_front places)) most))
  where
    by : (test : Bool) → test ≡ false
        → record {
          readable = (inserted_if (buffer_of r) (distance_of r number) (octets_within r number octets) test).readable;
          kept = (inserted_if (buffer_of r) (distance_of r number) (octets_within r number octets) test).kept;
          rnext = (r.rnext + length (if test then front (kept_with r number octets) else [])) % 2 ^ 32;
          edge = r.edge;
          size = r.size;
          capacity = r.capacity;
          unit = r.unit;
        } ≡ r
    by true e = cc
    by false e = let same : (r.rnext + 0) % 2 ^ 32 ≡ r.rnext = omega (arith, small) in ap (λ (n : ℕ). record { readable = r.readable; kept = r.kept; rnext = n; edge = r.edge; size = r.size; capacity = r.capacity; unit = r.unit }) same

    many : (first : Bool) (count : ℕ) → (first || nat_le count 32) ≡ false → 32 < count
    many true count e = cc
    many false count e = elim (leb_tells count 32) [ inl t ↦ let bad : true ≡ false = sym t.0 ∙ e in cc | inr t ↦ t.1 ]
