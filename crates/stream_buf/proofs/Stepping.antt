-- What a scoreboard answers, one range after another.
use Rattle.std.proofs.Common.{◌≡◌, ℕ, zero, suc, ◌+◌, ◌-◌, ◌*◌, ◌<◌, ◌≤◌, ◌^◌, min, max, nat_lt, nat_le, Bool, true, false, ◌||◌, if◌then◌else◌, List, [], ◌∷◌, ◌++◌, length, get_or, take, drop, reverse, Some, length-append, refl, sym, ◌∙◌, ap, subst, arith}
use Rattle.std.proofs.lemmas.Bool.{lt-ltb, le-ltb}
use Rattle.std.proofs.lemmas.Bool.Decides.{nat_tests}
use Rattle.std.proofs.lemmas.List.{at_drop_more, at_drop_all, length-reverse, length-take, reverse-append, reverse-reverse, take_more, take_all, take-append-drop}
use Rattle.std.proofs.lemmas.Option.{slice_get_within, get_or_from_slice_get}
use Rattle.std.specs.List.{slice_get}
use Rattle.std.proofs.lemmas.List.Sums.{sum_by-append}
use Rattle.stream_buf.specs.declared.ranges.Range.{Range}
use Rattle.stream_buf.specs.declared.scoreboard.Tolerance.{Tolerance}
use Rattle.stream_buf.specs.Ranges.{range, covered, AreApart, AreWithin}
use Rattle.stream_buf.specs.Scoreboard.{IsScoreboard, first_gap, gap_len, unreported, reported_end, tells_loss, lost_end}

pub within_at : (rs : List Range) (most i : ℕ) (d : Range) → AreWithin most rs → i < length rs → (get_or rs i d).end ≤ most
within_at [] most i d within below = absurd (omega (arith, below))
within_at (r ∷ rs) most zero d within below = within.0
within_at (r ∷ rs) most (suc i) d within below = within_at rs most i d within.1 (omega (arith, below))

-- a range that begins past the place ends the search for a gap
pub gap_here : (r : Range) (rs : List Range) (place : ℕ) → place < r.start → first_gap (r ∷ rs) place ≡ place
gap_here r rs place lt = ap (λ (b : Bool). if b then place else first_gap rs (max place r.end)) (lt-ltb place r.start lt)

pub gap_behind : (r : Range) (rs : List Range) (place : ℕ) → r.start ≤ place → first_gap (r ∷ rs) place ≡ first_gap rs (max place r.end)
gap_behind r rs place le = ap (λ (b : Bool). if b then place else first_gap rs (max place r.end)) (le-ltb place r.start le)

-- the two facts of a step past a range, as a loop has them
pub gap_stepped : (rs : List Range) (place i : ℕ) (d : Range) → IsScoreboard rs → i < length rs → (get_or rs i d).start ≤ place → place ≤ 2 ^ 32 - 1
    → (max place (get_or rs i d).end ≤ 2 ^ 32 - 1) × (first_gap (drop (i + 1) rs) (max place (get_or rs i d).end) ≡ first_gap (drop i rs) place)
gap_stepped rs place i d was there le fits =
    let within = within_at rs (2 ^ 32 - 1) i d was.within there in (
      omega (arith, fits, within),
      sym (gap_behind (get_or rs i d) (drop (i + 1) rs) place le) ∙ sym (at_drop_more (λ (l : List Range). first_gap l place) rs i d there),
    )

pub len_here : (r : Range) (rs : List Range) (place most : ℕ) → place < r.start → gap_len (r ∷ rs) place most ≡ min most (r.start - place)
len_here r rs place most lt = ap (λ (b : Bool). if b then min most (r.start - place) else gap_len rs place most) (lt-ltb place r.start lt)

pub len_behind : (r : Range) (rs : List Range) (place most : ℕ) → r.start ≤ place → gap_len (r ∷ rs) place most ≡ gap_len rs place most
len_behind r rs place most le = ap (λ (b : Bool). if b then min most (r.start - place) else gap_len rs place most) (le-ltb place r.start le)

-- how many places below one these have
abbrev pub below : ℕ → List Range → ℕ
below place [] = 0
below place (r ∷ rs) = (min r.end place - min r.start place) + below place rs

pub unreported_are : (rs : List Range) (place : ℕ) → unreported rs place ≡ place - below place rs
unreported_are [] place = omega arith
unreported_are (r ∷ rs) place = let rest = unreported_are rs place in omega (arith, rest)

below_from : (rs : List Range) (from place : ℕ) → AreApart from rs → below place rs + min from place ≤ place
below_from [] from place apart = omega arith
below_from (r ∷ rs) from place apart = let rest = below_from rs (suc r.end) place apart.2 in omega (arith, rest, apart.0, apart.1)

pub below_fits : (rs : List Range) (from place : ℕ) → AreApart from rs → below place rs ≤ place
below_fits rs from place apart = let all = below_from rs from place apart in omega (arith, all)

pub below_more : (rs : List Range) (place i : ℕ) (d : Range) → i < length rs
    → below place (drop i rs) ≡ (min (get_or rs i d).end place - min (get_or rs i d).start place) + below place (drop (i + 1) rs)
below_more rs place i d there = at_drop_more (below place) rs i d there

pub below_all : (rs : List Range) (place i : ℕ) → length rs ≤ i → below place (drop i rs) ≡ 0
below_all rs place i all = at_drop_all (below place) rs i all

-- the last of those that are apart ends furthest
last_beyond : (rs : List Range) (from i : ℕ) (d : Range) → AreApart from rs → length rs ≡ suc i → from ≤ (get_or rs i d).end
last_beyond [] from i d apart last = absurd (omega (arith, last))
last_beyond (r ∷ rs) from zero d apart last = omega (arith, apart.0, apart.1)
last_beyond (r ∷ rs) from (suc i) d apart last =
    let rest = last_beyond rs (suc r.end) i d apart.2 (omega (arith, last)) in
    omega (arith, rest, apart.0, apart.1)

pub end_is_last : (rs : List Range) (from i : ℕ) (d : Range) → AreApart from rs → length rs ≡ suc i → reported_end rs ≡ (get_or rs i d).end
end_is_last [] from i d apart last = absurd (omega (arith, last))
end_is_last (r ∷ []) from zero d apart last = omega arith
end_is_last (r ∷ []) from (suc i) d apart last = absurd (omega (arith, last))
end_is_last (r ∷ s ∷ rs) from zero d apart last = absurd (omega (arith, last))
end_is_last (r ∷ s ∷ rs) from (suc i) d apart last =
    let rest = end_is_last (s ∷ rs) (suc r.end) i d apart.2 (omega (arith, last)) in
    let beyond = last_beyond (s ∷ rs) (suc r.end) i d apart.2 (omega (arith, last)) in
    omega (arith, rest, beyond)

-- the last one, as a slice gives it
pub last_one : (rs : List Range) (r : Range) → IsScoreboard rs → Some r ≡ slice_get rs (length rs - 1) → (r.end ≡ reported_end rs) × (r.end ≤ 2 ^ 32 - 1)
last_one rs r was is =
    let i : ℕ = length rs - 1 in
    let there = slice_get_within rs i r (sym is) in
    let same : (get_or rs i (range 0 0)).end ≡ r.end = ap (λ (s : Range). s.end) (get_or_from_slice_get rs i r (range 0 0) (sym is)) in
    let end = end_is_last rs 1 i (range 0 0) was.apart (omega (arith, there)) in
    let within = within_at rs (2 ^ 32 - 1) i (range 0 0) was.within there in
    (omega (arith, same, end), omega (arith, same, within))

-- more ranges with more octets tell no less
told_less : (t : Tolerance) (few octets more further : ℕ) → few ≤ more → octets ≤ further → (nat_lt t.ranges more || nat_lt t.octets further) ≡ false → (nat_lt t.ranges few || nat_lt t.octets octets) ≡ false
told_less t few octets more further first second none = grind (arith, nat_tests)

told_more : (t : Tolerance) (few octets more further : ℕ) → few ≤ more → octets ≤ further → (nat_lt t.ranges few || nat_lt t.octets octets) ≡ true → (nat_lt t.ranges more || nat_lt t.octets further) ≡ true
told_more t few octets more further first second tells = grind (arith, nat_tests)

tells_behind : (t : Tolerance) (more rs : List Range) → tells_loss t (more ++ rs) ≡ false → tells_loss t rs ≡ false
tells_behind t more rs none =
    let size = length-append more rs in
    let octets = sum_by-append (λ (r : Range). r.end - r.start) more rs in
    told_less t (length rs) (covered rs) (length (more ++ rs)) (covered (more ++ rs)) (omega (arith, size)) (omega (arith, octets)) none

tells_before : (t : Tolerance) (more rs : List Range) → tells_loss t rs ≡ true → tells_loss t (more ++ rs) ≡ true
tells_before t more rs tells =
    let size = length-append more rs in
    let octets = sum_by-append (λ (r : Range). r.end - r.start) more rs in
    told_more t (length rs) (covered rs) (length (more ++ rs)) (covered (more ++ rs)) (omega (arith, size)) (omega (arith, octets)) tells

pub lost_none : (t : Tolerance) (rs : List Range) → tells_loss t rs ≡ false → lost_end t rs ≡ 0
lost_none t [] none = refl
lost_none t (r ∷ rs) none =
    ap (λ (b : Bool). if b then lost_end t rs else (if tells_loss t (r ∷ rs) then r.start else 0)) (tells_behind t (r ∷ []) rs none)
    ∙ ap (λ (b : Bool). if b then r.start else 0) none

-- the last range of which those from it on tell so
pub lost_at : (t : Tolerance) (more : List Range) (r : Range) (rs : List Range) → tells_loss t rs ≡ false → tells_loss t (r ∷ rs) ≡ true → lost_end t (more ++ r ∷ rs) ≡ r.start
lost_at t [] r rs none tells =
    ap (λ (b : Bool). if b then lost_end t rs else (if tells_loss t (r ∷ rs) then r.start else 0)) none ∙ ap (λ (b : Bool). if b then r.start else 0) tells
lost_at t (s ∷ more) r rs none tells =
    ap (λ (b : Bool). if b then lost_end t (more ++ r ∷ rs) else (if tells_loss t (s ∷ more ++ r ∷ rs) then s.start else 0)) (tells_before t more (r ∷ rs) tells)
    ∙ lost_at t more r rs none tells

-- from the last range back
covered_reversed : (rs : List Range) → covered (reverse rs) ≡ covered rs
covered_reversed [] = refl
covered_reversed (r ∷ rs) =
    let rest = covered_reversed rs in
    let split : covered (reverse (r ∷ rs)) ≡ covered (reverse rs) + covered (r ∷ []) =
    ap (λ (l : List Range). covered l) (reverse-append (r ∷ []) rs) ∙ sum_by-append (λ (s : Range). s.end - s.start) (reverse rs) (r ∷ []) in
    let all : covered (r ∷ rs) ≡ covered (r ∷ []) + covered rs = sum_by-append (λ (s : Range). s.end - s.start) (r ∷ []) rs in
    omega (arith, rest, split, all)

tells_reversed : (t : Tolerance) (rs : List Range) → tells_loss t (reverse rs) ≡ tells_loss t rs
tells_reversed t rs =
    ap (λ (n : ℕ). nat_lt t.ranges n || nat_lt t.octets (covered (reverse rs))) (length-reverse rs)
    ∙ ap (λ (n : ℕ). nat_lt t.ranges (length rs) || nat_lt t.octets n) (covered_reversed rs)

one_of_them : (more : List Range) (r : Range) (rs : List Range) (from most : ℕ) → AreApart from (more ++ r ∷ rs) → AreWithin most (more ++ r ∷ rs)
    → (r.start < r.end) × (r.end ≤ most)
one_of_them [] r rs from most apart within = (apart.1, within.0)
one_of_them (s ∷ more) r rs from most apart within = one_of_them more r rs (suc s.end) most apart.2 within.1

module _ (rs : List Range) (n : ℕ) (r : Range) (there : n < length (reverse rs)) (is : r ≡ get_or (reverse rs) n r) where
  next : take (n + 1) (reverse rs) ≡ take n (reverse rs) ++ r ∷ []
  next = take_more (reverse rs) n r there ∙ ap (λ (s : Range). take n (reverse rs) ++ s ∷ []) (sym is)

  pub one_more : covered (take (n + 1) (reverse rs)) ≡ covered (take n (reverse rs)) + (r.end - r.start)
  one_more = ap (λ (l : List Range). covered l) next ∙ sum_by-append (λ (s : Range). s.end - s.start) (take n (reverse rs)) (r ∷ []) ∙ ap (λ (k : ℕ). covered (take n (reverse rs)) + k) (omega arith)

  last : reverse (take (n + 1) (reverse rs)) ≡ r ∷ reverse (take n (reverse rs))
  last = ap (λ (l : List Range). reverse l) next ∙ reverse-append (take n (reverse rs)) (r ∷ [])

  parts : rs ≡ reverse (drop (n + 1) (reverse rs)) ++ r ∷ reverse (take n (reverse rs))
  parts =
      let back : List Range = reverse rs in
      sym (reverse-reverse rs)
      ∙ ap (λ (l : List Range). reverse l) (sym (take-append-drop (n + 1) back))
      ∙ reverse-append (take (n + 1) back) (drop (n + 1) back)
      ∙ ap (λ (l : List Range). reverse (drop (n + 1) back) ++ l) last

  pub sound_one : IsScoreboard rs → (r.start < r.end) × (r.end ≤ 2 ^ 32 - 1)
  sound_one sound =
      let most : ℕ = 2 ^ 32 - 1 in
      one_of_them (reverse (drop (n + 1) (reverse rs))) r (reverse (take n (reverse rs))) 1 most (subst (AreApart 1) parts sound.apart) (subst (AreWithin most) parts sound.within)

  pub found : (t : Tolerance) → tells_loss t (take n (reverse rs)) ≡ false → tells_loss t (take (n + 1) (reverse rs)) ≡ true → lost_end t rs ≡ r.start
  found t none tells =
      let back : List Range = reverse rs in
      ap (λ (l : List Range). lost_end t l) parts
      ∙ lost_at t (reverse (drop (n + 1) back)) r (reverse (take n back)) (tells_reversed t (take n back) ∙ none)
      (ap (λ (l : List Range). tells_loss t l) (sym last) ∙ tells_reversed t (take (n + 1) back) ∙ tells)

-- so many with so many octets tell what they do
pub told : (t : Tolerance) (n octets : ℕ) (rs : List Range) → n ≡ length rs → octets ≡ covered rs → tells_loss t rs ≡ (nat_lt t.ranges n || nat_lt t.octets octets)
told t n octets rs many some =
    ap (λ (k : ℕ). nat_lt t.ranges k || nat_lt t.octets (covered rs)) (sym many) ∙ ap (λ (k : ℕ). nat_lt t.ranges n || nat_lt t.octets k) (sym some)

few_tell : (t : Tolerance) (n octets : ℕ) → n ≤ t.ranges → octets ≤ t.octets → (nat_lt t.ranges n || nat_lt t.octets octets) ≡ false
few_tell t n octets few little = grind (arith, nat_tests)

pub few_told : (t : Tolerance) (n octets : ℕ) → (nat_lt t.ranges n || nat_lt t.octets octets) ≡ false → (n ≤ t.ranges) × (octets ≤ t.octets)
few_told t n octets none = grind (arith, nat_tests)

-- where the last ones tell of no loss
pub little : (t : Tolerance) (n octets : ℕ) (rs : List Range) → n ≤ length rs → n ≤ t.ranges → octets ≡ covered (take n (reverse rs)) → octets ≤ t.octets → tells_loss t (take n (reverse rs)) ≡ false
little t n octets rs there few is most =
    told t n octets (take n (reverse rs)) (omega (arith, length-take n (reverse rs), length-reverse rs, there)) is ∙ few_tell t n octets few most

pub found_none : (t : Tolerance) (n : ℕ) (rs : List Range) → length (reverse rs) ≤ n → tells_loss t (take n (reverse rs)) ≡ false → lost_end t rs ≡ 0
found_none t n rs all none =
    lost_none t rs (sym (tells_reversed t rs) ∙ ap (λ (l : List Range). tells_loss t l) (sym (take_all n (reverse rs) all)) ∙ none)
