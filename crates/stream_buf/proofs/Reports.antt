-- Which places are reported.
use Rattle.std.proofs.Common.{◌≡◌, ℕ, suc, ◌+◌, ◌-◌, ◌*◌, ◌<◌, ◌≤◌, min, max, nat_lt, nat_le, Bool, true, false, ◌&&◌, ◌||◌, if◌then◌else◌, ◌⊎◌, inl, inr, List, [], ◌∷◌, refl, sym, ◌∙◌, ap, arith}
use Rattle.std.proofs.lemmas.Bool.{cases_lt, cases_Bool, lt-ltb, le-ltb, ltb-true}
use Rattle.std.proofs.lemmas.Bool.Decides.{nat_tests}
use Rattle.stream_buf.specs.declared.ranges.Range.{Range}
use Rattle.stream_buf.specs.declared.scoreboard.Tolerance.{Tolerance}
use Rattle.stream_buf.specs.Ranges.{AreApart, with_range}
use Rattle.stream_buf.specs.Stored.{is_kept}
use Rattle.stream_buf.specs.Scoreboard.{IsScoreboard, has_place, is_reported, is_taken, with_report, passed, first_gap, gap_len, unreported, tells_loss, is_lost, lost_end, reported_end}
use Rattle.stream_buf.proofs.Joining.{kept_with, none_before, not_in, not_in_past, in_here}
use Rattle.stream_buf.proofs.Scoreboards.{ahead, ahead_kept, ahead_gone, passed_kept, passed_gone, taken_is_new, with_report_taken}
use Rattle.stream_buf.proofs.Stepping.{gap_here, gap_behind, len_here, len_behind, below, below_fits, unreported_are, lost_none, lost_at}

either_false : (a b : Bool) → (a || b) ≡ false → (a ≡ false) × (b ≡ false)
either_false true b none = absurd (cc)
either_false false b none = (refl, none)

either_true : (a b : Bool) → (a || b) ≡ true → (a ≡ true) ⊎ (b ≡ true)
either_true true b some = inl refl
either_true false b some = inr some

first_true : (a b : Bool) → a ≡ true → (a || b) ≡ true
first_true a b is = ap (λ (t : Bool). t || b) is

second_true : (a b : Bool) → b ≡ true → (a || b) ≡ true
second_true true b is = refl
second_true false b is = is

or_turned : (a b : Bool) → (a || b) ≡ (b || a)
or_turned true true = refl
or_turned true false = refl
or_turned false true = refl
or_turned false false = refl

-- a place is in a range where it stands between its ends
inside : (place a b : ℕ) → (nat_le a place && nat_lt place b) ≡ true → (a ≤ place) × (place < b)
inside place a b is = grind (arith, nat_tests)

-- and one from the start on that isn't in it stands behind it
outside : (place a b : ℕ) → (nat_le a place && nat_lt place b) ≡ false → a ≤ place → b ≤ place
outside place a b is from = grind (arith, nat_tests)

pub reported_kept : (rs : List Range) (place : ℕ) → is_reported rs place ≡ is_kept rs place
reported_kept [] place = refl
reported_kept (r ∷ rs) place = ap (λ (b : Bool). has_place place r || b) (reported_kept rs place)

-- none is reported before the first range
unreported_before : (rs : List Range) (from place : ℕ) → AreApart from rs → place < from → is_reported rs place ≡ false
unreported_before rs from place apart before = reported_kept rs place ∙ none_before rs from place apart before

-- neither in the first nor in the others
neither : (r : Range) (rs : List Range) (place : ℕ) → has_place place r ≡ false → is_reported rs place ≡ false → is_reported (r ∷ rs) place ≡ false
neither r rs place first rest = ap (λ (b : Bool). b || is_reported rs place) first ∙ rest

-- the first gap

pub gap_from : (rs : List Range) (place : ℕ) → place ≤ first_gap rs place
gap_from [] place = omega arith
gap_from (r ∷ rs) place =
    elim (cases_lt place r.start) [
      | inl lt ↦ let is = gap_here r rs place lt in omega (arith, is)
      | inr le ↦ let is = gap_behind r rs place le in let rest = gap_from rs (max place r.end) in omega (arith, is, rest)
    ]

pub gap_unreported : (rs : List Range) (from place : ℕ) → AreApart from rs → is_reported rs (first_gap rs place) ≡ false
gap_unreported [] from place apart = refl
gap_unreported (r ∷ rs) from place apart =
    elim (cases_lt place r.start) [
      | inl lt ↦
          ap (λ (n : ℕ). is_reported (r ∷ rs) n) (gap_here r rs place lt)
          ∙ neither r rs place (not_in place r.start r.end lt) (unreported_before rs (suc r.end) place apart.2 (omega (arith, lt, apart.1)))
      | inr le ↦
          let gap : ℕ = first_gap rs (max place r.end) in
          let from_end = gap_from rs (max place r.end) in
          ap (λ (n : ℕ). is_reported (r ∷ rs) n) (gap_behind r rs place le)
          ∙ neither r rs gap (not_in_past gap r.start r.end (omega (arith, from_end))) (gap_unreported rs (suc r.end) (max place r.end) apart.2)
    ]

pub gap_first : (rs : List Range) (place d : ℕ) → place ≤ d → d < first_gap rs place → is_reported rs d ≡ true
gap_first [] place d from before = absurd (omega (arith, from, before))
gap_first (r ∷ rs) place d from before =
    elim (cases_lt place r.start) [
      | inl lt ↦ let is = gap_here r rs place lt in absurd (omega (arith, is, from, before))
      | inr le ↦
          let is = gap_behind r rs place le in
          elim (cases_lt d r.end) [
            | inl in_it ↦ first_true (has_place d r) (is_reported rs d) (in_here d r.start r.end (omega (arith, le, from)) in_it)
            | inr past ↦ second_true (has_place d r) (is_reported rs d) (gap_first rs (max place r.end) d (omega (arith, from, past)) (omega (arith, is, before)))
          ]
    ]

-- the places of a gap

pub len_unreported : (rs : List Range) (from place most i : ℕ) → AreApart from rs → is_reported rs place ≡ false → i < gap_len rs place most → is_reported rs (place + i) ≡ false
len_unreported [] from place most i apart none below = refl
len_unreported (r ∷ rs) from place most i apart none below =
    elim (cases_lt place r.start) [
      | inl lt ↦
          let is = len_here r rs place most lt in
          unreported_before (r ∷ rs) r.start (place + i) (omega arith, apart.1, apart.2) (omega (arith, is, below, lt))
      | inr le ↦
          let is = len_behind r rs place most le in
          let both = either_false (has_place place r) (is_reported rs place) none in
          let past = outside place r.start r.end both.0 le in
          neither r rs (place + i) (not_in_past (place + i) r.start r.end (omega (arith, past)))
          (len_unreported rs (suc r.end) place most i apart.2 both.1 (omega (arith, is, below)))
    ]

pub len_some : (rs : List Range) (place most : ℕ) → 0 < most → 0 < gap_len rs place most
len_some [] place most some = some
len_some (r ∷ rs) place most some =
    elim (cases_lt place r.start) [
      | inl lt ↦ let is = len_here r rs place most lt in omega (arith, is, lt, some)
      | inr le ↦ let is = len_behind r rs place most le in let rest = len_some rs place most some in omega (arith, is, rest)
    ]

pub len_most : (rs : List Range) (place most : ℕ) → gap_len rs place most ≤ most
len_most [] place most = omega arith
len_most (r ∷ rs) place most =
    elim (cases_lt place r.start) [
      | inl lt ↦ let is = len_here r rs place most lt in omega (arith, is)
      | inr le ↦ let is = len_behind r rs place most le in let rest = len_most rs place most in omega (arith, is, rest)
    ]

pub len_whole : (rs : List Range) (from place most : ℕ) → AreApart from rs → gap_len rs place most < most → is_reported rs (place + gap_len rs place most) ≡ true
len_whole [] from place most apart fewer = absurd (omega (arith, fewer))
len_whole (r ∷ rs) from place most apart fewer =
    elim (cases_lt place r.start) [
      | inl lt ↦
          let is = len_here r rs place most lt in
          let next : ℕ = place + gap_len (r ∷ rs) place most in
          first_true (has_place next r) (is_reported rs next) (in_here next r.start r.end (omega (arith, is, lt, fewer)) (omega (arith, is, lt, fewer, apart.1)))
      | inr le ↦
          let is = len_behind r rs place most le in
          let next : ℕ = place + gap_len (r ∷ rs) place most in
          let rest = len_whole rs (suc r.end) place most apart.2 (omega (arith, is, fewer)) in
          second_true (has_place next r) (is_reported rs next) (ap (λ (n : ℕ). is_reported rs (place + n)) is ∙ rest)
    ]

-- those that aren't reported, counted

pub none_below : (rs : List Range) → unreported rs 0 ≡ 0
none_below rs = let are = unreported_are rs 0 in omega (arith, are)

one_range : (place a b : ℕ) → a < b → min b (suc place) - min a (suc place) ≡ (min b place - min a place) + (if nat_le a place && nat_lt place b then 1 else 0)
one_range place a b some = grind (arith, nat_tests)

abbrev one_if : Bool → ℕ
one_if b = if b then 1 else 0

abbrev zero_if : Bool → ℕ
zero_if b = if b then 0 else 1

below_next : (rs : List Range) (from place : ℕ) → AreApart from rs → below (suc place) rs ≡ below place rs + (if is_reported rs place then 1 else 0)
below_next [] from place apart = omega arith
below_next (r ∷ rs) from place apart =
    let rest = below_next rs (suc r.end) place apart.2 in
    let here = one_range place r.start r.end apart.1 in
    elim (cases_Bool (has_place place r)) [
      | inl on ↦
          let one : one_if (has_place place r) ≡ 1 = ap one_if on in
          let others : one_if (is_reported rs place) ≡ 0 = ap one_if (unreported_before rs (suc r.end) place apart.2 (omega (arith, (inside place r.start r.end on).1))) in
          let all : one_if (is_reported (r ∷ rs) place) ≡ 1 = ap one_if (first_true (has_place place r) (is_reported rs place) on) in
          omega (arith, rest, here, one, others, all)
      | inr off ↦
          let none : one_if (has_place place r) ≡ 0 = ap one_if off in
          let all : one_if (is_reported (r ∷ rs) place) ≡ one_if (is_reported rs place) = ap (λ (b : Bool). one_if (b || is_reported rs place)) off in
          omega (arith, rest, here, none, all)
    ]

pub next_below : (rs : List Range) (place : ℕ) → AreApart 1 rs → unreported rs (suc place) ≡ unreported rs place + (if is_reported rs place then 0 else 1)
next_below rs place apart =
    let are = unreported_are rs place in
    let then_are = unreported_are rs (suc place) in
    let next = below_next rs 1 place apart in
    let fits = below_fits rs 1 place apart in
    elim (cases_Bool (is_reported rs place)) [
      | inl on ↦
          let one : one_if (is_reported rs place) ≡ 1 = ap one_if on in
          let added : zero_if (is_reported rs place) ≡ 0 = ap zero_if on in
          omega (arith, are, then_are, next, fits, one, added)
      | inr off ↦
          let none : one_if (is_reported rs place) ≡ 0 = ap one_if off in
          let added : zero_if (is_reported rs place) ≡ 1 = ap zero_if off in
          omega (arith, are, then_are, next, fits, none, added)
    ]

-- one more report

pub report_added : (rs : List Range) (outstanding : ℕ) (new : Range) (place : ℕ) → IsScoreboard rs → is_taken rs outstanding new ≡ true
    → is_reported (with_report rs outstanding new) place ≡ (is_reported rs place || has_place place new)
report_added rs outstanding new place was taken =
    let is = taken_is_new rs outstanding new taken in
    ap (λ (l : List Range). is_reported l place) (with_report_taken rs outstanding new taken)
    ∙ reported_kept (with_range rs new) place ∙ kept_with rs 1 new place was.apart is.some
    ∙ ap (λ (b : Bool). has_place place new || b) (sym (reported_kept rs place)) ∙ or_turned (has_place place new) (is_reported rs place)

-- places that are acknowledged

has_nearer : (place count a b : ℕ) → count < a → (nat_le (a - count) place && nat_lt place (b - count)) ≡ (nat_le a (place + count) && nat_lt (place + count) b)
has_nearer place count a b further = grind (arith, nat_tests)

pub passed_ranges : (rs : List Range) (count place : ℕ) → is_reported (passed count rs) place ≡ is_reported (ahead count rs) (place + count)
passed_ranges [] count place = refl
passed_ranges (r ∷ rs) count place =
    elim (cases_lt count r.start) [
      | inl lt ↦
          ap (λ (l : List Range). is_reported l place) (passed_kept count r rs lt)
          ∙ ap (λ (b : Bool). b || is_reported (passed count rs) place) (has_nearer place count r.start r.end lt)
          ∙ ap (λ (b : Bool). has_place (place + count) r || b) (passed_ranges rs count place)
          ∙ ap (λ (l : List Range). is_reported l (place + count)) (sym (ahead_kept count r rs lt))
      | inr le ↦
          ap (λ (l : List Range). is_reported l place) (passed_gone count r rs le)
          ∙ passed_ranges rs count place
          ∙ ap (λ (l : List Range). is_reported l (place + count)) (sym (ahead_gone count r rs le))
    ]

ahead_was : (rs : List Range) (count place : ℕ) → is_reported (ahead count rs) place ≡ true → is_reported rs place ≡ true
ahead_was [] count place is = is
ahead_was (r ∷ rs) count place is =
    elim (cases_lt count r.start) [
      | inl lt ↦
          let now : is_reported (r ∷ ahead count rs) place ≡ true = ap (λ (l : List Range). is_reported l place) (sym (ahead_kept count r rs lt)) ∙ is in
          elim (either_true (has_place place r) (is_reported (ahead count rs) place) now) [
            | inl on ↦ first_true (has_place place r) (is_reported rs place) on
            | inr rest ↦ second_true (has_place place r) (is_reported rs place) (ahead_was rs count place rest)
          ]
      | inr le ↦
          let now : is_reported (ahead count rs) place ≡ true = ap (λ (l : List Range). is_reported l place) (sym (ahead_gone count r rs le)) ∙ is in
          second_true (has_place place r) (is_reported rs place) (ahead_was rs count place now)
    ]

pub passed_was : (rs : List Range) (count place : ℕ) → is_reported (passed count rs) place ≡ true → is_reported rs (place + count) ≡ true
passed_was rs count place is = ahead_was rs count (place + count) (sym (passed_ranges rs count place) ∙ is)

past_gap : (count gap place a b : ℕ) → count ≤ gap → gap < place → (nat_le a gap && nat_lt gap b) ≡ false → (nat_le a place && nat_lt place b) ≡ true → count < a
past_gap count gap place a b from before none is = grind (arith, nat_tests)

ahead_stays : (rs : List Range) (count gap place : ℕ) → count ≤ gap → gap < place → is_reported rs gap ≡ false → is_reported rs place ≡ true → is_reported (ahead count rs) place ≡ true
ahead_stays [] count gap place from before none is = is
ahead_stays (r ∷ rs) count gap place from before none is =
    let both = either_false (has_place gap r) (is_reported rs gap) none in
    elim (either_true (has_place place r) (is_reported rs place) is) [
      | inl on ↦
          ap (λ (l : List Range). is_reported l place) (ahead_kept count r rs (past_gap count gap place r.start r.end from before both.0 on))
          ∙ first_true (has_place place r) (is_reported (ahead count rs) place) on
      | inr rest ↦
          let stays = ahead_stays rs count gap place from before both.1 rest in
          elim (cases_lt count r.start) [
            | inl lt ↦ ap (λ (l : List Range). is_reported l place) (ahead_kept count r rs lt) ∙ second_true (has_place place r) (is_reported (ahead count rs) place) stays
            | inr le ↦ ap (λ (l : List Range). is_reported l place) (ahead_gone count r rs le) ∙ stays
          ]
    ]

pub passed_stays : (rs : List Range) (count gap place : ℕ) → count ≤ gap → gap < place → is_reported rs gap ≡ false → is_reported rs place ≡ true
    → is_reported (passed count rs) (place - count) ≡ true
passed_stays rs count gap place from before none is =
    let back : place - count + count ≡ place = omega (arith, from, before) in
    passed_ranges rs count (place - count) ∙ ap (λ (n : ℕ). is_reported (ahead count rs) n) back ∙ ahead_stays rs count gap place from before none is

-- the end of all

pub reported_before : (rs : List Range) (place : ℕ) → is_reported rs place ≡ true → place < reported_end rs
reported_before [] place is = absurd (cc)
reported_before (r ∷ rs) place is =
    elim (either_true (has_place place r) (is_reported rs place) is) [
      | inl on ↦ let there = inside place r.start r.end on in omega (arith, there.1)
      | inr rest ↦ let before = reported_before rs place rest in omega (arith, before)
    ]

pub last_reported : (rs : List Range) (from : ℕ) → AreApart from rs → 0 < reported_end rs → is_reported rs (reported_end rs - 1) ≡ true
last_reported [] from apart some = absurd (omega (arith, some))
last_reported (r ∷ rs) from apart some =
    let last : ℕ = reported_end (r ∷ rs) - 1 in
    elim (cases_lt r.end (reported_end rs)) [
      | inl lt ↦
          second_true (has_place last r) (is_reported rs last)
          (ap (λ (n : ℕ). is_reported rs n) (omega (arith, lt)) ∙ last_reported rs (suc r.end) apart.2 (omega (arith, lt)))
      | inr le ↦ first_true (has_place last r) (is_reported rs last) (in_here last r.start r.end (omega (arith, le, apart.1)) (omega (arith, le, apart.1)))
    ]

-- what is lost

-- nothing tells no loss
nothing_told : (t : Tolerance) → tells_loss t [] ≡ false
nothing_told t = ap (λ (b : Bool). b || nat_lt t.octets 0) (le-ltb t.ranges 0 (omega arith)) ∙ le-ltb t.octets 0 (omega arith)

lost_others : (t : Tolerance) (r : Range) (rs : List Range) → tells_loss t rs ≡ true → lost_end t (r ∷ rs) ≡ lost_end t rs
lost_others t r rs on = ap (λ (b : Bool). if b then lost_end t rs else (if tells_loss t (r ∷ rs) then r.start else 0)) on

lost_from : (t : Tolerance) (rs : List Range) (from : ℕ) → AreApart from rs → tells_loss t rs ≡ true → from ≤ lost_end t rs
lost_from t [] from apart tells = let no : true ≡ false = sym tells ∙ nothing_told t in absurd (cc)
lost_from t (r ∷ rs) from apart tells =
    elim (cases_Bool (tells_loss t rs)) [
      | inl on ↦
          let is = lost_others t r rs on in
          let rest = lost_from t rs (suc r.end) apart.2 on in
          omega (arith, is, rest, apart.0, apart.1)
      | inr off ↦ let is = lost_at t [] r rs off tells in omega (arith, is, apart.0)
    ]

-- no loss is told past the start of the first range where the others tell of none
lost_no_further : (t : Tolerance) (r : Range) (rs : List Range) → tells_loss t rs ≡ false → lost_end t (r ∷ rs) ≤ r.start
lost_no_further t r rs off =
    elim (cases_Bool (tells_loss t (r ∷ rs))) [
      | inl on ↦ let is = lost_at t [] r rs off on in omega (arith, is)
      | inr none ↦ let is = lost_none t (r ∷ rs) none in omega (arith, is)
    ]

ahead_all : (rs : List Range) (from place : ℕ) → AreApart from rs → place < from → ahead place rs ≡ rs
ahead_all [] from place apart before = refl
ahead_all (r ∷ rs) from place apart before =
    ahead_kept place r rs (omega (arith, apart.0, before)) ∙ ap (λ (l : List Range). r ∷ l) (ahead_all rs (suc r.end) place apart.2 (omega (arith, apart.0, apart.1, before)))

pub lost_before : (t : Tolerance) (rs : List Range) (from place : ℕ) → AreApart from rs → is_reported rs place ≡ false → nat_lt place (lost_end t rs) ≡ is_lost t rs place
lost_before t [] from place apart none = le-ltb place 0 (omega arith) ∙ sym (nothing_told t)
lost_before t (r ∷ rs) from place apart none =
    elim (cases_lt place r.start) [
      | inl lt ↦
          let lost : is_lost t (r ∷ rs) place ≡ tells_loss t (r ∷ rs) =
          ap (λ (l : List Range). tells_loss t l) (ahead_all (r ∷ rs) r.start place (omega arith, apart.1, apart.2) lt) in
          elim (cases_Bool (tells_loss t (r ∷ rs))) [
            | inl on ↦
                let further = lost_from t (r ∷ rs) r.start (omega arith, apart.1, apart.2) on in
                lt-ltb place (lost_end t (r ∷ rs)) (omega (arith, lt, further)) ∙ sym (lost ∙ on)
            | inr off ↦ let is = lost_none t (r ∷ rs) off in le-ltb place (lost_end t (r ∷ rs)) (omega (arith, is)) ∙ sym (lost ∙ off)
          ]
      | inr le ↦
          let both = either_false (has_place place r) (is_reported rs place) none in
          let rest = lost_before t rs (suc r.end) place apart.2 both.1 in
          let lost : is_lost t (r ∷ rs) place ≡ is_lost t rs place = ap (λ (l : List Range). tells_loss t l) (ahead_gone place r rs le) in
          elim (cases_Bool (tells_loss t rs)) [
            | inl on ↦ ap (λ (n : ℕ). nat_lt place n) (lost_others t r rs on) ∙ rest ∙ sym lost
            | inr off ↦
                let further = lost_no_further t r rs off in
                let is = lost_none t rs off in
                le-ltb place (lost_end t (r ∷ rs)) (omega (arith, further, le))
                ∙ sym (le-ltb place (lost_end t rs) (omega (arith, is))) ∙ rest ∙ sym lost
          ]
    ]
