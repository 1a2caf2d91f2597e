-- What is reported stays in order, within 32 bits and few.
use Rattle.std.proofs.Common.{◌≡◌, ℕ, suc, ◌+◌, ◌-◌, ◌<◌, ◌≤◌, ◌^◌, nat_lt, nat_le, Bool, true, false, ◌&&◌, if◌then◌else◌, inl, inr, List, [], ◌∷◌, length, map, refl, sym, ◌∙◌, ap, subst, arith}
use Rattle.std.proofs.lemmas.Bool.{cases_lt, cases_Bool, ltb-true, leb-true, lt-ltb, le-ltb, le-leb, lt-leb}
use Rattle.std.proofs.lemmas.List.{length-map}
use Rattle.std.specs.List.{filter}
use Rattle.stream_buf.specs.declared.ranges.Range.{Range}
use Rattle.stream_buf.specs.declared.receive.TheConstants.{MOST_RANGES}
use Rattle.stream_buf.specs.Ranges.{range, AreApart, AreWithin, with_range, nearer}
use Rattle.stream_buf.specs.Scoreboard.{IsScoreboard, is_taken, with_report, passed}
use Rattle.stream_buf.proofs.Joining.{apart_before, apart_with, apart_nearer, within_with}

-- those that begin further on than a place
abbrev pub ahead : ℕ → List Range → List Range
ahead count rs = filter (λ r. nat_lt count r.start) rs

pub ahead_kept : (count : ℕ) (r : Range) (rs : List Range) → count < r.start → ahead count (r ∷ rs) ≡ r ∷ ahead count rs
ahead_kept count r rs lt = ap (λ (b : Bool). if b then r ∷ ahead count rs else ahead count rs) (lt-ltb count r.start lt)

pub ahead_gone : (count : ℕ) (r : Range) (rs : List Range) → r.start ≤ count → ahead count (r ∷ rs) ≡ ahead count rs
ahead_gone count r rs le = ap (λ (b : Bool). if b then r ∷ ahead count rs else ahead count rs) (le-ltb count r.start le)

pub passed_kept : (count : ℕ) (r : Range) (rs : List Range) → count < r.start → passed count (r ∷ rs) ≡ nearer count r ∷ passed count rs
passed_kept count r rs lt = ap (λ (b : Bool). if b then passed count rs else nearer count r ∷ passed count rs) (lt-leb r.start count lt)

pub passed_gone : (count : ℕ) (r : Range) (rs : List Range) → r.start ≤ count → passed count (r ∷ rs) ≡ passed count rs
passed_gone count r rs le = ap (λ (b : Bool). if b then passed count rs else nearer count r ∷ passed count rs) (le-leb r.start count le)

-- they are those that stay, told from the place that was acknowledged
pub passed_are : (count : ℕ) (rs : List Range) → map (nearer count) (ahead count rs) ≡ passed count rs
passed_are count [] = refl
passed_are count (r ∷ rs) =
    elim (cases_lt count r.start) [
      | inl lt ↦
          ap (λ (l : List Range). map (nearer count) l) (ahead_kept count r rs lt)
          ∙ ap (λ (l : List Range). nearer count r ∷ l) (passed_are count rs) ∙ sym (passed_kept count r rs lt)
      | inr le ↦ ap (λ (l : List Range). map (nearer count) l) (ahead_gone count r rs le) ∙ passed_are count rs ∙ sym (passed_gone count r rs le)
    ]

-- what holds where the first stays and where it doesn't holds
ahead_cases : (P : List Range → Type 0) (count : ℕ) (r : Range) (rs : List Range) → (count < r.start → P (r ∷ ahead count rs)) → (r.start ≤ count → P (ahead count rs))
    → P (ahead count (r ∷ rs))
ahead_cases P count r rs kept gone =
    elim (cases_lt count r.start) [
      | inl lt ↦ subst P (sym (ahead_kept count r rs lt)) (kept lt)
      | inr le ↦ subst P (sym (ahead_gone count r rs le)) (gone le)
    ]

pub ahead_apart : (count : ℕ) (rs : List Range) (place : ℕ) → AreApart place rs → AreApart place (ahead count rs)
ahead_apart count [] place apart = tt
ahead_apart count (r ∷ rs) place apart =
    ahead_cases (AreApart place) count r rs
    (λ lt. (apart.0, apart.1, ahead_apart count rs (suc r.end) apart.2))
    (λ le. apart_before (ahead count rs) (suc r.end) place (omega (arith, apart.0, apart.1)) (ahead_apart count rs (suc r.end) apart.2))

pub ahead_past : (count : ℕ) (rs : List Range) (place : ℕ) → AreApart place rs → AreApart (suc count) (ahead count rs)
ahead_past count [] place apart = tt
ahead_past count (r ∷ rs) place apart =
    ahead_cases (AreApart (suc count)) count r rs
    (λ lt. (omega (arith, lt), apart.1, ahead_apart count rs (suc r.end) apart.2))
    (λ le. ahead_past count rs (suc r.end) apart.2)

ahead_within : (count : ℕ) (rs : List Range) (most : ℕ) → AreWithin most rs → AreWithin most (ahead count rs)
ahead_within count [] most within = tt
ahead_within count (r ∷ rs) most within =
    ahead_cases (AreWithin most) count r rs (λ lt. (within.0, ahead_within count rs most within.1)) (λ le. ahead_within count rs most within.1)

within_moved : (count : ℕ) (rs : List Range) (most : ℕ) → AreWithin most rs → AreWithin most (map (nearer count) rs)
within_moved count [] most within = tt
within_moved count (r ∷ rs) most within = (omega (arith, within.0), within_moved count rs most within.1)

ahead_fewer : (count : ℕ) (rs : List Range) → length (ahead count rs) ≤ length rs
ahead_fewer count [] = omega arith
ahead_fewer count (r ∷ rs) =
    let rest = ahead_fewer count rs in
    ahead_cases (λ (l : List Range). length l ≤ length (r ∷ rs)) count r rs (λ lt. omega (arith, rest)) (λ le. omega (arith, rest))

-- none is reported
pub none_is_scoreboard : IsScoreboard []
none_is_scoreboard = record { apart = tt; within = tt; few = omega arith }

moved_apart : (count : ℕ) (rs : List Range) → AreApart 1 rs → AreApart 1 (map (nearer count) (ahead count rs))
moved_apart count rs apart = apart_nearer (ahead count rs) 1 count (apart_before (ahead count rs) (suc count) (1 + count) (omega arith) (ahead_past count rs 1 apart))

pub passed_apart : (count : ℕ) (rs : List Range) → AreApart 1 rs → AreApart 1 (passed count rs)
passed_apart count rs apart = subst (AreApart 1) (passed_are count rs) (moved_apart count rs apart)

-- what is left once places are acknowledged
pub passed_is_scoreboard : (count : ℕ) (rs : List Range) → IsScoreboard rs → IsScoreboard (passed count rs)
passed_is_scoreboard count rs was =
    let fewer : length (passed count rs) ≤ length rs =
    subst (λ (l : List Range). length l ≤ length rs) (passed_are count rs) (omega (arith, length-map (ahead count rs) (nearer count), ahead_fewer count rs)) in
    record {
      apart = passed_apart count rs was.apart;
      within = subst (AreWithin (2 ^ 32 - 1)) (passed_are count rs) (within_moved count (ahead count rs) (2 ^ 32 - 1) (ahead_within count rs (2 ^ 32 - 1) was.within));
      few = omega (arith, fewer, was.few);
    }

-- what a report has to be
pub record IsNew (rs : List Range) (outstanding : ℕ) (new : Range) : Type 0 where
  pub ahead : 0 < new.start
  pub some : new.start < new.end
  pub sent : new.end ≤ outstanding
  pub room : length (with_range rs new) ≤ MOST_RANGES

both_first : (a b : Bool) → (a && b) ≡ true → a ≡ true
both_first true b is = refl
both_first false b is = is

both_second : (a b : Bool) → (a && b) ≡ true → b ≡ true
both_second true b is = is
both_second false b is = absurd (cc)

pub taken_is_new : (rs : List Range) (outstanding : ℕ) (new : Range) → is_taken rs outstanding new ≡ true → IsNew rs outstanding new
taken_is_new rs outstanding new taken =
    let a : Bool = nat_lt 0 new.start in
    let b : Bool = nat_lt new.start new.end in
    let c : Bool = nat_le new.end outstanding in
    let d : Bool = nat_le (length (with_range rs new)) MOST_RANGES in
    let three : ((a && b) && c) ≡ true = both_first ((a && b) && c) d taken in
    let two : (a && b) ≡ true = both_first (a && b) c three in
    record {
      ahead = ltb-true 0 new.start (both_first a b two);
      some = ltb-true new.start new.end (both_second a b two);
      sent = leb-true new.end outstanding (both_second (a && b) c three);
      room = leb-true (length (with_range rs new)) MOST_RANGES (both_second ((a && b) && c) d taken);
    }

pub with_report_taken : (rs : List Range) (outstanding : ℕ) (new : Range) → is_taken rs outstanding new ≡ true → with_report rs outstanding new ≡ with_range rs new
with_report_taken rs outstanding new taken = ap (λ (b : Bool). if b then with_range rs new else rs) taken

pub with_report_refused : (rs : List Range) (outstanding : ℕ) (new : Range) → is_taken rs outstanding new ≡ false → with_report rs outstanding new ≡ rs
with_report_refused rs outstanding new refused = ap (λ (b : Bool). if b then with_range rs new else rs) refused

pub added_is_scoreboard : (rs : List Range) (outstanding : ℕ) (new : Range) → IsScoreboard rs → outstanding < 2 ^ 32 → IsNew rs outstanding new → IsScoreboard (with_range rs new)
added_is_scoreboard rs outstanding new was fits is =
    record {
      apart = apart_with rs 1 new was.apart (omega (arith, is.ahead)) is.some;
      within = within_with rs (2 ^ 32 - 1) new was.within (omega (arith, is.sent, fits));
      few = is.room;
    }

-- with one more report, of places that a 32-bit count of what is outstanding tells
pub report_is_scoreboard : (rs : List Range) (outstanding : ℕ) (new : Range) → IsScoreboard rs → outstanding < 2 ^ 32 → IsScoreboard (with_report rs outstanding new)
report_is_scoreboard rs outstanding new was fits =
    elim (cases_Bool (is_taken rs outstanding new)) [
      | inl taken ↦ subst IsScoreboard (sym (with_report_taken rs outstanding new taken)) (added_is_scoreboard rs outstanding new was fits (taken_is_new rs outstanding new taken))
      | inr refused ↦ subst IsScoreboard (sym (with_report_refused rs outstanding new refused)) was
    ]

-- the same by what a report tests
pub tested_is_scoreboard : (rs now : List Range) (start end outstanding : ℕ) → IsScoreboard rs → now ≡ with_range rs (range start end) → 0 < start → start < end → end ≤ outstanding
    → outstanding < 2 ^ 32 → length (with_range rs (range start end)) ≤ MOST_RANGES → IsScoreboard now
tested_is_scoreboard rs now start end outstanding was is ahead some sent fits room =
    subst IsScoreboard (sym is) (added_is_scoreboard rs outstanding (range start end) was fits (record { ahead = ahead; some = some; sent = sent; room = room }))
