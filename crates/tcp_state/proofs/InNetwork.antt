-- Why what is in the network is counted place by place.
use Rattle.std.proofs.Common.{◌≡◌, ℕ, zero, suc, ◌+◌, ◌-◌, ◌<◌, ◌≤◌, ◌&&◌, ◌||◌, nat_lt, min, max, Bool, true, false, if◌then◌else◌, inl, inr, List, Option, Some, None, arith, refl, sym, ◌∙◌, ap, ap₂}
use Rattle.std.specs.Option.{ForSome, unwrap_or}
use Rattle.std.proofs.lemmas.Bool.{cases_Bool, cases_lt, lt-ltb, le-ltb}
use Rattle.stream_buf.specs.declared.ranges.Range.{Range}
use Rattle.stream_buf.specs.Ranges.{AreApart}
use Rattle.stream_buf.specs.Scoreboard.{is_reported, is_lost, unreported, lost_end, reported_end}
use Rattle.stream_buf.proofs.Reports.{none_below, next_below, lost_before}
use Rattle.congestion.specs.Window.{is_recovering}
use Rattle.tcp_halves.specs.Stream.{outstanding}
use Rattle.tcp_halves.proofs.Choices.{by, or_right}
use Rattle.tcp_state.specs.View.{View, IsSound}
use Rattle.tcp_state.specs.Selective.{tolerance, loss_end, repaired_end, pipe}
use Rattle.tcp_state.specs.Network.{is_taken_for_lost, went_again, times_of, in_network}

-- A place stands before the later of two ends where it stands before one of them, and before the sooner where before both.
before_max : (place a b : ℕ) → nat_lt place (max a b) ≡ (nat_lt place a || nat_lt place b)
before_max place a b =
    elim (cases_lt place a) [
      | inl lt ↦ lt-ltb place (max a b) (omega (arith, lt)) ∙ sym (ap (λ t. t || nat_lt place b) (lt-ltb place a lt))
      | inr le ↦ elim (cases_lt place b) [
        | inl lt ↦ lt-ltb place (max a b) (omega (arith, lt)) ∙ sym (or_right (nat_lt place a) (nat_lt place b) (lt-ltb place b lt))
        | inr more ↦ le-ltb place (max a b) (omega (arith, le, more)) ∙ sym (ap₂ (λ s t. s || t) (le-ltb place a le) (le-ltb place b more))
      ]
    ]

before_min : (place a b : ℕ) → nat_lt place (min a b) ≡ (nat_lt place a && nat_lt place b)
before_min place a b =
    elim (cases_lt place a) [
      | inr le ↦ le-ltb place (min a b) (omega (arith, le)) ∙ sym (ap (λ t. t && nat_lt place b) (le-ltb place a le))
      | inl lt ↦ elim (cases_lt place b) [
        | inl less ↦ lt-ltb place (min a b) (omega (arith, lt, less)) ∙ sym (ap₂ (λ s t. s && t) (lt-ltb place a lt) (lt-ltb place b less))
        | inr more ↦ le-ltb place (min a b) (omega (arith, more)) ∙ sym (ap₂ (λ s t. s && t) (lt-ltb place a lt) (le-ltb place b more))
      ]
    ]

-- What is lost stands before one end.
pub lost_is_before : (v : View) (place : ℕ) → AreApart 1 v.resend.reported → is_reported v.resend.reported place ≡ false → nat_lt place (loss_end v) ≡ is_taken_for_lost v place
lost_is_before v place apart missing =
    let last = reported_end v.resend.reported in
    let lost = lost_end (tolerance v) v.resend.reported in
    before_max place lost (min v.resend.tail last)
    ∙ ap (λ b. b || nat_lt place (min v.resend.tail last)) (lost_before (tolerance v) v.resend.reported 1 place apart missing)
    ∙ ap (λ b. is_lost (tolerance v) v.resend.reported place || b) (before_min place v.resend.tail last)

-- What went out again stands before another.
again_is_before : (v : View) (place : ℕ) → nat_lt place (repaired_end v) ≡ went_again v place
again_is_before v place =
    let to : ℕ = unwrap_or v.resend.mark 0 in
    by (nat_lt place (repaired_end v) ≡ went_again v place) (is_recovering v.congestion)
    (λ runs. ap (λ b. nat_lt place (if b then to else 0)) runs ∙ sym (ap (λ b. b && nat_lt place to) runs))
    (λ none. ap (λ b. nat_lt place (if b then to else 0)) none ∙ le-ltb place 0 (omega arith) ∙ sym (ap (λ b. b && nat_lt place to) none))

-- .. and is outstanding
repaired_within : (v : View) → IsSound v → repaired_end v ≤ outstanding v.sending
repaired_within v sound = at v.resend.mark (is_recovering v.congestion) sound.mark
  where
    below_within : (a b : ℕ) → a < b → a ≤ b
    below_within a b below = omega (arith, below)

    at : (mark : Option ℕ) (runs : Bool) → ForSome mark (λ distance. distance < outstanding v.sending) → (if runs then unwrap_or mark 0 else 0) ≤ outstanding v.sending
    at None true below = omega arith
    at None false below = omega arith
    at (Some distance) true below = below_within distance (outstanding v.sending) (below distance refl)
    at (Some distance) false below = omega arith

-- There are no fewer below a later place.
left_grows : (rs : List Range) (place more : ℕ) → AreApart 1 rs → unreported rs place ≤ unreported rs (place + more)
left_grows rs place zero apart = let same : unreported rs (place + 0) ≡ unreported rs place = ap (unreported rs) (omega arith) in omega (arith, same)
left_grows rs place (suc more) apart =
    let rest = left_grows rs place more apart in
    let next = next_below rs (place + more) apart in
    let same : unreported rs (place + suc more) ≡ unreported rs (suc (place + more)) = ap (unreported rs) (omega arith) in
    omega (arith, rest, next, same)

left_fewer : (rs : List Range) (low high : ℕ) → AreApart 1 rs → low ≤ high → unreported rs low ≤ unreported rs high
left_fewer rs low high apart within =
    let grows = left_grows rs low (high - low) apart in
    let same : unreported rs (low + (high - low)) ≡ unreported rs high = ap (unreported rs) (omega (arith, within)) in
    omega (arith, grows, same)

-- One place more.

abbrev zero_if : Bool → ℕ
zero_if b = if b then 0 else 1

abbrev one_if : Bool → ℕ
one_if b = if b then 1 else 0

-- .. that is reported is not left
none_more : (rs : List Range) (place : ℕ) → AreApart 1 rs → is_reported rs place ≡ true → unreported rs (suc place) ≡ unreported rs place
none_more rs place apart is =
    let next = next_below rs place apart in
    let none : zero_if (is_reported rs place) ≡ 0 = ap zero_if is in
    omega (arith, next, none)

-- .. and else it is
one_more : (rs : List Range) (place : ℕ) → AreApart 1 rs → is_reported rs place ≡ false → unreported rs (suc place) ≡ unreported rs place + 1
one_more rs place apart is =
    let next = next_below rs place apart in
    let one : zero_if (is_reported rs place) ≡ 1 = ap zero_if is in
    omega (arith, next, one)

-- behind what is lost it counts
not_lost_more : (rs : List Range) (place end : ℕ) → AreApart 1 rs → is_reported rs place ≡ false
    → unreported rs (suc place) - unreported rs end ≡ (unreported rs place - unreported rs end) + (if nat_lt place end then 0 else 1)
not_lost_more rs place end apart is =
    let more = one_more rs place apart is in
    elim (cases_lt place end) [
      | inl lt ↦
          let fewer = left_fewer rs (suc place) end apart (omega (arith, lt)) in
          let none : zero_if (nat_lt place end) ≡ 0 = ap zero_if (lt-ltb place end lt) in
          omega (arith, more, fewer, none)
      | inr le ↦
          let fewer = left_fewer rs end place apart le in
          let one : zero_if (nat_lt place end) ≡ 1 = ap zero_if (le-ltb place end le) in
          omega (arith, more, fewer, one)
    ]

-- and before the end of what went out again once more
again_more : (rs : List Range) (place end : ℕ) → AreApart 1 rs → is_reported rs place ≡ false
    → unreported rs (min (suc place) end) ≡ unreported rs (min place end) + (if nat_lt place end then 1 else 0)
again_more rs place end apart is =
    elim (cases_lt place end) [
      | inl lt ↦
          let here : unreported rs (min place end) ≡ unreported rs place = ap (unreported rs) (omega (arith, lt)) in
          let there : unreported rs (min (suc place) end) ≡ unreported rs (suc place) = ap (unreported rs) (omega (arith, lt)) in
          let more = one_more rs place apart is in
          let one : one_if (nat_lt place end) ≡ 1 = ap one_if (lt-ltb place end lt) in
          omega (arith, here, there, more, one)
      | inr le ↦
          let same : unreported rs (min (suc place) end) ≡ unreported rs (min place end) = ap (unreported rs) (omega (arith, le)) in
          let none : one_if (nat_lt place end) ≡ 0 = ap one_if (le-ltb place end le) in
          omega (arith, same, none)
    ]

reported_again : (rs : List Range) (place end : ℕ) → AreApart 1 rs → is_reported rs place ≡ true → unreported rs (min (suc place) end) ≡ unreported rs (min place end)
reported_again rs place end apart is =
    elim (cases_lt place end) [
      | inl lt ↦
          let here : unreported rs (min place end) ≡ unreported rs place = ap (unreported rs) (omega (arith, lt)) in
          let there : unreported rs (min (suc place) end) ≡ unreported rs (suc place) = ap (unreported rs) (omega (arith, lt)) in
          let more = none_more rs place apart is in
          omega (arith, here, there, more)
      | inr le ↦ ap (unreported rs) (omega (arith, le))
    ]

-- All places.

-- as `pipe` counts them, below a place
abbrev counted : View → ℕ → ℕ
counted v place = let left = unreported v.resend.reported in left place - left (loss_end v) + left (min place (repaired_end v))

counts : (v : View) (place : ℕ) → AreApart 1 v.resend.reported → counted v place ≡ in_network v place
counts v zero apart =
    let rs = v.resend.reported in
    let none = none_below rs in
    let again : unreported rs (min 0 (repaired_end v)) ≡ unreported rs 0 = ap (unreported rs) (omega arith) in
    omega (arith, none, again)
counts v (suc place) apart =
    let rs = v.resend.reported in
    let rest = counts v place apart in
    elim (cases_Bool (is_reported rs place)) [
      | inl on ↦
          let left = none_more rs place apart on in
          let again = reported_again rs place (repaired_end v) apart on in
          let none : times_of v place ≡ 0 = ap (λ b. if b then 0 else zero_if (is_taken_for_lost v place) + one_if (went_again v place)) on in
          omega (arith, rest, left, again, none)
      | inr off ↦
          let left = not_lost_more rs place (loss_end v) apart off in
          let lost : zero_if (nat_lt place (loss_end v)) ≡ zero_if (is_taken_for_lost v place) = ap zero_if (lost_is_before v place apart off) in
          let again = again_more rs place (repaired_end v) apart off in
          let went : one_if (nat_lt place (repaired_end v)) ≡ one_if (went_again v place) = ap one_if (again_is_before v place) in
          let times : times_of v place ≡ zero_if (is_taken_for_lost v place) + one_if (went_again v place) =
          ap (λ b. if b then 0 else zero_if (is_taken_for_lost v place) + one_if (went_again v place)) off in
          omega (arith, rest, left, lost, again, went, times)
    ]

pub pipe_counts : (v : View) → IsSound v → pipe v ≡ in_network v (outstanding v.sending)
pipe_counts v sound =
    let rs = v.resend.reported in
    let within = repaired_within v sound in
    let again : unreported rs (repaired_end v) ≡ unreported rs (min (outstanding v.sending) (repaired_end v)) = ap (unreported rs) (omega (arith, within)) in
    let all = counts v (outstanding v.sending) sound.resend.reported.apart in
    omega (arith, again, all)
