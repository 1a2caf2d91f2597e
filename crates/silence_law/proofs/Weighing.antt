-- How what goes out and what comes is weighed.
use Rattle.std.proofs.Common.{◌≡◌, ℕ, ◌+◌, ◌*◌, ◌<◌, ◌≤◌, ◌==◌, ◌&&◌, ◌||◌, ◌⊎◌, inl, inr, nat_lt, Bool, true, false, if◌then◌else◌, List, [], ◌∷◌, ◌++◌, length, arith, refl, ◌∙◌, ap, ap₂}
use Rattle.std.proofs.lemmas.Bool.{ltb-true, lt-ltb, eqb-true}
use Rattle.tcp_segment.specs.Segment.{Segment, span_of}
use Rattle.tcp_halves.proofs.Choices.{either, by, clash, and_right, and_false}
use Rattle.silence_law.proofs.Measure.{Stance, bare_of, tells, may_reopen, is_light, is_short, weight, weights, again_weight, answer_weight}

-- A list.

pub one_behind : (x y : Stance) (way : List Segment) (s : Segment) → weights x y (way ++ (s ∷ [])) ≡ weights x y way + weight x y s
unfolding weights
one_behind x y [] s = omega arith
one_behind x y (t ∷ way) s = let ih = one_behind x y way s in omega (arith, ih)

pub one_before : (x y : Stance) (s : Segment) (rest : List Segment) → weights x y (s ∷ rest) ≡ weight x y s + weights x y rest
unfolding weights
one_before x y s rest = refl

pub ten_at_most : (x y : Stance) (s : Segment) → weight x y s ≤ 10
ten_at_most x y s =
    let P : ℕ → Type 0 = λ n. n ≤ 10 in
    either ℕ P (is_light x s) _ _ (λ light. either ℕ P (tells x y) 0 5 (λ news. omega arith) (λ none. omega arith))
    (λ heavy. either ℕ P (is_short x s && may_reopen x y) 2 10 (λ short. omega arith) (λ long. omega arith))

pub ten_each : (x y : Stance) (way : List Segment) → weights x y way ≤ 10 * length way
unfolding weights
ten_each x y [] = omega arith
ten_each x y (s ∷ way) = let ih = ten_each x y way in let one = ten_at_most x y s in omega (arith, ih, one)

-- The window of the other end gets wider.

-- the same end with another window
abbrev pub wide : Stance → ℕ → Stance
wide y window = record y { window = window }

-- what is on its way from it weighs the same
pub same_weights : (x y : Stance) (window : ℕ) (way : List Segment) → weights (wide x window) y way ≡ weights x y way
unfolding weights
same_weights x y window [] = refl
same_weights x y window (s ∷ way) = ap (λ n. weight x y s + n) (same_weights x y window way)

or_more : (a b c : Bool) → (b ≡ true → c ≡ true) → (a || b) ≡ true → (a || c) ≡ true
or_more true b c more e = refl
or_more false b c more e = more e

and_more : (a b c : Bool) → (b ≡ true → c ≡ true) → (a && b) ≡ true → (a && c) ≡ true
and_more true b c more e = more e
and_more false b c more e = cc

pub still_reopens : (x y : Stance) (window : ℕ) → y.window ≤ window → may_reopen x y ≡ true → may_reopen x (wide y window) ≡ true
still_reopens x y window more = and_more x.probed (tells y x || nat_lt 0 y.window) (tells y x || nat_lt 0 window)
    (or_more (tells y x) (nat_lt 0 y.window) (nat_lt 0 window) (λ some. let open_yet = ltb-true 0 y.window some in lt-ltb 0 window (omega (arith, open_yet, more))))

again_lighter : (b c : Bool) (n : ℕ) → (b ≡ true → c ≡ true) → again_weight c n ≤ again_weight b n
again_lighter true true n more = omega arith
again_lighter true false n more = let bad = more refl in cc
again_lighter false true n more = omega arith
again_lighter false false n more = omega arith

pub again_less : (x y : Stance) (window n : ℕ) → y.window ≤ window → again_weight (may_reopen x (wide y window)) n ≤ again_weight (may_reopen x y) n
again_less x y window n more = again_lighter (may_reopen x y) (may_reopen x (wide y window)) n (still_reopens x y window more)

chosen_less : (light news short b c : Bool) → (b ≡ true → c ≡ true) → (if light then (if news then 0 else 5) else if short && c then 2 else 10) ≤ (if light then (if news then 0 else 5) else if short && b then 2 else 10)
chosen_less true true short b c more = omega arith
chosen_less true false short b c more = omega arith
chosen_less false news true true true more = omega arith
chosen_less false news true true false more = let bad = more refl in cc
chosen_less false news true false true more = omega arith
chosen_less false news true false false more = omega arith
chosen_less false news false b c more = omega arith

pub weights_less : (x y : Stance) (window : ℕ) (way : List Segment) → y.window ≤ window → weights x (wide y window) way ≤ weights x y way
unfolding weights
weights_less x y window [] more = omega arith
weights_less x y window (s ∷ way) more =
    let ih = weights_less x y window way more in
    let one = chosen_less (is_light x s) (tells x y) (is_short x s) (may_reopen x y) (may_reopen x (wide y window)) (still_reopens x y window more) in
    omega (arith, ih, one)

-- What goes out weighs less than what was owed.

-- one that brings a number brings no acknowledgement alone
short_not_light : (x : Stance) (s : Segment) → is_short x s ≡ true → is_light x s ≡ false
short_not_light x s short =
    let first = (s.number == x.una) && (s.acknowledgement == x.rnext) in
    let two = (s.number == bare_of x) && (s.acknowledgement == x.rnext) in
    let one : span_of s ≡ 1 = eqb-true (span_of s) 1 (and_right first (span_of s == 1) short) in
    ap (λ n. two && (n == 0)) one ∙ and_false two

short_weighs : (x y : Stance) (s : Segment) → is_short x s ≡ true → may_reopen x y ≡ true → weight x y s ≡ 2
short_weighs x y s short opens =
    ap (λ b. if b then (if tells x y then 0 else 5) else if is_short x s && may_reopen x y then 2 else 10) (short_not_light x s short)
    ∙ ap₂ (λ a b. if a && b then 2 else 10) short opens

-- a number that goes out again, a probe, or the question
pub goes_again_lighter : (x y : Stance) (s : Segment) (before after due less : ℕ) → after < before → less ≤ due → (may_reopen x y ≡ true → is_short x s ≡ true)
    → again_weight (may_reopen x y) after + answer_weight (tells x y) less + weight x y s < again_weight (may_reopen x y) before + answer_weight (tells x y) due
goes_again_lighter x y s before after due less a b short =
    let ten = ten_at_most x y s in
    by _ (may_reopen x y)
    (λ opens. let two = short_weighs x y s (short opens) opens in sums (may_reopen x y) (tells x y) before after due less (weight x y s) a b (λ e. omega (arith, two)) ten)
    (λ shut. sums (may_reopen x y) (tells x y) before after due less (weight x y s) a b (λ e. clash (may_reopen x y) e shut) ten)
  where
    sums : (r t : Bool) (before after due less w : ℕ) → after < before → less ≤ due → (r ≡ true → w ≤ 2) → w ≤ 10 → again_weight r after + answer_weight t less + w < again_weight r before + answer_weight t due
    sums true true before after due less w a b two ten = let few = two refl in omega (arith, a, b, few)
    sums true false before after due less w a b two ten = let few = two refl in omega (arith, a, b, few)
    sums false true before after due less w a b two ten = omega (arith, a, b, ten)
    sums false false before after due less w a b two ten = omega (arith, a, b, ten)

-- an acknowledgement alone
pub answer_lighter : (x y : Stance) (s : Segment) (before after : ℕ) → after ≤ before → is_light x s ≡ true
    → again_weight (may_reopen x y) after + answer_weight (tells x y) 0 + weight x y s < again_weight (may_reopen x y) before + answer_weight (tells x y) 1
answer_lighter x y s before after a light =
    let w : weight x y s ≡ (if tells x y then 0 else 5) = ap (λ b. if b then (if tells x y then 0 else 5) else if is_short x s && may_reopen x y then 2 else 10) light in
    sums (may_reopen x y) (tells x y) before after (weight x y s) a w
  where
    sums : (r t : Bool) (before after w : ℕ) → after ≤ before → w ≡ (if t then 0 else 5) → again_weight r after + answer_weight t 0 + w < again_weight r before + answer_weight t 1
    sums true true before after w a e = omega (arith, a, e)
    sums true false before after w a e = omega (arith, a, e)
    sums false true before after w a e = omega (arith, a, e)
    sums false false before after w a e = omega (arith, a, e)

-- What comes weighs more than what it draws.

-- no more goes out again afterwards, but for one number, which may go out again without a tick
abbrev pub Reopens : Bool → ℕ → ℕ → Type 0
Reopens may before after = (after ≤ before) ⊎ ((may ≡ true) × (after ≤ before + 1))

-- no acknowledgement is due that wasn't, but for one that tells what was taken
abbrev pub Answers : Bool → ℕ → ℕ → Type 0
Answers news before after = (after ≤ before) ⊎ ((news ≡ true) × (after ≤ before + 1))

pub light_draws_less : (r t : Bool) (before after due drawn w : ℕ) → Reopens r before after → Answers t due drawn → 5 ≤ w → again_weight r after + answer_weight t drawn < again_weight r before + answer_weight t due + w
light_draws_less true true before after due drawn w a b c = elim a [
  | inl same ↦ elim b [ inl none ↦ omega (arith, same, none, c) | inr one ↦ let n = one.1 in omega (arith, same, n, c) ]
  | inr again ↦ let m = again.1 in elim b [ inl none ↦ omega (arith, m, none, c) | inr one ↦ let n = one.1 in omega (arith, m, n, c) ]
]
light_draws_less true false before after due drawn w a b c = elim a [
  | inl same ↦ elim b [ inl none ↦ omega (arith, same, none, c) | inr one ↦ let bad = one.0 in cc ]
  | inr again ↦ let m = again.1 in elim b [ inl none ↦ omega (arith, m, none, c) | inr one ↦ let bad = one.0 in cc ]
]
light_draws_less false true before after due drawn w a b c = elim a [
  | inl same ↦ elim b [ inl none ↦ omega (arith, same, none, c) | inr one ↦ let n = one.1 in omega (arith, same, n, c) ]
  | inr again ↦ let bad = again.0 in cc
]
light_draws_less false false before after due drawn w a b c = elim a [
  | inl same ↦ elim b [ inl none ↦ omega (arith, same, none, c) | inr one ↦ let bad = one.0 in cc ]
  | inr again ↦ let bad = again.0 in cc
]

pub short_draws_less : (r : Bool) (before after due drawn : ℕ) → after ≤ before → drawn ≤ due + 1 → again_weight r after + answer_weight true drawn < again_weight r before + answer_weight true due + 2
short_draws_less true before after due drawn a b = omega (arith, a, b)
short_draws_less false before after due drawn a b = omega (arith, a, b)

pub any_draws_less : (r t : Bool) (before after due drawn : ℕ) → Reopens r before after → drawn ≤ due + 1 → again_weight r after + answer_weight t drawn < again_weight r before + answer_weight t due + 10
any_draws_less true true before after due drawn a b = elim a [ inl same ↦ omega (arith, same, b) | inr again ↦ let m = again.1 in omega (arith, m, b) ]
any_draws_less true false before after due drawn a b = elim a [ inl same ↦ omega (arith, same, b) | inr again ↦ let m = again.1 in omega (arith, m, b) ]
any_draws_less false true before after due drawn a b = elim a [ inl same ↦ omega (arith, same, b) | inr again ↦ let bad = again.0 in cc ]
any_draws_less false false before after due drawn a b = elim a [ inl same ↦ omega (arith, same, b) | inr again ↦ let bad = again.0 in cc ]
