-- The timeout after round-trip times that lie between two bounds.
use Rattle.std.proofs.Common.{◌≡◌, ◌≢◌, ℕ, ◌+◌, ◌-◌, ◌*◌, ◌/◌, ◌≤◌, max, min, List, [], ◌∷◌, map, fold, None, Some, refl, ap, arith}
use Rattle.std.specs.Int.{abs_diff}
use Rattle.retransmit.specs.declared.rto.Estimate.{Estimate}
use Rattle.retransmit.specs.Timeout.{Timeout, least_of, first_timeout, after_sample, estimate_after, timeout_of}
use Rattle.retransmit.specs.Events.{AreBetween, after_event, timeout_after}
use Rattle.retransmit.specs.Events.Event.{Sample}

-- four times the variation, at most
abbrev spread : ℕ → ℕ → ℕ
spread a b = max (2 * b) (4 * (b - a) + 3)

-- what samples between two bounds leave: of the least timeout that was asked for, and an estimate between them
record Follows (least a b : ℕ) (t : Timeout) : Type 0 where
  e : Estimate
  is : t.estimate ≡ Some e
  same : t.least ≡ least
  from : 8 * a ≤ e.s8
  to : e.s8 ≤ 8 * b
  varies : e.v4 ≤ spread a b
  rto : t.rto ≡ timeout_of least e

first_follows : (a b r : ℕ) (t : Timeout) → t.estimate ≡ None → a ≤ r → r ≤ b → b ≤ 60000 → Follows t.least a b (after_sample t r)
first_follows a b r t none from to few =
    let same : min 60000 r ≡ r = omega (arith, to, few) in
    let e : Estimate = estimate_after t.estimate (min 60000 r) in
    let is : e ≡ record { s8 = 8 * r; v4 = 2 * r } = rw (none, same) refl in
    let s8 : e.s8 ≡ 8 * r = ap (λ (x : Estimate). x.s8) is in
    let v4 : e.v4 ≡ 2 * r = ap (λ (x : Estimate). x.v4) is in
    record { e = e; is = refl; same = refl; from = omega (arith, s8, from); to = omega (arith, s8, to); varies = omega (arith, v4, to); rto = refl }

next_follows : (least a b r : ℕ) (t : Timeout) → Follows least a b t → a ≤ r → r ≤ b → b ≤ 60000 → Follows least a b (after_sample t r)
next_follows least a b r t f from to few =
    let same : min 60000 r ≡ r = omega (arith, to, few) in
    let was = f.e in
    let e : Estimate = estimate_after t.estimate (min 60000 r) in
    let is : e ≡ record { s8 = was.s8 - was.s8 / 8 + r; v4 = was.v4 - was.v4 / 4 + abs_diff (was.s8 / 8) r } = rw (f.is, same) refl in
    let s8 : e.s8 ≡ was.s8 - was.s8 / 8 + r = ap (λ (x : Estimate). x.s8) is in
    let v4 : e.v4 ≡ was.v4 - was.v4 / 4 + abs_diff (was.s8 / 8) r = ap (λ (x : Estimate). x.v4) is in
    let low = f.from in
    let high = f.to in
    let wide = f.varies in
    record {
      e = e;
      is = refl;
      same = f.same;
      from = omega (arith, s8, low, from);
      to = omega (arith, s8, high, to);
      varies = omega (arith, v4, low, high, wide, from, to);
      rto = ap (λ n. timeout_of n e) f.same;
    }

samples_follow : (least a b : ℕ) (samples : List ℕ) (t : Timeout) → Follows least a b t → AreBetween a b samples → b ≤ 60000 → Follows least a b (fold after_event t (map Sample samples))
samples_follow least a b [] t f between few = f
samples_follow least a b (r ∷ rest) t f between few = samples_follow least a b rest (after_sample t r) (next_follows least a b r t f between.0.0 between.0.1 few) between.1 few

follows : (least a b : ℕ) (samples : List ℕ) → samples ≢ [] → AreBetween a b samples → b ≤ 60000 → Follows (least_of least) a b (timeout_after least (map Sample samples))
follows least a b [] some between few = absurd (some refl)
follows least a b (r ∷ rest) some between few =
    let t = first_timeout least in
    samples_follow (least_of least) a b rest (after_sample t r) (first_follows a b r t refl between.0.0 between.0.1 few) between.1 few

pub first_sample : (least r : ℕ) → 1 ≤ r → r ≤ 20000 → (timeout_after least (Sample r ∷ [])).rto ≡ max (least_of least) (3 * r)
first_sample least r some few = omega (arith, some, few)

pub from_samples : (least a b : ℕ) (samples : List ℕ) → samples ≢ [] → AreBetween a b samples → b ≤ 60000 → a ≤ (timeout_after least (map Sample samples)).rto
from_samples least a b samples some between few =
    let f = follows least a b samples some between few in
    let e = f.e in
    let low = f.from in
    let high = f.to in
    let is = f.rto in
    omega (arith, low, high, is, few)

pub to_samples : (least a b : ℕ) (samples : List ℕ) → samples ≢ [] → 1 ≤ a → AreBetween a b samples → b ≤ 60000 → (timeout_after least (map Sample samples)).rto ≤ max (least_of least) (b + spread a b)
to_samples least a b samples some one between few =
    let f = follows least a b samples some between few in
    let e = f.e in
    let low = f.from in
    let high = f.to in
    let wide = f.varies in
    let is = f.rto in
    omega (arith, low, high, wide, is, few, one)
