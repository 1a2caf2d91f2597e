-- The timeout along lists of events: its range, its least, and its growth over expiries in a row.
use Rattle.std.proofs.Common.{◌≡◌, ℕ, ◌*◌, ◌^◌, ◌≤◌, min, zero, suc, List, [], ◌∷◌, ◌++◌, fold, replicate, ◌∙◌, ap, sym, refl, inl, inr, arith}
use Rattle.std.proofs.Math.Nat.{pow-suc, one-le-pow, mul-le-mul}
use Rattle.std.proofs.lemmas.Bool.{cases_lt}
use Rattle.std.proofs.lemmas.List.Sums.{fold-append}
use Rattle.retransmit.specs.Timeout.{Timeout, least_of, first_timeout, after_expiry}
use Rattle.retransmit.specs.Events.{Event, after_event, timeout_after}
use Rattle.retransmit.specs.Events.Event.{Sample, Expiry, EstablishedAfterLostSyn}

-- a timeout whose least is this, a second at most, lies between it and a minute
record IsInRange (bound : ℕ) (t : Timeout) : Type 0 where
  same : t.least ≡ bound
  ceiling : bound ≤ 1000
  least : bound ≤ t.rto
  most : t.rto ≤ 60000

-- every event keeps the range
event_keeps : (bound : ℕ) (t : Timeout) (e : Event) → IsInRange bound t → IsInRange bound (after_event t e)
event_keeps bound t (Sample milliseconds) in_range = record { same = in_range.same; ceiling = in_range.ceiling; least = omega arith; most = omega arith }
event_keeps bound t Expiry in_range = record { same = in_range.same; ceiling = in_range.ceiling; least = omega arith; most = omega arith }
event_keeps bound t EstablishedAfterLostSyn in_range = record { same = in_range.same; ceiling = in_range.ceiling; least = omega arith; most = omega arith }

events_keep : (bound : ℕ) (events : List Event) (t : Timeout) → IsInRange bound t → IsInRange bound (fold after_event t events)
events_keep bound [] t in_range = in_range
events_keep bound (e ∷ events) t in_range = events_keep bound events (after_event t e) (event_keeps bound t e in_range)

in_range : (least : ℕ) (events : List Event) → IsInRange (least_of least) (timeout_after least events)
in_range least events = events_keep (least_of least) events (first_timeout least) (record { same = refl; ceiling = omega arith; least = omega arith; most = omega arith })

pub timeout-least : (least : ℕ) (events : List Event) → least_of least ≤ (timeout_after least events).rto
timeout-least least events = (in_range least events).least

pub timeout-most : (least : ℕ) (events : List Event) → (timeout_after least events).rto ≤ 60000
timeout-most least events = (in_range least events).most

pub timeout-usual : (events : List Event) → 1000 ≤ (timeout_after 1000 events).rto
timeout-usual events = (in_range 1000 events).least

pub least-same : (least : ℕ) (events : List Event) → (timeout_after least events).least ≡ least_of least
least-same least events = (in_range least events).same

times_reaches : (p n : ℕ) → 1 ≤ p → 60000 ≤ n → 60000 ≤ p * n
times_reaches p n positive reached = mul-le-mul {n₁ = 1} {m₁ = 60000} positive reached

-- a bound on the way is none where the end is bounded
bounded_twice : (p r : ℕ) → 1 ≤ p → min 60000 (p * min 60000 (2 * r)) ≡ min 60000 (p * 2 * r)
bounded_twice p r positive = elim (cases_lt 60000 (2 * r)) [
  | inl over ↦ let twice_least : 60000 ≤ min 60000 (2 * r) = omega arith in omega (arith, times_reaches p _ positive twice_least, times_reaches p (2 * r) positive (omega arith))
  | inr under ↦ let same : min 60000 (2 * r) ≡ 2 * r = omega arith in rw same (omega arith)
]

-- expiries in a row, from any timeout of a minute at most
expiries : (k : ℕ) (t : Timeout) → t.rto ≤ 60000
    → (fold after_event t (replicate k Expiry)).rto ≡ min 60000 (2 ^ k * t.rto)
expiries zero t most = omega arith
expiries (suc k) t most =
    expiries k (after_expiry t) (omega arith)
    ∙ bounded_twice (2 ^ k) t.rto (one-le-pow k 2 (omega arith))
    ∙ ap (λ p. min 60000 (p * t.rto)) (sym (pow-suc 2 k))

pub expiries_in_a_row : (least : ℕ) (events : List Event) (k : ℕ)
    → (timeout_after least (events ++ replicate k Expiry)).rto ≡ min 60000 (2 ^ k * (timeout_after least events).rto)
expiries_in_a_row least events k =
    rw (fold-append after_event (first_timeout least) events (replicate k Expiry)) (expiries k (timeout_after least events) (timeout-most least events))
