-- The retransmission timeout in milliseconds (RFC 6298 sections 2 and 5), in whole numbers: divisions are rounded down.
use Rattle.std.specs.Prelude.{ℕ, ◌+◌, ◌-◌, ◌*◌, ◌/◌, ◌≤◌, min, max, Option, Some, None}
use Rattle.std.specs.Option.{ForSome}
use Rattle.std.specs.Int.{abs_diff}
use Rattle.retransmit.specs.declared.rto.Estimate.{Estimate}

pub record Timeout : Type 0 where
  -- what the samples tell, once there is one
  pub estimate : Option Estimate
  pub rto : ℕ
  -- the least timeout, in milliseconds (section 2.4)
  pub least : ℕ

-- The least timeout of a connection whose set-up asks for this one, in milliseconds. Section 2.4 asks for a second, and grants that less may
-- turn out to do: here 200 ms at least.
abbrev pub least_of : ℕ → ℕ
least_of milliseconds = max 200 (min 1000 milliseconds)

-- before the first sample: a second (section 2.1), whatever the least
abbrev pub first_timeout : ℕ → Timeout
first_timeout least = record { estimate = None; rto = 1000; least = least_of least }

-- what a round-trip time r makes of the estimate. The variation moves by the mean that was (sections 2.2 and 2.3).
abbrev pub estimate_after : Option Estimate → ℕ → Estimate
estimate_after None r = record { s8 = 8 * r; v4 = 2 * r }
estimate_after (Some e) r = record {
  s8 = e.s8 - e.s8 / 8 + r;
  v4 = e.v4 - e.v4 / 4 + abs_diff (e.s8 / 8) r;
}

-- the least timeout at least, a minute at most; the clock's granularity is a millisecond (sections 2.3 to 2.5)
abbrev pub timeout_of : ℕ → Estimate → ℕ
timeout_of least e = max least (min 60000 (e.s8 / 8 + max 1 e.v4))

-- a measured round-trip time; one over a minute counts as a minute
abbrev pub after_sample : Timeout → ℕ → Timeout
after_sample t milliseconds = let e = estimate_after t.estimate (min 60000 milliseconds) in record {
  estimate = Some e;
  rto = timeout_of t.least e;
  least = t.least;
}

-- the timer expired: the timeout backs off (section 5.5)
abbrev pub after_expiry : Timeout → Timeout
after_expiry t = record t { rto = min 60000 (2 * t.rto) }

-- the connection is established, and the timer of its SYN had expired (section 5.7)
abbrev pub after_lost_syn : Timeout → Timeout
after_lost_syn t = record t { rto = 3000 }

-- What holds of every timeout. Samples of a minute raise s8 to eight minutes, and v4 to four at most.
pub record IsSound (t : Timeout) : Type 0 where
  pub s8 : ForSome t.estimate (λ e. e.s8 ≤ 480000)
  pub v4 : ForSome t.estimate (λ e. e.v4 ≤ 240000)
  pub floor : 200 ≤ t.least
  pub ceiling : t.least ≤ 1000
  pub least : t.least ≤ t.rto
  pub most : t.rto ≤ 60000
