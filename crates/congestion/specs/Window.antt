-- The congestion window in octets (RFC 5681 sections 3.1 and 3.2); and where the set-up says that losses are repaired, as RFC 6582, RFC 6675, RFC 3042 and RFC 3465 have it.
use Rattle.std.specs.Prelude.{ℕ, ◌+◌, ◌-◌, ◌*◌, ◌/◌, ◌^◌, ◌≤◌, ◌==◌, ◌&&◌, not, nat_le, nat_lt, min, max, Bool, true, false, if◌then◌else◌}
use Rattle.congestion.specs.declared.control.Control.{Control}
use Rattle.congestion.specs.Control.{repairs, initial_cwnd, initial_ssthresh}

pub record Window : Type 0 where
  -- what the set-up says of it
  pub control : Control
  -- the size of the largest segment that the sender sends, without headers
  pub smss : ℕ
  pub cwnd : ℕ
  pub ssthresh : ℕ
  -- the duplicate ACKs since the last new ACK or expiry, counted up to the third; a loss that reports tell counts as three
  pub duplicates : ℕ
  -- whether the timer expired since the last new ACK
  pub expired : Bool
  -- whether the slow start that runs began with an expiry
  pub restarts : Bool
  -- the window and the threshold as they were when a segment last counted as lost; 0 where none did since the timer last expired
  pub prior_cwnd : ℕ
  pub prior_ssthresh : ℕ

-- no window is larger than 2 ^ 30
abbrev pub bounded : ℕ → ℕ
bounded octets = min octets (2 ^ 30)

abbrev pub initial_window : Control → ℕ → Bool → Window
initial_window control smss resent = record {
  control = control;
  smss = smss;
  cwnd = initial_cwnd control smss resent;
  ssthresh = initial_ssthresh control;
  duplicates = 0;
  expired = false;
  restarts = false;
  prior_cwnd = 0;
  prior_ssthresh = 0;
}

-- A recovery runs from the third duplicate ACK (section 3.2), or from a loss that reports tell (RFC 6675 section 5), to the ACK or the expiry that ends it.
abbrev pub is_recovering : Window → Bool
is_recovering w = nat_le 3 w.duplicates

-- a recovery that an ACK of some of what was outstanding at its beginning doesn't end (RFC 6582 section 3.2, step 3)
abbrev pub goes_on : Window → Bool
goes_on w = repairs w.control && is_recovering w

-- How much may be in flight: the window; and with limited transmit a segment more for each of the first two duplicate ACKs (RFC 3042 section 2).
abbrev pub allowed : Window → ℕ
allowed w = if repairs w.control && not (is_recovering w) then w.cwnd + w.duplicates * w.smss else w.cwnd

abbrev pub in_slow_start : Window → Bool
in_slow_start w = nat_lt w.cwnd w.ssthresh

-- what an ACK of new octets adds: these in slow start, a segment at most; in congestion avoidance about a segment
-- each round trip (section 3.1)
abbrev pub segment_growth : Window → ℕ → ℕ
segment_growth w octets = if in_slow_start w then min octets w.smss else max 1 (w.smss * w.smss / w.cwnd)

-- .. and where octets are counted, of two segments at most, but of one in a slow start that follows an expiry (RFC 3465 sections 2.2 and 2.3)
abbrev pub most_counted : Window → ℕ
most_counted w = if w.restarts && in_slow_start w then w.smss else 2 * w.smss

abbrev pub counted_growth : Window → ℕ → ℕ
counted_growth w octets = let counted = min octets (most_counted w) in if in_slow_start w then counted else max 1 (w.smss * counted / w.cwnd)

abbrev pub growth : Window → ℕ → ℕ
growth w octets = if repairs w.control then counted_growth w octets else segment_growth w octets

-- what no growth is over: a segment; or two where octets are counted
abbrev pub most_growth : Window → ℕ
most_growth w = if repairs w.control then 2 * w.smss else w.smss

-- half of what is in flight, two segments at least (section 3.1, equation 4)
abbrev pub half_of : ℕ → ℕ → ℕ
half_of flight smss = max (flight / 2) (2 * smss)

-- what is in flight without that which limited transmit sent past the window (section 3.2, step 2)
abbrev pub flight_within : Window → ℕ → ℕ
flight_within w flight = if repairs w.control then min flight w.cwnd else flight

-- the window at the end of a recovery: the threshold (section 3.2, step 6), or no more than a segment past what is still in flight (RFC 6582 section 3.2, step 3)
abbrev pub ending_cwnd : Window → ℕ → ℕ
ending_cwnd w flight = if repairs w.control then min w.ssthresh (max flight w.smss + w.smss) else w.ssthresh

-- an ACK of so many new octets, behind which so many are in flight; one that ends a recovery adds nothing
abbrev pub after_new_ack : Window → ℕ → ℕ → Window
after_new_ack w octets flight = record w {
  cwnd = bounded (if is_recovering w then ending_cwnd w flight else w.cwnd + growth w octets);
  duplicates = 0;
  expired = false;
  restarts = w.restarts && in_slow_start w;
}

-- less by what left the network, and more by the segment that goes out again where that was one or more (RFC 6582 section 3.2, step 3); a segment at least
abbrev pub deflated : Window → ℕ → ℕ
deflated w octets = max w.smss (w.cwnd - octets + (if nat_le w.smss octets then w.smss else 0))

-- an ACK of so many new octets, at which the recovery goes on
abbrev pub after_partial_ack : Window → ℕ → Window
after_partial_ack w octets = record w { cwnd = deflated w octets; expired = false }

-- the timer expired. A segment that is lost again leaves the threshold as it is. What stood before is not to come back.
abbrev pub after_expiry : Window → ℕ → Window
after_expiry w flight = record w {
  cwnd = w.smss;
  ssthresh = if w.expired then w.ssthresh else half_of flight w.smss;
  duplicates = 0;
  expired = true;
  restarts = true;
  prior_cwnd = 0;
  prior_ssthresh = 0;
}

-- whether the next duplicate ACK is the third
abbrev pub third_is_next : Window → Bool
third_is_next w = w.duplicates == 2

-- the third duplicate ACK: a segment counts as lost, and three have left the network
abbrev pub after_third : Window → ℕ → Window
after_third w flight = let half = half_of (flight_within w flight) w.smss in record w {
  cwnd = bounded (half + 3 * w.smss);
  ssthresh = half;
  duplicates = 3;
  restarts = false;
  prior_cwnd = w.cwnd;
  prior_ssthresh = w.ssthresh;
}

-- Reports tell a loss: the window is half of what is in flight, without that which limited transmit sent. Nothing is added for what left the network, since the sender's pipe counts that (RFC 6675 section 5, step 4.2).
abbrev pub after_loss : Window → ℕ → Window
after_loss w flight = let half = half_of (flight_within w flight) w.smss in record w {
  cwnd = bounded half;
  ssthresh = half;
  duplicates = 3;
  restarts = false;
  prior_cwnd = w.cwnd;
  prior_ssthresh = w.ssthresh;
}

-- Nothing was lost when a segment last counted so: the window and the threshold are no less than they were before (RFC 3708 section 3).
abbrev pub after_undo : Window → Window
after_undo w = record w { cwnd = max w.cwnd w.prior_cwnd; ssthresh = max w.ssthresh w.prior_ssthresh }

-- a duplicate ACK; in a recovery it tells that one more segment has left the network
abbrev pub after_duplicate : Window → ℕ → Window
after_duplicate w flight =
    if is_recovering w then record w { cwnd = bounded (w.cwnd + w.smss) }
    else if third_is_next w then after_third w flight
    else record w { duplicates = w.duplicates + 1 }

-- what holds of every window
pub record IsSound (w : Window) : Type 0 where
  pub smss_least : 64 ≤ w.smss
  pub smss_most : w.smss ≤ 1460
  pub cwnd_least : w.smss ≤ w.cwnd
  pub cwnd_most : w.cwnd ≤ 2 ^ 30
  pub ssthresh_least : 2 * w.smss ≤ w.ssthresh
  pub ssthresh_most : w.ssthresh ≤ 2 ^ 31
  pub duplicates : w.duplicates ≤ 3
  pub prior_cwnd : w.prior_cwnd ≤ 2 ^ 30
  pub prior_ssthresh : w.prior_ssthresh ≤ 2 ^ 31
