-- The retransmission state of a connection: what goes out again, and what the clock measures of a round trip (RFC 6298, RFC 9293 sections 3.8.1 and 3.8.6.1).
use Rattle.std.specs.Prelude.{ℕ, suc, ◌+◌, ◌-◌, ◌*◌, ◌^◌, ◌≤◌, ◌==◌, ◌&&◌, ◌||◌, nat_lt, nat_le, min, max, Bool, true, false, if◌then◌else◌, not, Option, Some, None, List, [], length}
use Rattle.stream_buf.specs.declared.ranges.Range.{Range}
use Rattle.stream_buf.specs.Ranges.{covered}
use Rattle.stream_buf.specs.Scoreboard.{IsScoreboard, passed}
use Rattle.clock.specs.declared.moment.Moment.{Moment}
use Rattle.retransmit.specs.Timeout.{Timeout, first_timeout, after_sample, after_expiry, after_lost_syn}
use Rattle.tcp_halves.specs.Numbers.{is_before}
use Rattle.tcp_state.specs.declared.resend.TheConstants.{MOST_EXPIRIES, MOST_INTERVAL}
use Rattle.tcp_state.specs.declared.resend.Timed.{Timed}

pub record Resend : Type 0 where
  -- the resend mark, as a distance past SND.UNA: what is outstanding from there on goes out again
  pub mark : Option ℕ
  -- .. but no more than one segment of it
  pub once : Bool
  -- the retransmission timeout
  pub timeout : Timeout
  -- the segment whose round trip is measured
  pub timed : Option Timed
  -- how many times the timer expired, that of probes too, since the last progress
  pub expiries : ℕ
  -- how long the next wait of the probe timer is, in milliseconds
  pub interval : ℕ
  -- a probe of the closed window is due
  pub owes_probe : Bool
  -- new octets waited for more as long as they may
  pub overridden : Bool
  -- our SYN expired, and went out again
  pub syn_resent : Bool
  -- how many segments brought what went out before, each probe among them
  pub resent : ℕ
  -- the number behind the last small segment of new octets that is outstanding, as a distance past SND.UNA; 0 where none is
  pub small : ℕ
  -- the number behind all that was outstanding when a recovery began or the timer expired, as a distance past SND.UNA; 0 where all of it is acknowledged ("recover", RFC 6582 section 3.2)
  pub recover : ℕ
  -- the number behind all that was outstanding when the last segment went out once more as a probe, as a distance past SND.UNA; 0 where none did, or all of it is acknowledged ("TLP.end_seq", RFC 8985 section 7)
  pub tail : ℕ
  -- how many octets were reported at most past one that came late, and had gone out but once
  pub reach : ℕ
  -- how many numbers were acknowledged since a segment last counted as lost
  pub since_loss : ℕ
  -- how many segments had gone out again then, and one more for each that is told to have come twice since
  pub excused : ℕ
  -- what the peer reports that it keeps ahead of a gap, by distances past SND.UNA (RFC 6675 section 3)
  pub reported : List Range

-- the timeout and the wait of a probe last as long as the least timeout and a minute at most, and the timers expire twelve times without progress at most
pub record IsSoundResend (p : Resend) : Type 0 where
  pub floor : 200 ≤ p.timeout.least
  pub ceiling : p.timeout.least ≤ 1000
  pub timeout_least : p.timeout.least ≤ p.timeout.rto
  pub timeout_most : p.timeout.rto ≤ MOST_INTERVAL
  pub interval_least : p.timeout.least ≤ p.interval
  pub interval_most : p.interval ≤ MOST_INTERVAL
  pub expiries : p.expiries ≤ MOST_EXPIRIES
  pub reported : IsScoreboard p.reported

-- nothing has gone out, and the timeout has this least value
abbrev pub first_resend : ℕ → Resend
first_resend least = record {
  mark = None;
  once = false;
  timeout = first_timeout least;
  timed = None;
  expiries = 0;
  interval = (first_timeout least).rto;
  owes_probe = false;
  overridden = false;
  syn_resent = false;
  resent = 0;
  small = 0;
  recover = 0;
  tail = 0;
  reach = 0;
  since_loss = 0;
  excused = 0;
  reported = [];
}

-- nothing is outstanding or waits any longer
abbrev pub stopped : Resend → Resend
stopped p = record p { mark = None; once = false; timed = None; interval = p.timeout.rto; owes_probe = false; overridden = false; small = 0; recover = 0; tail = 0; reach = 0; since_loss = 0; reported = [] }

-- What goes out.

-- one more segment went out again; the count holds still at the last number that 64 bits have
abbrev pub once_more : ℕ → ℕ
once_more count = min (2 ^ 64 - 1) (count + 1)

-- the mark is past what went out from it on; it is gone where nothing that is outstanding lies behind it
abbrev pub mark_past : ℕ → ℕ → Option ℕ
mark_past end outstanding = if nat_lt end outstanding then Some end else None

-- a mark for one segment is gone once that went out, but where reports tell what else is lost
abbrev pub is_alone : Resend → Bool
is_alone p = p.once && (length p.reported == 0)

-- what was outstanding went out again, up to this distance past SND.UNA: what comes back tells no round trip (RFC 6298 section 3)
abbrev pub resend_again : Resend → ℕ → ℕ → Resend
resend_again p end outstanding = record p { mark = if is_alone p then None else mark_past end outstanding; once = false; timed = None; resent = once_more p.resent }

-- our SYN went out again: after an expiry as one that may be lost, else in answer to the peer's
abbrev pub resend_syn_again : Resend → Resend
resend_syn_again p = record p { syn_resent = p.syn_resent || nat_lt 0 p.expiries }

-- new numbers went out, up to this one: their round trip is measured where no other is
abbrev pub timing_of : Option Timed → ℕ → Moment → Option Timed
timing_of None end now = Some (record { end = record { 0 = end }; since = now })
timing_of (Some timed) end now = Some timed

abbrev pub resend_sent : Resend → ℕ → Moment → Resend
resend_sent p end now = record p { timed = timing_of p.timed end now }

-- the probe that was due went out: it isn't measured, nor is what it sent again
abbrev pub resend_probed : Resend → Resend
resend_probed p = record p { owes_probe = false; timed = None; resent = once_more p.resent }

-- The timers expire.

-- where losses are repaired, the end of what is outstanding is remembered when a segment counts as lost (RFC 6582 section 3.2, steps 2 and 4)
abbrev pub recover_noted : Resend → Bool → ℕ → ℕ
recover_noted p repairs outstanding = if repairs then outstanding else p.recover

-- the retransmission timer: all that is outstanding goes out again, from SND.UNA on, and the timeout backs off (RFC 6298 sections 5.4 and 5.5); what was reported is forgotten, since the peer may have let it go (RFC 2018 section 8), and so is how late octets came: what is waited for so long may be lost
abbrev pub resend_expired : Resend → Bool → ℕ → Resend
resend_expired p repairs outstanding = record p { mark = mark_past 0 outstanding; once = false; timeout = after_expiry p.timeout; expiries = suc p.expiries; recover = recover_noted p repairs outstanding; tail = 0; reach = 0; reported = [] }

-- the probe timer: a probe is due, and the next wait is twice as long, a minute at most (RFC 9293 section 3.8.6.1)
abbrev pub resend_probes : Resend → Resend
resend_probes p = record p { owes_probe = true; interval = min MOST_INTERVAL (2 * p.interval); expiries = suc p.expiries }

-- Acknowledgements.

-- so many numbers are acknowledged, and so many are outstanding still: the mark stays at its number, or moves with SND.UNA; and so do the end of the last small segment, those of a recovery and of a probe of the tail, and what is reported
abbrev pub mark_left : Option ℕ → ℕ → ℕ → Option ℕ
mark_left None gained outstanding = None
mark_left (Some distance) gained outstanding = mark_past (distance - gained) outstanding

-- What stood at SND.UNA came behind all that is reported. Where nothing that is outstanding went out again, it was late and not lost.
unfoldable pub reached : Resend → ℕ
reached p = if (p.recover == 0) && (p.tail == 0) then max p.reach (covered p.reported) else p.reach

-- as far as 32 bits count
unfoldable pub counted_on : ℕ → ℕ → ℕ
counted_on count gained = min (2 ^ 32 - 1) (count + gained)

abbrev pub mark_moved : Resend → ℕ → ℕ → Resend
mark_moved p gained outstanding = record p { mark = mark_left p.mark gained outstanding; small = p.small - gained; recover = p.recover - gained; tail = p.tail - gained; reach = reached p; since_loss = counted_on p.since_loss gained; reported = passed gained p.reported }

-- the segment at SND.UNA goes out again, that alone (RFC 5681 section 3.2, RFC 6582 section 3.2, step 3)
abbrev pub resend_first : Resend → ℕ → Resend
resend_first p outstanding = record p { mark = mark_past 0 outstanding; once = true }

-- it counts as lost
abbrev pub resend_lost : Resend → Bool → ℕ → Resend
resend_lost p repairs outstanding = record (resend_first p outstanding) { recover = recover_noted p repairs outstanding; since_loss = 0; excused = p.resent }

-- A segment that went out again since came twice, so that it needn't have. Where as many came twice as went out again, none was lost (RFC 3708 section 3).
abbrev pub excused_by : Bool → Resend → Resend
excused_by needless p = record p { excused = if needless && nat_lt 0 p.since_loss then once_more p.excused else p.excused }

abbrev pub gives_back : Bool → Resend → Bool
gives_back needless p = needless && nat_lt 0 p.since_loss && nat_le p.resent p.excused

-- nothing is outstanding
abbrev pub unmarked : Resend → Resend
unmarked p = record p { mark = None; small = 0; recover = 0; tail = 0; reported = [] }

-- a recovery by reports is over: nothing goes out again by its mark
abbrev pub resend_ends : Resend → Resend
resend_ends p = record p { mark = None; once = false }

-- SND.UNA is at the end of what is measured, or past it
abbrev pub is_timed_by : Timed → ℕ → Bool
is_timed_by timed una = not (is_before una timed.end.0)

-- it came back: its round trip is a sample (RFC 6298 sections 2.2 and 2.3) ..
abbrev pub timeout_sampled : Timeout → Option Timed → ℕ → Moment → Timeout
timeout_sampled t None una now = t
timeout_sampled t (Some timed) una now = if is_timed_by timed una then after_sample t (now.0 - timed.since.0) else t

-- .. and is measured no longer
abbrev pub timed_left : Option Timed → ℕ → Option Timed
timed_left None una = None
timed_left (Some timed) una = if is_timed_by timed una then None else Some timed

-- Numbers that were outstanding are acknowledged, up to this one: that is progress. Where one was our SYN's, and its timer had expired, the timeout begins anew (RFC 6298 section 5.7).
abbrev pub resend_acknowledged : Resend → ℕ → Bool → Moment → Resend
resend_acknowledged p una opens now = let sampled = timeout_sampled p.timeout p.timed una now in record p {
  timeout = if opens && nat_lt 0 p.expiries then after_lost_syn sampled else sampled;
  timed = timed_left p.timed una;
  expiries = 0;
}
