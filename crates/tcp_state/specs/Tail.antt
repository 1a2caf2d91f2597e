-- Where nothing is heard of what is outstanding for two round trips, its last segment goes out once more: the answer tells what came, so that neither the loss of the last segments nor that of the last acknowledgement
-- is waited out (tail loss probe, RFC 8985 section 7).
use Rattle.std.specs.Prelude.{ℕ, ◌-◌, ◌/◌, ◌==◌, ◌&&◌, ◌||◌, not, nat_lt, min, max, Bool, if◌then◌else◌, length, Option, Some, None, is_some}
use Rattle.clock.specs.declared.moment.Moment.{Moment}
use Rattle.clock.specs.Moments.{has_come}
use Rattle.retransmit.specs.declared.rto.Estimate.{Estimate}
use Rattle.retransmit.specs.Timeout.{Timeout}
use Rattle.congestion.specs.Window.{is_recovering}
use Rattle.tcp_halves.specs.Stream.{outstanding}
use Rattle.tcp_halves.specs.Windows.{open_window}
use Rattle.tcp_state.specs.declared.tail.TheConstants.{LEAST_TAIL_WAIT}
use Rattle.tcp_state.specs.Resend.{Resend}
use Rattle.tcp_state.specs.View.{View, is_opening}
use Rattle.tcp_state.specs.Selective.{selects}

-- Such a probe is waited for where reports are taken, and more than a segment is outstanding: not in a recovery, nor before all is acknowledged that was outstanding at an expiry or at the last probe; and not where something
-- is reported, or goes out again (section 7.2), nor where it would not go out within both windows.
abbrev pub awaits_tail : View → Bool
awaits_tail v =
    selects v && not (is_opening v.state) && not (is_recovering v.congestion) && (v.resend.recover == 0) && (v.resend.tail == 0)
    && (length v.resend.reported == 0) && not (is_some v.resend.mark) && nat_lt v.sending.smss (outstanding v.sending)
    && nat_lt (outstanding v.sending - v.sending.smss) (open_window v.sending v.congestion.cwnd)

-- two smoothed round trips, 10 ms at least, and no longer than the timeout; that long, where no round trip was measured (section 7.2, PTO)
abbrev pub tail_wait_by : Option Estimate → ℕ → ℕ
tail_wait_by None rto = rto
tail_wait_by (Some estimate) rto = min rto (max LEAST_TAIL_WAIT (estimate.s8 / 4))

abbrev pub tail_wait : Timeout → ℕ
tail_wait t = tail_wait_by t.estimate t.rto

-- It is counted from the moment from which the retransmission timer runs, for the timeout.
abbrev pub tail_by : View → Option Moment → Option Moment
tail_by v None = None
tail_by v (Some deadline) = if awaits_tail v then Some (record { 0 = deadline.0 - (v.resend.timeout.rto - tail_wait v.resend.timeout) }) else None

abbrev pub tail_at : View → Option Moment
tail_at v = tail_by v v.timers.retransmission

abbrev pub is_tail_due : View → Moment → Bool
is_tail_due v now = has_come (tail_at v) now

-- The last segment goes out again, that alone, and the end of what is outstanding is remembered (section 7.3).
abbrev pub tail_after : View → Moment → Resend
tail_after v now = let due = is_tail_due v now in record v.resend {
  mark = if due then Some (outstanding v.sending - v.sending.smss) else v.resend.mark;
  once = due || v.resend.once;
  tail = if due then outstanding v.sending else v.resend.tail;
}
