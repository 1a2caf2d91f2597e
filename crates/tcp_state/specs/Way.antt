-- When a connection may give way to another one (RFC 9293 section 3.6.1, RFC 1122 section 4.2.2.13).
use Rattle.std.specs.Prelude.{◌&&◌, not, nat_lt, Bool, if◌then◌else◌, Option, Some, None}
use Rattle.clock.specs.declared.moment.Moment.{Moment}
use Rattle.tcp_halves.specs.Numbers.{is_before}
use Rattle.tcp_segment.specs.Segment.{Segment}
use Rattle.tcp_state.specs.View.{View, is_syn_received, is_time_wait}

-- a listener opened it, and its SYN-ACK is not answered, and expired: it went out the first timeout ago or more, a second
abbrev pub is_unanswered : View → Bool
is_unanswered v = v.passive && is_syn_received v.state && nat_lt 0 v.resend.expiries

-- since when it is in TIME-WAIT, where its caller closed it
abbrev pub left_since : View → Option Moment
left_since v = if is_time_wait v.state && v.released then Some v.since else None

-- the number of a segment lies past all that was heard on it
abbrev pub lies_past : View → Segment → Bool
lies_past v s = not (is_before s.number v.receiving.rnext)
