-- The windows that the two ends advertise to each other, and how much may go out at once (RFC 9293 sections 3.8.6 and 3.10.7.4).
use Rattle.std.specs.Prelude.{ℕ, ◌+◌, ◌-◌, ◌*◌, ◌/◌, ◌%◌, ◌^◌, ◌==◌, ◌&&◌, ◌||◌, not, nat_le, nat_lt, min, max, Bool, if◌then◌else◌, length}
use Rattle.tcp_segment.specs.declared.TheConstants.{MSS}
use Rattle.tcp_halves.specs.Numbers.{is_before}
use Rattle.tcp_halves.specs.declared.buffers.TheConstants.{CAPACITY}
use Rattle.tcp_halves.specs.Halves.{Sending, Receiving}
use Rattle.tcp_halves.specs.Stream.{outstanding, receive_window}

-- the window of a segment without SYN in octets: its field counts units of the peer's (RFC 7323 section 2.3)
abbrev pub window_in : Sending → ℕ → ℕ
window_in s field = field * s.unit

-- the peer's SYN has its window, in octets, and the size of the segments that it takes
abbrev pub after_syn_heard : Sending → ℕ → ℕ → ℕ → Sending
after_syn_heard s number window smss = record s { window = window; max_window = max s.max_window window; wl1 = number; smss = smss }

-- A segment updates the send window where its acknowledgement is not below SND.UNA, and where it is no older than the one that updated it last
-- (section 3.10.7.4, fifth): SND.UNA =< SEG.ACK, and SND.WL1 < SEG.SEQ or (SND.WL1 = SEG.SEQ and SND.WL2 =< SEG.ACK)
abbrev pub updates_window : Sending → ℕ → ℕ → Bool
updates_window s number ack = not (is_before ack s.una) && (is_before s.wl1 number || (s.wl1 == number && not (is_before ack s.wl2)))

abbrev pub after_window_update : Sending → ℕ → ℕ → ℕ → Sending
after_window_update s number ack window = if updates_window s number ack then record s { window = window; max_window = max s.max_window window; wl1 = number; wl2 = ack } else s

-- how many octets are held that have not gone out: D
abbrev pub unsent : Sending → ℕ
unsent s = length s.held - outstanding s

-- the lesser of the peer's window and the congestion window: how many numbers may be outstanding by new octets (RFC 5681 section 3.1)
abbrev pub open_window : Sending → ℕ → ℕ
open_window s cwnd = min s.window cwnd

-- the usable window: how many numbers may go out beside those that are outstanding: U
abbrev pub usable : Sending → ℕ → ℕ
usable s cwnd = open_window s cwnd - outstanding s

-- how many new octets may go out: min (D, U)
abbrev pub sendable : Sending → ℕ → ℕ
sendable s cwnd = min (unsent s) (usable s cwnd)

-- those of the next segment
abbrev pub next_count : Sending → ℕ → ℕ
next_count s cwnd = min (sendable s cwnd) s.smss

-- the new octets that may go out are all that is held ..
abbrev pub takes_all : Sending → ℕ → Bool
takes_all s cwnd = nat_le (unsent s) (usable s cwnd)

-- .. or half the largest window that the peer ever advertised
abbrev pub takes_enough : Sending → ℕ → Bool
takes_enough s cwnd = takes_all s cwnd || nat_le s.max_window (2 * sendable s cwnd)

-- A segment of new octets is worth its way (section 3.8.6.2.1): it is full; or nothing is outstanding, and it takes all that is held, or half the largest window that the peer ever advertised; or
-- what is held need not wait for more, since it did so as long as it may or its caller wants no delay. Else small segments wait for what is outstanding (Nagle, RFC 1122 section 4.2.3.4).
abbrev pub is_worth_sending : Sending → ℕ → Bool → Bool
is_worth_sending s cwnd overridden =
    nat_le s.smss (sendable s cwnd)
    || ((outstanding s == 0) && takes_enough s cwnd)
    || overridden

-- there are new octets that may go out and are not worth it yet
abbrev pub waits_for_more : Sending → ℕ → Bool → Bool
waits_for_more s cwnd overridden = nat_lt 0 (sendable s cwnd) && not (is_worth_sending s cwnd overridden)

-- how many octets can still come
abbrev pub receive_room : Receiving → ℕ
receive_room r = r.size - length r.readable

-- The window to advertise would grow by a segment at least: a smaller step is kept back (section 3.8.6.2.2), so that the peer sends no small segments into it.
abbrev pub has_grown : Receiving → Bool
has_grown r = nat_le (receive_window r + MSS) (receive_room r)

-- the units of a window that so many octets fill, in octets (RFC 7323 section 2.3)
abbrev pub whole_units : ℕ → ℕ → ℕ
whole_units unit octets = octets / unit * unit

-- the window that is advertised: the whole room, as far as units fill it, where that is a step worth telling, else up to the edge that it had
abbrev pub after_advertisement : Receiving → Receiving
after_advertisement r = if has_grown r then record r { edge = (r.rnext + whole_units r.unit (receive_room r)) % 2 ^ 32 } else r

-- the window of a segment without SYN as its header has it: in units, and never more than the window (section 2.3)
abbrev pub window_field : Receiving → ℕ
window_field r = receive_window r / r.unit

-- a segment with SYN tells its window in octets, and so no more than 16 bits hold (section 2.2): it is advertised where it is a step further than what was
abbrev pub syn_window : Receiving → ℕ
syn_window r = min (receive_room r) CAPACITY

abbrev pub after_syn_advertisement : Receiving → Receiving
after_syn_advertisement r = if nat_le (receive_window r + MSS) (syn_window r) then record r { edge = (r.rnext + syn_window r) % 2 ^ 32 } else r
