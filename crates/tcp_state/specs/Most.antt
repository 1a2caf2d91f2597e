-- How many segments at most go out of a connection one after the other, where nothing else happens to it.
use Rattle.std.specs.Prelude.{ℕ, ◌+◌, ◌-◌, Bool, if◌then◌else◌, Option, Some, None}
use Rattle.tcp_halves.specs.Stream.{outstanding}
use Rattle.tcp_state.specs.View.{View, most_outstanding}
use Rattle.tcp_state.specs.Due.{is_ack_due}

abbrev pub one_if : Bool → ℕ
one_if due = if due then 1 else 0

-- how many numbers go out again from a mark on, of so many that may be outstanding
abbrev pub left_from : Option ℕ → ℕ → ℕ
left_from None most = 0
left_from (Some mark) most = most - mark

-- How many numbers may still go out: for the first time those of the SYN, of the octets that are held and of the FIN that are not outstanding, and once more those from the resend mark on; and the probe that is owed.
abbrev pub numbers_left : View → ℕ
numbers_left v = (most_outstanding v - outstanding v.sending) + left_from v.resend.mark (most_outstanding v) + one_if v.resend.owes_probe

-- a segment each at most, with the reset, the acknowledgement and the probe of a silent peer that are owed, and the window that has grown
abbrev pub most_due : View → ℕ
most_due v = one_if v.owes_reset + numbers_left v + one_if (is_ack_due v) + one_if v.alive.owed
