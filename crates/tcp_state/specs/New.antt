-- What is new, and may go out (RFC 9293 sections 3.8.6 and 3.8.6.2.1).
use Rattle.std.specs.Prelude.{ℕ, ◌==◌, ◌&&◌, ◌||◌, nat_lt, Bool, length}
use Rattle.tcp_halves.specs.Stream.{outstanding}
use Rattle.tcp_halves.specs.Windows.{open_window, sendable, takes_all, takes_enough, is_worth_sending}
use Rattle.tcp_state.specs.View.{View, awaits_fin_ack}
use Rattle.tcp_state.specs.Selective.{allowance}

-- our side is closed, and both windows take all that has not gone out: the last octets
abbrev pub takes_last : View → Bool
takes_last v = awaits_fin_ack v.state && takes_all v.sending (allowance v)

-- Where its host says so, a segment that isn't full waits for a small one only (Minshall, RFC 9293 appendix A.3), and not with the last octets of a closed side.
abbrev pub passes_full : View → Bool
passes_full v = v.minshall && takes_enough v.sending (allowance v) && ((v.resend.small == 0) || takes_last v)

-- New octets wait for no more: they did so as long as they may; or without delay a segment that isn't full doesn't wait for what is outstanding, where it takes all that is held, or half the largest window
-- (RFC 9293 section 3.7.4, RFC 1122 section 4.2.3.4); or only full segments are.
abbrev pub waits_no_longer : View → Bool
waits_no_longer v = (v.nodelay && takes_enough v.sending (allowance v)) || passes_full v || v.resend.overridden

-- new octets: both windows take some, and they are worth a segment
abbrev pub sends_new : View → Bool
sends_new v = nat_lt 0 (sendable v.sending (allowance v)) && is_worth_sending v.sending (allowance v) (waits_no_longer v)

-- .. and the FIN of a closed side with them, where its host says so, the octets up to this distance past SND.UNA are all that are held, and both windows take one number more
abbrev pub takes_fin : View → ℕ → Bool
takes_fin v end = v.minshall && awaits_fin_ack v.state && (end == length v.sending.held) && nat_lt end (open_window v.sending (allowance v))

-- the FIN of a closed side alone: all octets went out, and the peer's window takes one number more
abbrev pub sends_fin : View → Bool
sends_fin v = awaits_fin_ack v.state && (outstanding v.sending == length v.sending.held) && nat_lt (outstanding v.sending) v.sending.window
