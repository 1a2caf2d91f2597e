-- What an error of the network makes of a connection, where it tells that a segment of ours can't be delivered, now or later (RFC 1122 section 4.2.3.9).
use Rattle.std.specs.Prelude.{◌≡◌, ℕ, ◌==◌, ◌&&◌, not, Bool, if◌then◌else◌, List, [], Some, None, Err}
use Rattle.tcp_state.specs.declared.calls.Refusal.TheVariants.{ECONNREFUSED}
use Rattle.tcp_state.specs.declared.connection.Fate.{Fate}
use Rattle.tcp_state.specs.declared.connection.Fate.TheVariants.{Stays, Removed}
use Rattle.tcp_state.specs.declared.state.State.TheVariants.{Closed}
use Rattle.tcp_halves.specs.Stream.{outstanding}
use Rattle.tcp_state.specs.View.{View, is_syn_sent, after_reset, is_over}
use Rattle.tcp_state.specs.Timing.{deadline}
use Rattle.tcp_state.specs.Calls.{send_answer, recv_answer}
use Rattle.tcp_state.specs.Due.{first_due}

-- The error tells of the segment of this number. It ends a connection in SYN-SENT whose SYN has gone out and has this number; past SYN-SENT it is only a hint
-- (RFC 9293 section 3.9.2.2).
abbrev pub is_unreachable : View → ℕ → Bool
is_unreachable v number = is_syn_sent v.state && not (outstanding v.sending == 0) && (v.sending.una == number)

-- it is refused, as by a reset of the peer
abbrev pub after_unreachable : View → ℕ → View
after_unreachable v number = if is_unreachable v number then after_reset v (Some ECONNREFUSED) else v

abbrev pub unreachable_fate : View → ℕ → Fate
unreachable_fate v number = if is_over (after_unreachable v number) then Removed else Stays

-- An opening that came to nothing: the connection is CLOSED, and every call is told so; it holds and owes nothing, and the clock does nothing more to it.
pub record IsRefused (w : View) : Type 0 where
  pub closed : w.state ≡ Closed
  pub send : (octets : List ℕ) → send_answer w octets ≡ Err ECONNREFUSED
  pub recv : (len : ℕ) → recv_answer w len ≡ Err ECONNREFUSED
  pub held : w.sending.held ≡ []
  pub readable : w.receiving.readable ≡ []
  pub due : first_due w ≡ None
  pub timer : deadline w ≡ None
