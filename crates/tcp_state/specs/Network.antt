-- What is in the network, place by place (RFC 6675 section 4, SetPipe).
use Rattle.std.specs.Prelude.{ℕ, zero, suc, ◌+◌, ◌&&◌, ◌||◌, nat_lt, Bool, if◌then◌else◌}
use Rattle.std.specs.Option.{unwrap_or}
use Rattle.stream_buf.specs.Scoreboard.{is_reported, is_lost, reported_end}
use Rattle.congestion.specs.Window.{is_recovering}
use Rattle.tcp_state.specs.View.{View}
use Rattle.tcp_state.specs.Selective.{tolerance}

-- what first went out at a place that isn't reported is lost, as far as reports tell (IsLost); or where a probe of the tail followed it, and anything behind it is reported
abbrev pub is_taken_for_lost : View → ℕ → Bool
is_taken_for_lost v place = is_lost (tolerance v) v.resend.reported place || (nat_lt place v.resend.tail && nat_lt place (reported_end v.resend.reported))

-- what stands there went out again in the recovery that runs: it stands before the resend mark (HighRxt)
abbrev pub went_again : View → ℕ → Bool
went_again v place = is_recovering v.congestion && nat_lt place (unwrap_or v.resend.mark 0)

-- How often what stands at a place is in the network: not where it is reported; else once as it first went out, unless that is lost, and once more where it went out again.
abbrev pub times_of : View → ℕ → ℕ
times_of v place =
    if is_reported v.resend.reported place then 0
    else (if is_taken_for_lost v place then 0 else 1) + (if went_again v place then 1 else 0)

-- that of all places below one
abbrev pub in_network : View → ℕ → ℕ
in_network v zero = 0
in_network v (suc place) = in_network v place + times_of v place
