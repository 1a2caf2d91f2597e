-- How many octets may be outstanding by new ones.
use Rattle.std.proofs.Common.{◌≡◌, ℕ, ◌+◌, ◌-◌, ◌<◌, false, if◌then◌else◌, arith, refl, ◌∙◌, ap}
use Rattle.std.specs.Option.{unwrap_or}
use Rattle.stream_buf.specs.Scoreboard.{unreported}
use Rattle.stream_buf.proofs.Reports.{none_below as none_left}
use Rattle.congestion.specs.Window.{is_recovering, allowed}
use Rattle.tcp_halves.specs.Stream.{outstanding}
use Rattle.tcp_halves.proofs.Choices.{either}
use Rattle.tcp_state.specs.View.{View, IsSound}
use Rattle.tcp_state.specs.Congestion.{KeepsCongestion}
use Rattle.tcp_state.specs.Selective.{counts_pipe, repaired_end, pipe, allowance}
use Rattle.tcp_state.proofs.Growth.{allows_some}
use Rattle.tcp_state.proofs.Unchanged.{none_below}

-- nothing is outstanding: nothing is in the network
pub pipe_empty : (v : View) → IsSound v → outstanding v.sending ≡ 0 → pipe v ≡ 0
pipe_empty v sound idle =
    let left = unreported v.resend.reported in
    let again : repaired_end v ≡ 0 = either ℕ (λ n. n ≡ 0) (is_recovering v.congestion) (unwrap_or v.resend.mark 0) 0 (λ recovers. ap (λ m. unwrap_or m 0) (none_below v.resend.mark (outstanding v.sending) idle sound.mark)) (λ runs. refl) in
    let first : left (outstanding v.sending) ≡ 0 = ap left idle ∙ none_left v.resend.reported in
    let last : left (repaired_end v) ≡ 0 = ap left again ∙ none_left v.resend.reported in
    omega (arith, first, last)

-- and some may go out
pub allowance_some : (v : View) → IsSound v → KeepsCongestion v → outstanding v.sending ≡ 0 → 0 < allowance v
allowance_some v sound network idle =
    let none = pipe_empty v sound idle in
    let least = network.sound.cwnd_least in
    let segment = network.sound.smss_least in
    either ℕ (λ n. 0 < n) (counts_pipe v) (v.congestion.cwnd + outstanding v.sending - pipe v) (allowed v.congestion) (λ counts. omega (arith, none, least, segment)) (λ other. allows_some v.congestion network.sound)

-- without reports it is that of the congestion window
pub allowance_plain : (v : View) → counts_pipe v ≡ false → allowance v ≡ allowed v.congestion
allowance_plain v plain = ap (λ b. if b then v.congestion.cwnd + outstanding v.sending - pipe v else allowed v.congestion) plain
