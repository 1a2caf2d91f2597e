-- How much may be outstanding by what is new.
use Rattle.std.proofs.Common.{◌≡◌, ℕ, ◌+◌, ◌*◌, ◌≤◌, ◌&&◌, not, true, false, arith}
use Rattle.tcp_halves.proofs.Choices.{either}
use Rattle.tcp_halves.specs.Stream.{outstanding}
use Rattle.congestion.specs.Control.{repairs}
use Rattle.congestion.specs.Window.{allowed, is_recovering}
use Rattle.tcp_state.specs.Selective.{counts_pipe, pipe, allowance}
use Rattle.tcp_state.specs.View.{View}

pub plainly : (v : View) → counts_pipe v ≡ false → v.congestion.cwnd ≤ allowance v
plainly v plain =
    let w = v.congestion in
    let enough : w.cwnd ≤ allowed w = either ℕ (λ n. w.cwnd ≤ n) (repairs w.control && not (is_recovering w)) (w.cwnd + w.duplicates * w.smss) w.cwnd (λ limited. omega arith) (λ no. omega arith) in
    rw plain enough

pub counted : (v : View) → counts_pipe v ≡ true → v.congestion.cwnd + outstanding v.sending ≤ allowance v + pipe v
counted v reports = rw reports (omega arith)
