-- Dynamic ports in turn.
use Rattle.std.proofs.Common.{◌≡◌, ℕ, zero, suc, ◌+◌, ◌-◌, ◌<◌, Bool, true, false, Some, ◌∙◌, arith}
use Rattle.sockets.specs.Ports.{port_after, first_port, first_port-step}

-- the port at hand passes
pub first_port-here : (test : ℕ → Bool) (last steps n : ℕ) → 0 < n → test (port_after last steps) ≡ true → first_port test last steps n ≡ Some (port_after last steps)
first_port-here test last steps zero more passes = absurd (omega arith)
first_port-here test last steps (suc n) more passes = first_port-step test last steps n ∙ rw passes

-- the port at hand does not
pub first_port-next : (test : ℕ → Bool) (last steps n : ℕ) → 0 < n → test (port_after last steps) ≡ false → first_port test last steps n ≡ first_port test last (steps + 1) (n - 1)
first_port-next test last steps zero more fails = absurd (omega arith)
first_port-next test last steps (suc n) more fails =
    let less : suc n - 1 ≡ n = omega arith in
    first_port-step test last steps n ∙ rw (fails, less)
