-- A port that passes, a step of the turn, and its end.
use Rattle.std.proofs.Common.{◌≡◌, ◌+◌, ◌-◌, true, false, Some, arith, ap, sym, ◌∙◌}
use Rattle.sockets.specs.Ports.{port_after, first_port, first_port-zero}
use Rattle.sockets.proofs.Turns.{first_port-here, first_port-next}
use Rattle.sockets.proofs.ports.first_that.Goals as goal

pub returns-then-passes-clause-first : goal.returns-then-passes-clause-first
returns-then-passes-clause-first g c = λ test tells.
    let passes : test (port_after c.args.last c.loop-steps.steps) ≡ true = ap test (sym c.port_after-port.ensures.value) ∙ sym (tells c.port_after-port.result c.passes.result c.passes.ensures) ∙ c.if-passes.true in
    ap Some c.port_after-port.ensures.value ∙ sym (c.loop-steps.invariant test tells ∙ first_port-here test c.args.last c.loop-steps.steps (16384 - c.loop-steps.steps) (omega arith) passes)

pub loop-steps-preserved : goal.loop-steps-preserved
loop-steps-preserved g c = λ test tells.
    let fails : test (port_after c.args.last c.loop-steps.steps) ≡ false = ap test (sym c.port_after-port.ensures.value) ∙ sym (tells c.port_after-port.result c.passes.result c.passes.ensures) ∙ c.if-passes.false in
    let left : 16384 - c.loop-steps.steps - 1 ≡ 16384 - (c.loop-steps.steps + 1) = omega arith in
    c.loop-steps.invariant test tells ∙ first_port-next test c.args.last c.loop-steps.steps (16384 - c.loop-steps.steps) (omega arith) fails ∙ ap (λ n. first_port test c.args.last (c.loop-steps.steps + 1) n) left

pub returns-clause-first : goal.returns-clause-first
returns-clause-first g c = λ test tells.
    let none_left : 16384 - c.loop-steps.steps ≡ 0 = omega arith in
    sym (c.loop-steps.invariant test tells ∙ ap (λ n. first_port test c.args.last c.loop-steps.steps n) none_left ∙ first_port-zero test c.args.last c.loop-steps.steps)
