use Rattle.std.proofs.Common.{inl}
use Rattle.commands.proofs.RunLemmas.{setting_said}
use Rattle.commands.proofs.SimLemmas.{err_passed, passed_as}
use Rattle.commands.proofs.sim.begin.Goals as goal

pub returns-in_err-script-clause-bad : goal.returns-in_err-script-clause-bad
returns-in_err-script-clause-bad c = err_passed _ c.from_residual.result _ c.from_residual.ensures.1 (passed_as _ _ c.in_err-script.ensures.bad)

pub returns-in_err-world-clause-bad : goal.returns-in_err-world-clause-bad
returns-in_err-world-clause-bad c = err_passed _ c.from_residual-in_err-world.result _ c.from_residual-in_err-world.ensures.1 (inl c.in_err-world.ensures.faults)

pub returns-clause-setting : goal.returns-clause-setting
returns-clause-setting c = setting_said c.in_ok-script.script.setting c.args.octets.now c.in_ok-script.ensures.scales c.in_ok-script.ensures.limit
