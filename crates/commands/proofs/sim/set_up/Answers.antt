use Rattle.commands.proofs.RunLemmas.{set_up_with}
use Rattle.commands.proofs.sim.set_up.Goals as goal

pub returns : goal.returns
returns c = set_up_with _ _ _ _ _ c.config.ensures c.with_scale.ensures
