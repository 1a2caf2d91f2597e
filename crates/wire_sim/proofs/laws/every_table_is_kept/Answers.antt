use Rattle.wire_sim.proofs.HostsRun.{tables-kept}
use Rattle.wire_sim.proofs.laws.every_table_is_kept.Goals as goal

pub returns : goal.returns
returns c = tables-kept
