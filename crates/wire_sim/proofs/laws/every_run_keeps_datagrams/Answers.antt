use Rattle.wire_sim.proofs.datagrams.RunsKeepDatagrams.{runs-keep}
use Rattle.wire_sim.proofs.laws.every_run_keeps_datagrams.Goals as goal

pub returns : goal.returns
returns c = runs-keep
