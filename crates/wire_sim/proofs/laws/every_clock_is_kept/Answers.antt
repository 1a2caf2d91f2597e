use Rattle.wire_sim.proofs.runs.ClocksAreKept.{clocks-kept, hosts-kept}
use Rattle.wire_sim.proofs.laws.every_clock_is_kept.Goals as goal

pub returns : goal.returns
returns c = record { clocks = clocks-kept; hosts = hosts-kept }
