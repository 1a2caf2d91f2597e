use Rattle.wire_sim.proofs.passage.NeighboursAreOthers.{neighbours-others, hops-others}
use Rattle.wire_sim.proofs.laws.every_neighbour_is_the_other_host.Goals as goal

pub returns : goal.returns
returns c = record { pairs = neighbours-others; hops = hops-others }
