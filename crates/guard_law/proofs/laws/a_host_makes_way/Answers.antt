use Rattle.guard_law.proofs.Wanting.{segment_given, place_given}
use Rattle.guard_law.proofs.laws.a_host_makes_way.Goals as goal

pub returns : goal.returns
returns c = record { segment = segment_given; socket = place_given }
