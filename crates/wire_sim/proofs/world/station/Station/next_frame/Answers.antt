-- Where no frame can go out, the host and its clock are as they were.
use Rattle.wire_sim.proofs.emission.NothingGoesOut.{station-still}
use Rattle.wire_sim.proofs.world.station.Station.next_frame.Goals as goal

pub returns-clause-none : goal.returns-clause-none
returns-clause-none c = station-still c.args.self.now c.next_frame.new.self c.next_frame.result c.next_frame.ensures.answer c.next_frame.ensures.after
