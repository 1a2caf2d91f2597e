-- What a world keeps.
use Rattle.std.proofs.Common.{sym}
use Rattle.wire_sim.specs.WorldView.{network_view}
use Rattle.wire_sim.proofs.runs.FieldsAreReached.{reached-again, seen-is}
use Rattle.wire_sim.proofs.world.World.openings.Goals as goal

pub returns-clause-reached : goal.returns-clause-reached
returns-clause-reached c = reached-again (record { network = network_view c.self.inside.network; trace = c.self.inside.trace.items }) c.args.self.now.seen (sym (seen-is c.self.view_is)) c.self.invariant.1
