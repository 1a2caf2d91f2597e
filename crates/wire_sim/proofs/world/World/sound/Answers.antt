-- What a world keeps, and its hosts.
use Rattle.std.proofs.Common.{sym, subst}
use Rattle.host.specs.Sound.{IsSoundHost}
use Rattle.wire_sim.specs.WorldView.{WorldView, network_view}
use Rattle.wire_sim.proofs.runs.FieldsAreReached.{reached-again, seen-is}
use Rattle.wire_sim.proofs.world.World.sound.Goals as goal

pub returns-clause-a : goal.returns-clause-a
returns-clause-a c = subst (λ (w : WorldView). IsSoundHost w.network.a.host) (seen-is c.self.view_is) c.sound.ensures.a

pub returns-clause-b : goal.returns-clause-b
returns-clause-b c = subst (λ (w : WorldView). IsSoundHost w.network.b.host) (seen-is c.self.view_is) c.sound.ensures.b

pub returns-clause-reached : goal.returns-clause-reached
returns-clause-reached c = reached-again (record { network = network_view c.self.inside.network; trace = c.self.inside.trace.items }) c.args.self.now.seen (sym (seen-is c.self.view_is)) c.self.invariant.1
