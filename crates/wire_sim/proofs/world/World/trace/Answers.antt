-- What a world keeps.
use Rattle.std.proofs.Common.{◌∙◌, List, sym, ap}
use Rattle.wire_sim.specs.declared.event.Happening.{Happening}
use Rattle.wire_sim.specs.WorldView.{WorldView, network_view}
use Rattle.wire_sim.proofs.runs.FieldsAreReached.{reached-again, lawful, seen-is}
use Rattle.wire_sim.proofs.world.World.trace.Goals as goal

pub returns-clause-reached : goal.returns-clause-reached
returns-clause-reached c = reached-again (record { network = network_view c.self.inside.network; trace = c.self.inside.trace.items }) c.args.self.now.seen (sym (seen-is c.self.view_is)) c.self.invariant.1

pub returns-clause-lawful : goal.returns-clause-lawful
returns-clause-lawful c =
    let w : WorldView = record { network = network_view c.self.inside.network; trace = c.self.inside.trace.items } in
    let n = c.args.self.now.seen.network in
    let told : WorldView = record { network = n; trace = c.as_slice.result.now } in
    lawful _ w told
    (ap (λ (t : List Happening). let x : WorldView = record { network = n; trace = t } in x) c.as_slice.ensures.value
    ∙ ap (λ (v : WorldView). let x : WorldView = record { network = v.network; trace = c.self.inside.trace.items } in x) (sym (seen-is c.self.view_is))) c.self.invariant.1
