-- A copy is the same event, and what a step tells of it is its outcome.
use Rattle.std.proofs.Common.{◌≡◌, None, refl, inr, sym, rules}
use Rattle.wire_sim.specs.Runs.{unfair}
use Rattle.wire_sim.specs.WorldView.{network_view}
use Rattle.wire_sim.proofs.runs.CopyIsSame.{cloned}
use Rattle.wire_sim.proofs.runs.FieldsAreReached.{lawful, seen-is}
use Rattle.wire_sim.proofs.RunGiven.{step-outcome, same_event}
use Rattle.wire_sim.proofs.world.World.give.Goals as goal

pub returns-in-Ok-clause-outcome : goal.returns-in-Ok-clause-outcome
returns-in-Ok-clause-outcome c =
    let given = c.in-Ok.event in
    let told = c.step.ensures in
    (given, cloned c.args.event.now given c.in-Ok.ensures.cases, step-outcome given c.step.result c.args.self.now.seen c.step.new.self.seen told.unfair told.refused told.taken)

-- only a send holds octets, for which memory may be refused, and a send breaks no rule
pub returns-in-Err-clause-outcome : goal.returns-in-Err-clause-outcome
returns-in-Err-clause-outcome c =
    let keeps_rules : unfair c.args.self.now.seen c.args.event.now ≡ None = search rules in
    (c.args.event.now, same_event c.args.event.now, (refl, inr (keeps_rules, refl)))

pub returns-in-Err-clause-lawful : goal.returns-in-Err-clause-lawful
returns-in-Err-clause-lawful c = lawful _ (record { network = network_view c.self.inside.network; trace = c.self.inside.trace.items }) c.args.self.now.seen (sym (seen-is c.self.view_is)) c.self.invariant.1
