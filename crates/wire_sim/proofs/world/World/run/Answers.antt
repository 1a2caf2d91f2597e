-- A world that is given no event keeps the law.
use Rattle.std.proofs.Common.{◌≡◌, ◌+◌, length, take, drop, List, Result, subst, sym, arith, rules}
use Rattle.std.proofs.lemmas.Grind.{common_steps}
use Rattle.wire_sim.specs.WorldView.{WorldView, network_view}
use Rattle.wire_sim.specs.declared.event.Answer.{Answer}
use Rattle.wire_sim.specs.declared.event.Unfair.{Unfair}
use Rattle.wire_sim.specs.RoomyRuns.{IsRoomyOutcome, RoomyRunsTo}
use Rattle.wire_sim.proofs.runs.FieldsAreReached.{reached-again, lawful, seen-is}
use Rattle.wire_sim.proofs.datagrams.RunsKeepDatagrams.{runs-keep}
use Rattle.wire_sim.proofs.RunGiven.{runs-next, runs-none, runs-all}
use Rattle.wire_sim.proofs.world.World.run.Goals as goal

pub loop-event-init : goal.loop-event-init
loop-event-init c =
    let w : WorldView = record { network = network_view c.self.inside.network; trace = c.self.inside.trace.items } in
    (search rules, search rules, grind (arith, common_steps), reached-again w c.args.self.now.seen (sym (seen-is c.self.view_is)) c.self.invariant.1, lawful _ w c.args.self.now.seen (sym (seen-is c.self.view_is)) c.self.invariant.1, runs-none c.reserve.new.self.items c.args.self.now)

pub returns-then-is_err-clause-reached : goal.returns-then-is_err-clause-reached
returns-then-is_err-clause-reached c = reached-again (record { network = network_view c.self.inside.network; trace = c.self.inside.trace.items }) c.args.self.now.seen (sym (seen-is c.self.view_is)) c.self.invariant.1

pub returns-then-is_err-clause-lawful : goal.returns-then-is_err-clause-lawful
returns-then-is_err-clause-lawful c = lawful _ (record { network = network_view c.self.inside.network; trace = c.self.inside.trace.items }) c.args.self.now.seen (sym (seen-is c.self.view_is)) c.self.invariant.1

-- the outcomes so far and one more
pub loop-event-preserved : goal.loop-event-preserved
loop-event-preserved c =
    let outcome : IsRoomyOutcome c.event-item.result c.give-outcome.result c.loop-event.self c.give-outcome.new.self = record {
      outcome = c.give-outcome.ensures.outcome;
      memory = c.give-outcome.ensures.memory;
      room = c.give-outcome.ensures.room;
    } in (
      search rules,
      search rules,
      grind (arith, common_steps),
      c.give-outcome.ensures.reached,
      c.give-outcome.ensures.lawful,
      subst (λ l. RoomyRunsTo (take (c.loop-event.event-index + 1) c.args.events.now) (drop (length c.reserve.new.self.items) l) c.args.self.now c.give-outcome.new.self) (sym c.tell.ensures.items)
          (runs-next c.args.events.now c.loop-event.event-index c.event-item.result (length c.reserve.new.self.items) c.loop-event.results.items c.give-outcome.result c.args.self.now c.loop-event.self c.give-outcome.new.self
          c.loop-event-test.true c.event-item.is (omega (arith, c.loop-event.invariant.1)) c.loop-event.invariant.5 outcome),
    )

pub returns-clause-steps : goal.returns-clause-steps
returns-clause-steps c =
    let ended : c.loop-event.event-index ≡ length c.args.events.now = omega (arith, c.loop-event-test.false, c.loop-event.auto.event-index-end) in
    subst (λ (l : List (Result Answer Unfair)). RoomyRunsTo c.args.events.now (drop (length l) c.loop-event.results.items) c.args.self.now c.loop-event.self) c.reserve.ensures.items
    (runs-all c.args.events.now c.loop-event.event-index (drop (length c.reserve.new.self.items) c.loop-event.results.items) c.args.self.now c.loop-event.self ended c.loop-event.invariant.5)

-- whatever run led here keeps the law of datagrams
pub returns-clause-datagrams : goal.returns-clause-datagrams
returns-clause-datagrams c = λ run. runs-keep _ _ run

pub returns-then-is_err-clause-datagrams : goal.returns-then-is_err-clause-datagrams
returns-then-is_err-clause-datagrams c = λ run. runs-keep _ _ run
