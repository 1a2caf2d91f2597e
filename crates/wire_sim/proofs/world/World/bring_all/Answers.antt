use Rattle.std.proofs.Common.{◌≡◌, ◌+◌, ◌-◌, arith, subst}
use Rattle.std.specs.List.{range_with_len}
use Rattle.wire_sim.specs.Rounds.{Brings}
use Rattle.wire_sim.proofs.rounds.FramesInTurn.{brought_more}
use Rattle.wire_sim.proofs.rounds.RoundsAreRuns.{on_err}
use Rattle.wire_sim.proofs.runs.RoomLasts.{keeps-on, full-at-first}
use Rattle.wire_sim.proofs.world.World.bring_all.Goals as goal

pub loop-index-preserved : goal.loop-index-preserved
loop-index-preserved c =
    let first = c.args.first in
    let index = c.loop-index.index in
    let there : index ≡ first + (index - first) = omega (arith, c.loop-index.auto.index) in
    let next : index - first + 1 ≡ index + 1 - first = omega (arith, c.loop-index.auto.index) in
    record {
      brought = subst (λ n. Brings c.args.to (range_with_len first n) c.args.self.now.seen c.bring.new.self.seen) next
          (brought_more c.args.to first (index - first) index _ _ _ there c.loop-index.invariant.brought c.in_ok-bring.ensures.brought);
      room = keeps-on c.loop-index.invariant.room c.bring.ensures.room;
    }

pub returns-in_err-bring-clause-full : goal.returns-in_err-bring-clause-full
returns-in_err-bring-clause-full c =
    on_err c.from_residual.result _ (full-at-first c.args.self.now.room c.loop-index.self.room _ _ c.loop-index.invariant.room c.in_err-bring.ensures.kept c.in_err-bring.ensures.full)

pub returns-in_err-bring-clause-room : goal.returns-in_err-bring-clause-room
returns-in_err-bring-clause-room c = keeps-on c.loop-index.invariant.room c.bring.ensures.room
