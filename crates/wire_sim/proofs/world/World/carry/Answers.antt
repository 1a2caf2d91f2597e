use Rattle.std.proofs.Common.{◌∙◌}
use Rattle.wire_sim.specs.declared.event.Event.TheVariants as event
use Rattle.wire_sim.proofs.rounds.FramesInTurn.{begun_bringing}
use Rattle.wire_sim.proofs.rounds.RoundsAreRuns.{on_err}
use Rattle.wire_sim.proofs.rounds.RoundsHaveRoom.{emission-wants}
use Rattle.wire_sim.proofs.runs.RoomLasts.{keeps-on}
use Rattle.wire_sim.proofs.world.World.carry.Goals as goal

pub returns-in_err-emit_all-clause-begun : goal.returns-in_err-emit_all-clause-begun
returns-in_err-emit_all-clause-begun c =
    on_err c.from_residual.result _ (event.Emit c.args.from, c.in_err-emit_all.ensures.begun, emission-wants c.args.from c.args.self.now c.emit_all.new.self)

pub returns-clause-begun : goal.returns-clause-begun
returns-clause-begun c =
    let emitted = c.in_ok-emit_all.ensures.emitted in
    begun_bringing c.bring_all.result c.args.from _ _ emitted.0 _ _ _ c.args.self.now.room c.emit_all.new.self.room (rw c.frames-first.ensures emitted.2) (rw c.frames-first.ensures (c.frames-end.ensures ∙ emitted.1))
    (rw c.other.ensures at c.bring_all.ensures.begun) c.bring_all.ensures.full c.emit_all.ensures.room

pub returns-clause-room : goal.returns-clause-room
returns-clause-room c = keeps-on c.emit_all.ensures.room c.bring_all.ensures.room
