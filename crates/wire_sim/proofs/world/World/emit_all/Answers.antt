use Rattle.wire_sim.proofs.rounds.FramesInTurn.{sent_none, begun_emitting, emitted_until, emitted_more}
use Rattle.wire_sim.proofs.rounds.RoundsAreRuns.{on_err}
use Rattle.wire_sim.proofs.runs.RoomLasts.{keeps-all, keeps-on}
use Rattle.wire_sim.proofs.world.World.emit_all.Goals as goal

pub loop-init : goal.loop-init
loop-init c = record { sent = sent_none c.args.side c.args.self.now.seen; room = keeps-all c.args.self.now.room }

pub returns-in_err-step-clause-begun : goal.returns-in_err-step-clause-begun
returns-in_err-step-clause-begun c = on_err c.from_residual.result _ (begun_emitting c.args.side c.loop.counter _ _ _ c.loop-test.true c.loop.invariant.sent c.in_err-step.ensures.refused)

pub returns-in_err-step-clause-room : goal.returns-in_err-step-clause-room
returns-in_err-step-clause-room c = keeps-on c.loop.invariant.room c.step.ensures.room

pub returns-in-NoFrame-clause-emitted : goal.returns-in-NoFrame-clause-emitted
returns-in-NoFrame-clause-emitted c = emitted_until c.args.side c.loop.counter _ _ _ _ c.loop-test.true c.loop.invariant.sent c.in-NoFrame.is c.in_ok-step.ensures.taken

pub returns-in-NoFrame-clause-room : goal.returns-in-NoFrame-clause-room
returns-in-NoFrame-clause-room c = keeps-on c.loop.invariant.room c.step.ensures.room

pub loop-preserved : goal.loop-preserved
loop-preserved c = record {
  sent = emitted_more c.args.side c.loop.counter _ _ _ _ c.loop.invariant.sent c.in_default.not-NoFrame c.in_ok-step.ensures.taken;
  room = keeps-on c.loop.invariant.room c.step.ensures.room;
}
