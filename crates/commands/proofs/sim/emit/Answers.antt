use Rattle.std.proofs.Common.{arith, ap, ◌∙◌, Ok}
use Rattle.commands.specs.Play.{begins}
use Rattle.wire_sim.proofs.RunGiven.{step-outcome}
use Rattle.commands.proofs.PlayLemmas.{emitted_more, emitted_same}
use Rattle.commands.proofs.RoomLemmas.{more_taken_up, none_taken_up, one_taken_up}
use Rattle.commands.proofs.sim.emit.Goals.{in-Ok-Frame, in-Err}
use Rattle.commands.proofs.sim.emit.Goals as goal

pub loop-init : goal.loop-init
loop-init c = record { few = omega arith; emitted = begins; room = none_taken_up _ }

pub loop-preserved : goal.loop-preserved
loop-preserved c =
    let step = c.step.ensures in
    let outcome = step-outcome _ c.step.result _ _ step.unfair step.refused step.taken in
    record {
      few = elim c.match-step.branch [ in-Ok-Frame w ↦ omega arith | in-Err w ↦ omega arith ];
      emitted = elim c.match-step.branch [
        | in-Ok-Frame w ↦ let h = w.in-Ok-Frame in
            rw w.count-is (emitted_more _ _ _ _ _ _ _ c.step.result _ _ _ c.match-step.array_long w.frames-is (omega arith) c.loop.invariant.emitted outcome
            (h.is ∙ ap Ok h.field-0-is))
        | in-Err w ↦ rw (w.count-is, w.frames-is) (emitted_same _ _ _ _ c.step.result _ _ _ c.loop.invariant.emitted outcome w.in-Err.is)
      ];
      room = more_taken_up c.loop.counter 1 _ _ _ _ (omega arith) c.loop.invariant.room (one_taken_up _ c.step.result _ _ step.unfair step.refused step.taken step.memory step.room);
    }

pub returns-in-Ok-clause-room : goal.returns-in-Ok-clause-room
returns-in-Ok-clause-room c =
    let step = c.step.ensures in
    more_taken_up c.loop.counter 1 _ _ _ _ (omega (arith, c.loop-test.true)) c.loop.invariant.room (one_taken_up _ c.step.result _ _ step.unfair step.refused step.taken step.memory step.room)
