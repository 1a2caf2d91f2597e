use Rattle.std.proofs.Common.{Err, refl, sym, ◌∙◌, ap, subst, OnErr}
use Rattle.wire_sim.specs.WorldRoom.{HasRoom}
use Rattle.wire_sim.proofs.RunGiven.{step-outcome}
use Rattle.wire_sim.proofs.rounds.FramesInTurn.{full_where_refused}
use Rattle.wire_sim.proofs.rounds.RoundsAreRuns.{on_err}
use Rattle.wire_sim.proofs.world.World.bring.Goals as goal
use Rattle.wire_sim.proofs.world.World.bring.Goals.{in-Err-NoMemory, in_default, in_default-2}

pub returns-clause-full : goal.returns-clause-full
returns-clause-full c =
    elim c.match-step.branch [
      | in-Err-NoMemory w ↦
          on_err c.match-step.result _ (full_where_refused c.args.to c.args.index c.step.result c.args.self.now.seen c.step.new.self.seen (HasRoom c.args.self.now) (w.in-Err-NoMemory.is ∙ ap Err w.in-Err-NoMemory.field-0-is)
          (step-outcome _ c.step.result c.args.self.now.seen c.step.new.self.seen c.step.ensures.unfair c.step.ensures.refused c.step.ensures.taken)
          (λ fair room. c.step.ensures.memory fair room (record { unread = refl; unsent = refl })))
      | in_default w ↦ subst (λ r. OnErr r (HasRoom c.args.self.now → ⊥)) (sym w.result-is) tt
      | in_default-2 w ↦ subst (λ r. OnErr r (HasRoom c.args.self.now → ⊥)) (sym w.result-is) tt
    ]
