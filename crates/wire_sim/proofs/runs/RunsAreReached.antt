-- A list of events that is given to a world that was reached leads to one that was, at every moment.
use Rattle.std.proofs.Common.{ℕ, zero, suc, [], ◌∷◌, Result, Ok, Err, refl, sym, subst}
use Rattle.wire_sim.specs.declared.event.Event.{Event}
use Rattle.wire_sim.specs.declared.event.Answer.{Answer}
use Rattle.wire_sim.specs.declared.event.Unfair.{Unfair}
use Rattle.wire_sim.specs.Runs.{IsReached, goes_on, IsOutcome, EveryRunIsReached, EveryMomentIsLawful}
use Rattle.wire_sim.specs.WorldView.{WorldView}
use Rattle.wire_sim.proofs.runs.RunsAreLawful.{run_lawful}

-- one event
outcome-reached : (limit : ℕ) (e : Event) (r : Result Answer Unfair) (old new : WorldView) → IsReached limit old → IsOutcome e r old new → IsReached limit new
outcome-reached limit e (Ok told) old new reached o = goes_on old new e o.0 reached o.2
outcome-reached limit e (Err refusal) old new reached o = subst (IsReached limit) (sym o.0) reached

-- all of them
pub runs-reached : EveryRunIsReached
runs-reached limit [] [] old new reached run = subst (IsReached limit) (sym run) reached
runs-reached limit [] (o ∷ os) old new reached run = absurd run
runs-reached limit (e ∷ es) [] old new reached run = absurd run
runs-reached limit (e ∷ es) (o ∷ os) old new reached run = runs-reached limit es os run.1 new (outcome-reached limit run.0 o old run.1 reached run.3) run.4

-- the first so many of them
pub moments-lawful : EveryMomentIsLawful
moments-lawful limit es os old new reached run zero = (old, refl, run, reached, run_lawful limit old reached)
moments-lawful limit [] [] old new reached run (suc count) =
    let there : IsReached limit new = runs-reached limit [] [] old new reached run in
    (new, run, refl, there, run_lawful limit new there)
moments-lawful limit [] (o ∷ os) old new reached run (suc count) = absurd run
moments-lawful limit (e ∷ es) [] old new reached run (suc count) = absurd run
moments-lawful limit (e ∷ es) (o ∷ os) old new reached run (suc count) =
    let rest = moments-lawful limit es os run.1 new (outcome-reached limit run.0 o old run.1 reached run.3) run.4 count in
    (rest.0, (run.0, run.1, run.2, run.3, rest.1), rest.2, rest.3, rest.4)
