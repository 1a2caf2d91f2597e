use Rattle.copy_command.proofs.ProgressLemmas.{front_taken}
use Rattle.copy_command.proofs.progress.Progress.end.Goals as goal

pub returns-clause-front : goal.returns-clause-front
returns-clause-front g c = front_taken c.say_last.result _ _ _ c.say_last.ensures.ok c.say_last.ensures.front
