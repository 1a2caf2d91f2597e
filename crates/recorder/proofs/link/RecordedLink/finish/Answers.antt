use Rattle.recorder.specs.Going.{goes_keeping}
use Rattle.recorder.proofs.link.RecordedLink.finish.Goals as goal

pub returns-in-Ok-clause-leads : goal.returns-in-Ok-clause-leads
returns-in-Ok-clause-leads g c = goes_keeping _ _ _ _ c.flush.ensures.taken

pub returns-in-Err-clause-leads : goal.returns-in-Err-clause-leads
returns-in-Err-clause-leads g c = goes_keeping _ _ _ _ c.flush.ensures.taken
