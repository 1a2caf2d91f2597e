use Rattle.copy_command.proofs.copying.copy_captured.Goals as goal

pub returns-clause-copies : goal.returns-clause-copies
returns-clause-copies g c = rw c.finish-capture.ensures.kept.0 c.copy-copy.ensures.copies
