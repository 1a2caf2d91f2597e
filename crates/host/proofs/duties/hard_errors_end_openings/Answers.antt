use Rattle.host.proofs.Owed.{opening-refused, opening-told, others-nothing}
use Rattle.host.proofs.duties.hard_errors_end_openings.Goals as goal

pub returns : goal.returns
returns c = record { refused = opening-refused; told = opening-told; others = others-nothing }
