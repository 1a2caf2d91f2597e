use Rattle.host.proofs.Moving.{segment-met, message-met, others-met}
use Rattle.host.proofs.laws.segments_meet_one_connection.Goals as goal

pub returns : goal.returns
returns c = record { segment = segment-met; message = message-met; others = others-met }
