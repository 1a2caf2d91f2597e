use Rattle.sockets.proofs.Strays.{reset_ignored, acknowledgement_answered, stray_answered, rest_dropped, syn_opens, syn_unplaced}
use Rattle.sockets.proofs.duties.strays_are_answered.Goals as goal

pub returns : goal.returns
returns c = record { reset = reset_ignored; acknowledgement = acknowledgement_answered; stray = stray_answered; dropped = rest_dropped; opens = syn_opens; no_place = syn_unplaced }
