use Rattle.tcp_state.proofs.Losses.{third_resends, others_resend_none, resends_alone}
use Rattle.tcp_state.proofs.laws.the_third_duplicate_resends.Goals as goal

pub returns : goal.returns
returns c = record { third = third_resends; others = others_resend_none; alone = resends_alone }
