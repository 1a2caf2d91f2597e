use Rattle.tcp_state.proofs.Repairs.{resent_unreported, expiry_forgets}
use Rattle.tcp_state.proofs.repair.what_is_reported_is_not_sent_again.Goals as goal

pub returns : goal.returns
returns c = record { resent = resent_unreported; expiry = expiry_forgets }
