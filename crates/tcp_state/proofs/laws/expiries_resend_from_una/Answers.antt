use Rattle.tcp_state.proofs.Expiries.{sent_again, backs_off}
use Rattle.tcp_state.proofs.laws.expiries_resend_from_una.Goals as goal

pub returns : goal.returns
returns c = record { resends = sent_again; backs_off = backs_off }
