use Rattle.tcp_state.proofs.TooLate.{too_late_aborts, others_owe_none}
use Rattle.tcp_state.proofs.duties.octets_after_close_abort.Goals as goal

pub returns : goal.returns
returns c = record { aborts = too_late_aborts; alone = others_owe_none }
