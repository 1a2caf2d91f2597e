use Rattle.std.proofs.Common.{refl}
use Rattle.tcp_state.proofs.Spoken.{speaking, alone, waits_to_speak}
use Rattle.tcp_state.proofs.laws.no_window_is_told_before_speaking.Goals as goal

pub returns : goal.returns
returns c = record { silent = λ size local peer isn syn now. (refl, refl); speaks = speaking; alone = alone; waits = waits_to_speak }
