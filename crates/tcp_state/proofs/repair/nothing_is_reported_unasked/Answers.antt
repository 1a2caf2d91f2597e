use Rattle.std.proofs.Common.{refl}
use Rattle.tcp_state.proofs.Repairs.{unasked_none, none_lost}
use Rattle.tcp_state.proofs.repair.nothing_is_reported_unasked.Goals as goal

pub returns : goal.returns
returns c = record { opened = λ room local peer isn now. refl; accepted = λ room local peer isn syn now. refl; stays = unasked_none; losses = none_lost }
