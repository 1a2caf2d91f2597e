use Rattle.std.proofs.Common.{refl}
use Rattle.tcp_state.proofs.GoingOut.{small_goes_out}
use Rattle.tcp_state.proofs.NoDelay.{only_told, override_put_right}
use Rattle.tcp_state.proofs.laws.no_delay_sends_at_once.Goals as goal

pub returns : goal.returns
returns c = record {
  sends = small_goes_out;
  opened = λ room local peer isn now. refl;
  accepted = λ room local peer isn syn now. refl;
  told = λ v on now. refl;
  alone = only_told;
  streams = λ v on now. (refl, refl, refl);
  timer = override_put_right;
}
