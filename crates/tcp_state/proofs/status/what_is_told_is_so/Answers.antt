use Rattle.std.proofs.Common.{refl}
use Rattle.tcp_state.proofs.ToldOfIt.{error_told, window_told}
use Rattle.tcp_state.proofs.status.what_is_told_is_so.Goals as goal

pub returns : goal.returns
returns c = record { error = error_told; in_flight = λ v. refl; window = window_told }
