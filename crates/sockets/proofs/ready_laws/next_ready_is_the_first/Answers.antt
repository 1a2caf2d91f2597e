use Rattle.sockets.proofs.FirstReady.{ready_told, between_told, none_told}
use Rattle.sockets.proofs.ready_laws.next_ready_is_the_first.Goals as goal

pub returns : goal.returns
returns c = record { ready = ready_told; between = between_told; none = none_told }
