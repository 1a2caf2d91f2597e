use Rattle.std.proofs.Common.{arith, refl}
use Rattle.udp_link.specs.Machine.{Begins}
use Rattle.udp_link.proofs.peer.PeerSocketDatagramSocket.recv.Goals as goal

pub loop-strangers-init : goal.loop-strangers-init
loop-strangers-init g c = record { few = omega arith; failures = refl; passed_over = Begins }
