use Rattle.std.proofs.Common.{refl}
use Rattle.udp_socket.specs.SocketView.{new_socket}
use Rattle.udp_socket.proofs.Runs.{runs_out, whole_spelled, datagrams_given_up}
use Rattle.udp_socket.proofs.laws.goes_out_whole.Goals as goal

pub returns-clause-runs : goal.returns-clause-runs
returns-clause-runs c = λ source events from. runs_out source new_socket events refl refl from

pub returns-clause-spelled : goal.returns-clause-spelled
returns-clause-spelled c = whole_spelled

pub returns-clause-given_up : goal.returns-clause-given_up
returns-clause-given_up c = λ s lost now. datagrams_given_up lost now s.outbox s.parts
