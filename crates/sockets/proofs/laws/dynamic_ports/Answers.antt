use Rattle.sockets.proofs.FirstPorts.{first_behind, none_dynamic}
use Rattle.sockets.proofs.laws.dynamic_ports.Goals as goal

pub returns : goal.returns
returns c = record { given = first_behind; none = none_dynamic }
