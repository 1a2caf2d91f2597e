use Rattle.wire_sim.proofs.datagrams.TracesTell.{traces-tell}
use Rattle.wire_sim.proofs.laws.every_datagram_is_traced.Goals as goal

pub returns : goal.returns
returns c = traces-tell
