use Rattle.tcp_state.proofs.Clocks.{probe_begins, probe_on}
use Rattle.tcp_state.proofs.Expiries.{probes_again, probes_alone}
use Rattle.tcp_state.proofs.laws.probes_wait_twice_as_long.Goals as goal

pub returns : goal.returns
returns c = record { first = probe_begins; next = probes_again; alone = probes_alone; runs_on = probe_on }
