use Rattle.tcp_state.proofs.ProbesOfSilence.{goes, alone, pays_none}
use Rattle.tcp_state.proofs.silence.probes_of_a_silent_peer_go_out.Goals as goal

pub returns : goal.returns
returns c = record { goes = goes; alone = alone; pays_none = pays_none }
