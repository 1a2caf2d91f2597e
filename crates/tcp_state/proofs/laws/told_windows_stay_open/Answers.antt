use Rattle.tcp_state.proofs.Overstated.{edge_stays, stays_open}
use Rattle.tcp_state.proofs.laws.told_windows_stay_open.Goals as goal

pub returns : goal.returns
returns c = record { stays = edge_stays; acceptable = stays_open }
