use Rattle.tcp_state.proofs.Released.{released_takes_none}
use Rattle.tcp_state.proofs.laws.released_takes_no_octets.Goals as goal

pub returns : goal.returns
returns c = released_takes_none
