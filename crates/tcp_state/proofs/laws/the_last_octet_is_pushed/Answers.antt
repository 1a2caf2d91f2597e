use Rattle.tcp_state.proofs.Pushing.{last_pushed, none_pushed}
use Rattle.tcp_state.proofs.laws.the_last_octet_is_pushed.Goals as goal

pub returns : goal.returns
returns c = record { last = last_pushed; none = none_pushed }
