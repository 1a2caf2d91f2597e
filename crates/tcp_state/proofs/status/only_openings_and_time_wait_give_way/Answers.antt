use Rattle.tcp_state.proofs.ToldOfIt.{half_open, left_so, lies_so}
use Rattle.tcp_state.proofs.status.only_openings_and_time_wait_give_way.Goals as goal

pub returns : goal.returns
returns c = record { unanswered = half_open; left = left_so; past = lies_so }
