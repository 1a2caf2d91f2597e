use Rattle.tcp_state.proofs.ResetAges.{resets_begin, resets_stay}
use Rattle.tcp_state.proofs.laws.resets_wait_from_their_event.Goals as goal

pub returns : goal.returns
returns c = record { begins = resets_begin; stays = resets_stay }
