use Rattle.tcp_state.proofs.Congestion.{opened_kept, accepted_kept, stays_kept, one_segment}
use Rattle.tcp_state.proofs.laws.the_congestion_window_is_kept.Goals as goal

pub returns : goal.returns
returns c = record { opened = opened_kept; accepted = accepted_kept; stays = stays_kept; least = one_segment }
