use Rattle.tcp_state.proofs.Again.{ends_sent, nothing_new, keeps_within, mark_moves_on}
use Rattle.tcp_state.proofs.laws.what_goes_out_again_went_out_before.Goals as goal

pub returns : goal.returns
returns c = record { ends = ends_sent; stays = nothing_new; within = keeps_within; moves_on = mark_moves_on }
