use Rattle.tcp_state.proofs.Undoing.{all_give_back, few_give_none, needed_give_none, counted_once, count_stays}
use Rattle.tcp_state.proofs.Repairs.{loss_counts_anew}
use Rattle.tcp_state.proofs.late.a_needless_recovery_is_undone.Goals as goal

pub returns : goal.returns
returns c = record { all = all_give_back; fewer = few_give_none; needed = needed_give_none; counted = counted_once; lost = loss_counts_anew; others = count_stays }
