use Rattle.tcp_state.proofs.TenDrawn.{few_in_a_second, held_counts_none, drawn_later}
use Rattle.tcp_state.proofs.guards.ten_are_answered_in_a_second.Goals as goal

pub returns : goal.returns
returns c = record { few = few_in_a_second; held = held_counts_none; later = drawn_later }
