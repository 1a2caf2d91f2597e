use Rattle.tcp_state.proofs.Placing.{each_known, none_at_next, first_taken, refused_changes}
use Rattle.tcp_state.proofs.Gains.{gains_alone, gains_where_read, keeps_alone, keeps_where_read}
use Rattle.tcp_state.proofs.laws.octets_in_the_window_are_taken.Goals as goal

pub returns : goal.returns
returns c = record {
  each = each_known;
  gap = none_at_next;
  first = first_taken;
  refused = refused_changes;
  alone = gains_alone;
  all = gains_where_read;
  kept_alone = keeps_alone;
  kept_all = keeps_where_read;
}
