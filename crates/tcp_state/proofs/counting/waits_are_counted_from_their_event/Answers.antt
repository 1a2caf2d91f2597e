use Rattle.tcp_state.proofs.Waits.{begins_with_event, begins_anew, stays_in_time_wait, closed_in_fin_wait_2, stays_in_fin_wait_2, time_wait_ends, fin_wait_2_ends, fin_wait_2_goes_on, ends_in_silence, left_is_removed}
use Rattle.tcp_state.proofs.counting.waits_are_counted_from_their_event.Goals as goal

pub returns : goal.returns
returns c = record {
  begins = begins_with_event;
  begins_anew = begins_anew;
  stays = stays_in_time_wait;
  closed = closed_in_fin_wait_2;
  open_yet = stays_in_fin_wait_2;
  ends = time_wait_ends;
  left_ends = fin_wait_2_ends;
  goes_on = fin_wait_2_goes_on;
  in_silence = ends_in_silence;
  taken_out = left_is_removed;
}
