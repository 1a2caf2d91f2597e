use Rattle.tcp_state.proofs.TailEnds.{tail_goes_out, unasked_rests, once_alone, waits_for}
use Rattle.tcp_state.proofs.probing.a_silent_tail_goes_out_again.Goals as goal

pub returns : goal.returns
returns c = record { goes = tail_goes_out; unasked = unasked_rests; once = once_alone; wait = waits_for }
