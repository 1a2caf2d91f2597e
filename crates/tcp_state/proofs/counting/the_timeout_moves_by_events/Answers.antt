use Rattle.tcp_state.proofs.Timeouts.{samples, begins_after_loss, expiries_double, others_keep}
use Rattle.tcp_state.proofs.counting.the_timeout_moves_by_events.Goals as goal

pub returns : goal.returns
returns c = record { sampled = samples; lost_syn = begins_after_loss; expired = expiries_double; others = others_keep }
