use Rattle.tcp_state.proofs.Resets.{acts_at_nxt, acts_at_rnext, next_acts, elsewhere_changes}
use Rattle.tcp_state.proofs.laws.resets_act_at_the_next_number.Goals as goal

pub returns : goal.returns
returns c = record { opening = acts_at_nxt; later = acts_at_rnext; acts = next_acts; others = elsewhere_changes }
