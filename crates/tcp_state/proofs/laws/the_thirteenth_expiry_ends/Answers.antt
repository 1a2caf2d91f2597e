use Rattle.tcp_state.proofs.Clocks.{counted, acknowledged, answered, answered_by_peer}
use Rattle.tcp_state.proofs.Expiries.{ends_at_thirteenth, thirteenth_ends, each_counts}
use Rattle.tcp_state.proofs.laws.the_thirteenth_expiry_ends.Goals as goal

pub returns : goal.returns
returns c = record { ends = ends_at_thirteenth; thirteenth = thirteenth_ends; each = each_counts; counted = counted; progress = acknowledged; answered = answered; peer = answered_by_peer }
