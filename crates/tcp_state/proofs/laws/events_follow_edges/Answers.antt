use Rattle.tcp_state.proofs.Edges.{edges_hold}
use Rattle.tcp_state.proofs.laws.events_follow_edges.Goals as goal

pub returns : goal.returns
returns c = edges_hold
