use Rattle.tcp_state.proofs.Unguarded.{guards_leave}
use Rattle.tcp_state.proofs.guards.all_else_is_as_without_guards.Goals as goal

pub returns : goal.returns
returns c v s now young loud = guards_leave v s young now loud
