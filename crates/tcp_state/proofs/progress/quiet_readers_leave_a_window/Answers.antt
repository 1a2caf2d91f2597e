use Rattle.tcp_state.proofs.LeftWindows.{active_leaves, passive_leaves, event_leaves, quiet_leaves}
use Rattle.tcp_state.proofs.progress.quiet_readers_leave_a_window.Goals as goal

pub returns : goal.returns
returns c = record { active = active_leaves; passive = passive_leaves; event = event_leaves; quiet = quiet_leaves }
