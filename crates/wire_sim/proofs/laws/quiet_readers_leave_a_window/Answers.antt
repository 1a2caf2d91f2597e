use Rattle.wire_sim.proofs.progress.QuietWindows.{quiet-leave}
use Rattle.wire_sim.proofs.laws.quiet_readers_leave_a_window.Goals as goal

pub returns : goal.returns
returns c = quiet-leave
