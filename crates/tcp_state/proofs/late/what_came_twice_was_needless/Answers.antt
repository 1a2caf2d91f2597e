use Rattle.tcp_state.proofs.Undoing.{twice_needless, report_needed, older_needed, unasked_needed, probed_needed}
use Rattle.tcp_state.proofs.late.what_came_twice_was_needless.Goals as goal

pub returns : goal.returns
returns c = record { twice = twice_needless; kept = report_needed; older = older_needed; unasked = unasked_needed; probed = probed_needed }
