use Rattle.host.specs.HostView.{new_host}
use Rattle.host.specs.ConfigView.{ConfigView}
use Rattle.sockets.proofs.Leaving.{fresh_leaves}
use Rattle.host.proofs.Sized.{segments_fit}
use Rattle.host.proofs.Tables.{event-leaves, run-leaves}
use Rattle.host.proofs.laws.quiet_readers_leave_a_window.Goals as goal

pub returns : goal.returns
returns c = record { fresh = λ (c : ConfigView). let h = new_host c in fresh_leaves c.addr c.manner h.sockets.sizes; heard = segments_fit; event = event-leaves; over = run-leaves }
