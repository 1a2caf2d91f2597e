use Rattle.host.specs.HostView.{new_host}
use Rattle.host.specs.ConfigView.{ConfigView}
use Rattle.sockets.proofs.Near.{fresh_near}
use Rattle.host.proofs.Tables.{event-near, run-near, run-deadline, run-deadline-asking}
use Rattle.host.proofs.laws.timers_lie_near.Goals as goal

pub returns : goal.returns
returns c = record { fresh = λ (c : ConfigView) latest. let h = new_host c in fresh_near c.addr c.manner h.sockets.sizes latest; event = event-near; over = run-near; deadline = run-deadline; asking = run-deadline-asking }
