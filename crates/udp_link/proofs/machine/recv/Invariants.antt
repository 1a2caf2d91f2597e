use Rattle.std.proofs.Common.{◌-◌, ◌≤◌, replicate, Some}
use Rattle.std.specs.declared.io.ErrorKind.TheVariants.{Interrupted}
use Rattle.devices.specs.declared.calls.TheConstants.{MOST_AGAIN}
use Rattle.devices.specs.Calls.{Ends}
use Rattle.udp_link.proofs.machine.recv.Given as goal

abbrev pub invariant-loop-again : goal.invariant-loop-again
invariant-loop-again g l = record {
  few : l.again ≤ MOST_AGAIN;
  ends : Ends (g.S.MachineSocket.ends l.initial.socket) (g.S.MachineSocket.ends l.socket) (replicate l.again (Some Interrupted));
}

abbrev pub decreases-loop-again : goal.decreases-loop-again
decreases-loop-again g l = MOST_AGAIN - l.again
