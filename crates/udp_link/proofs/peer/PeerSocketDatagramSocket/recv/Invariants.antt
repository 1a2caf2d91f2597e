use Rattle.std.proofs.Common.{◌≡◌, ◌-◌, ◌≤◌}
use Rattle.udp_link.specs.Machine.{PassesOver}
use Rattle.udp_link.proofs.peer.PeerSocketDatagramSocket.recv.Given as goal

abbrev pub invariant-loop-strangers : goal.invariant-loop-strangers
invariant-loop-strangers g l = record {
  few : l.strangers ≤ 64;
  failures : l.self.failures ≡ l.fn.self.failures;
  passed_over : PassesOver (g.S.MachineSocket.ends l.fn.self.socket) l.strangers (g.S.MachineSocket.ends l.self.socket);
}

abbrev pub decreases-loop-strangers : goal.decreases-loop-strangers
decreases-loop-strangers g l = 64 - l.strangers
