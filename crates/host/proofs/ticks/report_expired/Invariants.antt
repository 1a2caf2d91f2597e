-- Those that the loop has passed are reported.
use Rattle.std.proofs.Common.{◌≡◌, take}
use Rattle.host.specs.Ticks.{all_reported}
use Rattle.host.proofs.ticks.report_expired.Given as goal

abbrev pub invariant-loop-datagram : goal.invariant-loop-datagram
invariant-loop-datagram l = l.interface ≡ all_reported l.now l.initial.interface (take l.datagram-index l.datagrams)
