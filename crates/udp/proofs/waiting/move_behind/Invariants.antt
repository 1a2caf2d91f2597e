-- So many octets stand behind the others as the loop has passed.
use Rattle.std.proofs.Common.{◌≡◌}
use Rattle.circular_buffer.specs.Buffer.{buffer}
use Rattle.udp.proofs.Turning.{turned}
use Rattle.udp.proofs.waiting.move_behind.Given as goal

abbrev pub invariant-loop : goal.invariant-loop
invariant-loop l = l.octets ≡ buffer (turned l.counter l.initial.octets.items) l.initial.octets.capacity
