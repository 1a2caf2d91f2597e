use Rattle.std.proofs.Common.{◌≡◌, None, replicate}
use Rattle.reassembly.proofs.pool.free_places.Given as goal

abbrev pub invariant-loop : goal.invariant-loop
invariant-loop l = l.free.items ≡ replicate l.counter (record { room = l.room; datagram = None })
