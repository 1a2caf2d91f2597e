use Rattle.std.proofs.Common.{◌≡◌, take}
use Rattle.reassembly.specs.Inside.{pool_seen}
use Rattle.reassembly.specs.Places.{next_deadline}
use Rattle.reassembly.proofs.pool.Pool.next_deadline.Given as goal

abbrev pub invariant-loop-place : goal.invariant-loop-place
invariant-loop-place l = l.next ≡ next_deadline (pool_seen 0 (take l.place-index l.place-items))
