-- As many rooms were made as rounds are over, and there is room for all.
use Rattle.std.proofs.Common.{◌≡◌, ◌≤◌}
use Rattle.std.specs.Vec.{vec_len, vec_capacity}
use Rattle.interface.proofs.queue.Queue.new.Given as goal

abbrev pub invariant-loop : goal.invariant-loop
invariant-loop l = (vec_len l.spare ≡ l.counter) × (l.most ≤ vec_capacity l.spare)
