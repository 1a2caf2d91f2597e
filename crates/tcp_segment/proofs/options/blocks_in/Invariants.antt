use Rattle.std.proofs.Common.{◌≡◌}
use Rattle.tcp_segment.specs.Options.{blocks_at}
use Rattle.tcp_segment.proofs.options.blocks_in.Given as goal

-- so many blocks are read
abbrev pub invariant-loop-i : goal.invariant-loop-i
invariant-loop-i l = l.blocks ≡ blocks_at l.i l.body
