use Rattle.std.proofs.Common.{arith}
use Rattle.tcp_segment.proofs.Places.{with_one}
use Rattle.tcp_segment.proofs.blocks.Blocks.push.Goals as goal

pub invariant_of-self : goal.invariant_of-self
invariant_of-self c =
    with_one c.self.inside.items c.self.inside.len c.args.block (omega arith) c.self.invariant.1 c.self.invariant.2 c.self.invariant.3
    (record { left = omega arith; right = omega arith })
