use Rattle.std.proofs.Common.{◌≤◌, ◌^◌, arith}
use lib.Pow.{pow_mono}
use Rattle.tcp_halves.proofs.sender.peer_unit.Goals as goal

pub returns-then-scales-clause-bound : goal.returns-then-scales-clause-bound
returns-then-scales-clause-bound c =
    let few : 2 ^ c.args.shift ≤ 2 ^ 14 = pow_mono c.requires in
    omega (arith, few)
