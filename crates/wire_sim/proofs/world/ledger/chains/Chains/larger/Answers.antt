-- There is room for each number, since there was in the old chains.
use Rattle.std.proofs.Common.{ℕ, length, ap, arith}
use Rattle.std.proofs.lemmas.List.{length-take}
use Rattle.wire_sim.proofs.world.ledger.chains.Chains.larger.Goals as goal

pub push-requires : goal.push-requires
push-requires c =
    let filed = ap length c.loop-number.invariant.numbers in
    omega (arith, filed, length-take {A = ℕ}, c.args.self.now.numbers.ok, c.loop-number.invariant.room)
