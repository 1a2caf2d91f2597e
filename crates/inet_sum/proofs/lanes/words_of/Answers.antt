use Rattle.inet_sum.specs.Lanes.{total_of}
use Rattle.std.proofs.Common.{arith}
use Rattle.inet_sum.proofs.Parts.{next_stretch, part_summed}
use Rattle.inet_sum.proofs.lanes.words_of.Goals as goal

pub loop-i-preserved : goal.loop-i-preserved
loop-i-preserved c = record {
  totals = next_stretch (total_of c.loop-i.totals) (total_of c.with_stretch-totals.result) c.loop-i.i c.args.part.now c.loop-i-test.true c.loop-i.invariant.totals c.with_stretch-totals.ensures.totals;
  carries = omega (arith, c.loop-i.invariant.carries, c.with_stretch-totals.ensures.carries);
}

pub returns-clause-sum : goal.returns-clause-sum
returns-clause-sum c =
    part_summed c.args.part.now (total_of c.loop-i.totals) (total_of c.with_all-totals.result) c.loop-i.i c.sum.result c.rest_of-2.result c.type_inv.part c.loop-i-test.false
    c.loop-i.auto.i-end c.loop-i.invariant.totals c.with_all-totals.ensures.totals c.sum.ensures.sum c.rest_of-2.ensures.sum
