use Rattle.std.proofs.Common.{◌≡◌, ◌+◌, refl, ◌∙◌, arith}
use Rattle.std.specs.Int.{from_bool}
use Rattle.inet_sum.specs.Lanes.{total_of}
use Rattle.inet_sum.proofs.Parts.{before_blocks, next_block, all_blocks}
use Rattle.inet_sum.proofs.lanes.Totals.with_all.Goals as goal

pub loop-i-init : goal.loop-i-init
loop-i-init c = record {
  totals = λ count before are.
      let same : total_of c.args.self + 0 ≡ total_of c.args.self = omega arith in
      rw same (before_blocks (total_of c.args.self) count before c.args.blocks.now are);
  carries = refl;
}

pub loop-i-preserved : goal.loop-i-preserved
loop-i-preserved c = record {
  totals = λ count before are.
      next_block (total_of c.loop-i.totals + from_bool c.loop-i.carry) (total_of c.with.result.0 + from_bool c.with.result.1) c.loop-i.i count before c.args.blocks.now
      (c.loop-i.invariant.totals count before are) c.with.ensures.totals;
  carries = c.with.ensures.carries ∙ c.loop-i.invariant.carries;
}

pub returns-clause-totals : goal.returns-clause-totals
returns-clause-totals c = λ count before are.
    let same : c.loop-i.totals.other + c.loop-i.totals.next + (c.loop-i.totals.carries + c.from.result) ≡ total_of c.loop-i.totals + from_bool c.loop-i.carry = omega (arith, c.from.ensures) in
    rw same
    (all_blocks (total_of c.loop-i.totals + from_bool c.loop-i.carry) c.loop-i.i count before c.args.blocks.now c.requires.whole c.loop-i-test.false c.loop-i.auto.i-end
    (c.loop-i.invariant.totals count before are))
