use Rattle.std.proofs.Common.{arith}
use Rattle.marks.proofs.OneWord.{left_before, left_behind, left_last}
use Rattle.marks.proofs.bits.without_bit.Goals as goal

pub returns-clause-before : goal.returns-clause-before
returns-clause-before c = left_before c.args.word c.args.at c.args.next c.requires

pub returns-clause-behind : goal.returns-clause-behind
returns-clause-behind c = left_behind c.args.word c.args.at c.args.next c.requires

pub returns-clause-last : goal.returns-clause-last
returns-clause-last c = left_last c.args.word c.args.at c.args.next c.requires (omega (arith, c.ranges.word))
