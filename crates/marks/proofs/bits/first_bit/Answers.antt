use Rattle.std.proofs.Common.{arith}
use Rattle.marks.proofs.OneWord.{no_bit_behind, lowest_behind}
use Rattle.marks.proofs.bits.first_bit.Goals as goal

pub returns-then-ahead-eq0 : goal.returns-then-ahead-eq0
returns-then-ahead-eq0 c = λ k behind. no_bit_behind c.args.word c.args.from k c.if-ahead-eq0.true behind

pub returns-else-ahead-eq0 : goal.returns-else-ahead-eq0
returns-else-ahead-eq0 c = lowest_behind c.args.word c.args.from (omega (arith, c.ranges.word)) c.if-ahead-eq0.false
