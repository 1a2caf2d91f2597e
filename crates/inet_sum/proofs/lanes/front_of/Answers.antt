use Rattle.std.proofs.Common.{◌≡◌, ◌+◌, ◌*◌, ◌++◌, length, rules, ◌∙◌, ap, arith}
use Rattle.inet_sum.specs.Lanes.{wide_sum}
use Rattle.inet_sum.proofs.Halves.{wide_sum-append}
use Rattle.inet_sum.proofs.lanes.front_of.Goals as goal

pub returns-clause-sum : goal.returns-clause-sum
returns-clause-sum c =
    let front = c.split_at.result.0.now in
    let rest = c.split_at.result.1.now in
    let size : length front ≡ 4 * c.args.words = search rules in
    let split : c.args.octets.now ≡ front ++ rest = search rules in
    let words : wide_sum c.args.octets.now ≡ wide_sum front + wide_sum rest = ap wide_sum split ∙ wide_sum-append c.args.words front rest size in
    omega (arith, words, c.word_by_word.ensures.sum)
