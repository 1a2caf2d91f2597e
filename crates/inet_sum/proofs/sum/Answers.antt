use Rattle.std.proofs.Common.{◌≡◌, ◌+◌, ◌*◌, ◌++◌, length, rules, ◌∙◌, ap}
use Rattle.inet_sum.specs.Sum.{ones_complement}
use Rattle.inet_sum.specs.Lanes.{wide_sum}
use Rattle.inet_sum.proofs.Halves.{wide_sum-append}
use Rattle.inet_sum.proofs.Exchanging.{wide_goes_on}
use Rattle.inet_sum.proofs.Words.{ones_complement-behind}
use Rattle.inet_sum.proofs.sum.Goals as goal

pub loop-rest-preserved : goal.loop-rest-preserved
loop-rest-preserved c =
    let part = c.split_at.result.0.now in
    let tail = c.split_at.result.1.now in
    let size : length part ≡ 4 * 32768 = search rules in
    let split : c.loop-rest.rest.now ≡ part ++ tail = search rules in
    let words : wide_sum c.loop-rest.rest.now ≡ wide_sum part + wide_sum tail = ap wide_sum split ∙ wide_sum-append 32768 part tail size in
    let next : c.from-total.result ≡ ones_complement (c.loop-rest.total + wide_sum part) =
    c.from-total.ensures ∙ (c.fold.ensures ∙ ones_complement-behind c.loop-rest.total c.words_of.result (wide_sum part) c.words_of.ensures.sum) in
    (wide_goes_on c.loop-rest.total c.from-total.result (wide_sum part) (wide_sum tail) _ _ next words c.loop-rest.invariant.0, search rules)

pub returns : goal.returns
returns c =
    let total = c.loop-rest.total in
    let rest = c.loop-rest.rest.now in
    c.in_network_order.ensures c.args.octets.now
    (c.fold-2.ensures ∙ ones_complement-behind total c.words_of-2.result (wide_sum rest) c.words_of-2.ensures.sum ∙ c.loop-rest.invariant.0)
