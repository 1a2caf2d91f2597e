use Rattle.std.proofs.Common.{◌≡◌, true, rules, ◌∙◌}
use Rattle.inet_sum.specs.Sum.{sum_behind}
use Rattle.inet_sum.proofs.Exchanging.{in_order}
use Rattle.inet_sum.proofs.in_network_order.Goals as goal

pub returns : goal.returns
returns c = λ octets is.
    let exchanged : c.swap_bytes.result ≡ sum_behind true c.args.sum = search rules in
    exchanged ∙ in_order octets c.args.sum is
