use Rattle.std.proofs.Common.{◌<◌, ◌∙◌}
use Rattle.std.proofs.lemmas.Simd.{Each1-from_get_or}
use Rattle.inet_sum.proofs.Carries.{two_joined, words_are_wide}
use Rattle.inet_sum.proofs.lanes.Totals.sum.Goals as goal

pub returns-clause-sum : goal.returns-clause-sum
returns-clause-sum c = λ count octets totals fit.
    rw c.from.ensures
    (two_joined _ _ _ c.args.self.carries _ c.add-sum.ensures ∙ totals.sum
    ∙ words_are_wide count octets (Each1-from_get_or (λ octet. octet < 256) octets 0 (λ i below. fit i 0 below)) totals.whole)
