use Rattle.std.proofs.Common.{◌+◌, length-append, refl, sym, ◌∙◌, ap, arith}
use Rattle.std.proofs.lemmas.Simd.{below_from_Fits}
use Rattle.std.specs.Int.{w8}
use Rattle.inet_sum.specs.Sum.{ones_complement}
use Rattle.inet_sum.specs.Lanes.{words_sum}
use Rattle.inet_sum.proofs.Carries.{four_carried}
use Rattle.inet_sum.proofs.Halves.{four_words, words_sum-append}
use Rattle.inet_sum.proofs.lanes.Totals.with.Goals as goal

pub returns-clause-totals : goal.returns-clause-totals
returns-clause-totals c = λ count before totals.
    let octets = c.args.octets in
    let four = four_words octets _ refl (below_from_Fits w8 octets c.fits-octets.1) c.fits-octets.0 in
    let words = words_sum-append count 4 (count + 4) before octets refl totals.whole in
    record {
      whole = omega (arith, totals.whole, length-append before octets, c.fits-octets.0);
      sum = four_carried _ _ _ _ _ _ _ _ _ _ _ _ _ _ _ _ (words_sum count before) (words_sum 4 octets) c.add-first.ensures c.add-second.ensures c.add-third.ensures c.add-next.ensures four
          totals.sum ∙ sym (ap ones_complement words);
    }
