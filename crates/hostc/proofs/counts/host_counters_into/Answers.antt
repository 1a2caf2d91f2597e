-- The numbers are those of the counters that the handle holds.
use Rattle.std.proofs.Common.{◌≡◌, ℤ, List, Option, Some, ◌∙◌, ap}
use Rattle.counters.specs.declared.counters.Counters.{Counters}
use Rattle.hostc.specs.declared.counted.Counted.{Counted}
use Rattle.hostc.specs.Counters.{counter_numbers}
use Rattle.hostc.specs.Info.{told_over}
use Rattle.hostc.specs.Types.{written}
use Rattle.hostc.proofs.counts.host_counters_into.Goals as goal

told_counts : (was : Option Counters) (old numbers new : List ℤ) (kept lent : Counters) → Some kept ≡ was → lent ≡ kept → numbers ≡ counter_numbers lent → new ≡ told_over old numbers
    → new ≡ written (λ c. told_over old (counter_numbers c)) was old
told_counts was old numbers new kept lent held borrowed told wrote =
    wrote
    ∙ ap (told_over old) told
    ∙ ap (λ c. told_over old (counter_numbers c)) borrowed
    ∙ ap (λ w. written (λ c. told_over old (counter_numbers c)) w old) held

pub returns-clause-numbers : goal.returns-clause-numbers
returns-clause-numbers c =
    told_counts c.args.handle.now.counters c.args.numbers.now c.counter_numbers.result c.write_over.new.numbers c.in-Some.kept.value.counters c.deref.result.now.counters
    c.in-Some.ensures.counted (ap (λ (k : Counted). k.counters) c.deref.ensures) c.counter_numbers.ensures c.write_over.ensures
