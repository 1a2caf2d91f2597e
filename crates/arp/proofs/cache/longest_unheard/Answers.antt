use Rattle.std.proofs.Common.{◌≡◌, length, arith, subst, ℕ}
use Rattle.arp.proofs.Unheard.{IsFirstUnheard, is_longest_unheard_place}
use Rattle.arp.proofs.cache.longest_unheard.Goals as goal

pub returns-clause-place : goal.returns-clause-place
returns-clause-place c =
    let all : c.loop-place.place ≡ length c.args.pairs.now = omega arith in
    let P : ℕ → Type 0 = λ count. IsFirstUnheard c.args.pairs.now count c.loop-place.longest in
    is_longest_unheard_place c.args.pairs.now c.loop-place.longest (subst P all c.loop-place.invariant)
