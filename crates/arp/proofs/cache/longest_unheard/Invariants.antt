-- Of the pairs that the loop has passed, the first that was heard the longest time ago.
use Rattle.arp.proofs.Unheard.{IsFirstUnheard}
use Rattle.arp.proofs.cache.longest_unheard.Given as goal

abbrev pub invariant-loop-place : goal.invariant-loop-place
invariant-loop-place l = IsFirstUnheard l.pairs l.place l.longest
