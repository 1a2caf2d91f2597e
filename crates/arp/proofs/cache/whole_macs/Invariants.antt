-- The pairs that the loop has passed have whole MACs.
use Rattle.std.specs.Prelude.{◌≡◌, length}
use Rattle.std.specs.List.{AllWithin}
use Rattle.arp.specs.declared.entry.Neighbour.{Neighbour}
use Rattle.arp.proofs.cache.whole_macs.Given as goal

abbrev pub invariant-loop-pair : goal.invariant-loop-pair
invariant-loop-pair l = AllWithin (λ (pair : Neighbour). length pair.mac.0 ≡ 6) l.pairs 0 l.pair-index
