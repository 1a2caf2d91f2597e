-- The pairs that the loop has passed took the sender's MAC where they have its address.
use Rattle.std.proofs.Common.{◌≡◌}
use Rattle.arp.specs.Cache.{after_sender}
use Rattle.arp.proofs.Fronts.{front_changed}
use Rattle.arp.proofs.cache.update.Given as goal

abbrev pub invariant-loop-pair : goal.invariant-loop-pair
invariant-loop-pair l = l.pairs ≡ front_changed (after_sender l.sender) l.pair-index l.initial.pairs
