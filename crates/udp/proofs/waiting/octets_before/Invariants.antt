-- The octets of as many datagrams as the loop has passed.
use Rattle.std.proofs.Common.{◌≡◌, take}
use Rattle.udp.proofs.Storing.{lens_of}
use Rattle.udp.proofs.waiting.octets_before.Given as goal

abbrev pub invariant-loop-index : goal.invariant-loop-index
invariant-loop-index l = l.octets ≡ lens_of (take l.index l.entries.items)
