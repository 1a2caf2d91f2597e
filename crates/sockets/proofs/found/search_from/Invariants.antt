-- What the search has passed is not what is looked for.
use Rattle.std.specs.List.{AllWithin}
use Rattle.sockets.proofs.Sought.{IsPassed}
use Rattle.sockets.proofs.found.search_from.Given as goal

abbrev pub invariant-loop-at : goal.invariant-loop-at
invariant-loop-at l = AllWithin (IsPassed l.entries l.what) l.index 0 l.at
