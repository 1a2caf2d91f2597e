-- The entries that the loop has passed are sound.
use Rattle.std.specs.List.{AllWithin}
use Rattle.sockets.specs.declared.entry.Entry.{Entry}
use Rattle.sockets.specs.Sound.{IsSoundRole}
use Rattle.sockets.proofs.table.sound.Given as goal

abbrev pub invariant-loop-entry : goal.invariant-loop-entry
invariant-loop-entry l = AllWithin (λ (e : Entry). IsSoundRole e.role) l.entries 0 l.entry-index
