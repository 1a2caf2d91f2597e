-- None of the entries that the loop has passed has something to send.
use Rattle.std.proofs.Common.{◌≡◌, ◌-◌, ◌≤◌, false, length}
use Rattle.std.specs.List.{AllWithin}
use Rattle.sockets.specs.declared.entry.Entry.{Entry}
use Rattle.sockets.specs.Outlook.{has_due}
use Rattle.sockets.proofs.sockets.Sockets.next_due_among.Given as goal

abbrev pub invariant-loop-place : goal.invariant-loop-place
invariant-loop-place l = (l.fn.from ≤ l.from) × AllWithin (λ (e : Entry). has_due e ≡ false) l.entries l.fn.from l.from

abbrev pub decreases-loop-place : goal.decreases-loop-place
decreases-loop-place l = length l.entries - l.from
