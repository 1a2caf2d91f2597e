-- The first that waits is the first of those that are left.
use Rattle.std.proofs.Common.{◌≡◌, ◌-◌, length}
use Rattle.marks.specs.First.{first_from}
use Rattle.sockets.specs.Entries.{is_waiting_at}
use Rattle.sockets.proofs.outlook.Outlook.next_waiting.Given as goal

abbrev pub invariant-loop-place : goal.invariant-loop-place
invariant-loop-place l = first_from (is_waiting_at l.listener) l.initial.from l.entries.items ≡ first_from (is_waiting_at l.listener) l.from l.entries.items

abbrev pub decreases-loop-place : goal.decreases-loop-place
decreases-loop-place l = length l.entries.items - l.from
