-- What is left to count stands from a place on, and no more are counted than were passed.
use Rattle.std.proofs.Common.{◌≡◌, ◌+◌, ◌-◌, ◌≤◌, length, drop}
use Rattle.std.specs.List.{count_by}
use Rattle.sockets.specs.Entries.{is_waiting_at}
use Rattle.sockets.proofs.outlook.Outlook.waiting_at.Given as goal

abbrev pub invariant-loop-place : goal.invariant-loop-place
invariant-loop-place l =
    (l.from ≤ length l.entries.items) × (l.count ≤ l.from)
    × (count_by (is_waiting_at l.listener) l.entries.items ≡ l.count + count_by (is_waiting_at l.listener) (drop l.from l.entries.items))

abbrev pub decreases-loop-place : goal.decreases-loop-place
decreases-loop-place l = length l.entries.items - l.from
