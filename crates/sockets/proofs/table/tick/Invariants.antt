-- What is left to do stands from a place on; what is filed and noted is true.
use Rattle.std.proofs.Common.{◌≡◌, ◌-◌, length}
use Rattle.sockets.specs.declared.entry.Entry.{Entry}
use Rattle.sockets.specs.Entries.{is_kept, with_role, tick_fate_of, role_after_tick}
use Rattle.sockets.proofs.Walks.{IsWalked, IsUpheld}
use Rattle.sockets.proofs.table.tick.Given as goal

abbrev pub invariant-loop-place : goal.invariant-loop-place
invariant-loop-place l =
    IsWalked (λ (e : Entry). is_kept (tick_fate_of l.now e.role)) (with_role (role_after_tick l.now)) l.initial.entries.items l.entries.items l.from
    × IsUpheld l.initial.entries.items l.entries.items l.ends.items l.initial.outlook l.outlook
    × ((l.entries.most ≡ l.initial.entries.most) × (l.ends.most ≡ l.initial.ends.most))

abbrev pub decreases-loop-place : goal.decreases-loop-place
decreases-loop-place l = length l.entries.items - l.from
