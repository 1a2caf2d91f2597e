-- What is left to do stands from a place on, whatever test the closure computes; what is filed and noted is true.
use Rattle.std.proofs.Common.{◌≡◌, ℕ, ◌-◌, Bool, length}
use Rattle.ipv4.specs.declared.addr.Addr.{Addr}
use Rattle.sockets.specs.declared.entry.Entry.{Entry}
use Rattle.sockets.specs.Entries.{is_kept, with_role}
use Rattle.sockets.specs.Ids.{AreAscending}
use Rattle.sockets.specs.Lost.{give_up_fate_of, role_after_giving_up}
use Rattle.sockets.proofs.Walks.{IsWalked, IsUpheld}
use Rattle.sockets.proofs.table.give_up.Given as goal

abbrev pub invariant-loop-place : goal.invariant-loop-place
invariant-loop-place g l =
    ((test : Addr → Bool) → ((addr : Addr) (answer : Bool) → g.F.Fn.post l.lost (addr, tt) answer → answer ≡ test addr) → IsWalked (λ (e : Entry). is_kept (give_up_fate_of test l.now e.role)) (with_role (role_after_giving_up test l.now)) l.initial.entries.items l.entries.items l.from)
    × IsUpheld l.initial.entries.items l.entries.items l.ends.items l.initial.outlook l.outlook
    × ((l.entries.most ≡ l.initial.entries.most) × (l.ends.most ≡ l.initial.ends.most))
    × ((last : ℕ) → AreAscending 0 last l.initial.entries.items → AreAscending 0 last l.entries.items)

abbrev pub decreases-loop-place : goal.decreases-loop-place
decreases-loop-place g l = length l.entries.items - l.from
