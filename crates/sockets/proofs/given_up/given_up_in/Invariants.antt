-- What is left to count stands from a place on; and no sum of so few numbers of at most 64 is cut.
use Rattle.std.proofs.Common.{◌≡◌, ◌+◌, ◌*◌, ◌-◌, ◌≤◌, Bool, length, drop}
use Rattle.std.specs.List.{count_by, sum_by}
use Rattle.ipv4.specs.declared.addr.Addr.{Addr}
use Rattle.udp_socket.specs.Waits as datagrams
use Rattle.sockets.specs.declared.entry.Entry.{Entry}
use Rattle.sockets.specs.GivenUp.{outbox_of}
use Rattle.sockets.specs.Lost.{is_given_up}
use Rattle.sockets.proofs.given_up.given_up_in.Given as goal

abbrev pub invariant-loop-place : goal.invariant-loop-place
invariant-loop-place g l =
    (l.from ≤ length l.entries.items)
    × ((test : Addr → Bool) → ((addr : Addr) (answer : Bool) → g.F.Fn.post l.lost (addr, tt) answer → answer ≡ test addr)
    → (count_by (λ (e : Entry). is_given_up test l.now e.role) l.entries.items ≡ l.sum.resets + count_by (λ (e : Entry). is_given_up test l.now e.role) (drop l.from l.entries.items))
    × (sum_by (λ (e : Entry). count_by (datagrams.is_given_up test l.now) (outbox_of e.role)) l.entries.items ≡ l.sum.datagrams + sum_by (λ (e : Entry). count_by (datagrams.is_given_up test l.now) (outbox_of e.role)) (drop l.from l.entries.items))
    × (l.sum.resets ≤ l.from)
    × (l.sum.datagrams ≤ 64 * l.from))

abbrev pub decreases-loop-place : goal.decreases-loop-place
decreases-loop-place g l = length l.entries.items - l.from
