-- What a hard error makes of the table.
use Rattle.std.proofs.Common.{◌≡◌, ℕ, Some, None}
use Rattle.std.specs.List.{find}
use Rattle.ipv4.specs.declared.addr.Endpoint.{Endpoint}
use Rattle.sockets.specs.declared.entry.Entry.{Entry}
use Rattle.sockets.specs.Entries.{is_between, role_after_unreachable, unreachable_fate_of, entries_after_step}
use Rattle.sockets.specs.SocketsView.{SocketsView}
use Rattle.sockets.specs.Unreachable.{after_unreachable}

-- the connection that is told changes, or is taken out
pub told-found : (h : SocketsView) (local peer : Endpoint) (number : ℕ) (e : Entry) → find (is_between local peer) h.entries ≡ Some e
    → after_unreachable h local peer number ≡ record h { entries = entries_after_step (unreachable_fate_of number e.role) (is_between local peer) (role_after_unreachable number) h.entries }
told-found h local peer number e found = rw found

-- and where there is none, the table stays
pub told-none : (h : SocketsView) (local peer : Endpoint) (number : ℕ) → find (is_between local peer) h.entries ≡ None → after_unreachable h local peer number ≡ h
told-none h local peer number found = rw found
