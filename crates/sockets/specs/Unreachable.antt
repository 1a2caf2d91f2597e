-- What an error makes of the table that tells of a segment which can't be delivered (RFC 1122 section 4.2.3.9).
use Rattle.std.specs.Prelude.{ℕ, Option, Some, None, find}
use Rattle.ipv4.specs.declared.addr.Endpoint.{Endpoint}
use Rattle.sockets.specs.declared.entry.Entry.{Entry}
use Rattle.sockets.specs.Entries.{is_between, role_after_unreachable, unreachable_fate_of, entries_after_step}
use Rattle.sockets.specs.SocketsView.{SocketsView}

-- A hard error about the segment of this number, which went from our end `local` to the end `peer`, is told to the connection of the two ends,
-- in any state but CLOSED. Where there is none, nothing changes.
abbrev pub after_unreachable : SocketsView → Endpoint → Endpoint → ℕ → SocketsView
after_unreachable h local peer number = of_entry (find (is_between local peer) h.entries)
  where
    of_entry : Option Entry → SocketsView
    of_entry None = h
    of_entry (Some e) = record h { entries = entries_after_step (unreachable_fate_of number e.role) (is_between local peer) (role_after_unreachable number) h.entries }
