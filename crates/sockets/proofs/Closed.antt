-- What leaving a socket makes of the table.
use Rattle.std.proofs.Common.{◌≡◌, Some, None}
use Rattle.std.specs.List.{find}
use Rattle.sockets.specs.declared.entry.SocketId.{SocketId}
use Rattle.sockets.specs.declared.entry.Entry.{Entry}
use Rattle.sockets.specs.declared.role.Leave.{Leave}
use Rattle.sockets.specs.Entries.{is_socket, role_after_leaving, leaving_fate_of, entries_after_step}
use Rattle.sockets.specs.SocketsView.{SocketsView}
use Rattle.sockets.specs.Calls.{after_socket_left, close_refusal}

-- the socket that is there
pub left-found : (h : SocketsView) (how : Leave) (id : SocketId) (e : Entry) → find (is_socket id) h.entries ≡ Some e → after_socket_left h how id ≡ record h { entries = entries_after_step (leaving_fate_of how h.kept e.role) (is_socket id) (role_after_leaving how h.kept) h.entries }
left-found h how id e found = rw found

-- and leaving it is not refused
pub close-allowed : (h : SocketsView) (id : SocketId) (e : Entry) → find (is_socket id) h.entries ≡ Some e → close_refusal h id ≡ None
close-allowed h id e found = rw found
