-- What datagrams leave alone, and what is counted of them over a list of events.
use Rattle.std.specs.Prelude.{ℕ, ◌+◌, Bool, true, false, if◌then◌else◌, List, [], ◌∷◌, filter, is_ok}
use Rattle.sockets.specs.declared.entry.Entry.{Entry}
use Rattle.sockets.specs.declared.role.Role.{Role}
use Rattle.sockets.specs.declared.role.Role.TheVariants.{Idle, Listener, Connected, Datagrams}
use Rattle.sockets.specs.SocketsView.{SocketsView}
use Rattle.sockets.specs.Datagrams.{sendto_answer}
use Rattle.sockets.specs.Causes.{Event, MakesDatagrams, SendsTo, ReceivesFrom, HearsDatagram, after_event}

-- a TCP socket or a connection
abbrev pub is_stream : Role → Bool
is_stream (Idle buffers bound) = true
is_stream (Listener local backlog) = true
is_stream (Connected c listener) = true
is_stream (Datagrams bound socket) = false

-- those of the table, in order
abbrev pub streams : SocketsView → List Entry
streams h = filter (λ e. is_stream e.role) h.entries

-- a UDP socket is made, or a datagram is given to be sent, is read, or comes
abbrev pub is_of_datagrams : Event → Bool
is_of_datagrams MakesDatagrams = true
is_of_datagrams (SendsTo id peer octets routed) = true
is_of_datagrams (ReceivesFrom id len) = true
is_of_datagrams (HearsDatagram source d) = true
is_of_datagrams _ = false

-- an event gives one datagram to a socket that takes it, or none
abbrev pub datagrams_taken : SocketsView → Event → ℕ
datagrams_taken h (SendsTo id peer octets routed) = if is_ok (sendto_answer h id peer octets routed) then 1 else 0
datagrams_taken h _ = 0

-- the table after a list of events, and how many datagrams sockets take in them
abbrev pub after_events : SocketsView → List Event → SocketsView
after_events h [] = h
after_events h (e ∷ rest) = after_events (after_event h e) rest

abbrev pub datagrams_taken_in : SocketsView → List Event → ℕ
datagrams_taken_in h [] = 0
datagrams_taken_in h (e ∷ rest) = datagrams_taken h e + datagrams_taken_in (after_event h e) rest
