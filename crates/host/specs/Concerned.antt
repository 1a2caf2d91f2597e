-- The socket that a frame is for, by what its octets are to the host.
use Rattle.std.specs.Prelude.{ℕ, List, Option, None, Result, Ok, Err}
use Rattle.frames.specs.declared.drop.DropCause.{DropCause}
use Rattle.frames.specs.declared.meaning.Meaning.{Meaning}
use Rattle.frames.specs.declared.meaning.Meaning.TheVariants.{Arp, Tcp, Icmp, Udp, Other, UdpFragment}
use Rattle.sockets.specs.declared.entry.SocketId.{SocketId}
use Rattle.sockets.specs.Ready.{socket_at_port, socket_between, socket_of_segment}
use Rattle.host.specs.Heard.{heard_by}
use Rattle.host.specs.HostView.{HostView}
use Rattle.host.specs.Messages.{Told, Asks, Refuses, Nothing, told_by}

-- a message is for the connection that it tells an error of
abbrev pub concerned_by : HostView → Told → Option SocketId
concerned_by h Asks = None
concerned_by h (Refuses quote) = socket_between h.sockets quote.source quote.destination
concerned_by h Nothing = None

-- A segment is for its connection or listener, a UDP datagram for the socket at its port, and an error for the connection that it is about; all else is for no socket, and
-- so is a fragment of a datagram, since it alone is for none.
abbrev pub concerned_of : HostView → Result Meaning DropCause → Option SocketId
concerned_of h (Ok (Tcp received)) = socket_of_segment h.sockets received.source received.segment
concerned_of h (Ok (Udp received)) = socket_at_port h.sockets received.datagram.destination
concerned_of h (Ok (Icmp c)) = concerned_by h (told_by c.message)
concerned_of h (Ok (Arp packet)) = None
concerned_of h (Ok (UdpFragment d)) = None
concerned_of h (Ok (Other d)) = None
concerned_of h (Err cause) = None

abbrev pub concerned : HostView → List ℕ → Option SocketId
concerned h octets = concerned_of h (heard_by h octets)
