-- What is given up since it can't go out: resets of aborts, connections whose peer can't be asked, and datagrams (RFC 1122 section 4.2.3.5, RFC 9293 section 3.8.3). How long
-- resets and datagrams wait is this stack's own.
use Rattle.std.specs.Prelude.{◌+◌, nat_le, Bool, false, ◌&&◌, not, if◌then◌else◌, List, filter_map, Option, Some, None}
use Rattle.ipv4.specs.declared.addr.Addr.{Addr}
use Rattle.ipv4.specs.declared.addr.Endpoint.{Endpoint}
use Rattle.clock.specs.declared.moment.Moment.{Moment}
use Rattle.clock.specs.Moments.{after, has_come}
use Rattle.tcp_state.specs.declared.connection.Fate.{Fate}
use Rattle.tcp_state.specs.declared.connection.Fate.TheVariants.{Stays, Removed}
use Rattle.tcp_state.specs.Hop.{unheard_until, after_hopless, hopless_fate}
use Rattle.tcp_state.specs.View.{View, reset_since}
use Rattle.udp_socket.specs.Waits as datagrams
use Rattle.sockets.specs.declared.role.Role.{Role}
use Rattle.sockets.specs.declared.role.Role.TheVariants.{Idle, Listener, Connected, Datagrams}
use Rattle.clock.specs.declared.moment.TheConstants.{HOP_WAIT}
use Rattle.sockets.specs.Entries.{in_connection, reset_wait, entries_after_steps}
use Rattle.sockets.specs.SocketsView.{SocketsView, later_moment}

-- a reset that is owed to a peer at a lost address is given up once it has waited for 3,000 milliseconds
abbrev pub is_given_up : (Addr → Bool) → Moment → Role → Bool
is_given_up lost now role = of_wait (reset_wait role)
  where
    of_wait : Option (Endpoint × Moment) → Bool
    of_wait None = false
    of_wait (Some (peer, since)) = has_come (Some (after since HOP_WAIT)) now && lost peer.addr

-- the address of a connection's peer is lost, and it owes no reset
abbrev pub is_hopless : (Addr → Bool) → View → Bool
is_hopless lost c = not c.owes_reset && lost c.peer.addr

abbrev pub loses_hop : (Addr → Bool) → Role → Bool
loses_hop lost role = in_connection false (is_hopless lost) role

-- With a reset its connection is taken out. What takes numbers of any other connection to a lost address is given up where it has waited as long as it may, as the connection's own rules say.
abbrev pub give_up_fate_of : (Addr → Bool) → Moment → Role → Fate
give_up_fate_of lost now role =
    if is_given_up lost now role then Removed
    else if loses_hop lost role then in_connection Stays (λ c. hopless_fate c now) role
    else Stays

-- a connection that stays is CLOSED then, with its error told; and a UDP socket gives up each datagram to a lost address that has waited for 3,000 milliseconds
abbrev pub role_after_giving_up : (Addr → Bool) → Moment → Role → Role
role_after_giving_up lost now (Datagrams bound socket) = Datagrams bound (datagrams.after_giving_up socket lost now)
role_after_giving_up lost now (Connected c listener) = Connected (if is_hopless lost c then after_hopless c now else c) listener
role_after_giving_up lost now (Listener local backlog) = Listener local backlog
role_after_giving_up lost now (Idle buffers bound) = Idle buffers bound

-- all else stays, in order
abbrev pub after_giving_up : SocketsView → (Addr → Bool) → Moment → SocketsView
after_giving_up h lost now = record h { entries = entries_after_steps (give_up_fate_of lost (later_moment h now)) (role_after_giving_up lost (later_moment h now)) h.entries }

-- the resets that wait to go out, in the table's order: to whom, and since when
abbrev pub waiting_resets : SocketsView → List (Endpoint × Moment)
waiting_resets h = filter_map (λ e. reset_wait e.role) h.entries

-- one of them that has not waited for 3,000 milliseconds, or whose address is not lost
abbrev pub waits_still : (Addr → Bool) → Moment → Endpoint × Moment → Bool
waits_still lost now wait = let peer = wait.0 in let since = wait.1 in not (nat_le (since.0 + 3000) now.0 && lost peer.addr)

-- until when a connection waits for its hop: with the reset that it owes, or else with what takes numbers
abbrev pub waits_until : View → Option Moment
waits_until c = of_reset (reset_since c)
  where
    of_reset : Option Moment → Option Moment
    of_reset None = unheard_until c
    of_reset (Some since) = Some (after since HOP_WAIT)

-- the moment from which something of an entry is given up: None where all that waits is for addresses that are not lost
abbrev pub give_up_at : (Addr → Bool) → Role → Option Moment
give_up_at lost (Connected c listener) = if lost c.peer.addr then waits_until c else None
give_up_at lost (Datagrams bound socket) = datagrams.deadline lost socket
give_up_at lost (Listener local backlog) = None
give_up_at lost (Idle buffers bound) = None
