-- When what waits to go out is looked at next: it can go out, or the host has a deadline for it (RFC 1122 sections 2.3.2.1 and 2.3.2.2, RFC 9293
-- section 3.8). `laws::what_is_due_comes_up` says that one of both is so, as long as the clock goes on.
use Rattle.std.specs.Prelude.{◌≡◌, ◌⊎◌, ◌≤◌, ◌<◌, ◌+◌, ◌-◌, ◌^◌, ◌&&◌, if◌then◌else◌, Bool, false, true, IsTrue, ℕ, List, [], Contains, slice_get, Option, Some, None, is_some}
use Rattle.ipv4.specs.declared.addr.Addr.{Addr}
use Rattle.ipv4.specs.declared.addr.Endpoint.{Endpoint}
use Rattle.clock.specs.declared.moment.Moment.{Moment}
use Rattle.arp.specs.declared.entry.Asked.{Asked}
use Rattle.arp.specs.Cache.{may_ask, IsNextAsk}
use Rattle.routes.specs.declared.route.Route.{Route}
use Rattle.interface.specs.Routing.{next_hop}
use Rattle.interface.specs.Timing.{sought}
use Rattle.interface.specs.Ways.{is_routed}
use Rattle.tcp_state.specs.declared.calls.Refusal.TheVariants.{ETIMEDOUT}
use Rattle.tcp_state.specs.declared.emission.Due.{Due}
use Rattle.tcp_state.specs.Positions.{HasToSend}
use Rattle.tcp_state.specs.Said.{IsClosedBy}
use Rattle.tcp_state.specs.View.{View, is_syn_received}
use Rattle.tcp_state.specs.Timing.{deadline}
use Rattle.udp_socket.specs.SocketView.{Outgoing, SocketView}
use Rattle.sockets.specs.declared.emission.Outgoing.TheVariants.{Segment}
use Rattle.sockets.specs.declared.entry.Entry.{Entry}
use Rattle.sockets.specs.declared.entry.SocketId.{SocketId}
use Rattle.sockets.specs.declared.role.Role.TheVariants.{Connected, Datagrams}
use Rattle.sockets.specs.Closing.{entry_of}
use Rattle.sockets.specs.Steps.{connected}
use Rattle.host.specs.HostView.{HostView}
use Rattle.host.specs.Places.{Place, ReplyOf, EntryOf, places, can_go_out}
use Rattle.host.specs.Ticks.{lacks_hop, least_deadline}

-- the address to which what is due in a place goes; an ARP reply names its MAC, and needs none
abbrev pub address_of : Place → Option Addr
address_of (ReplyOf waiting) = sought waiting.reply
address_of (EntryOf e peer what) = Some peer.addr

-- a route leads to an address, where one is needed
abbrev pub is_on_route : List Route → Option Addr → Bool
is_on_route routes None = true
is_on_route routes (Some to) = is_some (next_hop routes to)

-- From this moment on, and not before, a request may go out for the next hop to an address. It lies within a second of a request that was sent.
pub record IsAskedFrom (h : HostView) (to : Addr) (moment : Moment) : Type 0 where
  pub hop : Addr
  pub leads : next_hop h.interface.routes to ≡ Some hop
  pub from : IsNextAsk hop h.interface.cache.asked (Some moment)
  pub request : Asked
  pub noted : Contains h.interface.cache.asked request
  pub soon : moment.0 ≤ request.at.0 + 1000

-- No request may go out for the next hop to an address at any moment of the clock: one was sent at the last moment, and is in the way.
pub record IsPastAsking (h : HostView) (to : Addr) : Type 0 where
  pub hop : Addr
  pub leads : next_hop h.interface.routes to ≡ Some hop
  pub never : (now : Moment) → now.0 < 2 ^ 64 → may_ask now hop h.interface.cache.asked ≡ false
  pub request : Asked
  pub noted : Contains h.interface.cache.asked request
  pub at_the_end : 2 ^ 64 - 1 ≤ request.at.0

-- the host has a deadline, and that is not after this moment
abbrev pub IsWokenBy : HostView → Moment → Type 0
IsWokenBy h moment = (deadline : Moment) × (least_deadline h ≡ Some deadline) × (deadline.0 ≤ moment.0)

-- the host is woken by the moment from which the hop of a place may be asked for again
abbrev pub IsAskedAgain : HostView → Place → Type 0
IsAskedAgain h place = (to : Addr) × (moment : Moment) × (address_of place ≡ Some to) × IsAskedFrom h to moment × IsWokenBy h moment

-- or there is no such moment
abbrev pub IsHeldAtTheEnd : HostView → Place → Type 0
IsHeldAtTheEnd h place = (to : Addr) × (address_of place ≡ Some to) × IsPastAsking h to

-- a frame can go out for a place at the kept moment, or its hop may be asked for again and the host is woken then, or the clock is at its end
abbrev pub ComesUp : HostView → Place → Type 0
ComesUp h place = (can_go_out h h.sockets.kept place ≡ true) ⊎ (IsAskedAgain h place ⊎ IsHeldAtTheEnd h place)

-- it is due, and comes up
abbrev pub IsDueSoon : HostView → Place → Type 0
IsDueSoon h place = Contains (places h) place × ComesUp h place

-- a connection is due and comes up, or the host is woken by the deadline of its own timers
abbrev pub ConnectionComesUp : HostView → Entry → View → Type 0
ConnectionComesUp h e c = ((due : Due) × IsDueSoon h (EntryOf e c.peer (Segment due))) ⊎ ((moment : Moment) × (deadline c ≡ Some moment) × IsWokenBy h moment)

-- A connection waits for its hop from a moment on: since then a segment of it that takes numbers, its SYN, octets, its FIN or a probe, has been due while
-- nothing of it is outstanding, and the hop isn't known at the other moment.
pub record WaitsSince (h : HostView) (at : Moment) (c : View) (since : Moment) : Type 0 where
  pub due : c.unheard ≡ Some since
  pub unknown : lacks_hop h at c.peer.addr ≡ true

-- how long it waits at most, in milliseconds: as long as a SYN is sent that nobody answers; but 3,000 where a listener opened it and it is not established
abbrev pub most_wait : View → ℕ
most_wait c = if c.passive && is_syn_received c.state then 3000 else 483000

-- it is out of the table, or it is CLOSED and each call is told ETIMEDOUT
abbrev pub HasEnded : HostView → SocketId → Option SocketId → Type 0
HasEnded h id listener = (entry_of h.sockets id ≡ None) ⊎ ((d : View) × (entry_of h.sockets id ≡ Some (connected id d listener)) × IsClosedBy ETIMEDOUT d)

-- Nothing waits that could be sent: no control reply; and no route leads to where a place's frame goes, any datagram of a UDP socket, or what a
-- connection has to send. An acknowledgement alone may be held at the end of the clock.
pub record IsQuiet (h : HostView) : Type 0 where
  pub replies : h.interface.replies ≡ []
  pub due : (place : Place) → Contains (places h) place → (is_on_route h.interface.routes (address_of place) ≡ false) ⊎ IsHeldAtTheEnd h place
  pub datagrams : (e : Entry) (bound : Option Endpoint) (socket : SocketView) (place : ℕ) (o : Outgoing) → Contains h.sockets.entries e → e.role ≡ Datagrams bound socket → slice_get socket.outbox place ≡ Some o
      → is_routed h.interface o.peer.addr ≡ false
  pub connections : (e : Entry) (c : View) (listener : Option SocketId) → Contains h.sockets.entries e → e.role ≡ Connected c listener → IsTrue (is_routed h.interface c.peer.addr) → HasToSend c → ⊥
