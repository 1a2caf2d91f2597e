-- Dynamic ports (RFC 6335 section 6): 49152 to 65535, given in turn.
use Rattle.std.specs.Prelude.{ℕ, suc, zero, ◌+◌, ◌-◌, ◌%◌, ◌≤◌, ◌<◌, ◌==◌, Bool, true, false, cond, List, Option, Some, None, option_map, ◌≡◌, ◌&&◌, not, refl}
use Rattle.std.specs.List.{list_any}
use Rattle.ipv4.specs.declared.addr.Addr.{Addr}
use Rattle.ipv4.specs.declared.addr.Endpoint.{Endpoint}
use Rattle.sockets.specs.declared.entry.Entry.{Entry}
use Rattle.sockets.specs.declared.entry.Kind.{Kind}
use Rattle.sockets.specs.declared.entry.Kind.TheVariants.{Tcp, Udp}
use Rattle.sockets.specs.declared.role.Role.{Role}
use Rattle.sockets.specs.declared.role.Role.TheVariants.{Idle, Listener, Connected, Datagrams}
use Rattle.sockets.specs.Entries.{has_port, is_bound_at, is_between, is_datagrams_at}

-- the dynamic port that comes so many steps behind the one next to the last given, 49152 behind 65535
abbrev pub port_after : ℕ → ℕ → ℕ
port_after last steps = 49152 + (last - 49152 + 1 + steps) % 16384

-- the first port that passes of so many, from these steps on
pub first_port : (ℕ → Bool) → ℕ → ℕ → ℕ → Option ℕ
first_port test last steps zero = None
first_port test last steps (suc n) = cond (test (port_after last steps)) (Some (port_after last steps)) (first_port test last (steps + 1) n)

-- a dynamic port
pub record IsDynamic (port : ℕ) : Type 0 where
  pub from_first : 49152 ≤ port
  pub to_last : port ≤ 65535

-- The dynamic port that passes a test first, in the turn that begins behind the last one given, goes up to 65535 and then from 49152 on. No
-- port between the last one and it passes; where it does not lie above the last one, no port above that passes, and none below it.
pub record IsFirstBehind (test : ℕ → Bool) (last port : ℕ) : Type 0 where
  pub dynamic : IsDynamic port
  pub passes : test port ≡ true
  pub between : (other : ℕ) → last < other → other < port → test other ≡ false
  pub above : port ≤ last → (other : ℕ) → last < other → other ≤ 65535 → test other ≡ false
  pub below : port ≤ last → (other : ℕ) → 49152 ≤ other → other < port → test other ≡ false

-- free for a connection to the peer: no TCP socket is bound to the port, and no connection goes from it to the peer
abbrev pub is_free_port : List Entry → Addr → Endpoint → ℕ → Bool
is_free_port entries addr peer port = not (list_any (is_bound_at port) entries) && not (list_any (is_between (record { addr = addr; port = port }) peer) entries)

-- free for a TCP socket that is bound: no entry over TCP has the port
abbrev pub is_unused_port : List Entry → ℕ → Bool
is_unused_port entries port = not (list_any (has_port port) entries)

-- free for a UDP socket: none is bound to the port
abbrev pub is_free_datagram_port : List Entry → ℕ → Bool
is_free_datagram_port entries port = not (list_any (is_datagrams_at port) entries)

-- free for a socket of this kind
abbrev pub is_bindable : Kind → List Entry → ℕ → Bool
is_bindable Tcp entries = is_unused_port entries
is_bindable Udp entries = is_free_datagram_port entries

-- The port that an entry has over TCP, where it has one: that of its connection's local end, or of the end where it listens or is bound.
abbrev pub tcp_port : Role → Option ℕ
tcp_port (Connected c listener) = Some c.local.port
tcp_port (Listener local backlog) = Some local.port
tcp_port (Idle buffers bound) = option_map (λ local. local.port) bound
tcp_port (Datagrams bound socket) = None

-- the port that it has over UDP
abbrev pub udp_port : Role → Option ℕ
udp_port (Datagrams bound socket) = option_map (λ local. local.port) bound
udp_port (Connected c listener) = None
udp_port (Listener local backlog) = None
udp_port (Idle buffers bound) = None

-- this port is the one, where there is one
abbrev pub is_port : ℕ → Option ℕ → Bool
is_port port None = false
is_port port (Some other) = other == port

-- one port more
pub first_port-step : (test : ℕ → Bool) (last steps n : ℕ) → first_port test last steps (suc n) ≡ cond (test (port_after last steps)) (Some (port_after last steps)) (first_port test last (steps + 1) n)
unfolding first_port
first_port-step test last steps n = refl

-- none is left
pub first_port-zero : (test : ℕ → Bool) (last steps : ℕ) → first_port test last steps 0 ≡ None
unfolding first_port
first_port-zero test last steps = refl
