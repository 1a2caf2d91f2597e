-- Changes of an entry's role that no connection sees.
use Rattle.std.proofs.Common.{◌≡◌, ℕ, List, Option, Some, None, refl}
use Rattle.ipv4.specs.declared.addr.Addr.{Addr}
use Rattle.ipv4.specs.declared.addr.Endpoint.{Endpoint}
use Rattle.udp_socket.specs.SocketView.{SocketView}
use Rattle.sockets.specs.declared.entry.SocketId.{SocketId}
use Rattle.sockets.specs.declared.role.Role.{Role}
use Rattle.sockets.specs.declared.role.Role.TheVariants.{Idle, Listener, Connected, Datagrams}
use Rattle.sockets.specs.Entries.{on_datagrams, role_after_bind, role_after_listen, role_after_accept}
use Rattle.sides.specs.declared.side.Side.{Side}
use Rattle.wire_sim.specs.declared.event.Opening.{Opening}
use Rattle.wire_sim.proofs.tables.TableById.{presence_in, IsNoted}

-- what is seen of the connection, and what is noted, stays
pub record IsQuiet (g : Role → Role) : Type 0 where
  pub seen : (r : Role) → presence_in (Some (g r)) ≡ presence_in (Some r)
  pub noted : (side : Side) (own : Addr) (os : List Opening) (id : SocketId) (r : Role) → IsNoted side own os id r → IsNoted side own os id (g r)

pub quiet_bound_to : (local : Endpoint) → IsQuiet (role_after_bind local)
quiet_bound_to local = record { seen = seen; noted = noted }
  where
    seen : (r : Role) → presence_in (Some (role_after_bind local r)) ≡ presence_in (Some r)
    seen (Connected c w) = refl
    seen (Listener x y) = refl
    seen (Idle b bound) = refl
    seen (Datagrams bound s) = refl

    noted : (side : Side) (own : Addr) (os : List Opening) (id : SocketId) (r : Role) → IsNoted side own os id r → IsNoted side own os id (role_after_bind local r)
    noted side own os id (Connected c w) k = k
    noted side own os id (Listener x y) k = k
    noted side own os id (Idle b bound) k = k
    noted side own os id (Datagrams bound s) k = k

pub quiet_listening : (backlog : ℕ) → IsQuiet (role_after_listen backlog)
quiet_listening backlog = record { seen = seen; noted = noted }
  where
    seen : (r : Role) → presence_in (Some (role_after_listen backlog r)) ≡ presence_in (Some r)
    seen (Connected c w) = refl
    seen (Listener x y) = refl
    seen (Idle b (Some x)) = refl
    seen (Idle b None) = refl
    seen (Datagrams bound s) = refl

    noted : (side : Side) (own : Addr) (os : List Opening) (id : SocketId) (r : Role) → IsNoted side own os id r → IsNoted side own os id (role_after_listen backlog r)
    noted side own os id (Connected c w) k = k
    noted side own os id (Listener x y) k = k
    noted side own os id (Idle b (Some x)) k = k
    noted side own os id (Idle b None) k = k
    noted side own os id (Datagrams bound s) k = k

pub quiet_accepted : IsQuiet role_after_accept
quiet_accepted = record { seen = seen; noted = noted }
  where
    seen : (r : Role) → presence_in (Some (role_after_accept r)) ≡ presence_in (Some r)
    seen (Connected c w) = refl
    seen (Listener x y) = refl
    seen (Idle b bound) = refl
    seen (Datagrams bound s) = refl

    noted : (side : Side) (own : Addr) (os : List Opening) (id : SocketId) (r : Role) → IsNoted side own os id r → IsNoted side own os id (role_after_accept r)
    noted side own os id (Connected c w) k = k
    noted side own os id (Listener x y) k = k
    noted side own os id (Idle b bound) k = k
    noted side own os id (Datagrams bound s) k = k

-- a UDP socket is no connection
pub quiet_datagrams : (bind : Option Endpoint → Option Endpoint) (change : SocketView → SocketView) → IsQuiet (on_datagrams bind change)
quiet_datagrams bind change = record { seen = seen; noted = noted }
  where
    seen : (r : Role) → presence_in (Some (on_datagrams bind change r)) ≡ presence_in (Some r)
    seen (Connected c w) = refl
    seen (Listener x y) = refl
    seen (Idle b at) = refl
    seen (Datagrams at s) = refl

    noted : (side : Side) (own : Addr) (os : List Opening) (id : SocketId) (r : Role) → IsNoted side own os id r → IsNoted side own os id (on_datagrams bind change r)
    noted side own os id (Connected c w) k = k
    noted side own os id (Listener x y) k = k
    noted side own os id (Idle b at) k = k
    noted side own os id (Datagrams at s) k = k
