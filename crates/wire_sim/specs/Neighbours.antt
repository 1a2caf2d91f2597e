-- What a host of a world knows of its link: the other host, and nobody else.
use Rattle.std.specs.Prelude.{◌≡◌, ℕ, ◌||◌, false, Some}
use Rattle.std.specs.List.{AllByRecursion}
use Rattle.ether.specs.declared.mac.Mac.{Mac}
use Rattle.arp.specs.declared.entry.Neighbour.{Neighbour}
use Rattle.ipv4.specs.declared.addr.Addr.{Addr}
use Rattle.clock.specs.declared.moment.Moment.{Moment}
use Rattle.tcp_state.specs.View.{is_closed, is_opening}
use Rattle.interface.specs.Routing.{next_hop}
use Rattle.interface.specs.Ways.{hop_mac}
use Rattle.sockets.specs.declared.entry.Entry.{Entry}
use Rattle.sockets.specs.declared.role.Role.{Role}
use Rattle.sockets.specs.declared.role.Role.TheVariants.{Idle, Listener, Connected, Datagrams}
use Rattle.sides.specs.declared.side.Side.{Side}
use Rattle.sides.specs.Sides.{other_side}
use Rattle.wire_sim.specs.Passage.{addr_at, mac_at}
use Rattle.wire_sim.specs.Runs.{IsReached}
use Rattle.wire_sim.specs.WorldView.{WorldView, NetworkView, host_of, table_of}

-- the address of a side's host, with its MAC
abbrev pub IsPairOf : NetworkView → Side → Neighbour → Type 0
IsPairOf n side pair = (pair.addr ≡ addr_at n side) × (pair.mac ≡ mac_at n side)

-- each pair that a side's host knows (RFC 826) is that of the other side's
abbrev pub KnowsOnlyTheOther : NetworkView → Side → Type 0
KnowsOnlyTheOther n side = let h = host_of n side in AllByRecursion (IsPairOf n (other_side side)) h.interface.cache.pairs

abbrev pub EveryNeighbourIsTheOtherHost : Type 0
EveryNeighbourIsTheOtherHost = (limit : ℕ) (w : WorldView) → IsReached limit w → (side : Side) → KnowsOnlyTheOther w.network side

-- So a next hop (RFC 1122 section 3.3.1.1) whose MAC is known is the other side's host, whatever address it leads to.
abbrev pub EveryKnownHopIsTheOtherHost : Type 0
EveryKnownHopIsTheOtherHost = (limit : ℕ) (w : WorldView) (side : Side) (now : Moment) (to : Addr) (mac : Mac) → IsReached limit w → (let h = host_of w.network side in hop_mac h.interface now to ≡ Some mac)
    → (let h = host_of w.network side in next_hop h.interface.routes to ≡ Some (addr_at w.network (other_side side))) × (mac ≡ mac_at w.network (other_side side))

-- where a connection is past its opening and not CLOSED, its next hop is the other side's host
abbrev pub LeadsToTheOther : NetworkView → Side → Role → Type 0
LeadsToTheOther n side (Connected c listener) =
    (is_opening c.state || is_closed c.state) ≡ false → (let h = host_of n side in next_hop h.interface.routes c.peer.addr ≡ Some (addr_at n (other_side side)))
LeadsToTheOther n side (Listener local backlog) = Unit {0}
LeadsToTheOther n side (Idle buffers bound) = Unit {0}
LeadsToTheOther n side (Datagrams bound socket) = Unit {0}

-- So it is of each connection: what has gone out of one went to a MAC that was known.
abbrev pub EveryOpenConnectionLeadsToTheOther : Type 0
EveryOpenConnectionLeadsToTheOther = (limit : ℕ) (w : WorldView) → IsReached limit w → (side : Side)
    → (let h = table_of w.network side in AllByRecursion (λ (e : Entry). LeadsToTheOther w.network side e.role) h.entries)
