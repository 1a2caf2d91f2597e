-- The two hosts of a world as those of `round_law`, which names no world.
use Rattle.std.specs.Prelude.{◌≡◌, ℕ, ◌<◌, false, length, Some, None}
use Rattle.tcp_state.specs.View.{View, is_opening, is_closed}
use Rattle.sockets.specs.declared.entry.SocketId.{SocketId}
use Rattle.sockets.specs.declared.role.Role.TheVariants.{Connected}
use Rattle.sockets.specs.SocketsView.{role_of}
use Rattle.host.specs.Sound.{IsSoundHost}
use Rattle.round_law.specs.Alone.{IsKept}
use Rattle.round_law.specs.Exchange.{Hosts, IsExchange}
use Rattle.sides.specs.declared.side.Side.{Side}
use Rattle.sides.specs.Sides.{other_side}
use Rattle.wire_sim.specs.Rounds.{Reads, IsRound}
use Rattle.wire_sim.specs.Runs.{IsReached}
use Rattle.wire_sim.specs.WorldView.{WorldView, host_of, table_of, clock_of}

-- A side's clock shows the moment that its host keeps.
abbrev pub EveryClockIsKept : Type 0
EveryClockIsKept = (limit : ℕ) (w : WorldView) → IsReached limit w → (side : Side) → clock_of w.network side ≡ (let h = table_of w.network side in h.kept)

-- Each host keeps of itself what every host does; it is sound, as `IsStep` says of those that an event finds.
abbrev pub EveryHostIsKept : Type 0
EveryHostIsKept = (limit : ℕ) (w : WorldView) → IsReached limit w → (side : Side) → IsSoundHost (host_of w.network side) → IsKept (host_of w.network side)

-- the hosts of a world, that of this side as the writer's
abbrev pub hosts_from : Side → WorldView → Hosts
hosts_from side w = record { writer = host_of w.network side; reader = host_of w.network (other_side side) }

-- A round from a world that was reached is an exchange of its two hosts, which leads to a world that was, and then the reads of the reader. (Where the limit is 0, every frame with a segment is stale.)
abbrev pub EveryRoundIsAnExchange : Type 0
EveryRoundIsAnExchange = (limit : ℕ) (writer : Side) (reader_id : SocketId) (count : ℕ) (old new : WorldView) → 0 < limit → IsReached limit old → IsRound writer reader_id count old new
    → (answered : WorldView) × IsReached limit answered × IsExchange (hosts_from writer old) (hosts_from writer answered) × Reads (other_side writer) reader_id count answered new

-- Where a socket has octets to be read, of a connection that is past its opening and not CLOSED, reads on it read some.
abbrev pub EveryReaderReads : Type 0
EveryReaderReads = (side : Side) (id : SocketId) (count : ℕ) (c : View) (old new : WorldView) → role_of (table_of old.network side) id ≡ Some (Connected c None) → is_opening c.state ≡ false → is_closed c.state ≡ false
    → 0 < length c.receiving.readable → Reads side id count old new → 0 < count
