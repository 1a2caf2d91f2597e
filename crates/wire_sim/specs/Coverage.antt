-- What the law of the stream covers. It is read by the openings: each connection of a host has its own, no two are of one socket or of one
-- pair in one epoch, and what the callers of a socket did is what the law reads of its opening; where a socket has none, nothing was.
use Rattle.std.specs.Prelude.{◌≡◌, ℕ, Bool, true, false, List, [], Option, Some, None, find, slice_get}
use Rattle.ipv4.specs.declared.addr.Pair.{Pair}
use Rattle.ipv4.specs.Addresses.{pair_of}
use Rattle.tcp_state.specs.View.{View}
use Rattle.sockets.specs.declared.entry.SocketId.{SocketId}
use Rattle.sockets.specs.declared.role.Role.TheVariants.{Connected}
use Rattle.sides.specs.declared.side.Side.{Side}
use Rattle.wire_sim.specs.declared.event.Opening.{Opening}
use Rattle.wire_sim.specs.Runs.{IsReached}
use Rattle.wire_sim.specs.Tallies.{is_opening_of, is_opening_at}
use Rattle.wire_sim.specs.Trace.{sent_on, read_on, closed_on, ended_on, written, read, closed, ended}
use Rattle.wire_sim.specs.WorldView.{WorldView, table_of}

-- the opening by which a side's host came to hold a connection: the same by its id and by its pair and epoch
pub record IsListed (side : Side) (openings : List Opening) (id : SocketId) (c : View) : Type 0 where
  pub opening : Opening
  pub by_id : find (is_opening_at side id) openings ≡ Some opening
  pub pair : opening.pair ≡ pair_of c.local c.peer
  pub by_epoch : find (is_opening_of side opening.pair opening.epoch) openings ≡ Some opening

-- every connection in a host's table, wherever it stands there
abbrev pub EveryConnectionIsListed : Type 0
EveryConnectionIsListed = (limit : ℕ) (w : WorldView) → IsReached limit w → (side : Side) (place : ℕ) (id : SocketId) (c : View) (listener : Option SocketId)
    → slice_get (let t = table_of w.network side in t.entries) place ≡ Some (record { id = id; role = Connected c listener }) → IsListed side w.network.openings id c

-- openings that pass the test stand at one place
abbrev pub AtMostOne : (Opening → Bool) → List Opening → Type 0
AtMostOne test openings = (i j : ℕ) (o p : Opening) → slice_get openings i ≡ Some o → slice_get openings j ≡ Some p → test o ≡ true → test p ≡ true → i ≡ j

-- one opening at most for each socket of a side, and one for each pair in each epoch at a side
abbrev pub EveryOpeningIsUnique : Type 0
EveryOpeningIsUnique = (limit : ℕ) (w : WorldView) → IsReached limit w → (side : Side)
    → ((id : SocketId) → AtMostOne (is_opening_at side id) w.network.openings) × ((pair : Pair) (epoch : ℕ) → AtMostOne (is_opening_of side pair epoch) w.network.openings)

-- what the callers of a socket did and were told is what the law reads of its opening; without one, no octet went through it, and no end
abbrev pub IsCovered : WorldView → Side → SocketId → Option Opening → Type 0
IsCovered w side id (Some o) =
    (written w.trace w.network.openings side o.pair o.epoch ≡ sent_on side id w.trace)
    × (read w.trace w.network.openings side o.pair o.epoch ≡ read_on side id w.trace)
    × (closed w.trace w.network.openings side o.pair o.epoch ≡ closed_on side id w.trace)
    × (ended w.trace w.network.openings side o.pair o.epoch ≡ ended_on side id w.trace)
IsCovered w side id None = (sent_on side id w.trace ≡ []) × (read_on side id w.trace ≡ []) × (ended_on side id w.trace ≡ false)

-- of every id, also one that left the table
abbrev pub EveryOctetIsCovered : Type 0
EveryOctetIsCovered = (limit : ℕ) (w : WorldView) → IsReached limit w → (side : Side) (id : SocketId) → IsCovered w side id (find (is_opening_at side id) w.network.openings)
