-- What each opening took from its caller.
use Rattle.std.specs.Prelude.{ℕ, ◌+◌, Bool, ◌==◌, ◌&&◌, if◌then◌else◌, List, [], ◌∷◌}
use Rattle.ipv4.specs.declared.addr.Pair.{Pair}
use Rattle.sides.specs.declared.side.Side.{Side}
use Rattle.wire_sim.specs.declared.event.Opening.{Opening}
use Rattle.sockets.specs.declared.entry.SocketId.{SocketId}
use Rattle.ipv4.specs.Addresses.{same_end}
use Rattle.sides.specs.Sides.{same_side}

-- two pairs have the same two ends: each pair names the lesser one first
abbrev pub same_pair : Pair → Pair → Bool
same_pair a b = same_end a.first b.first && same_end a.second b.second

-- the opening by which a side's host came to hold a pair in an epoch
abbrev pub is_opening_of : Side → Pair → ℕ → Opening → Bool
is_opening_of side pair epoch o = same_side o.side side && same_pair o.pair pair && (o.epoch == epoch)

-- how many octets a side took for a pair in an epoch, where each opening stands beside its count
abbrev pub written_by : List Opening → List ℕ → Side → Pair → ℕ → ℕ
written_by [] ws side pair epoch = 0
written_by (o ∷ os) [] side pair epoch = 0
written_by (o ∷ os) (w ∷ ws) side pair epoch = if is_opening_of side pair epoch o then w else written_by os ws side pair epoch

-- the opening by which a side's host made the entry
abbrev pub is_opening_at : Side → SocketId → Opening → Bool
is_opening_at side id o = same_side o.side side && (o.id.0 == id.0)

-- the counts once the caller of a socket gave so many octets more
abbrev pub counts_after : List Opening → List ℕ → Side → SocketId → ℕ → List ℕ
counts_after [] ws side id more = ws
counts_after (o ∷ os) [] side id more = []
counts_after (o ∷ os) (w ∷ ws) side id more = (if is_opening_at side id o then w + more else w) ∷ counts_after os ws side id more
