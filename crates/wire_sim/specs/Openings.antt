-- Which events open a pair, and in which of its epochs.
use Rattle.std.specs.Prelude.{ℕ, ◌+◌, if◌then◌else◌, List, fold, Option, Some, None, is_some}
use Rattle.ipv4.specs.declared.addr.Pair.{Pair}
use Rattle.sockets.specs.declared.entry.SocketId.{SocketId}
use Rattle.sides.specs.declared.side.Side.{Side}
use Rattle.wire_sim.specs.declared.event.Opening.{Opening}
use Rattle.sockets.specs.SocketsView.{SocketsView, holder_id}
use Rattle.sockets.specs.Pairs.{socket_pair}
use Rattle.wire_sim.specs.Tallies.{same_pair}

-- the epoch of a pair: that of its last opening, and 0 before the first
abbrev pub epoch_of : List Opening → Pair → ℕ
epoch_of openings pair = fold (λ epoch o. if same_pair o.pair pair then o.epoch else epoch) 0 openings

-- the epoch that an opening by a connect belongs to: it rises, but where the other host holds the pair already
abbrev pub epoch_connected : List Opening → SocketsView → Pair → ℕ
epoch_connected openings other pair = if is_some (holder_id other pair) then epoch_of openings pair else epoch_of openings pair + 1

-- A connect that was started opens the pair that its socket then has.
abbrev pub opened_as : List Opening → Side → SocketId → ℕ → SocketsView → Option Pair → Option Opening
opened_as openings side id place other None = None
opened_as openings side id place other (Some pair) = Some (record {
  side = side;
  pair = pair;
  epoch = epoch_connected openings other pair;
  id = id;
  place = place;
})

abbrev pub opened_by_connect : List Opening → Side → SocketId → ℕ → SocketsView → SocketsView → Option Opening
opened_by_connect openings side id place new other = opened_as openings side id place other (socket_pair new id)

-- A frame of a pair opens it where the host does not hold the pair before and holds it then, in the pair's present epoch.
abbrev pub held_anew : List Opening → Side → ℕ → Pair → Option SocketId → Option SocketId → Option Opening
held_anew openings side place pair None (Some id) = Some (record { side = side; pair = pair; epoch = epoch_of openings pair; id = id; place = place })
held_anew openings side place pair None None = None
held_anew openings side place pair (Some held) after = None

abbrev pub opened_by_frame : List Opening → Side → ℕ → Pair → SocketsView → SocketsView → Option Opening
opened_by_frame openings side place pair old new = held_anew openings side place pair (holder_id old pair) (holder_id new pair)
