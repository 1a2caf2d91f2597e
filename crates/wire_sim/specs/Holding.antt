-- What an opening and an epoch are, told by which pairs the two hosts hold before an event and after it.
use Rattle.std.specs.Prelude.{◌≡◌, ℕ, ◌+◌, Bool, true, false, ◌&&◌, not, if◌then◌else◌, [], ◌∷◌, ◌++◌, length, Some, None, is_some, ◌⊎◌}
use Rattle.ipv4.specs.declared.addr.Endpoint.{Endpoint}
use Rattle.ipv4.specs.Addresses.{pair_of}
use Rattle.sockets.specs.declared.entry.SocketId.{SocketId}
use Rattle.sockets.specs.SocketsView.{holder_id}
use Rattle.sides.specs.declared.side.Side.{Side}
use Rattle.wire_sim.specs.declared.event.Call.TheVariants as call
use Rattle.wire_sim.specs.declared.event.Event.{Event}
use Rattle.wire_sim.specs.declared.event.Event.TheVariants as event
use Rattle.wire_sim.specs.declared.event.Answer.{Answer}
use Rattle.wire_sim.specs.declared.event.Opening.{Opening}
use Rattle.wire_sim.specs.Openings.{epoch_of}
use Rattle.wire_sim.specs.Runs.{IsStep, IsReached}
use Rattle.sides.specs.Sides.{other_side}
use Rattle.wire_sim.specs.WorldView.{WorldView, table_of}

abbrev pub is_connect : Event → Bool
is_connect (event.Call side (call.Connect isn id peer)) = true
is_connect _ = false

-- A side's host holds the pair after the event, by the entry that is named, and did not before. The epoch is the one that the pair is in,
-- and the next one exactly where a connect does so while the other host does not hold the pair.
pub record IsBegun (happens : Event) (old new : WorldView) (o : Opening) : Type 0 where
  pub unheld : holder_id (table_of old.network o.side) o.pair ≡ None
  pub held : holder_id (table_of new.network o.side) o.pair ≡ Some o.id
  pub place : o.place ≡ length old.trace
  pub epoch : o.epoch ≡ epoch_of old.network.openings o.pair + (if is_connect happens && not (is_some (holder_id (table_of old.network (other_side o.side)) o.pair)) then 1 else 0)

-- an event adds one opening at most, and only where a host comes to hold a pair
abbrev pub EveryOpeningIsBegun : Type 0
EveryOpeningIsBegun = (limit : ℕ) (old new : WorldView) (happens : Event) (answer : Answer) → IsReached limit old → IsStep happens answer old new
    → (new.network.openings ≡ old.network.openings) ⊎ ((o : Opening) × (new.network.openings ≡ old.network.openings ++ o ∷ []) × IsBegun happens old new o)

-- and wherever a host comes to hold the pair of two ends, the event adds just that opening
abbrev pub EveryHoldingIsNoted : Type 0
EveryHoldingIsNoted = (limit : ℕ) (old new : WorldView) (happens : Event) (answer : Answer) → IsReached limit old → IsStep happens answer old new
    → (side : Side) (x y : Endpoint) (id : SocketId) → holder_id (table_of old.network side) (pair_of x y) ≡ None → holder_id (table_of new.network side) (pair_of x y) ≡ Some id
    → (o : Opening) × (o.side ≡ side) × (o.pair ≡ pair_of x y) × (o.id ≡ id) × (new.network.openings ≡ old.network.openings ++ o ∷ []) × IsBegun happens old new o
