-- Which events are unfair: a network delivers only what the other side emitted, nothing for too long, nothing of a connection whose ports
-- are used again, and no host opens a pair twice in one epoch.
use Rattle.std.specs.Prelude.{◌≡◌, ℕ, ◌-◌, ◌<◌, ◌==◌, Bool, ◌||◌, nat_le, not, if◌then◌else◌, List, Option, Some, None, IfSome, slice_get, find}
use Rattle.std.specs.List.{list_any}
use Rattle.std.specs.Option.{option_or}
use Rattle.ipv4.specs.declared.addr.Pair.{Pair}
use Rattle.ipv4.specs.declared.addr.Endpoint.{Endpoint}
use Rattle.interface.specs.Ways.{is_routed}
use Rattle.sockets.specs.declared.entry.SocketId.{SocketId}
use Rattle.sockets.specs.Calls.{pair_connected}
use Rattle.host.specs.Arrival.{foreseen}
use Rattle.host.specs.HostView.{HostView}
use Rattle.sides.specs.declared.side.Side.{Side}
use Rattle.sides.specs.declared.side.Side.TheVariants.{A, B}
use Rattle.wire_sim.specs.declared.event.Call.{Call}
use Rattle.wire_sim.specs.declared.event.Call.TheVariants as call
use Rattle.wire_sim.specs.declared.event.Event.{Event}
use Rattle.wire_sim.specs.declared.event.Event.TheVariants as event
use Rattle.wire_sim.specs.declared.event.Opening.{Opening}
use Rattle.wire_sim.specs.declared.event.Unfair.{Unfair}
use Rattle.wire_sim.specs.declared.event.Unfair.TheVariants.{NoSuchFrame, OtherEpoch, Stale, SecondOpening}
use Rattle.wire_sim.specs.declared.world.bag.Frame.{Frame}
use Rattle.wire_sim.specs.declared.world.bag.Note.{Note}
use Rattle.wire_sim.specs.Openings.{epoch_of, epoch_connected}
use Rattle.sides.specs.Sides.{same_side, other_side}
use Rattle.wire_sim.specs.Tallies.{is_opening_of}
use Rattle.wire_sim.specs.WorldView.{NetworkView, host_of, table_of, written_at}

-- how many octets a side took from its caller for a pair in an epoch
abbrev pub Amount : Type 0
Amount = Side → Pair → ℕ → ℕ

-- an end of the frame's connection took the limit or more from its caller since the frame went out
abbrev pub is_late : ℕ → Amount → Note → Bool
is_late limit now note = nat_le limit (now A note.pair note.epoch - note.at_a) || nat_le limit (now B note.pair note.epoch - note.at_b)

-- a frame that belongs to a connection: the pair's epoch has risen since, or it is stale, or there is nothing against it
abbrev pub late_note : NetworkView → Amount → Option Note → Option Unfair
late_note n now None = None
late_note n now (Some note) =
    if not (epoch_of n.openings note.pair == note.epoch) then Some OtherEpoch
    else if is_late n.limit now note then Some Stale
    else None

-- a side's host opened the pair in this epoch before
abbrev pub second_in : List Opening → Side → Pair → ℕ → Option Unfair
second_in openings side pair epoch = if list_any (is_opening_of side pair epoch) openings then Some SecondOpening else None

-- the pair that a connect of this socket to this peer would open at a host
abbrev pub pair_to_connect : HostView → SocketId → Endpoint → Option Pair
pair_to_connect h id peer = pair_connected h.sockets id peer (is_routed h.interface peer.addr)

-- a frame that would open a pair opens it in the pair's present epoch
abbrev pub second_by_frame : NetworkView → Side → Option Pair → Option Unfair
second_by_frame n side None = None
second_by_frame n side (Some pair) = second_in n.openings side pair (epoch_of n.openings pair)

abbrev pub second_by_connect : NetworkView → Side → Option Pair → Option Unfair
second_by_connect n side None = None
second_by_connect n side (Some pair) = second_in n.openings side pair (epoch_connected n.openings (table_of n (other_side side)) pair)

-- only a frame that the other side emitted may be delivered to a side, only in time, and only where it opens no pair a second time
abbrev pub unfair_frame : NetworkView → Amount → Side → Option Frame → Option Unfair
unfair_frame n now side None = Some NoSuchFrame
unfair_frame n now side (Some f) =
    if same_side f.sender side then Some NoSuchFrame
    else option_or (late_note n now f.note) (second_by_frame n side (foreseen (host_of n side) f.octets.items))

abbrev pub unfair_call : NetworkView → Side → Call → Option Unfair
unfair_call n side (call.Connect isn id peer) = second_by_connect n side (pair_to_connect (host_of n side) id peer)
unfair_call n side _ = None

-- why an event is refused, but for want of memory: the first of the rules that it breaks
abbrev pub unfair_event : NetworkView → Amount → Event → Option Unfair
unfair_event n now (event.Deliver side index isn) = unfair_frame n now side (slice_get n.frames index)
unfair_event n now (event.Call side c) = unfair_call n side c
unfair_event n now (event.Tick side moment) = None
unfair_event n now (event.Emit side) = None

-- the same tests by what is counted
abbrev pub is_stale : NetworkView → Note → Bool
is_stale n note = is_late n.limit (written_at n) note

abbrev pub unfair_counted : NetworkView → Event → Option Unfair
unfair_counted n happens = unfair_event n (written_at n) happens

-- The same by four facts, and not by the first rule that is broken.

-- neither end took the limit or more from its caller since the frame went out
pub record IsRecent (limit : ℕ) (now : Amount) (note : Note) : Type 0 where
  pub at_a : now A note.pair note.epoch - note.at_a < limit
  pub at_b : now B note.pair note.epoch - note.at_b < limit

-- no opening of a side is of the pair in this epoch
abbrev pub IsUnopened : List Opening → Side → Pair → ℕ → Type 0
IsUnopened openings side pair epoch = find (is_opening_of side pair epoch) openings ≡ None

-- A frame may be delivered to a side: the other one emitted it, its pair is still in its epoch, it is recent, and it opens no pair a second time.
pub record IsFairFrame (n : NetworkView) (now : Amount) (side : Side) (f : Frame) : Type 0 where
  pub sender : f.sender ≡ other_side side
  pub epoch : IfSome f.note (λ note. epoch_of n.openings note.pair ≡ note.epoch)
  pub recent : IfSome f.note (IsRecent n.limit now)
  pub once : IfSome (foreseen (host_of n side) f.octets.items) (λ pair. IsUnopened n.openings side pair (epoch_of n.openings pair))

-- a call is fair where it opens no pair a second time
abbrev pub IsFairCall : NetworkView → Side → Call → Type 0
IsFairCall n side (call.Connect isn id peer) =
    IfSome (pair_to_connect (host_of n side) id peer) (λ pair. IsUnopened n.openings side pair (epoch_connected n.openings (table_of n (other_side side)) pair))
IsFairCall n side _ = Unit {0}

-- `laws::fair_is_unrefused`: an event is fair exactly where no rule refuses it
abbrev pub IsFair : NetworkView → Amount → Event → Type 0
IsFair n now (event.Deliver side index isn) = (f : Frame) × (slice_get n.frames index ≡ Some f) × IsFairFrame n now side f
IsFair n now (event.Call side c) = IsFairCall n side c
IsFair n now (event.Tick side moment) = Unit {0}
IsFair n now (event.Emit side) = Unit {0}
