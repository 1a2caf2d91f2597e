-- How much a world can take in before it asks for memory. That is no part of what a run leads to: neither `Runs` nor a law of streams names it.
use Rattle.std.specs.Prelude.{◌≡◌, ℕ, ◌+◌, ◌≤◌, false, List, length, Option, Some, None, vec_capacity}
use Rattle.wire_sim.specs.declared.event.Call.TheVariants as call
use Rattle.wire_sim.specs.declared.event.Event.{Event}
use Rattle.wire_sim.specs.declared.event.Event.TheVariants as event
use Rattle.wire_sim.specs.declared.world.network.Network.{Network}
use Rattle.wire_sim.specs.Steps.{event_recv_len, is_emission}
use Rattle.wire_sim.specs.WorldView.{WorldView}

-- how many elements each list of a network has room for, those that it holds counted: the frames, the openings, and the counts beside these
pub record NetworkRoom : Type 0 where
  pub frames : ℕ
  pub openings : ℕ
  pub written : ℕ

abbrev pub network_room : Network → NetworkRoom
network_room n = record {
  frames = vec_capacity n.bag;
  openings = vec_capacity n.ledger.openings;
  written = vec_capacity n.ledger.written;
}

-- and of a world: those of its network, and the trace
pub record ListRoom : Type 0 where
  pub network : NetworkRoom
  pub trace : ℕ

-- what a caller sees of a world: what a run led to, and the room of its lists
pub record RoomyWorld : Type 0 where
  pub seen : WorldView
  pub room : ListRoom

-- each list has room for so many elements more
pub record HasRoomFor (more : ℕ) (w : RoomyWorld) : Type 0 where
  pub frames : length w.seen.network.frames + more ≤ w.room.network.frames
  pub openings : length w.seen.network.openings + more ≤ w.room.network.openings
  pub written : length w.seen.network.written + more ≤ w.room.network.written
  pub trace : length w.seen.trace + more ≤ w.room.trace

-- each has room for one
abbrev pub HasRoom : RoomyWorld → Type 0
HasRoom w = HasRoomFor 1 w

-- no list has less room than it had
pub record KeepsNetworkRoom (old new : NetworkRoom) : Type 0 where
  pub frames : old.frames ≤ new.frames
  pub openings : old.openings ≤ new.openings
  pub written : old.written ≤ new.written

pub record KeepsRoom (old new : ListRoom) : Type 0 where
  pub network : KeepsNetworkRoom old.network new.network
  pub trace : old.trace ≤ new.trace

-- the event wants no octets of its own: it reads none, and puts no frame into the network
pub record IsPlain (happens : Event) : Type 0 where
  pub unread : event_recv_len happens ≡ 0
  pub unsent : is_emission happens ≡ false

-- the octets that an event owns, where it does: a copy of it wants memory for them
abbrev pub event_octets : Event → Option (List ℕ)
event_octets (event.Call side (call.Send id octets)) = Some octets.items
event_octets (event.Call side (call.SendTo id peer octets)) = Some octets.items
event_octets _ = None
