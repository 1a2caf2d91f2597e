-- What a reader sees of a world.
use Rattle.std.specs.Prelude.{◌≡◌, ℕ, Bool, ◌||◌, List, [], vec_len, Option, Some, None}
use Rattle.ipv4.specs.declared.addr.Endpoint.{Endpoint}
use Rattle.ipv4.specs.declared.addr.Pair.{Pair}
use Rattle.clock.specs.declared.moment.Moment.{Moment}
use Rattle.sides.specs.declared.side.Side.{Side}
use Rattle.sides.specs.declared.side.Side.TheVariants.{A, B}
use Rattle.wire_sim.specs.declared.event.Answer.{Answer}
use Rattle.wire_sim.specs.declared.event.Answer.TheVariants as answer
use Rattle.wire_sim.specs.declared.event.Opening.{Opening}
use Rattle.wire_sim.specs.declared.event.Happening.{Happening}
use Rattle.wire_sim.specs.declared.world.bag.Frame.{Frame}
use Rattle.wire_sim.specs.declared.world.station.Station.{Station}
use Rattle.wire_sim.specs.declared.world.network.Network.{Network}
use Rattle.ipv4.specs.Addresses.{same_addr}
use Rattle.frames.specs.Meaning.{same_mac}
use Rattle.sockets.specs.SocketsView.{SocketsView}
use Rattle.host.specs.ConfigView.{ConfigView}
use Rattle.host.specs.HostView.{HostView, new_host}
use Rattle.wire_sim.specs.Tallies.{written_by}

-- the limit on what may be written while a frame is under way, the two hosts with their clocks, every frame that was
-- emitted, the openings, and how many octets each of these took from its caller
pub record NetworkView : Type 0 where
  pub limit : ℕ
  pub a : Station
  pub b : Station
  pub frames : List Frame
  pub openings : List Opening
  pub written : List ℕ

abbrev pub network_view : Network → NetworkView
network_view n = record {
  limit = n.limit;
  a = n.a;
  b = n.b;
  frames = n.bag.items;
  openings = n.ledger.openings.items;
  written = n.ledger.written.items;
}

-- the network, and every event that was taken with its answer, in order
pub record WorldView : Type 0 where
  pub network : NetworkView
  pub trace : List Happening

-- how many octets a side took from its caller for a pair in an epoch
abbrev pub written_at : NetworkView → Side → Pair → ℕ → ℕ
written_at n side pair epoch = written_by n.openings n.written side pair epoch

abbrev pub station_of : NetworkView → Side → Station
station_of n A = n.a
station_of n B = n.b

abbrev pub host_of : NetworkView → Side → HostView
host_of n side = let s = station_of n side in s.host

abbrev pub table_of : NetworkView → Side → SocketsView
table_of n side = let h = host_of n side in h.sockets

abbrev pub clock_of : NetworkView → Side → Moment
clock_of n side = let s = station_of n side in s.clock

-- the octets that an answer holds
abbrev pub octets_in : Answer → Option (List ℕ)
octets_in (answer.Octets octets) = Some octets.items
octets_in (answer.Datagram octets from) = Some octets.items
octets_in _ = None

-- the endpoint that a datagram came from
abbrev pub source_in : Answer → Option Endpoint
source_in (answer.Datagram octets from) = Some from
source_in _ = None

-- an answer without octets
abbrev pub plain : Answer → Option Answer
plain (answer.Octets octets) = None
plain (answer.Datagram octets from) = None
plain a = Some a

-- the same answer, whose octets may stand elsewhere in memory
pub record SameAnswer (a b : Answer) : Type 0 where
  pub octets : octets_in a ≡ octets_in b
  pub source : source_in a ≡ source_in b
  pub others : plain a ≡ plain b

-- how many octets an answer holds
abbrev pub octets_len : Answer → ℕ
octets_len (answer.Octets octets) = vec_len octets
octets_len (answer.Datagram octets from) = vec_len octets
octets_len _ = 0

-- a host, at the moment 0
abbrev pub station_with : HostView → Station
station_with h = record { host = h; clock = record { 0 = 0 } }

-- two such hosts on one link, and no frames
abbrev pub network_with : HostView → HostView → ℕ → NetworkView
network_with a b limit = record {
  limit = limit;
  a = station_with a;
  b = station_with b;
  frames = [];
  openings = [];
  written = [];
}

-- where nothing happened to either
abbrev pub fresh_network : ConfigView → ConfigView → ℕ → NetworkView
fresh_network a b limit = network_with (new_host a) (new_host b) limit

abbrev pub world_with : HostView → HostView → ℕ → WorldView
world_with a b limit = record { network = network_with a b limit; trace = [] }

abbrev pub fresh_world : ConfigView → ConfigView → ℕ → WorldView
fresh_world a b limit = record { network = fresh_network a b limit; trace = [] }

-- two hosts have one address or one MAC
abbrev pub are_alike : ConfigView → ConfigView → Bool
are_alike a b = same_addr a.addr b.addr || same_mac a.mac b.mac
