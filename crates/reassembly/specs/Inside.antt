-- How the fields of a place and of a pool are seen.
use Rattle.std.specs.Prelude.{◌≡◌, ℕ, ◌≤◌, List, All, length, map, Option, option_map, IfSome}
use Rattle.ipv4.specs.declared.limits.TheConstants.{MAX_PAYLOAD}
use Rattle.reassembly.specs.declared.gathered.Gathered.{Gathered}
use Rattle.reassembly.specs.declared.pending.Pending.{Pending}
use Rattle.reassembly.specs.Reassembly.{Reassembly, PoolView}

-- a reassembly of which this was gathered
abbrev pub seen : Gathered → Pending → Reassembly
seen gathered state = record { key = state.key; since = state.since; octets = gathered.octets.octets; end = state.end; quote = gathered.quote }

-- what a place shows
pub record PlaceView : Type 0 where
  -- how many octets it has room for
  pub room : ℕ
  -- the datagram that is put together there
  pub datagram : Option Reassembly

abbrev pub place_seen : Option Pending → Gathered → PlaceView
place_seen state gathered = record { room = gathered.octets.room; datagram = option_map (seen gathered) state }

-- no octet stands past the end, where it is known
abbrev pub EndsWithin : Option Reassembly → Type 0
EndsWithin place = IfSome place (λ r. IfSome r.end (λ end. length r.octets ≤ end))

-- what is put together in these places
abbrev pub datagrams : List PlaceView → List (Option Reassembly)
datagrams places = map (λ place. place.datagram) places

abbrev pub pool_seen : ℕ → List PlaceView → PoolView
pool_seen octets places = record { octets = octets; places = datagrams places }

-- places for at most sixteen datagrams, each with room for so many octets, no more than the longest payload has
pub record IsPool (octets : ℕ) (places : List PlaceView) : Type 0 where
  pub few : length places ≤ 16
  pub octets_room : octets ≤ MAX_PAYLOAD
  pub alike : All (λ place. place.room ≡ octets) places
