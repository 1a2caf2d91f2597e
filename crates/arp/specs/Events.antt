-- What happens to a cache, and what is left of it.
use Rattle.std.specs.Prelude.{◌≡◌, ℕ, List, ◌∷◌, ◌++◌, fold, All}
use Rattle.ether.specs.declared.mac.Mac.{Mac}
use Rattle.ipv4.specs.declared.addr.Addr.{Addr}
use Rattle.clock.specs.declared.moment.Moment.{Moment}
use Rattle.arp.specs.declared.packet.ArpPacket.{ArpPacket}
use Rattle.arp.specs.Cache.{Cache, empty, after_hear, after_age, after_ask}

pub data Event : Type 0 where
  -- a packet was heard by a host with this address
  Hear : Moment → ArpPacket → Addr → Event
  -- a request for this address was asked for
  Ask : Moment → Addr → Event
  -- the table was aged
  Age : Moment → Event

-- when it happened
abbrev pub moment_of : Event → Moment
moment_of (Hear now packet ours) = now
moment_of (Ask now addr) = now
moment_of (Age now) = now

abbrev pub after_event : Cache → Event → Cache
after_event cache (Hear now packet ours) = after_hear now packet ours cache
after_event cache (Ask now addr) = after_ask now addr cache
after_event cache (Age now) = after_age now cache

-- the cache of a host that keeps so many pairs at most and to which these events came, the first one first
abbrev pub cache_after : ℕ → List Event → Cache
cache_after most events = fold after_event (empty most) events

-- a packet was heard from this address
abbrev pub IsFrom : Addr → Event → Type 0
IsFrom addr (Hear now packet ours) = packet.sender_addr ≡ addr
IsFrom addr (Ask now other) = ⊥
IsFrom addr (Age now) = ⊥

-- the last packet from this address in these events tells this MAC, and was heard at this moment
pub record IsLastFrom (events : List Event) (addr : Addr) (mac : Mac) (heard : Moment) : Type 0 where
  pub before : List Event
  pub packet : ArpPacket
  pub ours : Addr
  pub after : List Event
  pub events_are : events ≡ before ++ Hear heard packet ours ∷ after
  pub sender_addr : packet.sender_addr ≡ addr
  pub sender_mac : packet.sender_mac ≡ mac
  pub none_after : All (λ event. ¬ IsFrom addr event) after
