-- What may happen to a host, one event after another, and what was delivered to it by then.
use Rattle.std.specs.Prelude.{◌≡◌, ℕ, ◌≤◌, ◌<◌, ◌^◌, List, [], ◌∷◌, ◌++◌, All, Contains, is_some, Result, Ok}
use Rattle.std.specs.List.{AllByRecursion}
use Rattle.clock.specs.declared.moment.Moment.{Moment}
use Rattle.frames.specs.declared.drop.DropCause.{DropCause}
use Rattle.frames.specs.declared.meaning.Meaning.{Meaning}
use Rattle.frames.specs.Meaning.{heard}
use Rattle.routes.specs.declared.route.Route.{Route}
use Rattle.interface.specs.Routing.{next_hop}
use Rattle.sockets.specs.Causes as table
use Rattle.sockets.specs.Order.{IsAllowed}
use Rattle.sockets.specs.Timing as timing
use Rattle.sockets.specs.Leaving as leaving
use Rattle.host.specs.Arrival.{IsDelivered}
use Rattle.host.specs.ConfigView.{ConfigView, IsConfig}
use Rattle.host.specs.Emission.{after_emission}
use Rattle.host.specs.HostView.{HostView, new_host, with_sockets}
use Rattle.host.specs.Sound.{IsSoundHost}
use Rattle.host.specs.Ticks.{after_tick}

-- a call of a socket, or that a connection gives way, which is this event of the table; a tick; a frame that is delivered, and whose segment may open a connection with this
-- initial number; or the going out of what is due
pub data Event : Type 0 where
  Calls : table.Event → Event
  Ticks : Moment → Event
  Delivers : Moment → ℕ → List ℕ → Event
  Emits : Moment → Event

-- what an event makes of a host: a call is one that isn't refused
abbrev pub Makes : Event → HostView → HostView → Type 0
Makes (Calls call) old new = IsAllowed old.sockets call × (new ≡ with_sockets old (table.after_event old.sockets call))
Makes (Ticks now) old new = new ≡ after_tick old now
Makes (Delivers now isn octets) old new = (answer : Result (Unit {0}) DropCause) × IsDelivered old now isn octets answer new
Makes (Emits now) old new = new ≡ after_emission old now

-- the initial sequence number of a connection that an event may open has 32 bits
abbrev pub IsNumbered : Event → Type 0
IsNumbered (Calls call) = timing.IsNumbered call
IsNumbered (Delivers now isn octets) = isn < 2 ^ 32
IsNumbered (Ticks now) = Unit {0}
IsNumbered (Emits now) = Unit {0}

-- an event names this moment at the latest, where it names one
abbrev pub IsUpTo : Moment → Event → Type 0
IsUpTo latest (Calls call) = timing.IsUpTo latest call
IsUpTo latest (Delivers now isn octets) = now.0 ≤ latest.0
IsUpTo latest (Ticks now) = now.0 ≤ latest.0
IsUpTo latest (Emits now) = now.0 ≤ latest.0

-- a socket that a call makes has room for three segments
abbrev pub IsSized : Event → Type 0
IsSized (Calls call) = leaving.IsSized call
IsSized (Delivers now isn octets) = Unit {0}
IsSized (Ticks now) = Unit {0}
IsSized (Emits now) = Unit {0}

-- These events, the first one first, lead from a host of this set-up on which nothing happened to this host. Each finds the host sound, as every
-- host is by `Host::sound`.
pub data Runs (c : ConfigView) : List Event → HostView → Type 0 where
  Begins : Runs c [] (new_host c)
  GoesOn : (before : List Event) (event : Event) (old new : HostView) → Runs c before old → IsSoundHost old → IsNumbered event → Makes event old new → Runs c (before ++ event ∷ []) new

-- These events, the first one first, lead on from a host to another one. Each finds the host that it comes to sound.
abbrev pub LeadOn : HostView → List Event → HostView → Type 0
LeadOn h [] last = last ≡ h
LeadOn h (event ∷ rest) last = IsSoundHost h × IsNumbered event × (next : HostView) × Makes event h next × LeadOn next rest last

-- Of the events of a table these are calls of a socket, and `connect` and `sendto` ask these routes, or that a connection gives way; all others come of the host's own events.
abbrev pub IsCall : List Route → table.Event → Type 0
IsCall routes (table.Makes buffers) = Unit {0}
IsCall routes table.MakesDatagrams = Unit {0}
IsCall routes (table.Binds id local) = Unit {0}
IsCall routes (table.Listens id backlog) = Unit {0}
IsCall routes (table.Accepts id) = Unit {0}
IsCall routes (table.Connects now isn id peer routed) = routed ≡ is_some (next_hop routes peer.addr)
IsCall routes (table.Sends id octets) = Unit {0}
IsCall routes (table.Receives id len) = Unit {0}
IsCall routes (table.Shuts id) = Unit {0}
IsCall routes (table.SetsNoDelay id on) = Unit {0}
IsCall routes (table.SetsKeepAlive id every) = Unit {0}
IsCall routes (table.Leaves how id) = Unit {0}
IsCall routes (table.SendsTo id peer octets routed) = routed ≡ is_some (next_hop routes peer.addr)
IsCall routes (table.ReceivesFrom id len) = Unit {0}
IsCall routes (table.Ticks now) = ⊥
IsCall routes (table.Hears now isn source s) = ⊥
IsCall routes (table.Emits goes now) = ⊥
IsCall routes (table.GivesUp lost now) = ⊥
IsCall routes (table.GivesWay meant) = Unit {0}
IsCall routes (table.Unreachable local peer number) = ⊥
IsCall routes (table.HearsDatagram source d) = ⊥

-- what may be asked of a host of this set-up
abbrev pub IsAsked : ConfigView → Event → Type 0
IsAsked c (Calls call) = IsCall c.routes call
IsAsked c (Ticks now) = Unit {0}
IsAsked c (Delivers now isn octets) = Unit {0}
IsAsked c (Emits now) = Unit {0}

-- what is delivered is octets
abbrev pub IsOfOctets : Event → Type 0
IsOfOctets (Delivers now isn octets) = All (λ octet. octet < 256) octets
IsOfOctets (Calls call) = Unit {0}
IsOfOctets (Ticks now) = Unit {0}
IsOfOctets (Emits now) = Unit {0}

-- A list of events that may be asked of it leads to this host, from one of a set-up on which nothing happened. `Host::sound` says so of every host.
pub record HasRun (h : HostView) : Type 0 where
  pub config : ConfigView
  pub set_up : IsConfig config
  pub events : List Event
  pub asked : AllByRecursion (IsAsked config) events
  pub runs : Runs config events h

-- .. and all that they deliver is octets. `Host::sound` says so too.
pub record HasRunOnOctets (h : HostView) : Type 0 where
  pub run : HasRun h
  pub octets : AllByRecursion IsOfOctets run.events

-- one of these events was the delivery of octets that are this to a host of this set-up
pub record WasHeard (c : ConfigView) (events : List Event) (meaning : Meaning) : Type 0 where
  pub now : Moment
  pub isn : ℕ
  pub octets : List ℕ
  pub delivered : Contains events (Delivers now isn octets)
  pub meant : heard c.mac c.addr octets ≡ Ok meaning
