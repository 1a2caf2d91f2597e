-- A pool in which a host puts together what another host accepted.
use Rattle.std.specs.Prelude.{◌≡◌, ℕ, List, All}
use Rattle.reassembly.specs.Events.{Event, after_events}
use Rattle.reassembly.specs.Events.Event.{Takes, Ages, GivesWay}
use Rattle.reassembly.specs.Reassembly.{PoolView}
use Rattle.datagram_law.specs.Accepted.{Accepted}
use Rattle.datagram_law.specs.Carried.{IsOfOne}

-- the fragment that is taken, where one is, is of one of these; the time is told, and the oldest gives way, whatever was accepted
abbrev pub TakesOfOne : List Accepted → Event → Type 0
TakesOfOne accepted (Takes now d) = IsOfOne accepted d
TakesOfOne accepted (Ages now) = Unit {0}
TakesOfOne accepted GivesWay = Unit {0}

-- a new pool of so many places, with the same room for octets in each, is this one after events by which nothing else was taken
pub record IsPoolOf (accepted : List Accepted) (pool : PoolView) : Type 0 where
  pub number : ℕ
  pub events : List Event
  pub after : after_events number pool.octets events ≡ pool
  pub taken : All (TakesOfOne accepted) events
