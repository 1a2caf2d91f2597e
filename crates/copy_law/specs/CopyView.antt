-- What a copy has come to.
use Rattle.std.specs.Prelude.{ℕ, Bool, List, Option}
use Rattle.clock.specs.declared.moment.Moment.{Moment}
use Rattle.sockets.specs.declared.entry.SocketId.{SocketId}
use Rattle.sides.specs.declared.side.Side.{Side}
use Rattle.sides.specs.declared.side.Side.TheVariants.{A, B}
use Rattle.devices.specs.Passages.{Passage}
use Rattle.host.specs.HostView.{HostView}

-- Two hosts and their one clock, the socket by which a writes and the one by which b reads, once b has accepted it; whether b has held the pair
-- of a frame that it took; how many octets a may be given at most; what passed through the link; and what was written and read, whether a's side
-- was closed, and whether b was told the end.
pub record CopyView : Type 0 where
  pub a : HostView
  pub b : HostView
  pub clock : Moment
  pub sender : SocketId
  pub receiver : Option SocketId
  pub opened : Bool
  pub allowance : ℕ
  pub told : List Passage
  pub sent : List ℕ
  pub read : List ℕ
  pub closed : Bool
  pub ended : Bool

-- the host of a side
abbrev pub host_at : CopyView → Side → HostView
host_at v A = v.a
host_at v B = v.b

-- the host of a side is this, and all else as it was
abbrev pub with_host_at : CopyView → Side → HostView → CopyView
with_host_at v A h = record v { a = h }
with_host_at v B h = record v { b = h }
