-- An exchange without loss: a minute passes at two hosts, all that is due at the writer's then comes to the reader's, and all that is due there comes back.
use Rattle.std.specs.Prelude.{◌≡◌, ◌⊎◌, ℕ, ◌+◌, ◌-◌, ◌^◌, ◌<◌, min, true, List, [], ◌∷◌, length, None, Some, is_some, Result}
use Rattle.clock.specs.declared.moment.Moment.{Moment}
use Rattle.ipv4.specs.declared.addr.Pair.{Pair}
use Rattle.frames.specs.declared.drop.DropCause.{DropCause}
use Rattle.host.specs.HostView.{HostView}
use Rattle.host.specs.Arrival.{IsDelivered, foreseen}
use Rattle.host.specs.Emission.{emission_len, emission_octets, after_emission}
use Rattle.host.specs.Ticks.{after_tick}
use Rattle.round_law.specs.Alone.{IsKept}

-- the milliseconds that pass in it
abbrev pub a_minute : ℕ
a_minute = 60000

-- how many frames of a host go out in it at most
abbrev pub most_frames : ℕ
most_frames = 64

-- the number that a connection begins with which a frame opens
abbrev pub isn_of_exchange : ℕ
isn_of_exchange = 0

-- the moment a minute later, or the last that 64 bits can tell
abbrev pub minute_past : Moment → Moment
minute_past now = record { 0 = min (now.0 + a_minute) (2 ^ 64 - 1) }

-- a host once a minute has passed
abbrev pub after_minute : HostView → HostView
after_minute h = after_tick h (minute_past h.sockets.kept)

-- a frame with these octets goes out of a host, at the moment that it keeps
pub record IsOut (octets : List ℕ) (old new : HostView) : Type 0 where
  pub kept : IsKept old
  pub some : is_some (emission_len old old.sockets.kept) ≡ true
  pub octets_of : octets ≡ emission_octets old old.sockets.kept
  pub left : new ≡ after_emission old old.sockets.kept

-- these frames go out of it in turn
abbrev pub AreOut : List (List ℕ) → HostView → HostView → Type 0
AreOut [] old new = new ≡ old
AreOut (octets ∷ rest) old new = (h : HostView) × IsOut octets old h × AreOut rest h new

-- a frame comes to a host, which takes or drops it; or it would open a connection there, and a rule of the network keeps it away
abbrev pub IsBrought : List ℕ → HostView → HostView → Type 0
IsBrought octets old new =
    IsKept old
    × (((answer : Result (Unit {0}) DropCause) × IsDelivered old old.sockets.kept isn_of_exchange octets answer new) ⊎ ((pair : Pair) × (foreseen old octets ≡ Some pair) × (new ≡ old)))

-- these frames come to it in order
abbrev pub AreBrought : List (List ℕ) → HostView → HostView → Type 0
AreBrought [] old new = new ≡ old
AreBrought (octets ∷ rest) old new = (h : HostView) × IsBrought octets old h × AreBrought rest h new

-- all that is due at one host comes to another: frames go out until there is none, or as many as may; and each comes there
pub record IsCarried (from to sent taken : HostView) : Type 0 where
  pub kept : IsKept from
  pub frames : List (List ℕ)
  pub out : AreOut frames from sent
  pub ends : ((length frames < most_frames) × (emission_len sent sent.sockets.kept ≡ None)) ⊎ (length frames ≡ most_frames)
  pub brought : AreBrought frames to taken

-- two hosts
pub record Hosts : Type 0 where
  pub writer : HostView
  pub reader : HostView

-- the writer's frames come to the reader's host, and then the reader's to the writer's
pub record IsExchange (old new : Hosts) : Type 0 where
  pub between : Hosts
  pub bringing : IsCarried (after_minute old.writer) (after_minute old.reader) between.writer between.reader
  pub answering : IsCarried between.reader between.writer new.reader new.writer
