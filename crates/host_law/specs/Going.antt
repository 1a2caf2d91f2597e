-- Frames that go out, and what they carry of our stream (RFC 9293 section 3.8).
use Rattle.std.specs.Prelude.{◌≡◌, ◌⊎◌, ℕ, ◌+◌, ◌-◌, ◌<◌, ◌≤◌, true, false, List, ◌∷◌, length, slice_get, Some, Ok}
use Rattle.clock.specs.declared.moment.Moment.{Moment}
use Rattle.ether.specs.declared.mac.Mac.{Mac}
use Rattle.ipv4.specs.declared.addr.Addr.{Addr}
use Rattle.tcp_segment.specs.Segment.{Segment, span_of}
use Rattle.tcp_segment.specs.Wire.{past}
use Rattle.frames.specs.declared.meaning.Meaning.TheVariants.{Tcp}
use Rattle.frames.specs.Meaning.{heard}
use Rattle.tcp_state.specs.View.{View, is_closed}
use Rattle.sockets.specs.declared.entry.SocketId.{SocketId}
use Rattle.host.specs.ConfigView.{ConfigView}
use Rattle.host.specs.Emission.{emission_octets}
use Rattle.host.specs.Runs.{Emits}
use Rattle.host_law.specs.Callers.{closed_at, sent_on}
use Rattle.host_law.specs.Coming.{TellsWindow}
use Rattle.host_law.specs.History.{Step, Once, connection_of}
use Rattle.host_law.specs.Positions.{snd_una}

-- A frame goes out by which this segment from one address is heard at another.
pub record GoesOut (source to : Addr) (s : Segment) (step : Step) : Type 0 where
  pub now : Moment
  pub mac : Mac
  pub goes : step.event ≡ Emits now
  pub means : heard mac to (emission_octets step.before now) ≡ Ok (Tcp (record { source = source; segment = s }))

-- A frame goes out, of this connection, whose segment takes this position of our stream: by its SYN, an octet or its FIN.
pub record Takes (c : ConfigView) (id : SocketId) (position : ℕ) (step : Step) (earlier : List Step) : Type 0 where
  pub to : Addr
  pub s : Segment
  pub v : View
  pub goes : GoesOut c.addr to s step
  pub connection : connection_of id step.before ≡ Some v
  pub lives : is_closed v.state ≡ false
  pub local : v.local ≡ record { addr = c.addr; port = s.source }
  pub peer : v.peer ≡ record { addr = to; port = s.destination }
  pub first : snd_una id earlier + past s.number v.sending.una ≤ position
  pub last : position < snd_una id earlier + past s.number v.sending.una + span_of s

-- the octet of this number is the one that `send` took at its position
pub record WasSent (sent : List ℕ) (una position octet : ℕ) : Type 0 where
  pub place : ℕ
  pub at : una + position ≡ place + 1
  pub there : slice_get sent place ≡ Some octet

-- It lies within SND.WND, or is a probe of a closed window.
abbrev pub IsWithinWindow : View → ℕ → Type 0
IsWithinWindow v distance = (distance < v.sending.window) ⊎ ((v.sending.window ≡ 0) × (distance ≡ 0))

-- SND.WND is what is left of the window that a step told, once SND.UNA has this position: as much less as octets, or the FIN, were acknowledged since. So it ends where it was told to end, or is closed.
pub record IsLeftOf (c : ConfigView) (id : SocketId) (una window : ℕ) (step : Step) (earlier : List Step) : Type 0 where
  pub told : ℕ
  pub tells : TellsWindow c id told step earlier
  pub since : snd_una id (step ∷ earlier) ≤ una
  pub left : window ≡ told - ((una - 1) - (snd_una id (step ∷ earlier) - 1))

-- It is of a connection that isn't CLOSED. Its SYN has position 0. Each of its octets is the one that `send` took at its position, and either went out before or lies in the window, which is left of one that a frame of the peer told; and its
-- FIN stands behind all that was taken, where our side was closed.
pub record IsOfStream (c : ConfigView) (source to : Addr) (s : Segment) (step : Step) (earlier : List Step) : Type 0 where
  pub id : SocketId
  pub v : View
  pub connection : connection_of id step.before ≡ Some v
  pub lives : is_closed v.state ≡ false
  pub from : source ≡ c.addr
  pub local : v.local ≡ record { addr = c.addr; port = s.source }
  pub peer : v.peer ≡ record { addr = to; port = s.destination }
  pub syn : s.flags.syn ≡ true → (snd_una id earlier ≡ 0) × (s.number ≡ v.sending.una)
  pub octets : (i octet : ℕ) → slice_get s.octets i ≡ Some octet → WasSent (sent_on id earlier) (snd_una id earlier) (past (s.number + i) v.sending.una) octet
  pub told : 0 < length s.octets → Once (IsLeftOf c id (snd_una id earlier) v.sending.window) earlier
  pub window : (i octet : ℕ) → slice_get s.octets i ≡ Some octet → Once (Takes c id (snd_una id earlier + past (s.number + i) v.sending.una)) earlier ⊎ IsWithinWindow v (past (s.number + i) v.sending.una)
  pub end : s.flags.fin ≡ true → (snd_una id earlier + past (s.number + length s.octets) v.sending.una ≡ length (sent_on id earlier) + 1) × Once (λ step earlier. closed_at id step.event ≡ true) earlier

-- octets, a FIN or a SYN take numbers
abbrev pub TakesNumbers : Segment → Type 0
TakesNumbers s = (0 < length s.octets) ⊎ ((s.flags.fin ≡ true) ⊎ (s.flags.syn ≡ true))

-- what goes out and takes numbers is of the stream of one
abbrev pub SendsWhatWasTaken : ConfigView → Step → List Step → Type 0
SendsWhatWasTaken c step earlier = (source to : Addr) (s : Segment) → GoesOut source to s step → TakesNumbers s → IsOfStream c source to s step earlier
