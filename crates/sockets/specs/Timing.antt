-- What every connection of the table keeps of its timers and of its congestion window, and how far its timers may lie ahead.
use Rattle.std.specs.Prelude.{◌≡◌, ◌+◌, ◌≤◌, ◌<◌, ◌^◌, List, [], ◌∷◌, Some, None}
use Rattle.std.specs.List.{AllByRecursion}
use Rattle.clock.specs.declared.moment.Moment.{Moment}
use Rattle.retransmit.specs.declared.timers.TimerKind.{TimerKind}
use Rattle.retransmit.specs.Deadlines.{deadline_of}
use Rattle.tcp_state.specs.View.{View}
use Rattle.tcp_state.specs.Congestion.{KeepsCongestion}
use Rattle.tcp_state.specs.Timing.{KeepsTime}
use Rattle.sockets.specs.declared.entry.Entry.{Entry}
use Rattle.sockets.specs.declared.role.Role.{Role}
use Rattle.sockets.specs.declared.role.Role.TheVariants.{Idle, Listener, Connected, Datagrams}
use Rattle.sockets.specs.SocketsView.{SocketsView}
use Rattle.sockets.specs.Causes.{Event, Connects, Ticks, Hears, Emits, GivesUp, after_event}
use Rattle.sockets.specs.Sound.{IsSoundTable}

-- the timers of a connection run exactly where something waits for them, and its congestion window is one that events lead to
abbrev pub KeepsTimeIn : Role → Type 0
KeepsTimeIn (Connected c listener) = KeepsTime c × KeepsCongestion c
KeepsTimeIn (Listener local backlog) = Unit {0}
KeepsTimeIn (Idle buffers bound) = Unit {0}
KeepsTimeIn (Datagrams bound socket) = Unit {0}

-- so it is for each connection of the table
abbrev pub EachKeepsTime : SocketsView → Type 0
EachKeepsTime h = AllByRecursion (λ (e : Entry). KeepsTimeIn e.role) h.entries

-- the initial sequence number of a connection that an event may open has 32 bits
abbrev pub IsNumbered : Event → Type 0
IsNumbered (Connects now isn id peer routed) = isn < 2 ^ 32
IsNumbered (Hears now isn source s) = isn < 2 ^ 32
IsNumbered _ = Unit {0}

-- each event of a list comes to a table whose connections are sound, and opens none but with a number of 32 bits
abbrev pub AreSound : SocketsView → List Event → Type 0
AreSound h [] = Unit {0}
AreSound h (e ∷ rest) = IsSoundTable h × IsNumbered e × AreSound (after_event h e) rest

-- a connection counts its wait, that for its hop and that for a silent peer from this moment at the latest, and each of its timers runs until a minute past it at the latest; by then it drew what it did for segments that aren't used
pub record IsNear (latest : Moment) (c : View) : Type 0 where
  pub since : c.since.0 ≤ latest.0
  pub unheard : (since : Moment) → c.unheard ≡ Some since → since.0 ≤ latest.0
  pub timers : (kind : TimerKind) (deadline : Moment) → deadline_of c.timers kind ≡ Some deadline → deadline.0 ≤ latest.0 + 60000
  pub asked : c.alive.since.0 ≤ latest.0
  pub drawn : c.guard.latest.0 ≤ latest.0

abbrev pub IsNearIn : Moment → Role → Type 0
IsNearIn latest (Connected c listener) = IsNear latest c
IsNearIn latest (Listener local backlog) = Unit {0}
IsNearIn latest (Idle buffers bound) = Unit {0}
IsNearIn latest (Datagrams bound socket) = Unit {0}

-- so it is for each connection of the table, whose kept moment is this one at the latest
pub record AreNear (latest : Moment) (h : SocketsView) : Type 0 where
  pub kept : h.kept.0 ≤ latest.0
  pub each : AllByRecursion (λ (e : Entry). IsNearIn latest e.role) h.entries

-- no connection of the table asks a silent peer whether it is there
abbrev pub AsksNone : Role → Type 0
AsksNone (Connected c listener) = c.alive.every ≡ None
AsksNone (Listener local backlog) = Unit {0}
AsksNone (Idle buffers bound) = Unit {0}
AsksNone (Datagrams bound socket) = Unit {0}

abbrev pub NoneAsks : SocketsView → Type 0
NoneAsks h = AllByRecursion (λ (e : Entry). AsksNone e.role) h.entries

-- an event names this moment at the latest, where it names one
abbrev pub IsUpTo : Moment → Event → Type 0
IsUpTo latest (Connects now isn id peer routed) = now.0 ≤ latest.0
IsUpTo latest (Ticks now) = now.0 ≤ latest.0
IsUpTo latest (Hears now isn source s) = now.0 ≤ latest.0
IsUpTo latest (Emits goes now) = now.0 ≤ latest.0
IsUpTo latest (GivesUp lost now) = now.0 ≤ latest.0
IsUpTo latest _ = Unit {0}
