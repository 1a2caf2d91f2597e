-- What happened to a host, one event after another.
use Rattle.std.specs.Prelude.{◌⊎◌, List, [], ◌∷◌, Option, Some, None, option_and_then}
use Rattle.tcp_state.specs.View.{View}
use Rattle.sockets.specs.declared.entry.SocketId.{SocketId}
use Rattle.sockets.specs.Closing.{entry_of}
use Rattle.sockets.specs.Entries.{in_connection}
use Rattle.host.specs.ConfigView.{ConfigView}
use Rattle.host.specs.HostView.{HostView}
use Rattle.host.specs.Runs.{Event, Runs, Begins, GoesOn}

-- an event, the host that it found and the host that it left
pub record Step : Type 0 where
  pub before : HostView
  pub event : Event
  pub after : HostView

-- what a run was, the latest step first
abbrev pub history : {c : ConfigView} {events : List Event} {h : HostView} → Runs c events h → List Step
history Begins = []
history (GoesOn earlier event old new runs sound numbered makes) = record { before = old; event = event; after = new } ∷ history runs

-- one of these steps is such, given those before it
abbrev pub Once : (Step → List Step → Type 0) → List Step → Type 0
Once Is [] = ⊥
Once Is (step ∷ earlier) = Is step earlier ⊎ Once Is earlier

-- each of them is
abbrev pub Always : (Step → List Step → Type 0) → List Step → Type 0
Always Is [] = Unit {0}
Always Is (step ∷ earlier) = Is step earlier × Always Is earlier

-- the connection that an id names at a host, in any state
abbrev pub connection_of : SocketId → HostView → Option View
connection_of id h = option_and_then (λ e. in_connection None (λ c. Some c) e.role) (entry_of h.sockets id)
