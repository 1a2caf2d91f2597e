-- Who waits at a listener, and who of them is offered to its caller (POSIX listen and accept).
use Rattle.std.specs.Prelude.{◌≡◌, ◌≤◌, ◌==◌, ◌&&◌, not, Bool, List, [], ◌∷◌, length, count_by}
use Rattle.std.specs.List.{list_any, AllByRecursion}
use Rattle.ipv4.specs.declared.addr.Addr.{Addr}
use Rattle.tcp_halves.specs.declared.buffers.Manner.{Manner}
use Rattle.sockets.specs.declared.sizes.Sizes.{Sizes}
use Rattle.sockets.specs.declared.entry.SocketId.{SocketId}
use Rattle.sockets.specs.declared.entry.Entry.{Entry}
use Rattle.sockets.specs.declared.role.Role.{Role}
use Rattle.sockets.specs.Entries.{is_pending, is_left, is_in_syn_received, is_waiting_at, waits_at, backlog_of}
use Rattle.sockets.specs.SocketsView.{SocketsView, new_sockets}
use Rattle.sockets.specs.Causes.{Event, after_event}
use Rattle.sockets.specs.Traffic.{after_events}
use Rattle.sockets.specs.Order.{IsAllowed}

-- each event of a list is allowed in the table that those before it leave
abbrev pub AreAllowed : SocketsView → List Event → Type 0
AreAllowed h [] = Unit {0}
AreAllowed h (e ∷ rest) = IsAllowed h e × AreAllowed (after_event h e) rest

-- a table that events lead to from a new one, each of them allowed
pub record IsReached (h : SocketsView) : Type 0 where
  pub addr : Addr
  pub manner : Manner
  pub sizes : Sizes
  pub events : List Event
  pub allowed : AreAllowed (new_sockets addr manner sizes) events
  pub is : after_events (new_sockets addr manner sizes) events ≡ h

-- A connection is ready that waits at a listener to be accepted and has passed SYN-RECEIVED, also one that was reset since. One that was aborted with
-- its listener is left, and waits no longer.
abbrev pub is_ready : Role → Bool
is_ready role = is_pending role && not (is_left role) && not (is_in_syn_received role)

-- the entry of this id is ready
abbrev pub is_ready_as : SocketId → Entry → Bool
is_ready_as id e = (e.id.0 == id.0) && is_ready e.role

abbrev pub is_ready_id : List Entry → SocketId → Bool
is_ready_id entries id = list_any (is_ready_as id) entries

-- the entry of this id is ready, and waits at this listener
abbrev pub is_ready_at : SocketId → SocketId → Entry → Bool
is_ready_at listener id e = is_ready_as id e && waits_at listener e.role

abbrev pub is_id : SocketId → SocketId → Bool
is_id id x = x.0 == id.0

-- at each listener wait at most as many connections as its backlog allows, and at another entry none
abbrev pub KeepsBacklogs : SocketsView → Type 0
KeepsBacklogs h = AllByRecursion (λ (e : Entry). count_by (is_waiting_at e.id) h.entries ≤ backlog_of e.role) h.entries

-- Those offered are those that are ready: an id stands among them as often as the table has an entry of this id that is ready, at most once. So there
-- are as many, and no more than the table has entries, which are as many at most as it was made for.
pub record OffersReady (h : SocketsView) : Type 0 where
  pub each : (id : SocketId) → count_by (is_id id) h.offered ≡ count_by (is_ready_as id) h.entries
  pub once : (id : SocketId) → count_by (is_id id) h.offered ≤ 1
  pub number : length h.offered ≡ count_by (λ (e : Entry). is_ready e.role) h.entries
  pub within : length h.offered ≤ length h.entries
  pub few : length h.entries ≤ h.sizes.entries
