-- What a tick makes of the table, and the moment from which it does something.
use Rattle.std.specs.Prelude.{◌≡◌, ◌≤◌, fold, Option, Some, None}
use Rattle.std.specs.List.{Contains, AllByRecursion}
use Rattle.clock.specs.declared.moment.Moment.{Moment}
use Rattle.clock.specs.Moments.{sooner}
use Rattle.sockets.specs.declared.entry.Entry.{Entry}
use Rattle.sockets.specs.Entries.{deadline_of, role_after_tick, tick_fate_of, entries_after_steps}
use Rattle.sockets.specs.SocketsView.{SocketsView, later_moment}

-- each timer acts whose moment has come, at the later of the moment and the kept one, which is then kept; a connection that its
-- caller closed is taken out where its wait is over
abbrev pub after_tick : SocketsView → Moment → SocketsView
after_tick h now = record h { kept = later_moment h now; entries = entries_after_steps (tick_fate_of (later_moment h now)) (role_after_tick (later_moment h now)) h.entries }

-- the least deadline of all entries
abbrev pub least_deadline : SocketsView → Option Moment
least_deadline h = fold (λ least e. sooner least (deadline_of e.role)) None h.entries

-- an entry has this deadline, and none has an earlier one
pub record IsLeastDeadline (h : SocketsView) (moment : Moment) : Type 0 where
  pub has : (e : Entry) × Contains h.entries e × (deadline_of e.role ≡ Some moment)
  pub least : AllByRecursion (λ (e : Entry). (other : Moment) → deadline_of e.role ≡ Some other → moment.0 ≤ other.0) h.entries

-- no entry has a deadline
abbrev pub HasNoDeadline : SocketsView → Type 0
HasNoDeadline h = AllByRecursion (λ (e : Entry). deadline_of e.role ≡ None) h.entries
