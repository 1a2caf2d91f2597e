-- What is planned to go out for the table: for the first of what the entries have due, in the order of their turns, for which a frame can.
use Rattle.std.specs.Prelude.{ℕ, ◌≡◌, true, Option, Some, None, option_and_then, slice_get}
use Rattle.ipv4.specs.declared.addr.Addr.{Addr}
use Rattle.ipv4.specs.declared.addr.Endpoint.{Endpoint}
use Rattle.clock.specs.declared.moment.Moment.{Moment}
use Rattle.arp.specs.Cache.{may_ask}
use Rattle.interface.specs.declared.way.Way.{Way}
use Rattle.interface.specs.declared.way.Way.TheVariants.{To, Ask, Waits}
use Rattle.interface.specs.Ways.{way}
use Rattle.marks.specs.First.{first_from}
use Rattle.sockets.specs.Emission.{IsNextAt}
use Rattle.sockets.specs.Entries.{IsDueAt, due_to, sends}
use Rattle.sockets.specs.declared.emission.Outgoing.{Outgoing}
use Rattle.host.specs.HostView.{HostView}
use Rattle.host.specs.Emission.{Emission, Sends, Asks, Nothing, goes_out_from}
use Rattle.host.specs.declared.emission.Plan.{Plan}
use Rattle.host.specs.declared.emission.Plan.TheVariants as plan

-- what goes out by it
abbrev pub planned : Plan → Emission
planned (plan.Send place outgoing mac to) = Sends mac to
planned (plan.Ask hop) = Asks hop

abbrev pub planned_or_nothing : Option Plan → Emission
planned_or_nothing None = Nothing
planned_or_nothing (Some p) = planned p

-- what can go out for the entry in this place, which has this due to this address
abbrev pub plan_by : ℕ → Outgoing → Addr → Way → Option Plan
plan_by place outgoing to (To mac) = Some (plan.Send place outgoing mac to)
plan_by place outgoing to (Ask hop) = Some (plan.Ask hop)
plan_by place outgoing to Waits = None

-- or which has this due and to this peer, where something is
abbrev pub plan_to : HostView → Moment → ℕ → Option (Endpoint × Outgoing) → Option Plan
plan_to h moment place None = None
plan_to h moment place (Some due) = plan_by place due.1 due.0.addr (way h.interface moment due.0.addr)

-- for the entry in this place
abbrev pub plan_at : HostView → Moment → ℕ → Option Plan
plan_at h moment place = option_and_then (λ e. plan_to h moment place (due_to (goes_out_from h moment) e.role)) (slice_get h.sockets.entries place)

-- or for the first from this place on for which a frame can go out
abbrev pub plan_from : HostView → Moment → ℕ → Option Plan
plan_from h moment from = option_and_then (plan_at h moment) (first_from (sends (goes_out_from h moment)) from h.sockets.entries)

-- an entry in whose place something goes out is the one whose turn it is, of those for which a frame can, and has just that to send first; and a request may go out that does
abbrev pub IsFirst : HostView → Moment → Plan → Type 0
IsFirst h moment (plan.Send place outgoing mac to) = IsNextAt h.sockets (goes_out_from h moment) place outgoing × IsDueAt h.sockets.entries place outgoing
IsFirst h moment (plan.Ask hop) = may_ask moment hop h.interface.cache.asked ≡ true
