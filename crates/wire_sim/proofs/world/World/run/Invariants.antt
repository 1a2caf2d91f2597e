-- There is room for the results that are still to come; those before stay, each event has one, and they are those of the steps so far.
use Rattle.std.proofs.Common.{◌≡◌, ◌+◌, ◌≤◌, length, take, drop, vec_len, vec_capacity}
use Rattle.wire_sim.specs.RoomyRuns.{RoomyRunsTo}
use Rattle.wire_sim.specs.Runs.{IsReached}
use Rattle.wire_sim.specs.Trace.{StreamLaw}
use Rattle.wire_sim.proofs.world.World.run.Given as goal

abbrev pub invariant-loop-event : goal.invariant-loop-event
invariant-loop-event l =
    (vec_len l.results + length l.events ≤ vec_capacity l.results + l.event-index)
    × (length l.results.items ≡ length l.initial.results.items + l.event-index)
    × (take (length l.initial.results.items) l.results.items ≡ l.initial.results.items)
    × IsReached l.self.seen.network.limit l.self.seen
    × StreamLaw l.self.seen.trace l.self.seen.network.openings
    × RoomyRunsTo (take l.event-index l.events) (drop (length l.initial.results.items) l.results.items) l.initial.self l.self
