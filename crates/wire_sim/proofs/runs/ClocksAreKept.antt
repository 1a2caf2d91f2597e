-- What a side's clock shows is the moment that its host keeps.
use Rattle.std.proofs.Common.{◌≡◌, inl, inr, ℕ, ◌≤◌, nat_lt, if◌then◌else◌, List, length, sym, ◌∙◌, ap, subst, arith}
use Rattle.std.proofs.lemmas.Bool.Decides.{nat_tests}
use Rattle.clock.specs.declared.moment.Moment.{Moment}
use Rattle.sockets.specs.Causes as table
use Rattle.sockets.specs.Causes.{after_arrival, after_event}
use Rattle.sockets.specs.SocketsView.{SocketsView, later_moment}
use Rattle.sockets.specs.Timing.{AreNear}
use Rattle.sockets.proofs.Numbered.{moment_kept, tick_told}
use Rattle.sockets.proofs.Steps.{later_kept}
use Rattle.host.specs.Emission.{Emission, Replies, Sends, Asks, Nothing, after_emission, emission, goes_out_from, left_by}
use Rattle.host.specs.HostView.{HostView}
use Rattle.host.specs.Runs.{Event as HostEvent, Calls, Ticks, Delivers, Emits, Makes}
use Rattle.host.specs.Ticks.{after_tick, lacks_hop}
use Rattle.datagram_law.specs.Accepted.{Accepted}
use Rattle.sides.specs.declared.side.Side.{Side}
use Rattle.sides.specs.declared.side.Side.TheVariants.{A, B}
use Rattle.wire_sim.specs.declared.event.Answer.{Answer}
use Rattle.wire_sim.specs.declared.event.Event.{Event}
use Rattle.wire_sim.specs.declared.event.Event.TheVariants as event
use Rattle.wire_sim.specs.Exchanges.{EveryClockIsKept, EveryHostIsKept}
use Rattle.wire_sim.specs.HostRuns.{IsKept}
use Rattle.wire_sim.specs.Runs.{IsReached, begins, goes_on, IsStep}
use Rattle.wire_sim.specs.Steps.{with_station, station_after_tick, Steps}
use Rattle.wire_sim.specs.WorldView.{NetworkView, WorldView, station_of, host_of, table_of, clock_of}
use Rattle.wire_sim.proofs.HostsRun.{AreBrought, IsMoved, moved, tables-kept, tables-near}
use Rattle.wire_sim.proofs.datagrams.UserArrives.{TableTakes, Stays, Queues, Hears, Learns}
use Rattle.wire_sim.proofs.hops.OpenConnectionsLead.{delivery-takes}
use Rattle.wire_sim.proofs.runs.ClocksGoOn.{clock-moves}

-- the kept moment doesn't go back between two tables
abbrev GoesOn : SocketsView → SocketsView → Type 0
GoesOn h new = h.kept.0 ≤ new.kept.0

-- What an event makes of the kept moment of a host's table.

goes-on-ticked : (h : HostView) (now : Moment) → (let new = after_tick h now in let later = later_moment h.sockets now in later.0 ≤ new.sockets.kept.0)
goes-on-ticked h now =
    let moment : Moment = later_moment h.sockets now in
    let ticked : SocketsView = after_event h.sockets (table.Ticks moment) in
    let told : moment.0 ≤ ticked.kept.0 = tick_told h.sockets moment in
    let left : GoesOn ticked (after_event ticked (table.GivesUp (lacks_hop h moment) moment)) = moment_kept ticked (table.GivesUp (lacks_hop h moment) moment) in
    omega (arith, told, left)

goes-on-out : (h : HostView) (moment : Moment) (x : Emission) → GoesOn h.sockets (let left = left_by h moment x in left.sockets)
goes-on-out h moment (Replies place) = omega arith
goes-on-out h moment (Sends mac to) = moment_kept h.sockets (table.Emits (goes_out_from h moment) moment)
goes-on-out h moment (Asks hop) = omega arith
goes-on-out h moment Nothing = omega arith

goes-on-taken : (other : List Accepted) (h next : SocketsView) → TableTakes other h next → GoesOn h next
goes-on-taken other h next takes = by_takes takes
  where
    by_event : (e : table.Event) → next ≡ after_event h e → GoesOn h next
    by_event e is = subst (GoesOn h) (sym is) (moment_kept h e)

    by_takes : TableTakes other h next → GoesOn h next
    by_takes (Stays same) = subst (GoesOn h) (sym same) (omega arith)
    by_takes (Queues source d was becomes) = by_event (table.HearsDatagram source d) becomes
    by_takes (Hears moment isn source s after (inl is) becomes) = by_event (table.Hears moment isn source s) (becomes ∙ sym (ap (after_arrival h) is))
    by_takes (Hears moment isn source s after (inr is) becomes) = by_event (table.Hears moment isn source s) (becomes ∙ sym (ap (after_arrival h) is))
    by_takes (Learns local peer number becomes) = by_event (table.Unreachable local peer number) becomes

goes-on-to : (h made new : HostView) → new ≡ made → GoesOn h.sockets made.sockets → GoesOn h.sockets new.sockets
goes-on-to h made new is goes = subst (λ (x : HostView). GoesOn h.sockets x.sockets) (sym is) goes

-- any event
moment-goes-on : (limit : ℕ) (w v : WorldView) (happens : Event) (answer : Answer) → IsReached limit w → IsStep happens answer w v → (side : Side) → GoesOn (table_of w.network side) (table_of v.network side)
moment-goes-on limit w v happens answer run step side = by_move (moved w v happens answer step side)
  where
    old : HostView
    old = host_of w.network side

    new : HostView
    new = host_of v.network side

    by_event : (e : HostEvent) → Makes e old new → AreBrought w.network side happens e → GoesOn old.sockets new.sockets
    by_event (Calls e) makes brings = goes-on-to old _ new makes.1 (moment_kept old.sockets e)
    by_event (Ticks now) makes brings =
        let later = (later_kept old.sockets now).0 in
        let told = goes-on-ticked old now in
        goes-on-to old (after_tick old now) new makes (omega (arith, later, told))
    by_event (Delivers now isn octets) makes brings = let taken = delivery-takes limit w v run happens answer step side now isn octets brings makes in goes-on-taken taken.0 old.sockets new.sockets taken.1
    by_event (Emits now) makes brings = let moment : Moment = later_moment old.sockets now in goes-on-to old (after_emission old now) new makes (goes-on-out old moment (emission old moment))

    by_move : IsMoved w.network (clock_of v.network side) side happens old new → GoesOn old.sockets new.sockets
    by_move (inl same) = goes-on-to old old new same (omega arith)
    by_move (inr (e, numbered, makes, brings, up, own)) = by_event e makes brings

-- A clock is not past the kept moment.

abbrev IsInTime : NetworkView → Side → Type 0
IsInTime n side = (let c = clock_of n side in let t = table_of n side in c.0 ≤ t.kept.0)

-- a tick moves both to the later of the two moments
in-time-ticked : (n : NetworkView) (side : Side) (moment : Moment) → IsInTime n side → IsInTime (with_station n side (station_after_tick (station_of n side) moment)) side
in-time-ticked n side moment before = by_side side told
  where
    latest : (clock moment end : Moment) → clock.0 ≤ end.0 → moment.0 ≤ end.0 → (let l : Moment = if nat_lt clock.0 moment.0 then moment else clock in l.0 ≤ end.0)
    latest clock moment end before up = grind (arith, nat_tests)

    told : (let x = station_after_tick (station_of n side) moment in x.clock.0 ≤ x.host.sockets.kept.0)
    told =
        let h = host_of n side in
        let later = later_kept h.sockets moment in
        let ticked = goes-on-ticked h moment in
        latest (clock_of n side) moment (let left = after_tick h moment in left.sockets.kept) (omega (arith, before, later.0, ticked)) (omega (arith, later.1, ticked))

    by_side : (s : Side) → (let x = station_after_tick (station_of n side) moment in x.clock.0 ≤ x.host.sockets.kept.0) → IsInTime (with_station n s (station_after_tick (station_of n side) moment)) s
    by_side A is = is
    by_side B is = is

in-time : (limit : ℕ) (w : WorldView) → IsReached limit w → (side : Side) → IsInTime w.network side
in-time limit w (begins a b a_is b_is apart few) A = omega arith
in-time limit w (begins a b a_is b_is apart few) B = omega arith
in-time limit _ (goes_on w v happens answer run step) side = elim (clock-moves happens (length w.trace) answer w.network v.network step.network side) [
  | inl same ↦
      let before = in-time limit w run side in
      let goes = moment-goes-on limit w v happens answer run step side in
      let as_before = ap (λ (m : Moment). m.0) same in
      omega (arith, before, goes, as_before)
  | inr tick ↦
      let ticks : Steps (event.Tick side tick.0) (length w.trace) answer w.network v.network = subst (λ (e : Event). Steps e (length w.trace) answer w.network v.network) tick.1 step.network in
      subst (λ (m : NetworkView). IsInTime m side) (sym ticks.1) (in-time-ticked w.network side tick.0 (in-time limit w run side))
]

-- Both are one.

same-moment : (a b : Moment) → a.0 ≤ b.0 → b.0 ≤ a.0 → a ≡ b
same-moment a b up down = let same : a.0 ≡ b.0 = omega (arith, up, down) in ap (λ (n : ℕ). let m : Moment = record { 0 = n } in m) same

pub clocks-kept : EveryClockIsKept
clocks-kept limit w run side =
    let near : AreNear (clock_of w.network side) (table_of w.network side) = tables-near limit w run side in
    same-moment (clock_of w.network side) (let t = table_of w.network side in t.kept) (in-time limit w run side) near.kept

pub hosts-kept : EveryHostIsKept
hosts-kept limit w run side sound =
    let kept : IsKept (clock_of w.network side) (table_of w.network side) = tables-kept limit w run side in
    record { sound = sound; reached = kept.reached; time = kept.time }
