-- The clock of a host of a world never goes back.
use Rattle.std.proofs.Common.{◌≡◌, ◌⊎◌, inl, inr, ℕ, ◌≤◌, nat_lt, if◌then◌else◌, ◌∷◌, ◌++◌, [], slice_get, Option, Some, None, refl, sym, ◌∙◌, ap, subst, arith}
use Rattle.std.proofs.lemmas.Bool.Decides.{nat_tests}
use Rattle.clock.specs.declared.moment.Moment.{Moment}
use Rattle.host.specs.Emission.{after_emission}
use Rattle.host.specs.HostView.{HostView}
use Rattle.sides.specs.declared.side.Side.{Side}
use Rattle.sides.specs.declared.side.Side.TheVariants.{A, B}
use Rattle.sides.specs.Sides.{other_side}
use Rattle.wire_sim.specs.declared.event.Answer.{Answer}
use Rattle.wire_sim.specs.declared.event.Answer.TheVariants as reply
use Rattle.wire_sim.specs.declared.event.Call.{Call}
use Rattle.wire_sim.specs.declared.event.Call.TheVariants as call
use Rattle.wire_sim.specs.declared.event.Event.{Event}
use Rattle.wire_sim.specs.declared.event.Event.TheVariants as event
use Rattle.wire_sim.specs.declared.event.Opening.{Opening}
use Rattle.wire_sim.specs.declared.world.bag.Frame.{Frame}
use Rattle.wire_sim.specs.declared.world.bag.Note.{Note}
use Rattle.wire_sim.specs.declared.world.station.Station.{Station}
use Rattle.wire_sim.specs.Openings.{opened_by_connect, opened_by_frame}
use Rattle.wire_sim.specs.Steps.{with_station, with_host, with_opening, after_call, after_delivery, station_after_tick, DeliversFrame, MeetsEmission, Steps}
use Rattle.wire_sim.specs.WorldView.{NetworkView, station_of, host_of, table_of, clock_of}

-- the clocks are those of the stations
clock-again : (n m : NetworkView) (t : Side) → m.a ≡ n.a → m.b ≡ n.b → clock_of m t ≡ clock_of n t
clock-again n m A is_a is_b = ap (λ (x : Station). x.clock) is_a
clock-again n m B is_a is_b = ap (λ (x : Station). x.clock) is_b

host-clock : (n : NetworkView) (s t : Side) (h : HostView) → clock_of (with_host n s h) t ≡ clock_of n t
host-clock n A A h = refl
host-clock n A B h = refl
host-clock n B A h = refl
host-clock n B B h = refl

opened-clock : (n : NetworkView) (o : Option Opening) (t : Side) → clock_of (with_opening n o) t ≡ clock_of n t
opened-clock n None t = refl
opened-clock n (Some o) t = clock-again n (with_opening n (Some o)) t refl refl

called-clock : (s t : Side) (c : Call) (answer : Answer) (place : ℕ) (n : NetworkView) (h : HostView) → clock_of (after_call s c answer place n h) t ≡ clock_of n t
called-clock s t (call.Connect isn id peer) reply.Started place n h = opened-clock (with_host n s h) (opened_by_connect n.openings s id place h.sockets (table_of n (other_side s))) t ∙ host-clock n s t h
called-clock s t (call.Send id octets) (reply.Sent count) place n h = clock-again (with_host n s h) (after_call s (call.Send id octets) (reply.Sent count) place n h) t refl refl ∙ host-clock n s t h
called-clock s t _ _ place n h = host-clock n s t h

delivered-clock : (s t : Side) (place : ℕ) (note : Option Note) (n : NetworkView) (h : HostView) → clock_of (after_delivery s place note n h) t ≡ clock_of n t
delivered-clock s t place None n h = host-clock n s t h
delivered-clock s t place (Some note) n h = opened-clock (with_host n s h) (opened_by_frame n.openings s place note.pair (table_of n s) h.sockets) t ∙ host-clock n s t h

-- a tick tells its moment
later : (clock moment : Moment) → (let l : Moment = if nat_lt clock.0 moment.0 then moment else clock in (clock.0 ≤ l.0) × (moment.0 ≤ l.0))
later clock moment = grind (arith, nat_tests)

-- what a side's clock shows, and the moment of a tick of it, is not after what it shows then
ticked-clock : (n : NetworkView) (s : Side) (moment : Moment) → (let k = clock_of (with_station n s (station_after_tick (station_of n s) moment)) s in let c = clock_of n s in (c.0 ≤ k.0) × (moment.0 ≤ k.0))
ticked-clock n A moment = later (clock_of n A) moment
ticked-clock n B moment = later (clock_of n B) moment

-- no earlier than a clock that shows the same
as-late : (before after : Moment) → after ≡ before → before.0 ≤ after.0
as-late before after same = omega (arith, ap (λ (m : Moment). m.0) same)

-- a clock stays but where its side is ticked
abbrev pub StaysOrTicks : Event → Side → NetworkView → NetworkView → Type 0
StaysOrTicks happens t n m = (clock_of m t ≡ clock_of n t) ⊎ ((moment : Moment) × (happens ≡ event.Tick t moment))

ticked-or : (n : NetworkView) (s t : Side) (moment : Moment) → StaysOrTicks (event.Tick s moment) t n (with_station n s (station_after_tick (station_of n s) moment))
ticked-or n A A moment = inr (moment, refl)
ticked-or n A B moment = inl refl
ticked-or n B A moment = inl refl
ticked-or n B B moment = inr (moment, refl)

pub clock-moves : (happens : Event) (place : ℕ) (answer : Answer) (n m : NetworkView) → Steps happens place answer n m → (t : Side) → StaysOrTicks happens t n m
clock-moves (event.Call s c) place answer n m step t = inl (ap (λ v. clock_of v t) step.1 ∙ called-clock s t c answer place n (host_of m s))
clock-moves (event.Tick s moment) place answer n m step t = subst (StaysOrTicks (event.Tick s moment) t n) (sym step.1) (ticked-or n s t moment)
clock-moves (event.Emit s) place answer n m step t = by_answer answer step
  where
    by_answer : (answer : Answer) → MeetsEmission s answer n m → StaysOrTicks (event.Emit s) t n m
    by_answer (reply.Frame index len) step =
        let h = after_emission (host_of n s) (clock_of n s) in
        let k : NetworkView = record (with_host n s h) { frames = n.frames ++ step.frame ∷ [] } in
        inl (ap (λ v. clock_of v t) step.after ∙ (clock-again (with_host n s h) k t refl refl ∙ host-clock n s t h))
    by_answer reply.NoFrame step = inl (ap (λ v. clock_of v t) step.after)
    by_answer _ step = absurd step
clock-moves (event.Deliver s index isn) place answer n m step t = by_frame (slice_get n.frames index) step
  where
    by_frame : (o : Option Frame) → DeliversFrame s isn.0 place answer n m o → StaysOrTicks (event.Deliver s index isn) t n m
    by_frame None step = absurd step
    by_frame (Some f) step = inl (ap (λ v. clock_of v t) step.1 ∙ delivered-clock s t place f.note n (host_of m s))

pub clock-goes-on : (happens : Event) (place : ℕ) (answer : Answer) (n m : NetworkView) → Steps happens place answer n m → (t : Side) → (let c = clock_of n t in let k = clock_of m t in c.0 ≤ k.0)
clock-goes-on happens place answer n m step t = elim (clock-moves happens place answer n m step t) [
  | inl same ↦ as-late (clock_of n t) (clock_of m t) same
  | inr tick ↦
      let ticks : Steps (event.Tick t tick.0) place answer n m = subst (λ (e : Event). Steps e place answer n m) tick.1 step in
      subst (λ (v : NetworkView). let c = clock_of n t in let k = clock_of v t in c.0 ≤ k.0) (sym ticks.1) (ticked-clock n t tick.0).0
]

pub tick-told : (s : Side) (moment : Moment) (place : ℕ) (answer : Answer) (n m : NetworkView) → Steps (event.Tick s moment) place answer n m → (let k = clock_of m s in moment.0 ≤ k.0)
tick-told s moment place answer n m step = subst (λ (v : NetworkView). let k = clock_of v s in moment.0 ≤ k.0) (sym step.1) (ticked-clock n s moment).1
