-- What a frame that comes to a side's host leaves it to send.
use Rattle.std.proofs.Common.{◌≡◌, ℕ, ◌+◌, ◌≤◌, Bool, true, false, length, Option, Some, None, Result, Ok, Err, refl, sym, ◌∙◌, ap, arith}
use Rattle.std.specs.List.{slice_get}
use Rattle.ipv4.specs.declared.addr.Addr.{Addr}
use Rattle.clock.specs.declared.moment.Moment.{Moment}
use Rattle.tcp_segment.specs.declared.seq.Seq.{Seq}
use Rattle.frames.specs.declared.drop.DropCause.{DropCause}
use Rattle.frames.specs.declared.meaning.Meaning.{Meaning}
use Rattle.frames.specs.Meaning.{heard}
use Rattle.sockets.specs.SocketsView.{later_moment}
use Rattle.host.specs.Arrival.{MeetsHeard}
use Rattle.host.specs.Heard.{heard_by}
use Rattle.host.specs.HostView.{HostView}
use Rattle.host.proofs.Guarded.{meant_by}
use Rattle.sides.specs.declared.side.Side.{Side}
use Rattle.sides.specs.Sides.{other_side}
use Rattle.wire_sim.specs.declared.event.Answer.{Answer}
use Rattle.wire_sim.specs.declared.event.Event.TheVariants as event
use Rattle.wire_sim.specs.declared.world.bag.Frame.{Frame}
use Rattle.wire_sim.specs.Passage.{addr_at, routes_at}
use Rattle.wire_sim.specs.Runs.{IsReached, IsStep}
use Rattle.wire_sim.specs.Steps.{DeliversFrame}
use Rattle.wire_sim.specs.WorldView.{WorldView, clock_of, host_of}
use Rattle.wire_sim.proofs.two_ends.Travels.{delivered}
use Rattle.settling_law.proofs.Drawn.{comes, draws, is_answer}
use Rattle.settling_law.proofs.Left.{weighs}
use Rattle.settling_law.proofs.Loads.{IsMute, leads, load, loads, moment_now}

module _ (limit : ℕ) (w u : WorldView) (side : Side) (index : ℕ) (isn : Seq) (told : Answer) (reached : IsReached limit w) (step : IsStep (event.Deliver side index isn) told w u) where
  abbrev h : HostView
  h = host_of w.network side

  abbrev moment : Moment
  moment = later_moment h.sockets (clock_of w.network side)

  abbrev known : Addr → Bool
  known = leads (addr_at w.network (other_side side)) (routes_at w.network side)

  unticked : (t : Side) (m : Moment) → event.Deliver side index isn ≡ event.Tick t m → ⊥
  unticked t m same = cc

  new_load : load u side ≡ weighs known (host_of u.network side) (clock_of w.network side)
  new_load = loads limit w u (event.Deliver side index isn) told reached step unticked side (host_of u.network side) refl

  at_moment : (g : HostView) → weighs known g moment ≡ weighs known g (clock_of w.network side)
  at_moment g = ap (weighs known g) (moment_now limit w reached side)

  of_meaning : (f : Frame) → slice_get w.network.frames index ≡ Some f → (r : Result (Unit {0}) DropCause) (m : Result Meaning DropCause) → heard_by h f.octets.items ≡ m → MeetsHeard m h moment isn.0 r (host_of u.network side)
      → (load u side ≤ load w side + 1) × (IsMute w index → load u side ≤ load w side)
  of_meaning f there r (Err cause) is met =
      let same : weighs known (host_of u.network side) moment ≡ weighs known h moment = ap (λ (g : HostView). weighs known g moment) met.1 in
      let all : load u side ≤ load w side = omega (arith, new_load, at_moment (host_of u.network side), at_moment h, same) in
      (omega (arith, all), λ quiet. all)
  of_meaning f there r (Ok m) is met =
      let more = comes known h moment (host_of u.network side) isn.0 m r met in
      (omega (arith, new_load, at_moment (host_of u.network side), at_moment h, more, one (is_answer m)), λ quiet. none quiet more)
    where
      one : (b : Bool) → draws b ≤ 1
      one true = omega arith
      one false = omega arith

      none : IsMute w index → weighs known (host_of u.network side) moment ≤ weighs known h moment + draws (is_answer m) → load u side ≤ load w side
      none quiet more =
          let same : f ≡ quiet.f = (let one : Some f ≡ Some quiet.f = sym there ∙ quiet.there in cc) in
          let i = h.interface in
          let answers : is_answer m ≡ true = quiet.mute i.mac i.addr m (ap (λ (x : Frame). heard i.mac i.addr x.octets.items) (sym same) ∙ meant_by h f.octets.items m is) in
          omega (arith, new_load, at_moment (host_of u.network side), at_moment h, more, ap draws answers)

  pub comes_so : (load u side ≤ load w side + 1) × (IsMute w index → load u side ≤ load w side)
  comes_so = by_frame (slice_get w.network.frames index) refl step.network
    where
      by_frame : (o : Option Frame) → slice_get w.network.frames index ≡ o → DeliversFrame side isn.0 (length w.trace) told w.network u.network o → (load u side ≤ load w side + 1) × (IsMute w index → load u side ≤ load w side)
      by_frame None there met = absurd met
      by_frame (Some f) there met =
          let d = delivered h (clock_of w.network side) isn.0 f.octets.items told (host_of u.network side) met.0 in
          of_meaning f there d.0 (heard_by h f.octets.items) refl d.2
