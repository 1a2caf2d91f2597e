-- A frame that a host of the network wrote, and put among the frames.
use Rattle.std.proofs.Common.{◌≡◌, ◌∙◌, ℕ, ◌≤◌, List, [], ◌∷◌, ◌++◌, length, take, drop, replicate, Option, Some, None, option_map, refl, sym, ap, subst, arith}
use Rattle.std.specs.Option.{IfSome, OnSome}
use Rattle.std.proofs.lemmas.List.{length-replicate}
use Rattle.ipv4.specs.declared.addr.Pair.{Pair}
use Rattle.clock.specs.declared.moment.Moment.{Moment}
use Rattle.sides.specs.declared.side.Side.{Side}
use Rattle.sides.specs.declared.side.Side.TheVariants.{A, B}
use Rattle.wire_sim.specs.declared.world.bag.Frame.{Frame}
use Rattle.wire_sim.specs.declared.world.station.Station.{Station}
use Rattle.host.specs.HostView.{HostView}
use Rattle.host.specs.Emission.{after_emission, emission_len, emission_octets, emission_front}
use Rattle.frames.specs.Pairs.{pair_in}
use Rattle.wire_sim.specs.Steps.{with_station, with_host, note_of, EmitsFrame}
use Rattle.wire_sim.specs.WorldView.{NetworkView, station_of, host_of, clock_of}
use Rattle.wire_sim.proofs.emission.EmittedOctets.{take_written, emission_front-due}

-- what a host makes of itself as its segment goes out, at its own clock
abbrev pub emitted_from : NetworkView → Side → NetworkView
emitted_from n side = with_host n side (after_emission (host_of n side) (clock_of n side))

-- A side's host wrote a frame of this length to the front of a buffer, and nothing else changed.
pub record WroteFrame (side : Side) (len : ℕ) (out : List ℕ) (old new : NetworkView) : Type 0 where
  pub due : emission_len (host_of old side) (clock_of old side) ≡ Some len
  pub short : len ≤ 1514
  pub whole : length out ≡ 1514
  pub front : out ≡ emission_front (host_of old side) (clock_of old side) (replicate 1514 0)
  pub after : new ≡ emitted_from old side
  pub frames : new.frames ≡ old.frames

-- What a station tells of what it wrote.
pub record StationWrote (s new : Station) (answer : Option ℕ) (out : List ℕ) : Type 0 where
  pub answered : answer ≡ emission_len s.host s.clock
  pub bound : IfSome answer (λ len. len ≤ 1514)
  pub front : out ≡ emission_front s.host s.clock (replicate 1514 0)
  pub whole : length out ≡ 1514
  pub after : OnSome answer (new ≡ record s { host = after_emission s.host s.clock })

wrote_on : (side : Side) (len : ℕ) (out : List ℕ) (answer : Option ℕ) (s : Station) (old : NetworkView) → answer ≡ Some len → StationWrote (station_of old side) s answer out → WroteFrame side len out old (with_station old side s)
wrote_on side len out None s old some w = cc
wrote_on A len out (Some m) s old some w =
    let same : m ≡ len = cc in
    record {
      due = sym w.answered ∙ some;
      short = omega (arith, same, w.bound);
      whole = w.whole;
      front = w.front;
      after = ap (λ (t : Station). with_station old A t) w.after;
      frames = refl;
    }
wrote_on B len out (Some m) s old some w =
    let same : m ≡ len = cc in
    record {
      due = sym w.answered ∙ some;
      short = omega (arith, same, w.bound);
      whole = w.whole;
      front = w.front;
      after = ap (λ (t : Station). with_station old B t) w.after;
      frames = refl;
    }

-- the host of the side that was asked wrote a frame
pub wrote_frame : (on side : Side) (len : ℕ) (out written : List ℕ) (answer told : Option ℕ) (s : Station) (old new : NetworkView) → side ≡ on → out ≡ written → answer ≡ told → answer ≡ Some len → new ≡ with_station old on s → StationWrote (station_of old on) s told written → WroteFrame side len out old new
wrote_frame on side len out written answer told s old new e1 e2 e3 some e4 w =
    subst (λ (x : Side). WroteFrame x len out old new) (sym e1)
    (subst (λ (ws : List ℕ). WroteFrame on len ws old new) (sym e2)
    (subst (λ (n : NetworkView). WroteFrame on len written old n) (sym e4) (wrote_on on len written told s old (sym e3 ∙ some) w)))

-- the front of the buffer is the segment's octets
pub front_octets : (side : Side) (len : ℕ) (out : List ℕ) (old new : NetworkView) → WroteFrame side len out old new → take len out ≡ emission_octets (host_of old side) (clock_of old side)
front_octets side len out old new w =
    let zeros : List ℕ = replicate 1514 0 in
    let h : HostView = host_of old side in
    let now : Moment = clock_of old side in
    let front : out ≡ emission_octets h now ++ drop len zeros = w.front ∙ emission_front-due h now zeros len w.due in
    let long : length zeros ≡ 1514 = length-replicate {A = ℕ} 1514 0 in
    ap (λ (ws : List ℕ). take len ws) front
    ∙ take_written (emission_octets h now) zeros len (omega (arith, w.short, long)) (ap (λ (ws : List ℕ). length ws) (sym front) ∙ w.whole ∙ sym long)

-- what is noted of a frame is the same before it went out
noted-before : (n : NetworkView) (side : Side) (h : HostView) (pair : Option Pair) → option_map (note_of (with_host n side h)) pair ≡ option_map (note_of n) pair
noted-before n A h pair = refl
noted-before n B h pair = refl

-- the frame that was put behind the others
pub emits_frame : (side : Side) (index len : ℕ) (out : List ℕ) (old mid : NetworkView) (frame : Frame) (frames : List Frame) → WroteFrame side len out old mid → index ≡ length mid.frames → frame.sender ≡ side → frame.octets.items ≡ take len out
    → frame.note ≡ option_map (note_of mid) (pair_in frame.octets.items) → frames ≡ mid.frames ++ frame ∷ [] → EmitsFrame side index len old (record mid { frames = frames })
emits_frame side index len out old mid frame frames w place sender octets note pushed = record {
  due = w.due;
  place = place ∙ ap (λ (fs : List Frame). length fs) w.frames;
  frame = frame;
  sender = sender;
  octets = octets ∙ front_octets side len out old mid w;
  note = note
      ∙ (ap (λ (n : NetworkView). option_map (note_of n) (pair_in frame.octets.items)) w.after
      ∙ noted-before old side (after_emission (host_of old side) (clock_of old side)) (pair_in frame.octets.items));
  after =
      ap (λ (fs : List Frame). let r : NetworkView = record mid { frames = fs } in r) (pushed ∙ ap (λ (fs : List Frame). fs ++ frame ∷ []) w.frames)
      ∙ ap (λ (n : NetworkView). let r : NetworkView = record n { frames = old.frames ++ frame ∷ [] } in r) w.after;
}
