-- What a frame's note says, told by the trace: where in the trace the frame went out, which pair's segment it carries, and what the trace and
-- the openings said of that pair by then. So whether a frame is late can be told with no note.
use Rattle.std.specs.Prelude.{◌≡◌, ℕ, ◌-◌, ◌<◌, ◌≤◌, nat_lt, List, length, take, filter, Option, Some, IfSome, option_map, slice_get, ◌⊎◌, ◌↔◌}
use Rattle.ipv4.specs.declared.addr.Pair.{Pair}
use Rattle.tcp_segment.specs.declared.seq.Seq.{Seq}
use Rattle.frames.specs.Pairs.{pair_in}
use Rattle.sides.specs.declared.side.Side.{Side}
use Rattle.sides.specs.declared.side.Side.TheVariants.{A, B}
use Rattle.wire_sim.specs.declared.event.Event.TheVariants as event
use Rattle.wire_sim.specs.declared.event.Answer.TheVariants as reply
use Rattle.wire_sim.specs.declared.event.Opening.{Opening}
use Rattle.wire_sim.specs.declared.event.Unfair.TheVariants.{OtherEpoch, Stale}
use Rattle.wire_sim.specs.declared.world.bag.Frame.{Frame}
use Rattle.wire_sim.specs.declared.world.bag.Note.{Note}
use Rattle.wire_sim.specs.Openings.{epoch_of}
use Rattle.wire_sim.specs.Runs.{written_len, unfair, IsReached}
use Rattle.sides.specs.Sides.{other_side}
use Rattle.wire_sim.specs.Trace.{written}
use Rattle.wire_sim.specs.WorldView.{WorldView}

-- the openings that were made before a place in the trace
abbrev pub openings_before : ℕ → List Opening → List Opening
openings_before place openings = filter (λ o. nat_lt o.place place) openings

-- the epoch that a pair was in there
abbrev pub epoch_before : WorldView → ℕ → Pair → ℕ
epoch_before w place pair = epoch_of (openings_before place w.network.openings) pair

-- how many octets were written by then at a side for a pair in an epoch
abbrev pub written_before : WorldView → ℕ → Side → Pair → ℕ → ℕ
written_before w place side pair epoch = length (written (take place w.trace) (openings_before place w.network.openings) side pair epoch)

-- the pair of the segment that a frame carries, whoever that is for, and none where it carries no segment
abbrev pub carried_pair : Frame → Option Pair
carried_pair f = pair_in f.octets.items

-- at this place in the trace a side put the frame with this index into the network
abbrev pub IsEmission : WorldView → ℕ → Side → ℕ → Type 0
IsEmission w place side index = (len : ℕ) × (slice_get w.trace place ≡ Some (record { event = event.Emit side; answer = reply.Frame index len }))

-- a note says of its pair what was so before a place in the trace
pub record IsNoteAt (w : WorldView) (place : ℕ) (note : Note) : Type 0 where
  pub epoch : note.epoch ≡ epoch_before w place note.pair
  pub at_a : note.at_a ≡ written_before w place A note.pair note.epoch
  pub at_b : note.at_b ≡ written_before w place B note.pair note.epoch

-- A frame went out at one place in the trace. It has a note exactly where it carries a segment: of that segment's pair, and of that place.
pub record IsTraced (w : WorldView) (index : ℕ) (f : Frame) : Type 0 where
  pub place : ℕ
  pub emitted : IsEmission w place f.sender index
  pub only : (p : ℕ) (side : Side) → IsEmission w p side index → p ≡ place
  pub pair : option_map (λ (note : Note). note.pair) f.note ≡ carried_pair f
  pub note : IfSome f.note (IsNoteAt w place)

-- each frame in the network
abbrev pub EveryNoteIsTraced : Type 0
EveryNoteIsTraced = (limit : ℕ) (w : WorldView) → IsReached limit w → (index : ℕ) (f : Frame) → slice_get w.network.frames index ≡ Some f → IsTraced w index f

-- how many octets a side wrote for a pair in an epoch since a place in the trace
abbrev pub written_since : WorldView → ℕ → Side → Pair → ℕ → ℕ
written_since w place side pair epoch = written_len w side pair epoch - written_before w place side pair epoch

-- the pair's epoch rose since
abbrev pub HasRisen : WorldView → ℕ → Pair → Type 0
HasRisen w place pair = epoch_before w place pair < epoch_of w.network.openings pair

-- the pair is in the epoch that it was in, and one of its sides wrote the limit or more since
abbrev pub HasGrown : WorldView → ℕ → Pair → Type 0
HasGrown w place pair =
    let epoch = epoch_before w place pair in
    (epoch_of w.network.openings pair ≡ epoch) × ((w.network.limit ≤ written_since w place A pair epoch) ⊎ (w.network.limit ≤ written_since w place B pair epoch))

-- A frame of the other side is refused for its age by the trace alone: as one of another epoch exactly where the epoch of the pair that it carries
-- rose since it went out, and as a stale one exactly where it did not and a side wrote too much since.
abbrev pub EveryDelayIsTraced : Type 0
EveryDelayIsTraced = (limit : ℕ) (w : WorldView) → IsReached limit w → (side : Side) (index : ℕ) (isn : Seq) (f : Frame) (place : ℕ)
    → slice_get w.network.frames index ≡ Some f → IsEmission w place (other_side side) index
    → ((unfair w (event.Deliver side index isn) ≡ Some OtherEpoch) ↔ ((pair : Pair) × (carried_pair f ≡ Some pair) × HasRisen w place pair))
    × ((unfair w (event.Deliver side index isn) ≡ Some Stale) ↔ ((pair : Pair) × (carried_pair f ≡ Some pair) × HasGrown w place pair))
