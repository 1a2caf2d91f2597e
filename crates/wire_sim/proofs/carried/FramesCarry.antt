-- What a frame in the network is to the host that may hear it: where that hears a segment, it is a reset, or one that went out by the pairing of
-- the frame's note. So a frame of ARP, or one for a third host, shows nothing.
use Rattle.std.proofs.Common.{◌≡◌, ℕ, ◌⊎◌, inl, inr, true, List, length, Option, Some, Ok, refl}
use Rattle.ether.specs.declared.mac.Mac.{Mac}
use Rattle.ipv4.specs.declared.addr.Addr.{Addr}
use Rattle.ipv4.specs.declared.addr.Pair.{Pair}
use Rattle.tcp_segment.specs.Segment.{Segment}
use Rattle.frames.specs.declared.meaning.ReceivedSegment.{ReceivedSegment}
use Rattle.frames.specs.declared.meaning.Meaning.TheVariants.{Tcp}
use Rattle.frames.specs.Meaning.{heard}
use Rattle.frames.specs.Pairs.{pair_between}
use Rattle.stream_law.specs.Channel.{IsAmong}
use Rattle.stream_law.specs.Pairing.{Emission}
use Rattle.sides.specs.declared.side.Side.{Side}
use Rattle.sides.specs.declared.side.Side.TheVariants.{A, B}
use Rattle.wire_sim.specs.declared.event.Happening.{Happening}
use Rattle.wire_sim.specs.declared.world.bag.Frame.{Frame}
use Rattle.wire_sim.specs.declared.world.bag.Note.{Note}
use Rattle.wire_sim.specs.Openings.{epoch_of}
use Rattle.wire_sim.specs.Steps.{note_of}
use Rattle.wire_sim.specs.Trace.{written}
use Rattle.wire_sim.specs.WorldView.{NetworkView, written_at}
use Rattle.wire_sim.proofs.pairing.EmissionIsMove.{bag_with, among-more}
use Rattle.wire_sim.proofs.pairing.WorldAsPairings.{Sent, Bag, turned}

-- the counts beside the openings are those of the trace
abbrev pub IsTallied : NetworkView → List Happening → Type 0
IsTallied n trace = (side : Side) (pair : Pair) (epoch : ℕ) → written_at n side pair epoch ≡ length (written trace n.openings side pair epoch)

-- what a frame's note says of one side
abbrev pub at_side : Side → Note → ℕ
at_side A note = note.at_a
at_side B note = note.at_b

pub at_side-noted : (n : NetworkView) (pair : Pair) (s : Side) → at_side s (note_of n pair) ≡ written_at n s pair (epoch_of n.openings pair)
at_side-noted n pair A = refl
at_side-noted n pair B = refl

-- the segment is one that went out, and the note says what was written at both ends then
pub record IsSent (from to : Side) (out : Sent) (note : Note) (s : Segment) : Type 0 where
  pub emission : Emission
  pub among : IsAmong emission (out note.pair note.epoch)
  pub segment : emission.segment ≡ s
  pub own_at : at_side from note ≡ emission.own_written
  pub other_at : at_side to note ≡ emission.other_written

-- what was heard at an address is of the frame's note: a reset, or a segment that was sent
pub record IsOf (dst : Addr) (from to : Side) (out : Sent) (o : Option Note) (r : ReceivedSegment) : Type 0 where
  pub note : Note
  pub noted : o ≡ Some note
  pub pair : note.pair ≡ pair_between r.source dst r.segment
  pub kind : (r.segment.flags.rst ≡ true) ⊎ IsSent from to out note r.segment

-- a frame that `from` emitted, as it may be heard at the address of `to`
abbrev pub Carries : Addr → Side → Side → Sent → Frame → Type 0
Carries dst from to out f = (mac : Mac) (r : ReceivedSegment) → heard mac dst f.octets.items ≡ Ok (Tcp r) → IsOf dst from to out f.note r

-- each frame is of our side, for the other's address, or the other way round
abbrev pub Carried : Side → Side → Addr → Addr → Bag → Frame → Type 0
Carried here there a b bag f = ((f.sender ≡ here) × Carries b here there bag.out f) ⊎ ((f.sender ≡ there) × Carries a there here bag.arrived f)

-- as the other side sees it
pub carried-swapped : (here there : Side) (a b : Addr) (bag : Bag) (f : Frame) → Carried here there a b bag f → Carried there here b a (turned bag) f
carried-swapped here there a b bag f (inl c) = inr c
carried-swapped here there a b bag f (inr c) = inl c

-- a frame carries the same where more was sent
pub carried-more : (here there : Side) (a b : Addr) (bag : Bag) (pair : Pair) (epoch : ℕ) (new : Emission) (f : Frame) → Carried here there a b bag f → Carried here there a b (bag_with pair epoch new bag) f
carried-more here there a b bag pair epoch new f (inr c) = inr c
carried-more here there a b bag pair epoch new f (inl c) = inl (
  c.0,
  λ mac r e.
      let k = c.1 mac r e in record {
        note = k.note;
        noted = k.noted;
        pair = k.pair;
        kind = elim k.kind [
          | inl reset ↦ inl reset
          | inr s ↦ inr (record { emission = s.emission; among = among-more pair epoch new s.emission bag.out k.note.pair k.note.epoch s.among; segment = s.segment; own_at = s.own_at; other_at = s.other_at })
        ];
      },
)
