-- What holds of a copy after every event: there is a world of the two hosts to which a run led, whose network has the frames that the link
-- took, and whose trace tells what was written and read.
use Rattle.std.proofs.Common.{◌≡◌, ℕ, ◌+◌, ◌*◌, ◌≤◌, ◌^◌, ◌==◌, Bool, false, List, [], ◌∷◌, ◌++◌, length, map, Option, Some, None, refl, ◌∙◌, ap}
use Rattle.std.specs.List.{find, slice_get}
use Rattle.ipv4.specs.declared.addr.Pair.{Pair}
use Rattle.sockets.specs.declared.entry.SocketId.{SocketId}
use Rattle.clock.specs.declared.moment.Moment.{Moment}
use Rattle.host.specs.HostView.{HostView}
use Rattle.host.specs.Sound.{IsSoundHost}
use Rattle.sides.specs.declared.side.Side.{Side}
use Rattle.sides.specs.declared.side.Side.TheVariants.{A, B}
use Rattle.wire_sim.specs.declared.event.Event.{Event}
use Rattle.wire_sim.specs.declared.event.Answer.{Answer}
use Rattle.wire_sim.specs.declared.event.Opening.{Opening}
use Rattle.wire_sim.specs.declared.event.Happening.{Happening}
use Rattle.wire_sim.specs.declared.world.bag.Frame.{Frame}
use Rattle.wire_sim.specs.declared.world.bag.Note.{Note}
use Rattle.wire_sim.specs.Openings.{epoch_of}
use Rattle.wire_sim.specs.Runs.{IsReached, IsNumbered, unfair}
use Rattle.wire_sim.specs.Runs as runs
use Rattle.wire_sim.specs.Steps.{Steps}
use Rattle.wire_sim.specs.Tallies.{is_opening_of, written_by}
use Rattle.wire_sim.specs.Trace.{sent_on, read_on, closed_on, ended_on}
use Rattle.wire_sim.specs.WorldView.{NetworkView, WorldView}
use Rattle.wire_sim.proofs.tables.TableById.{Account}
use Rattle.wire_sim.proofs.told.TraceAndOneMore.{IsQuiet}
use Rattle.wire_sim.proofs.told.AccountAndOneMore.{told-quiet}
use Rattle.devices.specs.Passages.{Passage, frames_taken}
use Rattle.copy_law.specs.CopyView.{CopyView}
use Rattle.copy_law.specs.Course.{most_held}

-- the network of two hosts with one clock
abbrev pub network_of : HostView → HostView → Moment → List Frame → List Opening → List ℕ → NetworkView
network_of a b clock frames openings written = record {
  limit = 2 ^ 30;
  a = record { host = a; clock = clock };
  b = record { host = b; clock = clock };
  frames = frames;
  openings = openings;
  written = written;
}

abbrev pub world_of : HostView → HostView → Moment → List Frame → List Opening → List ℕ → List Happening → WorldView
world_of a b clock frames openings written trace = record { network = network_of a b clock frames openings written; trace = trace }

abbrev pub frame_of : Frame → Side × List ℕ
frame_of f = (f.sender, f.octets.items)

-- What a frame's note says: its pair is still in the epoch in which it went out, and since then a took no more octets than later frames carry,
-- and a buffer more.
pub record IsRecentNote (openings : List Opening) (written : List ℕ) (allowance count k : ℕ) (note : Note) : Type 0 where
  pub epoch : epoch_of openings note.pair ≡ note.epoch
  pub recent : written_by openings written A note.pair note.epoch + allowance + 1460 * (k + 1) ≤ note.at_a + most_held + 1460 * count

-- the frames of the network are those that the link took, each of them recent, and b opened nothing that is not told
pub record AreCarried (told : List Passage) (allowance : ℕ) (opened : Bool) (frames : List Frame) (openings : List Opening) (written : List ℕ) : Type 0 where
  pub frames_are : map frame_of frames ≡ frames_taken told
  pub counts : length written ≡ length openings
  pub within : allowance ≤ most_held
  pub unopened : opened ≡ false → (pair : Pair) (epoch : ℕ) → find (is_opening_of B pair epoch) openings ≡ None
  pub noted : (k : ℕ) (f : Frame) (note : Note) → slice_get frames k ≡ Some f → f.note ≡ Some note → IsRecentNote openings written allowance (length frames) k note

-- what the trace tells of b's reader
abbrev pub IsGot : List Happening → Option SocketId → List ℕ → Bool → Type 0
IsGot trace None read ended = (read ≡ []) × (ended ≡ false) × ((id : SocketId) → (read_on B id trace ≡ []) × (ended_on B id trace ≡ false))
IsGot trace (Some id) read ended = (read_on B id trace ≡ read) × (ended_on B id trace ≡ ended)

-- and of all that was written
pub record IsTold (trace : List Happening) (sender : SocketId) (receiver : Option SocketId) (sent read : List ℕ) (closed ended : Bool) : Type 0 where
  pub gave : sent_on A sender trace ≡ sent
  pub shut : closed_on A sender trace ≡ closed
  pub others : (id : SocketId) → (id.0 == sender.0) ≡ false → (sent_on A id trace ≡ []) × (closed_on A id trace ≡ false)
  pub none_back : (id : SocketId) → sent_on B id trace ≡ []
  pub got : IsGot trace receiver read ended

pub record Stands (v : CopyView) : Type 0 where
  pub frames : List Frame
  pub openings : List Opening
  pub written : List ℕ
  pub trace : List Happening
  pub reached : IsReached (2 ^ 30) (world_of v.a v.b v.clock frames openings written trace)
  pub carried : AreCarried v.told v.allowance v.opened frames openings written
  pub tells : IsTold trace v.sender v.receiver v.sent v.read v.closed v.ended

-- one event more
pub reached-more : (w : WorldView) (n : NetworkView) (happens : Event) (answer : Answer) → IsReached (2 ^ 30) w → unfair w happens ≡ None → IsNumbered happens → IsSoundHost w.network.a.host → IsSoundHost w.network.b.host
    → Steps happens (length w.trace) answer w.network n → IsReached (2 ^ 30) (record { network = n; trace = w.trace ++ record { event = happens; answer = answer } ∷ [] })
reached-more w n happens answer reached fair numbered sound_a sound_b step =
    runs.goes_on w (record { network = n; trace = w.trace ++ record { event = happens; answer = answer } ∷ [] }) happens answer reached (record {
      fair = fair;
      numbered = numbered;
      sound_a = sound_a;
      sound_b = sound_b;
      network = step;
      trace = refl;
    })

-- an event that tells nothing of any socket
abbrev pub IsSilent : Happening → Type 0
IsSilent h = (side : Side) (id : SocketId) → IsQuiet side id h

pub sent-quiet : (side : Side) (trace : List Happening) (h : Happening) (id : SocketId) → IsQuiet side id h → sent_on side id (trace ++ h ∷ []) ≡ sent_on side id trace
sent-quiet side trace h id quiet = ap (λ (a : Account). a.gave) (told-quiet side trace h id quiet)

pub closed-quiet : (side : Side) (trace : List Happening) (h : Happening) (id : SocketId) → IsQuiet side id h → closed_on side id (trace ++ h ∷ []) ≡ closed_on side id trace
closed-quiet side trace h id quiet = ap (λ (a : Account). a.closed) (told-quiet side trace h id quiet)

pub read-quiet : (side : Side) (trace : List Happening) (h : Happening) (id : SocketId) → IsQuiet side id h → read_on side id (trace ++ h ∷ []) ≡ read_on side id trace
read-quiet side trace h id quiet = ap (λ (a : Account). a.got) (told-quiet side trace h id quiet)

pub ended-quiet : (side : Side) (trace : List Happening) (h : Happening) (id : SocketId) → IsQuiet side id h → ended_on side id (trace ++ h ∷ []) ≡ ended_on side id trace
ended-quiet side trace h id quiet = ap (λ (a : Account). a.ended) (told-quiet side trace h id quiet)

-- what a's side told is told after an event that is quiet there
pub got-quiet : (trace : List Happening) (h : Happening) (receiver : Option SocketId) (read : List ℕ) (ended : Bool) → ((id : SocketId) → IsQuiet B id h) → IsGot trace receiver read ended → IsGot (trace ++ h ∷ []) receiver read ended
got-quiet trace h None read ended quiet g =
    (g.0, g.1, λ id. (read-quiet B trace h id (quiet id) ∙ (g.2 id).0, ended-quiet B trace h id (quiet id) ∙ (g.2 id).1))
got-quiet trace h (Some id) read ended quiet g = (read-quiet B trace h id (quiet id) ∙ g.0, ended-quiet B trace h id (quiet id) ∙ g.1)

-- and after one that is quiet everywhere all is told as before
pub told-still : (trace : List Happening) (h : Happening) (sender : SocketId) (receiver : Option SocketId) (sent read : List ℕ) (closed ended : Bool) → IsSilent h
    → IsTold trace sender receiver sent read closed ended → IsTold (trace ++ h ∷ []) sender receiver sent read closed ended
told-still trace h sender receiver sent read closed ended silent t = record {
  gave = sent-quiet A trace h sender (silent A sender) ∙ t.gave;
  shut = closed-quiet A trace h sender (silent A sender) ∙ t.shut;
  others = λ id apart. (sent-quiet A trace h id (silent A id) ∙ (t.others id apart).0, closed-quiet A trace h id (silent A id) ∙ (t.others id apart).1);
  none_back = λ id. sent-quiet B trace h id (silent B id) ∙ t.none_back id;
  got = got-quiet trace h receiver read ended (λ id. silent B id) t.got;
}
