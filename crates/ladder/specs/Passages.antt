-- What happens to the frames of a run: each goes out once, and is brought to a host never, once or often.
use Rattle.std.specs.Prelude.{ℕ, Bool, true, false, ◌==◌, ◌&&◌, Option, Some, None, Result, Ok, Err}
use Rattle.sides.specs.declared.side.Side.{Side}
use Rattle.wire_sim.specs.declared.event.Event.{Event}
use Rattle.wire_sim.specs.declared.event.Event.TheVariants as event
use Rattle.wire_sim.specs.declared.event.Answer.{Answer}
use Rattle.wire_sim.specs.declared.event.Answer.TheVariants as answer
use Rattle.wire_sim.specs.declared.event.Unfair.{Unfair}
use Rattle.ladder.specs.declared.passage.Fate.{Fate}
use Rattle.ladder.specs.declared.passage.Fate.TheVariants.{Taken, Dropped, Refused}
use Rattle.ladder.specs.declared.passage.Passage.{Passage}
use Rattle.ladder.specs.declared.passage.Passage.TheVariants.{Sent, Brought}
use Rattle.ladder.specs.declared.passage.Errand.{Errand}
use Rattle.ladder.specs.declared.passage.Errand.TheVariants.{ToSend, ToBring, Neither}

-- what an event is about: that a side sends a frame, that a frame is brought to a side, or neither
abbrev pub errand_of : Event → Errand
errand_of (event.Emit side) = ToSend side
errand_of (event.Deliver side index isn) = ToBring side index
errand_of _ = Neither

-- what a frame came to that was brought to a host
abbrev pub fate_of : Result Answer Unfair → Option Fate
fate_of (Ok answer.Taken) = Some Taken
fate_of (Ok (answer.Dropped cause)) = Some (Dropped cause)
fate_of (Ok _) = None
fate_of (Err refusal) = Some (Refused refusal)

abbrev pub brought : Side → ℕ → Option Fate → Option Passage
brought side index (Some fate) = Some (Brought side index fate)
brought side index None = None

-- what came of an errand
abbrev pub passage_on : Errand → Result Answer Unfair → Option Passage
passage_on (ToSend side) (Ok (answer.Frame index len)) = Some (Sent side index)
passage_on (ToBring side index) outcome = brought side index (fate_of outcome)
passage_on _ _ = None

-- what an event and its outcome tell of a frame: that it went out, or what it came to where it was brought to a host
abbrev pub passage_of : Event → Result Answer Unfair → Option Passage
passage_of happens outcome = passage_on (errand_of happens) outcome

-- whether a frame that was brought reached the host: it took or dropped it
abbrev pub reaches : Fate → Bool
reaches Taken = true
reaches (Dropped cause) = true
reaches (Refused refusal) = false

-- whether the frame with this number reaches a host by this
abbrev pub brings : ℕ → Passage → Bool
brings index (Sent side number) = false
brings index (Brought side number fate) = (number == index) && reaches fate

-- the number of the frame that something happened to
abbrev pub number_of : Passage → ℕ
number_of (Sent side index) = index
number_of (Brought side index fate) = index
