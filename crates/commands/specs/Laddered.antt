-- What a run of a script with a ladder records, and what it makes a sink take.
use Rattle.std.specs.Prelude.{◌≡◌, ◌⊎◌, ℕ, List, [], ◌∷◌, ◌++◌, codes, length, map, drop, option_to_list, Option, Some, None, Result, Ok, Err, false}
use Rattle.std.specs.List.{flat_map}
use Rattle.std.specs.Io.KnownBytes.{Appends}
use Rattle.tcp_segment.specs.declared.seq.Seq.{Seq}
use Rattle.sides.specs.declared.side.Side.{Side}
use Rattle.sides.specs.declared.side.Side.TheVariants.{A, B}
use Rattle.wire_sim.specs.declared.event.Event.{Event}
use Rattle.wire_sim.specs.declared.event.Event.TheVariants as event
use Rattle.wire_sim.specs.declared.event.Answer.{Answer}
use Rattle.wire_sim.specs.declared.event.Happening.{Happening}
use Rattle.wire_sim.specs.declared.event.Unfair.{Unfair}
use Rattle.sides.specs.Sides.{other_side}
use Rattle.wire_sim.specs.RoomyRuns.{IsRoundWithRoom}
use Rattle.wire_sim.specs.WorldView.{WorldView}
use Rattle.script.specs.declared.lines.Command.{Command}
use Rattle.script.specs.declared.lines.Command.TheVariants.{At, Round, Pass}
use Rattle.script.specs.declared.lines.Item.TheVariants.{NoScale, Limit, Do}
use Rattle.script.specs.Words.{lines_of}
use Rattle.script.specs.Script.{item_of, command_in, is_noscale, limit_said, setting_of}
use Rattle.wire_sim.specs.Hosts.{address_of, mac_of}
use Rattle.script.specs.Events.{IsEventOf}
use Rattle.script.specs.Text.{style_of}
use Rattle.ladder.specs.declared.passage.Passage.{Passage}
use Rattle.ladder.specs.declared.passage.Passage.TheVariants.{Sent}
use Rattle.ladder.specs.declared.happened.Happened.{Happened}
use Rattle.ladder.specs.declared.happened.Happened.TheVariants.{Said, Passed, Printed}
use Rattle.ladder.specs.declared.nodes.Node.{Node}
use Rattle.ladder.specs.declared.nodes.Nodes.{Nodes}
use Rattle.ladder.specs.declared.numbers.Numbering.{Numbering}
use Rattle.ladder.specs.Passages.{passage_of}
use Rattle.ladder.specs.Ladder.{ladder_of}
use Rattle.commands.specs.declared.fault.TextFault.{TextFault}
use Rattle.commands.specs.declared.fault.TextFault.TheVariants.{Write, NoMemory}
use Rattle.commands.specs.declared.sim.Ends.{Ends}
use Rattle.devices.specs.Streams.{TakesFront}
use Rattle.commands.specs.Recording.{TakesCapture}
use Rattle.commands.specs.Play.{ComesTo, Does, Emits, IsFirst, pass_text, round_text, text_of_outcome}

-- these frames were brought to a side in order, and this is what each came to
pub data HasBrought (to : Side) (isn : Seq) (old : WorldView) : List ℕ → List (Option Passage) → WorldView → Type 0 where
  none : HasBrought to isn old [] [] old
  one_more : (frames : List ℕ) (passages : List (Option Passage)) (w v : WorldView) (index : ℕ) (outcome : Result Answer Unfair) →
      HasBrought to isn old frames passages w → ComesTo (event.Deliver to index isn) outcome w v →
      HasBrought to isn old (frames ++ index ∷ []) (passages ++ passage_of (event.Deliver to index isn) outcome ∷ []) v

-- what happened to frames that a side sent and that then were brought to the other
abbrev pub carried_by : Side → List ℕ → List (Option Passage) → List Passage
carried_by from frames brought = map (Sent from) frames ++ flat_map option_to_list brought

-- a side sends these frames, and the other takes them in order, which come to this
abbrev pub CarriesEach : Side → Seq → List ℕ → List (Option Passage) → WorldView → WorldView → Type 0
CarriesEach from isn frames brought old new = (w : WorldView) × Emits from frames old w × HasBrought (other_side from) isn w frames brought new

-- what things that happened in a world tell of frames
abbrev pub passages_in : List Happening → List Passage
passages_in things = flat_map (λ (h : Happening). option_to_list (passage_of h.event (Ok h.answer))) things

-- what happened to frames since a world was so, as the trace tells: of a delivery that was refused it tells nothing
abbrev pub passages_since : WorldView → WorldView → List Passage
passages_since old new = passages_in (drop (length old.trace) new.trace)

-- a command is done: this happens to frames, and this is printed
abbrev pub Tells : Command → List Passage → List ℕ → WorldView → WorldView → Type 0
Tells (At side action) passages text old new =
    (happens : Event) × (outcome : Result Answer Unfair) × IsEventOf side action happens × ComesTo happens outcome old new
    × (passages ≡ option_to_list (passage_of happens outcome)) × (text ≡ text_of_outcome (style_of action) outcome)
Tells (Round writer reader_id) passages text old new =
    (told : Result ℕ Unfair) × IsRoundWithRoom writer reader_id told old new × (passages ≡ passages_since old new) × (text ≡ round_text told)
Tells (Pass isn) passages text old new =
    (of_a : List ℕ) × (of_b : List ℕ) × (to_b : List (Option Passage)) × (to_a : List (Option Passage)) × (w : WorldView)
    × CarriesEach A isn of_a to_b old w × CarriesEach B isn of_b to_a w new
    × (passages ≡ carried_by A of_a to_b ++ carried_by B of_b to_a) × (text ≡ pass_text (length of_a) (length of_b))

-- what is recorded of a line that is done: the line, what happened to frames, and what was printed, line by line
abbrev pub recorded : List ℕ → List Passage → List ℕ → List Happened
recorded line passages text = Said line ∷ (map Passed passages ++ map Printed (lines_of text))

-- A line of a script is done, and this is recorded of it: of `noscale` and of a `limit` that it prints `ok`, and of a line that says nothing, nothing.
pub data HasDone (line : List ℕ) : List Happened → WorldView → WorldView → Type 0 where
  nothing : (w : WorldView) → command_in (item_of line) ≡ None → is_noscale (item_of line) ≡ false → limit_said (item_of line) ≡ None → HasDone line [] w w
  unscales : (w : WorldView) → item_of line ≡ Some NoScale → HasDone line (recorded line [] (codes "ok")) w w
  limits : (n : ℕ) (w : WorldView) → item_of line ≡ Some (Limit n) → HasDone line (recorded line [] (codes "ok")) w w
  does : (command : Command) (passages : List Passage) (text : List ℕ) (w v : WorldView) → item_of line ≡ Some (Do command) →
      Tells command passages text w v → HasDone line (recorded line passages text) w v

-- these lines of a script were done one after another, and this is recorded of them
pub data HasRun (old : WorldView) : List (List ℕ) → List Happened → WorldView → Type 0 where
  starts : HasRun old [] [] old
  goes_on : (lines : List (List ℕ)) (line : List ℕ) (happened more : List Happened) (w v : WorldView) → HasRun old lines happened w →
      HasDone line more w v → HasRun old (lines ++ line ∷ []) (happened ++ more) v

-- the world where a run was cut short before these lines: as it was, or as the first of them left it
abbrev pub IsLeftAt : List (List ℕ) → WorldView → WorldView → Type 0
IsLeftAt [] w after = after ≡ w
IsLeftAt (line ∷ rest) w after = (after ≡ w) ⊎ ((command : Command) × (item_of line ≡ Some (Do command)) × Does command w after)

-- a run of a script's lines was cut short: the first of them were done, and this is the world that was left
abbrev pub IsCut : List (List ℕ) → WorldView → WorldView → Type 0
IsCut lines old after =
    (part : List (List ℕ)) × (rest : List (List ℕ)) × (happened : List Happened) × (w : WorldView) × (lines ≡ part ++ rest)
    × HasRun old part happened w × IsLeftAt rest w after

-- the two hosts of a script, as frames name them
abbrev pub node_at : Side → Node
node_at side = record { mac = mac_of side; addr = address_of side }

abbrev pub script_nodes : Nodes
script_nodes = record { a = node_at A; b = node_at B }

-- the ladder of what happened in a run of a script that ended in this world
abbrev pub ladder_in : Numbering → List Happened → WorldView → List ℕ
ladder_in numbering happened w =
    ladder_of (record { frames = w.network.frames; nodes = script_nodes; numbering = numbering; happened = happened })

-- What the run of a script's lines with a ladder makes a sink take: the ladder of all that happened, or a front of that where the sink fails. Where
-- memory runs out, it takes nothing.
abbrev pub TakesLadder : Result (Unit {0}) TextFault → Numbering → List (List ℕ) → WorldView → WorldView → Option (List ℕ) → Option (List ℕ) → Type 0
TakesLadder (Ok done) numbering lines first after old new =
    (happened : List Happened) × HasRun first lines happened after × Appends old new (ladder_in numbering happened after)
TakesLadder (Err Write) numbering lines first after old new =
    (happened : List Happened) × HasRun first lines happened after × TakesFront old new (ladder_in numbering happened after)
TakesLadder (Err NoMemory) numbering lines first after old new = IsCut lines first after × Appends old new []
TakesLadder (Err fault) numbering lines first after old new = ⊥

-- the same of a script's octets, from the world in which nothing happened to the one in which the run ended
abbrev pub TakesRunOf : List ℕ → Result (Unit {0}) TextFault → Numbering → WorldView → Option (List ℕ) → Option (List ℕ) → Type 0
TakesRunOf octets result numbering after old new =
    (first : WorldView) × IsFirst (setting_of octets) first × TakesLadder result numbering (lines_of octets) first after old new

-- what a script's octets make a sink take: nothing, where nothing was run
abbrev pub TakesLadderOf : List ℕ → Result (Unit {0}) TextFault → Numbering → Option (List ℕ) → Option (List ℕ) → Type 0
TakesLadderOf octets (Ok done) numbering old new = (after : WorldView) × TakesRunOf octets (Ok done) numbering after old new
TakesLadderOf octets (Err Write) numbering old new = (after : WorldView) × TakesRunOf octets (Err Write) numbering after old new
TakesLadderOf octets (Err fault) numbering old new = Appends old new []

-- what a run with a ladder and a capture makes both sinks take: the first the ladder, and the other the capture of the world in which the run ended
abbrev pub TakesBothOf : List ℕ → Ends → Numbering → Option (List ℕ) → Option (List ℕ) → Option (List ℕ) → Option (List ℕ) → Type 0
TakesBothOf octets ends numbering old new old_capture new_capture =
    (after : WorldView) × TakesRunOf octets ends.run numbering after old new × TakesCapture ends.capture after old_capture new_capture
