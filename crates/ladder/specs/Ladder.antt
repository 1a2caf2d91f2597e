-- The ladder of a run: what was done and what that printed, and between them what happened to each frame.
use Rattle.std.specs.Prelude.{ℕ, ◌≤◌, nat_le, Bool, if◌then◌else◌, List, [], ◌∷◌, ◌++◌, codes, length, map, take, replicate, slice_get, Option, Some, None, Result, false}
use Rattle.std.specs.List.{flat_map, list_any, All}
use Rattle.frames.specs.declared.drop.DropCause.{DropCause}
use Rattle.frames.specs.declared.meaning.Meaning.{Meaning}
use Rattle.frames.specs.Meaning.{heard}
use Rattle.sides.specs.declared.side.Side.{Side}
use Rattle.sides.specs.declared.side.Side.TheVariants.{A, B}
use Rattle.sides.specs.Sides.{other_side}
use Rattle.wire_sim.specs.declared.world.bag.Frame.{Frame}
use Rattle.ladder.specs.declared.numbers.Syn.{Syn}
use Rattle.ladder.specs.declared.numbers.Numbering.{Numbering}
use Rattle.ladder.specs.declared.nodes.Node.{Node}
use Rattle.ladder.specs.declared.nodes.Nodes.{Nodes}
use Rattle.ladder.specs.declared.passage.Passage.{Passage}
use Rattle.ladder.specs.declared.passage.Passage.TheVariants.{Sent, Brought}
use Rattle.ladder.specs.declared.happened.Happened.{Happened}
use Rattle.ladder.specs.declared.happened.Happened.TheVariants.{Said, Passed, Printed}
use Rattle.ladder.specs.Text.{syns_in, text_of}
use Rattle.ladder.specs.Passages.{brings, number_of}
use Rattle.ladder.specs.Rungs.{brought_rung, sent_rung}

-- a side's node
abbrev pub node_of : Nodes → Side → Node
node_of nodes A = nodes.a
node_of nodes B = nodes.b

-- the octets of the frame with this number
abbrev pub octets_of : Option Frame → List ℕ
octets_of (Some f) = f.octets.items
octets_of None = []

-- what octets are to a node
abbrev pub heard_by : Node → List ℕ → Result Meaning DropCause
heard_by node octets = heard node.mac node.addr octets

-- A run: its frames by number, its two nodes, and all that happened in it, in order; and how numbers are told.
pub record RunView : Type 0 where
  pub frames : List Frame
  pub nodes : Nodes
  pub numbering : Numbering
  pub happened : List Happened

-- the node that a side's frames go to
abbrev pub node_to : RunView → Side → Node
node_to r side = node_of r.nodes (other_side side)

-- what a side's frame is to the node that it goes to
abbrev pub heard_of : RunView → Side → ℕ → Result Meaning DropCause
heard_of r side index = heard_by (node_to r side) (octets_of (slice_get r.frames index))

-- whether the frame with this number reaches a host by what happened
abbrev pub is_arrival : ℕ → Happened → Bool
is_arrival index (Passed p) = brings index p
is_arrival index _ = false

-- whether the frame reached a host as these things happened
abbrev pub arrives_in : ℕ → List Happened → Bool
arrives_in index hs = list_any (is_arrival index) hs

-- the SYN of a frame that went out, if it had one
abbrev pub syns_by : RunView → Happened → List Syn
syns_by r (Passed (Sent side index)) = let to = node_to r side in syns_in to.addr (heard_of r side index)
syns_by r _ = []

-- the SYNs that went out as these things happened, in order
abbrev pub syns_seen : RunView → List Happened → List Syn
syns_seen r hs = flat_map (syns_by r) hs

-- The rung of what happened to a frame that arrives some time or never, and arrived before or not, where these SYNs were seen. One that never
-- arrives ends in `x`; its numbers are relative to those SYNs; and one that arrived before is brought again.
abbrev pub rung_with : RunView → Bool → Bool → List Syn → Passage → List ℕ
rung_with r ever before syns (Sent side index) =
    let to = node_to r side in sent_rung side index ever (text_of r.numbering syns to.addr (heard_of r side index))
rung_with r ever before syns (Brought side index fate) = brought_rung side index fate before

-- the line of what happened, where these frames ever arrive, these arrived before, and these SYNs were seen: what was to be done, a rung, or what was
-- printed, two columns in
abbrev pub line_with : RunView → (ℕ → Bool) → (ℕ → Bool) → List Syn → Happened → List ℕ
line_with r ever before syns (Said line) = line
line_with r ever before syns (Passed p) = rung_with r (ever (number_of p)) (before (number_of p)) syns p
line_with r ever before syns (Printed text) = codes "  " ++ text

-- the line of what happened after all this, whose SYN is seen, too
abbrev pub line_of : RunView → List Happened → Happened → List ℕ
line_of r before h = line_with r (λ index. arrives_in index r.happened) (λ index. arrives_in index before) (syns_seen r (before ++ h ∷ [])) h

-- the lines of what happened after all this
abbrev pub lines_from : RunView → List Happened → List Happened → List (List ℕ)
lines_from r before [] = []
lines_from r before (h ∷ hs) = line_of r before h ∷ lines_from r (before ++ h ∷ []) hs

-- the names of the two sides, at the top of the uprights
abbrev pub names_line : List ℕ
names_line = codes "      a" ++ (replicate 72 32 ++ codes "b")

-- a line in 80 columns: a longer one is cut and ends in two points
abbrev pub fitted : List ℕ → List ℕ
fitted line = if nat_le (length line) 80 then line else take 78 line ++ codes ".."

-- the lines of a ladder
abbrev pub ladder_lines : RunView → List (List ℕ)
ladder_lines r = map fitted (names_line ∷ lines_from r [] r.happened)

-- a line with its end
abbrev pub ended : List ℕ → List ℕ
ended line = line ++ codes "\n"

-- the ladder of a run
abbrev pub ladder_of : RunView → List ℕ
ladder_of r = flat_map ended (ladder_lines r)

-- no line of a ladder is wider than 80 columns
abbrev pub EveryLineFits : Type 0
EveryLineFits = (r : RunView) → All (λ line. length line ≤ 80) (ladder_lines r)
