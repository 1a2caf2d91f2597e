-- What the commands of a script print, over the worlds that they lead to.
use Rattle.std.specs.Prelude.{◌≡◌, ◌⊎◌, ◌<◌, ◌+◌, ◌^◌, ◌++◌, ℕ, List, [], ◌∷◌, Option, Some, None, Result, Ok, Err, Bool, true, false, codes, length, IsOk}
use Rattle.std.specs.Fmt.{decimal}
use Rattle.std.specs.Io.KnownBytes.{Appends}
use Rattle.tcp_segment.specs.declared.seq.Seq.{Seq}
use Rattle.sides.specs.declared.side.Side.{Side}
use Rattle.sides.specs.declared.side.Side.TheVariants.{A, B}
use Rattle.wire_sim.specs.declared.event.Event.{Event}
use Rattle.wire_sim.specs.declared.event.Event.TheVariants as event
use Rattle.wire_sim.specs.declared.event.Answer.{Answer}
use Rattle.wire_sim.specs.declared.event.Answer.TheVariants.{Frame, NoFrame}
use Rattle.wire_sim.specs.declared.event.Unfair.{Unfair}
use Rattle.wire_sim.specs.Names.{unfair_text}
use Rattle.sides.specs.Sides.{other_side}
use Rattle.wire_sim.specs.RoomyRuns.{IsRoundWithRoom}
use Rattle.wire_sim.specs.Runs.{unfair, IsOutcome}
use Rattle.wire_sim.specs.WorldRoom.{IsPlain}
use Rattle.wire_sim.specs.WorldView.{WorldView, fresh_world}
use Rattle.script.specs.declared.answer.Style.{Style}
use Rattle.script.specs.declared.lines.Setting.{Setting}
use Rattle.script.specs.declared.lines.Command.{Command}
use Rattle.script.specs.declared.lines.Command.TheVariants.{At, Round, Pass}
use Rattle.commands.specs.declared.fault.TextFault.{TextFault}
use Rattle.commands.specs.declared.sim.Ends.{Ends}
use Rattle.commands.specs.declared.fault.TextFault.TheVariants.{Write}
use Rattle.script.specs.Words.{lines_of}
use Rattle.script.specs.Script.{setting_of, commands_of}
use Rattle.devices.specs.Streams.{TakesFront}
use Rattle.commands.specs.Moved.{TakesAllBut}
use Rattle.commands.specs.Recording.{TakesCapture}
use Rattle.host.specs.ConfigView.{ConfigView}
use Rattle.wire_sim.specs.Hosts.{IsSetUp}
use Rattle.script.specs.Events.{IsEventOf}
use Rattle.script.specs.Text.{style_of, shown_of}

-- what is printed of an outcome
abbrev pub text_of_outcome : Style → Result Answer Unfair → List ℕ
text_of_outcome how (Ok answer) = shown_of how answer
text_of_outcome how (Err refusal) = unfair_text refusal

-- the line that shows an outcome
abbrev pub line_of_outcome : Style → Result Answer Unfair → List ℕ
line_of_outcome how outcome = text_of_outcome how outcome ++ codes "\n"

-- What comes of an event that is given to a world with room for it: what may come of it in any world, but want of memory only where it wants octets
-- of its own, to read or to emit.
pub record ComesTo (happens : Event) (told : Result Answer Unfair) (old new : WorldView) : Type 0 where
  pub outcome : IsOutcome happens told old new
  pub memory : unfair old happens ≡ None → IsPlain happens → IsOk told

-- A side was asked for a frame so many times, and these went out, in order. A refusal is passed over.
pub data HasEmitted (side : Side) (old : WorldView) : ℕ → List ℕ → WorldView → Type 0 where
  begins : HasEmitted side old 0 [] old
  goes_out : (times : ℕ) (frames : List ℕ) (w v : WorldView) (index len : ℕ) → HasEmitted side old times frames w →
      IsOutcome (event.Emit side) (Ok (Frame index len)) w v → HasEmitted side old (times + 1) (frames ++ index ∷ []) v
  passes : (times : ℕ) (frames : List ℕ) (w v : WorldView) (refusal : Unfair) → HasEmitted side old times frames w →
      IsOutcome (event.Emit side) (Err refusal) w v → HasEmitted side old (times + 1) frames v

-- a side emits these frames: it was asked 64 times, or fewer times and then it had none
abbrev pub Emits : Side → List ℕ → WorldView → WorldView → Type 0
Emits side frames old new =
    HasEmitted side old 64 frames new
    ⊎ ((times : ℕ) × (w : WorldView) × (times < 64) × HasEmitted side old times frames w × IsOutcome (event.Emit side) (Ok NoFrame) w new)

-- these frames are delivered to a side in order, whatever comes of each
abbrev pub Delivers : Side → Seq → List ℕ → WorldView → WorldView → Type 0
Delivers side isn [] old new = new ≡ old
Delivers side isn (index ∷ rest) old new =
    (told : Result Answer Unfair) × (w : WorldView) × ComesTo (event.Deliver side index isn) told old w × Delivers side isn rest w new

-- a side emits so many frames, and the other takes them in order
abbrev pub Carries : Side → Seq → ℕ → WorldView → WorldView → Type 0
Carries side isn count old new =
    (frames : List ℕ) × (w : WorldView) × (count ≡ length frames) × Emits side frames old w × Delivers (other_side side) isn frames w new

-- the line that says how many frames went from a to b, and how many from b to a
abbrev pub pass_text : ℕ → ℕ → List ℕ
pass_text from_a from_b = codes "a " ++ decimal from_a ++ codes " b " ++ decimal from_b

abbrev pub pass_line : ℕ → ℕ → List ℕ
pass_line from_a from_b = pass_text from_a from_b ++ codes "\n"

-- what is printed of a round: how many octets were read in it, or why it stopped
abbrev pub round_text : Result ℕ Unfair → List ℕ
round_text (Ok count) = codes "octets " ++ decimal count
round_text (Err refusal) = unfair_text refusal

abbrev pub round_line : Result ℕ Unfair → List ℕ
round_line told = round_text told ++ codes "\n"

-- what a command does: its event has an outcome, a round does, or it carries frames of a and then of b
abbrev pub Does : Command → WorldView → WorldView → Type 0
Does (At side action) old new =
    (happens : Event) × (outcome : Result Answer Unfair) × IsEventOf side action happens × ComesTo happens outcome old new
Does (Round writer reader_id) old new = (told : Result ℕ Unfair) × IsRoundWithRoom writer reader_id told old new
Does (Pass isn) old new = (from_a : ℕ) × (from_b : ℕ) × (w : WorldView) × Carries A isn from_a old w × Carries B isn from_b w new

-- a command prints this line: what is shown of the outcome of its event, or of its round, or how many frames of a and of b it carried
abbrev pub Prints : Command → List ℕ → WorldView → WorldView → Type 0
Prints (At side action) line old new =
    (happens : Event) × (outcome : Result Answer Unfair) × IsEventOf side action happens × ComesTo happens outcome old new
    × (line ≡ line_of_outcome (style_of action) outcome)
Prints (Round writer reader_id) line old new = (told : Result ℕ Unfair) × IsRoundWithRoom writer reader_id told old new × (line ≡ round_line told)
Prints (Pass isn) line old new =
    (from_a : ℕ) × (from_b : ℕ) × (w : WorldView) × Carries A isn from_a old w × Carries B isn from_b w new × (line ≡ pass_line from_a from_b)

-- these commands were run one after another, and this is what they printed
pub data HasPrinted (old : WorldView) : List Command → List ℕ → WorldView → Type 0 where
  starts : HasPrinted old [] [] old
  goes_on : (commands : List Command) (command : Command) (text line : List ℕ) (w v : WorldView) → HasPrinted old commands text w →
      Prints command line w v → HasPrinted old (commands ++ command ∷ []) (text ++ line) v

-- what a fault leaves of octets on their way to a sink: a sink that fails took a front of them, and otherwise all went but what waits
abbrev pub IsLeft : TextFault → Option (List ℕ) → Option (List ℕ) → List ℕ → List ℕ → Type 0
IsLeft Write old new octets waiting = TakesFront old new octets
IsLeft fault old new octets waiting = TakesAllBut old new octets waiting

-- the world where a fault ended a run: as it was before these commands, or as the first of them left it, whose line was not printed
abbrev pub IsLeftBefore : List Command → WorldView → WorldView → Type 0
IsLeftBefore [] w after = after ≡ w
IsLeftBefore (next ∷ rest) w after = (after ≡ w) ⊎ Does next w after

-- A fault ended a run of commands. The first of them were run, and what they printed is on its way behind what waited before.
abbrev pub IsCutShort : TextFault → WorldView → WorldView → List Command → Option (List ℕ) → Option (List ℕ) → List ℕ → List ℕ → Type 0
IsCutShort fault world after commands old new before waiting =
    (part : List Command) × (rest : List Command) × (text : List ℕ) × (w : WorldView) × (commands ≡ part ++ rest)
    × HasPrinted world part text w × IsLeft fault old new (before ++ text) waiting × IsLeftBefore rest w after

-- all commands were run, and what they printed is on its way behind what waited before
abbrev pub IsPlayed : WorldView → WorldView → List Command → Option (List ℕ) → Option (List ℕ) → List ℕ → List ℕ → Type 0
IsPlayed world after commands old new before waiting =
    (text : List ℕ) × HasPrinted world commands text after × TakesAllBut old new (before ++ text) waiting

-- the limit of the world: the script's, or 2^30
abbrev pub limit_by : Option ℕ → ℕ
limit_by None = 2 ^ 30
limit_by (Some limit) = limit

-- the two hosts as they are set up, which use the window scale option or don't as the script says, and nothing happened
pub record IsFirst (setting : Setting) (world : WorldView) : Type 0 where
  pub a : ConfigView
  pub b : ConfigView
  pub a_is : IsSetUp setting.scales A a
  pub b_is : IsSetUp setting.scales B b
  pub fresh : world ≡ fresh_world a b (limit_by setting.limit)

-- what is printed of `noscale`
abbrev pub noscale_line : Bool → List ℕ
noscale_line true = []
noscale_line false = codes "ok\n"

-- what is printed of a limit
abbrev pub limit_line : Option ℕ → List ℕ
limit_line None = []
limit_line (Some limit) = codes "ok\n"

-- what is printed before the first command
abbrev pub setting_lines : Setting → List ℕ
setting_lines setting = noscale_line setting.scales ++ limit_line setting.limit

-- what a script with this setting prints by these commands
abbrev pub IsPrinted : Setting → List Command → List ℕ → Type 0
IsPrinted setting commands printed =
    (text : List ℕ) × (first : WorldView) × (w : WorldView) × IsFirst setting first × HasPrinted first commands text w × (printed ≡ setting_lines setting ++ text)

-- what a script with this setting prints by these commands, and the world that they lead to
abbrev pub IsPrintedTo : Setting → List Command → List ℕ → WorldView → Type 0
IsPrintedTo setting commands printed w =
    (text : List ℕ) × (first : WorldView) × IsFirst setting first × HasPrinted first commands text w × (printed ≡ setting_lines setting ++ text)

-- what a fault lets a sink take of what was printed: all or nothing, but a front where the sink fails
abbrev pub IsTold : TextFault → Option (List ℕ) → Option (List ℕ) → List ℕ → Type 0
IsTold Write old new printed = TakesFront old new printed
IsTold fault old new printed = Appends old new printed ⊎ Appends old new []

-- what a script with this setting and these commands makes a sink take: all that they print, or what the first of them print where a fault
-- ends the run
abbrev pub TakesPrinted : Result (Unit {0}) TextFault → Setting → List Command → Option (List ℕ) → Option (List ℕ) → Type 0
TakesPrinted (Ok done) setting commands old new = (printed : List ℕ) × IsPrinted setting commands printed × Appends old new printed
TakesPrinted (Err fault) setting commands old new =
    (part : List Command) × (rest : List Command) × (printed : List ℕ) × (commands ≡ part ++ rest) × IsPrinted setting part printed
    × IsTold fault old new printed

-- the same, and the world in which the run ended
abbrev pub TakesRun : Result (Unit {0}) TextFault → Setting → List Command → WorldView → Option (List ℕ) → Option (List ℕ) → Type 0
TakesRun (Ok done) setting commands after old new = (printed : List ℕ) × IsPrintedTo setting commands printed after × Appends old new printed
TakesRun (Err fault) setting commands after old new =
    (part : List Command) × (rest : List Command) × (printed : List ℕ) × (w : WorldView) × (commands ≡ part ++ rest)
    × IsPrintedTo setting part printed w × IsTold fault old new printed × IsLeftBefore rest w after

-- what a script's octets make a sink take
abbrev pub TakesPrintedBy : List ℕ → Result (Unit {0}) TextFault → Option (List ℕ) → Option (List ℕ) → Type 0
TakesPrintedBy octets result old new = TakesPrinted result (setting_of octets) (commands_of (lines_of octets)) old new

-- What a run with a capture makes both sinks take: the first what the run prints, and the other the capture of the world in which it ended.
abbrev pub TakesBoth : List ℕ → Ends → Option (List ℕ) → Option (List ℕ) → Option (List ℕ) → Option (List ℕ) → Type 0
TakesBoth octets ends old new old_capture new_capture =
    (w : WorldView) × TakesRun ends.run (setting_of octets) (commands_of (lines_of octets)) w old new × TakesCapture ends.capture w old_capture new_capture
