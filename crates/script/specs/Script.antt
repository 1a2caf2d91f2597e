-- What the lines of a script say, and which of them is the first that is bad.
use Rattle.std.specs.Prelude.{ℕ, ⊤, ◌≤◌, ◌+◌, ◌^◌, ◌==◌, ◌||◌, List, [], ◌∷◌, Option, Some, None, Bool, true, false, not, is_some, length, slice_get, codes, option_map, option_and_then, if◌then◌else◌}
use Rattle.std.specs.List.{filter_map, list_any}
use Rattle.std.specs.Str.{bytes_eq}
use Rattle.sides.specs.declared.side.Side.{Side}
use Rattle.sides.specs.declared.side.Side.TheVariants.{A, B}
use Rattle.script.specs.Words.{number_of, words_of, lines_of, is_ascii_line}
use Rattle.script.specs.Actions.{action_of, id_of, isn_of}
use Rattle.script.specs.declared.lines.Subject.{Subject}
use Rattle.script.specs.declared.lines.Subject.TheVariants as subject
use Rattle.script.specs.declared.lines.Setting.{Setting}
use Rattle.script.specs.declared.lines.Command.{Command}
use Rattle.script.specs.declared.lines.Command.TheVariants.{At, Round, Pass}
use Rattle.script.specs.declared.lines.Item.{Item}
use Rattle.script.specs.declared.lines.Item.TheVariants.{Nothing, NoScale, Limit, Do}

-- nothing stands behind `noscale`
abbrev pub noscale_in : List (List ℕ) → Option Item
noscale_in [] = Some NoScale
noscale_in words = None

-- the N of `limit`, from 1 to 2^30
abbrev pub limit_in : List (List ℕ) → Option ℕ
limit_in (word ∷ []) = option_and_then (λ n. if n == 0 then None else Some n) (number_of (2 ^ 30) word)
limit_in words = None

-- what `pass` says with the words after it
abbrev pub pass_in : List (List ℕ) → Option Command
pass_in (isn ∷ []) = option_map Pass (isn_of isn)
pass_in words = None

-- what `round` says behind a host's name: the host writes, and the other one reads on that socket
abbrev pub round_in : Side → List (List ℕ) → Option Command
round_in writer (id ∷ []) = option_map (Round writer) (id_of id)
round_in writer words = None

-- what the words behind a host's name say: a round, or what the host does
abbrev pub command_of : Side → List (List ℕ) → Option Command
command_of side [] = None
command_of side (first ∷ rest) =
    if bytes_eq first (codes "round") then round_in side rest
    else option_map (At side) (action_of (first ∷ rest))

-- what a word is as the first of a line
abbrev pub subject_of : List ℕ → Option Subject
subject_of word =
    if bytes_eq word (codes "noscale") then Some subject.NoScale
    else if bytes_eq word (codes "limit") then Some subject.Limit
    else if bytes_eq word (codes "pass") then Some subject.Pass
    else if bytes_eq word (codes "a") then Some (subject.Host A)
    else if bytes_eq word (codes "b") then Some (subject.Host B)
    else None

-- what a line's first word says with the words after it
abbrev pub said_of : Subject → List (List ℕ) → Option Item
said_of subject.NoScale rest = noscale_in rest
said_of subject.Limit rest = option_map Limit (limit_in rest)
said_of subject.Pass rest = option_map Do (pass_in rest)
said_of (subject.Host side) rest = option_map Do (command_of side rest)

-- what the words of a line say
abbrev pub said_in : List (List ℕ) → Option Item
said_in [] = None
said_in (first ∷ rest) = option_and_then (λ word. said_of word rest) (subject_of first)

-- what a line says: an empty line and a comment say nothing, and a bad line isn't any of the forms
abbrev pub item_of : List ℕ → Option Item
item_of [] = Some Nothing
item_of (first ∷ rest) =
    if first == 35 then (if is_ascii_line (first ∷ rest) then Some Nothing else None)
    else said_in (words_of (first ∷ rest))

-- what was said before a line: nothing, `noscale` alone, or more than that
pub data Stage : Type 0 where
  Start : Stage
  Unscaled : Stage
  Begun : Stage

-- whether a line is bad: `noscale` may only come first, and `limit` first or behind it
abbrev pub is_bad : Stage → Option Item → Bool
is_bad stage None = true
is_bad Start (Some NoScale) = false
is_bad stage (Some NoScale) = true
is_bad Begun (Some (Limit n)) = true
is_bad stage (Some item) = false

-- what was said once the line was
abbrev pub stage_after : Stage → Option Item → Stage
stage_after stage (Some Nothing) = stage
stage_after stage (Some NoScale) = Unscaled
stage_after stage item = Begun

-- the number of the first bad line, where the first of these lines has the number n
abbrev pub first_bad_from : Stage → ℕ → List (List ℕ) → Option ℕ
first_bad_from stage n [] = None
first_bad_from stage n (line ∷ rest) =
    if is_bad stage (item_of line) then Some n
    else first_bad_from (stage_after stage (item_of line)) (n + 1) rest

-- the number of the first bad line of a script, counted from 1 over all lines
abbrev pub first_bad_line : List ℕ → Option ℕ
first_bad_line octets = first_bad_from Start 1 (lines_of octets)

-- the command that a line says
abbrev pub command_in : Option Item → Option Command
command_in (Some (Do command)) = Some command
command_in item = None

-- the N that a line's `limit` says
abbrev pub limit_said : Option Item → Option ℕ
limit_said (Some (Limit n)) = Some n
limit_said item = None

-- the commands of some lines, in order
abbrev pub commands_of : List (List ℕ) → List Command
commands_of lines = filter_map (λ line. command_in (item_of line)) lines

-- the limits of some lines, in order
abbrev pub limits_of : List (List ℕ) → List ℕ
limits_of lines = filter_map (λ line. limit_said (item_of line)) lines

-- the limit of a script, if it has one
abbrev pub limit_of : List ℕ → Option ℕ
limit_of octets = slice_get (limits_of (lines_of octets)) 0

-- whether a line is `noscale`
abbrev pub is_noscale : Option Item → Bool
is_noscale (Some NoScale) = true
is_noscale item = false

-- whether the hosts use the window scale option: no line is `noscale`
abbrev pub scales_in : List (List ℕ) → Bool
scales_in lines = not (list_any (λ line. is_noscale (item_of line)) lines)

-- what a script says of its world before its first command
abbrev pub setting_of : List ℕ → Setting
setting_of octets = record { scales = scales_in (lines_of octets); limit = limit_of octets }

-- whether more than `noscale` was said so far
abbrev pub has_begun : Setting → List Command → Bool
has_begun setting commands = is_some setting.limit || not (length commands == 0)

-- what was said so far
abbrev pub stage_of : Setting → List Command → Stage
stage_of setting commands = if has_begun setting commands then Begun else if setting.scales then Start else Unscaled

-- the N of a line's `limit` is from 1 to 2^30
abbrev pub HasLimitInRange : Option Item → Type 0
HasLimitInRange (Some (Limit n)) = (1 ≤ n) × (n ≤ 2 ^ 30)
HasLimitInRange item = ⊤
