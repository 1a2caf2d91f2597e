-- The numbers of a segment as a ladder tells them (RFC 9293 section 3.4): relative to the initial number of their direction, or as they are.
use Rattle.std.specs.Prelude.{ℕ, Bool, ◌&&◌, if◌then◌else◌, List, [], ◌∷◌, ◌++◌, codes, Option, Some, None}
use Rattle.std.specs.Fmt.{decimal}
use Rattle.ipv4.specs.Addresses.{same_end}
use Rattle.tcp_segment.specs.declared.seq.Seq.{Seq}
use Rattle.tcp_segment.specs.Wire.{past}
use Rattle.ladder.specs.declared.numbers.Direction.{Direction}
use Rattle.ladder.specs.declared.numbers.Syn.{Syn}
use Rattle.ladder.specs.declared.numbers.Numbering.{Numbering}
use Rattle.ladder.specs.declared.numbers.Numbering.TheVariants.{Relative, Absolute}

-- the other direction of the same connection
abbrev pub back : Direction → Direction
back d = record { source = d.destination; destination = d.source }

abbrev pub same_direction : Direction → Direction → Bool
same_direction a b = same_end a.source b.source && same_end a.destination b.destination

-- the number of a SYN, where it went in this direction
abbrev pub number_on : Direction → Syn → Option Seq
number_on d s = if same_direction s.direction d then Some s.number else None

-- what was told later, or else what was told before
abbrev pub later_or : Option Seq → Option Seq → Option Seq
later_or (Some number) before = Some number
later_or None before = before

-- the initial number of a direction: that of the last SYN that was seen on it
abbrev pub initial_in : Direction → List Syn → Option Seq
initial_in d [] = None
initial_in d (s ∷ later) = later_or (initial_in d later) (number_on d s)

-- A number: how far it is past the initial one, so that the SYN has the number 0 and the first octet 1. Where no SYN was seen it is the number
-- itself behind a `=`, and of absolute numbers each is the number itself.
abbrev pub number_text : Numbering → Option Seq → ℕ → List ℕ
number_text Relative (Some initial) number = decimal (past number initial.0)
number_text Relative None number = codes "=" ++ decimal number
number_text Absolute initial number = decimal number
