-- What `decode --pcap` makes of the octets of a capture.
use Rattle.std.specs.Prelude.{◌≡◌, ◌⊎◌, ◌++◌, ℕ, nat_lt, if◌then◌else◌, List, [], ◌∷◌, codes, length, Option, Some, None, Result, Ok, Err, Bool, true, false}
use Rattle.std.specs.Fmt.{decimal}
use Rattle.std.specs.Io.KnownBytes.{Appends}
use Rattle.capture.specs.declared.fault.RecordFault.{RecordFault}
use Rattle.capture.specs.Reading.{AreRead, Record, Unread, moment_of, opened}
use Rattle.decode.specs.declared.unreadable.Unreadable.{Unreadable}
use Rattle.decode.specs.Layers.{Decodes}
use Rattle.commands.specs.declared.fault.TextFault.{TextFault}
use Rattle.commands.specs.declared.fault.TextFault.TheVariants.{Line, TooLong, NotHex, Header, Record as OfRecord, Read, Write, NoMemory}
use Rattle.devices.specs.Streams.{TakesFront}
use Rattle.commands.specs.Moved.{TakesAllBut}

-- how many octets of a frame were captured, of how many that it had on the link: nothing is said where these are no more
abbrev pub cut_words : ℕ → ℕ → List ℕ
cut_words captured original = if nat_lt captured original then codes " cut " ++ decimal captured ++ codes " of " ++ decimal original else []

-- the line of a frame: its number, its moment in milliseconds, and how it was cut
abbrev pub frame_line : ℕ → Record → List ℕ
frame_line number r = codes "frame " ++ decimal number ++ codes " " ++ decimal (moment_of r).0 ++ cut_words (length r.octets) r.original ++ codes "\n"

-- what is printed of a frame: its line, and behind it what its octets say
abbrev pub IsTextOf : ℕ → Record → List ℕ → Type 0
IsTextOf number r text = (cause : Option Unreadable) × Decodes r.octets cause (frame_line number r) text

-- what is printed of frames in turn, which are numbered from 0 on
pub data AreShown : List Record → List ℕ → Type 0 where
  starts : AreShown [] []
  goes_on : (rs : List Record) (r : Record) (printed text : List ℕ) → AreShown rs printed → IsTextOf (length rs) r text →
      AreShown (rs ++ r ∷ []) (printed ++ text)

-- this is printed of the whole records of a capture, behind which its end stands, or a fault
abbrev pub IsPrinted : Unread → Option RecordFault → List ℕ → Type 0
IsPrinted u end printed = (rs : List Record) × AreRead u.header u.octets rs end × AreShown rs printed

-- this is printed of the first of them
abbrev pub IsPrintedFirst : Unread → List ℕ → Type 0
IsPrintedFirst u printed =
    (part : List Record) × (rest : List Record) × (end : Option RecordFault) × AreRead u.header u.octets (part ++ rest) end × AreShown part printed

-- whether a fault comes before anything is printed of a capture
abbrev pub is_before_print : TextFault → Bool
is_before_print (Header fault) = true
is_before_print Read = true
is_before_print fault = false

-- What a capture makes a sink take: all that is printed of its records, up to its end or to the fault that is told; or what is printed of the first
-- of them where memory runs out, and a front of that where the sink fails.
abbrev pub TakesShown : Unread → Result (Unit {0}) TextFault → Option (List ℕ) → Option (List ℕ) → Type 0
TakesShown u (Ok done) old new = (printed : List ℕ) × IsPrinted u None printed × Appends old new printed
TakesShown u (Err (OfRecord fault)) old new = (printed : List ℕ) × IsPrinted u (Some fault) printed × Appends old new printed
TakesShown u (Err Write) old new = (printed : List ℕ) × IsPrintedFirst u printed × TakesFront old new printed
TakesShown u (Err NoMemory) old new = (printed : List ℕ) × IsPrintedFirst u printed × Appends old new printed
TakesShown u (Err (Line n)) old new = ⊥
TakesShown u (Err TooLong) old new = ⊥
TakesShown u (Err NotHex) old new = ⊥
TakesShown u (Err (Header fault)) old new = ⊥
TakesShown u (Err Read) old new = ⊥

-- The same of lines that are still on their way, behind those that waited before.
abbrev pub IsOnItsWay : Unread → Result (Unit {0}) TextFault → Option (List ℕ) → Option (List ℕ) → List ℕ → List ℕ → Type 0
IsOnItsWay u (Ok done) old new before waiting = (printed : List ℕ) × IsPrinted u None printed × TakesAllBut old new (before ++ printed) waiting
IsOnItsWay u (Err (OfRecord fault)) old new before waiting =
    (printed : List ℕ) × IsPrinted u (Some fault) printed × TakesAllBut old new (before ++ printed) waiting
IsOnItsWay u (Err Write) old new before waiting = (printed : List ℕ) × IsPrintedFirst u printed × TakesFront old new (before ++ printed)
IsOnItsWay u (Err NoMemory) old new before waiting = (printed : List ℕ) × IsPrintedFirst u printed × TakesAllBut old new (before ++ printed) waiting
IsOnItsWay u (Err (Line n)) old new before waiting = ⊥
IsOnItsWay u (Err TooLong) old new before waiting = ⊥
IsOnItsWay u (Err NotHex) old new before waiting = ⊥
IsOnItsWay u (Err (Header fault)) old new before waiting = ⊥
IsOnItsWay u (Err Read) old new before waiting = ⊥

-- What octets make a sink take: what the capture does that they are. Nothing is taken where they are none, where they could not be read, or
-- where memory ran out before.
abbrev pub TakesPrinted : List ℕ → Result (Unit {0}) TextFault → Option (List ℕ) → Option (List ℕ) → Type 0
TakesPrinted octets (Err (Header fault)) old new = (opened octets ≡ Err fault) × Appends old new []
TakesPrinted octets (Err Read) old new = Appends old new []
TakesPrinted octets (Err NoMemory) old new = Appends old new [] ⊎ ((u : Unread) × (opened octets ≡ Ok u) × TakesShown u (Err NoMemory) old new)
TakesPrinted octets result old new = (u : Unread) × (opened octets ≡ Ok u) × TakesShown u result old new
