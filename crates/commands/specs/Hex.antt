-- What `decode` makes of the text of a frame.
use Rattle.std.specs.Prelude.{◌≡◌, List, [], ℕ, Option, Some, None, Result, Ok, Err, ⊤}
use Rattle.std.specs.Io.KnownBytes.{Appends}
use Rattle.decode.specs.declared.unreadable.Unreadable.{Unreadable}
use Rattle.decode.specs.declared.pairs.HexFault.{HexFault}
use Rattle.decode.specs.declared.pairs.HexFault.TheVariants as hex
use Rattle.decode.specs.Pairs.{octets_in}
use Rattle.decode.specs.Layers.{Decodes}
use Rattle.commands.specs.declared.fault.TextFault.{TextFault}
use Rattle.commands.specs.declared.fault.TextFault.TheVariants.{Line, TooLong, NotHex, Header, Record, Read, Write, NoMemory}
use Rattle.devices.specs.Streams.{TakesFront}

-- why a text gives no octets
abbrev pub fault_by : HexFault → TextFault
fault_by hex.NotHex = NotHex
fault_by hex.NoMemory = NoMemory

-- this is printed of a text: what the frame says whose octets it spells
abbrev pub IsPrinted : List ℕ → Option Unreadable → List ℕ → Type 0
IsPrinted text cause printed = (octets : List ℕ) × (octets_in text ≡ Some octets) × Decodes octets cause [] printed

-- why nothing is printed of a text: it isn't hexadecimal digits, or memory runs out
abbrev pub IsUnspelled : List ℕ → TextFault → Type 0
IsUnspelled text (Line n) = ⊥
IsUnspelled text TooLong = ⊥
IsUnspelled text NotHex = octets_in text ≡ None
IsUnspelled text (Header fault) = ⊥
IsUnspelled text (Record fault) = ⊥
IsUnspelled text Read = ⊥
IsUnspelled text Write = ⊥
IsUnspelled text NoMemory = ⊤

-- What a text makes a sink take: all that is printed of it, or a front of that where the sink fails. Nothing is printed of a text that isn't
-- hexadecimal digits, nor where another fault ends the command.
abbrev pub TakesPrinted : List ℕ → Result (Option Unreadable) TextFault → Option (List ℕ) → Option (List ℕ) → Type 0
TakesPrinted text (Ok cause) old new = (printed : List ℕ) × IsPrinted text cause printed × Appends old new printed
TakesPrinted text (Err Write) old new = (cause : Option Unreadable) × (printed : List ℕ) × IsPrinted text cause printed × TakesFront old new printed
TakesPrinted text (Err NotHex) old new = (octets_in text ≡ None) × Appends old new []
TakesPrinted text (Err Read) old new = Appends old new []
TakesPrinted text (Err NoMemory) old new = Appends old new []
TakesPrinted text (Err TooLong) old new = ⊥
TakesPrinted text (Err (Line n)) old new = ⊥
TakesPrinted text (Err (Header fault)) old new = ⊥
TakesPrinted text (Err (Record fault)) old new = ⊥
