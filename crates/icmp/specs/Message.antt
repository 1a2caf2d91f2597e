-- An ICMP message, and the octets that spell it (RFC 792).
use Rattle.std.specs.Prelude.{◌≡◌, ℕ, ◌<◌, ◌^◌, List, [], ◌∷◌, ◌++◌, Result, Ok, Err}
use Rattle.byteorder.specs.Endian.{big_bytes}
use Rattle.inet_sum.specs.Sum.{sum_of}
use Rattle.icmp.specs.declared.fault.IcmpFault.{IcmpFault}
use Rattle.icmp.specs.declared.fault.IcmpFault.TheVariants.{UpperHeader, UpperSum}

-- What a message says. The four octets behind the checksum are an echo's identifier and number; other types leave them zero
-- or give them other meanings.
pub record Message : Type 0 where
  pub kind : ℕ
  pub code : ℕ
  pub checksum : ℕ
  pub identifier : ℕ
  pub number : ℕ
  pub payload : List ℕ

-- the octets of a message: type, code, checksum, identifier, number, data
abbrev pub spelling : Message → List ℕ
spelling m =
    m.kind ∷ m.code ∷ [] ++ big_bytes 2 m.checksum
    ++ big_bytes 2 m.identifier ++ big_bytes 2 m.number
    ++ m.payload

-- each field is a number of its width
pub record IsMessage (m : Message) : Type 0 where
  pub kind : m.kind < 2 ^ 8
  pub code : m.code < 2 ^ 8
  pub checksum : m.checksum < 2 ^ 16
  pub identifier : m.identifier < 2 ^ 16
  pub number : m.number < 2 ^ 16

-- the octets have the form of this message, whatever its checksum
pub record HasForm (m : Message) (octets : List ℕ) : Type 0 where
  pub fields : IsMessage m
  pub spelled : octets ≡ spelling m

-- the checksum is right: all the octets have the sum 0xFFFF
abbrev pub SumIsRight : Message → Type 0
SumIsRight m = sum_of (spelling m) ≡ 65535

-- the octets spell this message
pub record Spells (m : Message) (octets : List ℕ) : Type 0 where
  pub form : HasForm m octets
  pub sum : SumIsRight m

-- What is made of octets: the message that they spell, or the first fault. A fault of the form comes first, whatever the
-- checksum is.
abbrev pub IsParsed : List ℕ → Result Message IcmpFault → Type 0
IsParsed octets (Ok m) = Spells m octets
IsParsed octets (Err UpperHeader) = (m : Message) → HasForm m octets → ⊥
IsParsed octets (Err UpperSum) = (m : Message) × HasForm m octets × (SumIsRight m → ⊥)

-- an echo request: type 8, code 0
pub record IsEchoRequest (m : Message) : Type 0 where
  pub kind : m.kind ≡ 8
  pub code : m.code ≡ 0
