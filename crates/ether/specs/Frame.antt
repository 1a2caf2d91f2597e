-- An Ethernet II frame, and the octets that spell it (RFC 894).
use Rattle.std.specs.Prelude.{ℕ, ◌-◌, ◌<◌, ◌^◌, ◌≡◌, List, ◌++◌, length, replicate, Result, Ok, Err}
use Rattle.byteorder.specs.Endian.{big_bytes}
use Rattle.ether.specs.declared.mac.Mac.{Mac}
use Rattle.ether.specs.declared.head.Head.{Head}
use Rattle.ether.specs.declared.head.TheConstants.{LEAST_PAYLOAD}
use Rattle.ether.specs.declared.view.FrameFault.{FrameFault}
use Rattle.ether.specs.declared.view.FrameFault.TheVariants.{Short}

-- what a frame says: to whom, from whom, of what type, and its payload
pub record Frame : Type 0 where
  pub destination : Mac
  pub source : Mac
  pub kind : ℕ
  pub payload : List ℕ

-- the octets of a head: destination, source, type
abbrev pub head_octets : Mac → Mac → ℕ → List ℕ
head_octets destination source kind = destination.0 ++ source.0 ++ big_bytes 2 kind

-- the octets that spell a frame
abbrev pub spelling : Frame → List ℕ
spelling f = head_octets f.destination f.source f.kind ++ f.payload

-- The octets spell this frame: its addresses have six octets, and its type is a number of 16 bits. What stands behind the
-- payload of a short packet is a part of the payload here: the packet says where it ends.
pub record Spells (f : Frame) (octets : List ℕ) : Type 0 where
  pub destination : length f.destination.0 ≡ 6
  pub source : length f.source.0 ≡ 6
  pub kind : f.kind < 2 ^ 16
  pub spelled : octets ≡ spelling f

-- what is made of octets: the frame that they spell, or the one fault where they spell none
abbrev pub IsParsed : List ℕ → Result Frame FrameFault → Type 0
IsParsed octets (Ok f) = Spells f octets
IsParsed octets (Err Short) = (f : Frame) → Spells f octets → ⊥

-- zeros up to the least payload of a frame
abbrev pub padding : List ℕ → List ℕ
padding payload = replicate (LEAST_PAYLOAD - length payload) 0

-- the frame that goes out for a head and a payload
abbrev pub sent : Head → List ℕ → Frame
sent head payload = record { destination = head.destination; source = head.source; kind = head.kind; payload = payload ++ padding payload }
