-- The words of a printed line.
use Rattle.std.specs.Prelude.{ℕ, ◌/◌, ◌%◌, List, [], ◌∷◌, ◌++◌, codes, slice_index, length, ◌==◌, Bool, true, false, if◌then◌else◌, Option, Some, None}
use Rattle.std.specs.Fmt.{decimal, digit_glyph}
use Rattle.ether.specs.declared.mac.Mac.{Mac}
use Rattle.ipv4.specs.declared.addr.Addr.{Addr}
use Rattle.tcp_segment.specs.declared.flags.Flags.{Flags}

-- an octet: two lower case hexadecimal digits
unfoldable pub hex_of : ℕ → List ℕ
hex_of octet = digit_glyph false (octet / 16) ∷ digit_glyph false (octet % 16) ∷ []

-- a number of sixteen bits: four lower case hexadecimal digits
unfoldable pub hex_of_two : ℕ → List ℕ
hex_of_two number = hex_of (number / 256) ++ hex_of (number % 256)

-- three octets, with colons between them
unfoldable pub three_text : ℕ → ℕ → ℕ → List ℕ
three_text a b c = hex_of a ++ (codes ":" ++ (hex_of b ++ (codes ":" ++ hex_of c)))

-- a MAC: its six octets, with colons between them
unfoldable pub mac_text : Mac → List ℕ
mac_text mac =
    three_text (slice_index mac.0 0) (slice_index mac.0 1) (slice_index mac.0 2)
    ++ (codes ":" ++ three_text (slice_index mac.0 3) (slice_index mac.0 4) (slice_index mac.0 5))

-- an address: its four numbers, with points between them
unfoldable pub addr_text : Addr → List ℕ
addr_text addr =
    decimal (slice_index addr.0 0) ++ (codes "." ++ (decimal (slice_index addr.0 1) ++ (codes "."
    ++ (decimal (slice_index addr.0 2) ++ (codes "." ++ decimal (slice_index addr.0 3))))))

-- the flags of a datagram: whether it must not be fragmented, and whether more fragments follow
unfoldable pub fragment_flags : Bool → Bool → List ℕ
fragment_flags true true = codes "DF+MF"
fragment_flags true false = codes "DF"
fragment_flags false true = codes "MF"
fragment_flags false false = codes "-"

-- a letter where a control bit is set
abbrev pub letter : Bool → List ℕ → List ℕ
letter set name = if set then name else []

-- the letters of the control bits that are set
abbrev pub letters : Flags → List ℕ
letters flags =
    letter flags.fin (codes "F") ++ (letter flags.syn (codes "S") ++ (letter flags.rst (codes "R")
    ++ (letter flags.psh (codes "P") ++ (letter flags.ack (codes "A") ++ letter flags.urg (codes "U")))))

-- the control bits that are set, or a dash
unfoldable pub flags_text : Flags → List ℕ
flags_text flags = if length (letters flags) == 0 then codes "-" else letters flags

-- a number that may be left out, or a dash
unfoldable pub mss_text : Option ℕ → List ℕ
mss_text (Some number) = decimal number
mss_text None = codes "-"
