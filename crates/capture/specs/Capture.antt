-- A capture, and the octets that spell it: the classic file format of libpcap (draft-ietf-opsawg-pcap), for Ethernet.
use Rattle.std.specs.Prelude.{ℕ, ◌*◌, ◌/◌, ◌%◌, ◌<◌, ◌≤◌, ◌^◌, List, ◌++◌, length, map}
use Rattle.std.specs.List.{flat_map}
use Rattle.byteorder.specs.Endian.{big_bytes, big_number, little_bytes, little_number}
use Rattle.clock.specs.declared.moment.Moment.{Moment}
use Rattle.capture.specs.declared.format.Format.{Format}
use Rattle.capture.specs.declared.format.Fraction.{Fraction}
use Rattle.capture.specs.declared.format.Fraction.TheVariants.{Microseconds, Nanoseconds}
use Rattle.capture.specs.declared.format.Order.{Order}
use Rattle.capture.specs.declared.format.Order.TheVariants.{Big, Little}
use Rattle.capture.specs.declared.header.Header.{Header}

-- the octets of a number of so many octets, in a capture's order
abbrev pub number_octets : Order → ℕ → ℕ → List ℕ
number_octets Little n x = little_bytes n x
number_octets Big n x = big_bytes n x

-- the number in the first so many octets
abbrev pub number_in : Order → ℕ → List ℕ → ℕ
number_in Little n octets = little_number n octets
number_in Big n octets = big_number n octets

-- the magic number, which tells what the fractions of a second count
abbrev pub magic_of : Fraction → ℕ
magic_of Microseconds = 0xa1b2c3d4
magic_of Nanoseconds = 0xa1b23c4d

-- the four octets that a capture of this format begins with
abbrev pub magic_octets : Format → List ℕ
magic_octets f = number_octets f.order 4 (magic_of f.fraction)

-- a version, the number before the point and the one behind it
abbrev pub version_octets : Format → ℕ → ℕ → List ℕ
version_octets f major minor = number_octets f.order 2 major ++ number_octets f.order 2 minor

-- The 24 octets of a header: magic number, version 2.4, a correction for the time zone and the accuracy of the moments,
-- of which nothing is read, the snapshot length, and link type 1, Ethernet.
abbrev pub header_octets : Header → ℕ → ℕ → List ℕ
header_octets h zone accuracy =
    number_octets h.format.order 4 (magic_of h.format.fraction)
    ++ number_octets h.format.order 2 2 ++ number_octets h.format.order 2 4
    ++ number_octets h.format.order 4 zone ++ number_octets h.format.order 4 accuracy
    ++ number_octets h.format.order 4 h.snaplen ++ number_octets h.format.order 4 1

-- what a record says: the second, the fraction of it, the length that the frame had on the link, and its octets
pub record Entry : Type 0 where
  pub seconds : ℕ
  pub fraction : ℕ
  pub original : ℕ
  pub octets : List ℕ

-- the 16 octets before a record's own: second, fraction, how many octets are included, how many there were
abbrev pub entry_head : Order → Entry → List ℕ
entry_head order e =
    number_octets order 4 e.seconds ++ number_octets order 4 e.fraction
    ++ number_octets order 4 (length e.octets) ++ number_octets order 4 e.original

-- the octets of a record
abbrev pub entry_octets : Order → Entry → List ℕ
entry_octets order e = entry_head order e ++ e.octets

-- a record that is read: its numbers have 32 bits, and 262,144 of its octets are included at most
pub record IsEntry (e : Entry) : Type 0 where
  pub seconds : e.seconds < 2 ^ 32
  pub fraction : e.fraction < 2 ^ 32
  pub original : e.original < 2 ^ 32
  pub included : length e.octets ≤ 262144

-- the octets of a capture: the header, and each record in turn
abbrev pub spelling : Header → ℕ → ℕ → List Entry → List ℕ
spelling h zone accuracy entries = header_octets h zone accuracy ++ flat_map (entry_octets h.format.order) entries

-- a frame that went out, and when, in milliseconds
pub record Frame : Type 0 where
  pub moment : Moment
  pub octets : List ℕ

-- the record of a frame: seconds modulo 2 ^ 32, microseconds, and the whole frame
abbrev pub entry_of : Frame → Entry
entry_of f = record {
  seconds = f.moment.0 / 1000 % 2 ^ 32;
  fraction = f.moment.0 % 1000 * 1000;
  original = length f.octets;
  octets = f.octets;
}

-- the header of our captures
abbrev pub our_header : Header
our_header = record { format = record { order = Little; fraction = Microseconds }; snaplen = 262144 }

-- its octets: no correction is told, and no accuracy
abbrev pub our_header_octets : List ℕ
our_header_octets = header_octets our_header 0 0

-- the capture of frames that went out in this order
abbrev pub capture_of : List Frame → List ℕ
capture_of frames = spelling our_header 0 0 (map entry_of frames)

-- a frame whose record says all of it: its second has 32 bits, and it is no longer than a record may be
pub record IsToldWhole (f : Frame) : Type 0 where
  pub moment : f.moment.0 < 1000 * 2 ^ 32
  pub octets : length f.octets ≤ 262144
