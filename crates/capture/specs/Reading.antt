-- What is read of a capture, from left to right.
use Rattle.std.specs.Prelude.{◌≡◌, ℕ, ◌+◌, ◌-◌, ◌*◌, ◌/◌, ◌%◌, ◌==◌, nat_lt, ◌||◌, ◌&&◌, if◌then◌else◌, List, [], ◌∷◌, length, take, drop, Option, Some, None, Result, Ok, Err}
use Rattle.clock.specs.declared.moment.Moment.{Moment}
use Rattle.capture.specs.declared.fault.HeaderFault.{HeaderFault}
use Rattle.capture.specs.declared.fault.HeaderFault.TheVariants.{LinkType, NotACapture, Short, Version}
use Rattle.capture.specs.declared.fault.RecordFault.{RecordFault}
use Rattle.capture.specs.declared.fault.RecordFault.TheVariants.{CutHead, CutOctets, TooLong}
use Rattle.capture.specs.declared.format.Format.{Format}
use Rattle.capture.specs.declared.format.Fraction.{Fraction}
use Rattle.capture.specs.declared.format.Fraction.TheVariants.{Microseconds, Nanoseconds}
use Rattle.capture.specs.declared.format.Order.{Order}
use Rattle.capture.specs.declared.format.Order.TheVariants.{Big, Little}
use Rattle.capture.specs.declared.header.Header.{Header}
use Rattle.capture.specs.Capture.{Entry, Frame, number_in}

-- the format that the first four octets tell, as a number whose lowest octet stands first
abbrev pub format_of : ℕ → Option Format
format_of magic =
    if magic == 0xa1b2c3d4 then Some (record { order = Little; fraction = Microseconds })
    else if magic == 0xd4c3b2a1 then Some (record { order = Big; fraction = Microseconds })
    else if magic == 0xa1b23c4d then Some (record { order = Little; fraction = Nanoseconds })
    else if magic == 0x4d3cb2a1 then Some (record { order = Big; fraction = Nanoseconds })
    else None

-- the number of so many octets that stands at a place
abbrev pub number_at : Order → ℕ → ℕ → List ℕ → ℕ
number_at order n at octets = number_in order n (drop at octets)

-- the header in octets of this format: version 2.4 of it, and Ethernet
abbrev pub header_of : Format → List ℕ → Result Header HeaderFault
header_of format octets =
    if nat_lt (length octets) 24 then Err (Short (24 - length octets))
    else if number_at format.order 2 4 octets == 2 && number_at format.order 2 6 octets == 4 then
    (if number_at format.order 4 20 octets == 1 then Ok (record { format = format; snaplen = number_at format.order 4 16 octets })
    else Err (LinkType (number_at format.order 4 20 octets)))
    else Err (Version (number_at format.order 2 4 octets) (number_at format.order 2 6 octets))

-- the header in octets whose format is this
abbrev pub header_with : Option Format → List ℕ → Result Header HeaderFault
header_with None octets = Err (NotACapture (number_in Little 4 octets))
header_with (Some format) octets = header_of format octets

-- the header that octets begin with, or the first fault
abbrev pub header_in : List ℕ → Result Header HeaderFault
header_in octets =
    if nat_lt (length octets) 4 then Err (Short (24 - length octets))
    else header_with (format_of (number_in Little 4 octets)) octets

-- a capture that is read: its header, and the octets that are left
pub record Unread : Type 0 where
  pub header : Header
  pub octets : List ℕ

-- what is left behind a header
abbrev pub behind_header : Result Header HeaderFault → List ℕ → Result Unread HeaderFault
behind_header (Ok header) octets = Ok (record { header = header; octets = drop 24 octets })
behind_header (Err fault) octets = Err fault

-- the capture that begins with these octets
abbrev pub opened : List ℕ → Result Unread HeaderFault
opened octets = behind_header (header_in octets) octets

-- what is read of a record: the second, the nanoseconds of it, the length that the frame had, and its octets
pub record Record : Type 0 where
  pub seconds : ℕ
  pub nanoseconds : ℕ
  pub original : ℕ
  pub octets : List ℕ

-- a fraction of a second in nanoseconds
abbrev pub nanoseconds_of : Fraction → ℕ → ℕ
nanoseconds_of Microseconds fraction = fraction * 1000
nanoseconds_of Nanoseconds fraction = fraction

-- how many octets of a record are read at most: as many as the snapshot length says, if that is one that libpcap takes
abbrev pub most_octets : Header → ℕ
most_octets header =
    if header.snaplen == 0 || nat_lt 2147483647 header.snaplen then 262144 else header.snaplen

-- what is read of a record, by its header
abbrev pub read_as : Header → Entry → Record
read_as header e = record {
  seconds = e.seconds;
  nanoseconds = nanoseconds_of header.format.fraction e.fraction;
  original = e.original;
  octets = take (most_octets header) e.octets;
}

-- the moment of a record in milliseconds
abbrev pub moment_of : Record → Moment
moment_of r = record { 0 = r.seconds * 1000 + r.nanoseconds / 1000000 }

-- how many octets the record at the front has, beside those of its head
abbrev pub included_in : Header → List ℕ → ℕ
included_in header octets = number_at header.format.order 4 8 octets

-- the record at the front
abbrev pub entry_in : Header → List ℕ → Entry
entry_in header octets = record {
  seconds = number_in header.format.order 4 octets;
  fraction = number_at header.format.order 4 4 octets;
  original = number_at header.format.order 4 12 octets;
  octets = take (included_in header octets) (drop 16 octets);
}

-- the next record, or why there is none; nothing at the capture's end
abbrev pub answer_in : Header → List ℕ → Option (Result Record RecordFault)
answer_in header octets =
    if length octets == 0 then None
    else if nat_lt (length octets) 16 then Some (Err (CutHead (16 - length octets)))
    else if nat_lt 262144 (included_in header octets) then Some (Err (TooLong (included_in header octets)))
    else if nat_lt (length octets) (16 + included_in header octets) then
    Some (Err (CutOctets (16 + included_in header octets - length octets)))
    else Some (Ok (read_as header (entry_in header octets)))

-- what is left behind it: nothing behind a fault
abbrev pub rest_behind : ℕ → Option (Result Record RecordFault) → List ℕ → List ℕ
rest_behind included (Some (Ok r)) octets = drop (16 + included) octets
rest_behind included (Some (Err fault)) octets = []
rest_behind included None octets = []

abbrev pub rest_in : Header → List ℕ → List ℕ
rest_in header octets = rest_behind (included_in header octets) (answer_in header octets) octets

-- Read one by one, the octets behind a header are these records, and then the end of the capture, or a fault.
abbrev pub AreRead : Header → List ℕ → List Record → Option RecordFault → Type 0
AreRead header octets [] None = answer_in header octets ≡ None
AreRead header octets [] (Some fault) = answer_in header octets ≡ Some (Err fault)
AreRead header octets (r ∷ rs) end = (answer_in header octets ≡ Some (Ok r)) × AreRead header (rest_in header octets) rs end

-- what is read of a frame's record in a capture of ours
abbrev pub record_of : Frame → Record
record_of f = record {
  seconds = f.moment.0 / 1000;
  nanoseconds = f.moment.0 % 1000 * 1000000;
  original = length f.octets;
  octets = f.octets;
}
