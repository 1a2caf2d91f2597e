-- The message that octets spell, and the quote that they begin with, as the plain reading of them from left to right (RFC 792).
-- The contract of `IcmpView::parse` does not rest on this page: it says what is read by the spelling alone, and so does the one
-- of `IcmpView::quote` beside. What octets are to a host rests on it.
use Rattle.std.specs.Prelude.{ℕ, ◌+◌, ◌/◌, ◌≤◌, ◌==◌, nat_lt, ◌||◌, if◌then◌else◌, List, length, take, drop, slice_index, Option, Some, None, Result, Ok, Err}
use Rattle.std.specs.Option.{option_map}
use Rattle.byteorder.specs.Endian.{big_number}
use Rattle.inet_sum.specs.Sum.{sum_of}
use Rattle.ipv4.specs.Reading.{header_length_field}
use Rattle.icmp.specs.declared.fault.IcmpFault.{IcmpFault}
use Rattle.icmp.specs.declared.fault.IcmpFault.TheVariants.{UpperHeader, UpperSum}
use Rattle.icmp.specs.declared.head.TheConstants.{HEADER_LEN}
use Rattle.icmp.specs.declared.quote.Quote.{Quote}
use Rattle.icmp.specs.Message.{Message, HasForm}

-- the message of these octets
abbrev pub message_of : List ℕ → Message
message_of octets = record {
  kind = slice_index octets 0;
  code = slice_index octets 1;
  checksum = big_number 2 (drop 2 octets);
  identifier = big_number 2 (drop 4 octets);
  number = big_number 2 (drop 6 octets);
  payload = drop 8 octets;
}

-- the message that octets spell, or the first fault: too few octets come before a wrong checksum
abbrev pub message_or_fault : List ℕ → Result Message IcmpFault
message_or_fault octets =
    if nat_lt (length octets) HEADER_LEN then Err UpperHeader
    else if sum_of octets == 65535 then Ok (message_of octets)
    else Err UpperSum

-- these are the octets of a message
pub record AreRead (octets : List ℕ) : Type 0 where
  pub least : 8 ≤ length octets
  pub form : HasForm (message_of octets) octets

-- the length of the header that octets begin with, where it is whole and 8 octets stand behind it
abbrev pub header_in : List ℕ → Option ℕ
header_in octets =
    if nat_lt (length octets) 28 then None
    else if nat_lt (header_length_field octets) 20 || nat_lt (length octets) (header_length_field octets + 8) then None
    else if slice_index octets 0 / 16 == 4 then Some (header_length_field octets)
    else None

-- the quote of octets whose header has this length
abbrev pub quote_at : List ℕ → ℕ → Quote
quote_at octets header = record {
  protocol = record { 0 = slice_index octets 9 };
  source = record { addr = record { 0 = take 4 (drop 12 octets) }; port = big_number 2 (drop header octets) };
  destination = record { addr = record { 0 = take 4 (drop 16 octets) }; port = big_number 2 (drop (header + 2) octets) };
  number = big_number 4 (drop (header + 4) octets);
}

-- the quote that octets begin with, where they begin with one
abbrev pub quote_in : List ℕ → Option Quote
quote_in octets = option_map (quote_at octets) (header_in octets)
