-- The frame that octets spell, as the plain reading of them from left to right (RFC 894). The contract of
-- `EtherView::parse` does not rest on this page: it says what is read by the spelling alone.
use Rattle.std.specs.Prelude.{ℕ, nat_lt, if◌then◌else◌, List, length, take, drop, Option, Some, None}
use Rattle.byteorder.specs.Endian.{big_number}
use Rattle.ether.specs.Frame.{Frame}

-- the frame whose head is the first fourteen of these octets
abbrev pub frame_of : List ℕ → Frame
frame_of octets = record {
  destination = record { 0 = take 6 octets };
  source = record { 0 = take 6 (drop 6 octets) };
  kind = big_number 2 (drop 12 octets);
  payload = drop 14 octets;
}

-- the frame that octets spell, if there are enough for a head
abbrev pub frame_in : List ℕ → Option Frame
frame_in octets = if nat_lt (length octets) 14 then None else Some (frame_of octets)
