-- Why a segment that is heard has no more octets than a segment may have.
use Rattle.std.proofs.Common.{◌≡◌, ℕ, ◌+◌, ◌-◌, ◌≤◌, ◌||◌, nat_lt, if◌then◌else◌, Bool, true, false, List, length, take, drop, Option, Some, None, Ok, arith, refl, sym, ◌∙◌, ap}
use Rattle.std.proofs.lemmas.List.{length-drop}
use Rattle.std.proofs.lemmas.Bool.Decides.{nat_tests}
use Rattle.ether.specs.declared.mac.Mac.{Mac}
use Rattle.ipv4.specs.declared.addr.Addr.{Addr}
use Rattle.tcp_segment.specs.declared.TheConstants.{MSS}
use Rattle.tcp_segment.specs.Options.{HeaderOption}
use Rattle.tcp_segment.specs.Reading.{checked, header_len, header_in, in_header, options_behind, segment_or_fault, segment_with, with_options}
use Rattle.tcp_segment.specs.Segment.{Segment}
use Rattle.frames.specs.declared.meaning.Meaning.TheVariants.{Tcp}
use Rattle.frames.specs.declared.meaning.ReceivedSegment.{ReceivedSegment}
use Rattle.frames.specs.Meaning.{heard}
use Rattle.frames.proofs.Fitting.{fits}
use Rattle.frames.proofs.Origins.{from_datagram}

-- a header has twenty octets at least, and no more than there are
header_told : (octets : List ℕ) (header : ℕ) → header_in octets ≡ Some header → (20 ≤ header) × (header ≤ length octets)
header_told octets header is = by_tests (nat_lt (length octets) 20 || nat_lt 65535 (length octets)) (nat_lt (header_len octets) 20) (nat_lt (length octets) (header_len octets)) refl refl is
  where
    by_tests : (without short beyond : Bool) → nat_lt (header_len octets) 20 ≡ short → nat_lt (length octets) (header_len octets) ≡ beyond
        → (if without then None else if short || beyond then None else Some (header_len octets)) ≡ Some header → (20 ≤ header) × (header ≤ length octets)
    by_tests true short beyond is_short is_beyond e = cc
    by_tests false true beyond is_short is_beyond e = cc
    by_tests false false true is_short is_beyond e = cc
    by_tests false false false is_short is_beyond e = let same : header_len octets ≡ header = cc in (grind (arith, nat_tests, is_short, same), grind (arith, nat_tests, is_beyond, same))

checked_is : (right : Bool) (read : Option Segment) (s : Segment) → checked right read ≡ Ok s → read ≡ Some s
checked_is right None s e = cc
checked_is true (Some t) s e = cc
checked_is false (Some t) s e = cc

-- so what is read has the rest of them
read_fits : (src dst : Addr) (octets : List ℕ) (s : Segment) → segment_or_fault src dst octets ≡ Ok s → 20 + length s.octets ≤ length octets
read_fits src dst octets s is = by_header (header_in octets) refl (checked_is _ (in_header octets (header_in octets)) s is)
  where
    by_options : (header : ℕ) → header_in octets ≡ Some header → (o : Option (List HeaderOption)) → with_options octets header o ≡ Some s → 20 + length s.octets ≤ length octets
    by_options header told None e = cc
    by_options header told (Some options) e =
        let same : segment_with octets header options ≡ s = cc in
        let len : length s.octets ≡ length octets - header = ap (λ (t : Segment). length t.octets) (sym same) ∙ length-drop header octets in
        let room = header_told octets header told in
        omega (arith, len, room.0, room.1)

    by_header : (o : Option ℕ) → header_in octets ≡ o → in_header octets o ≡ Some s → 20 + length s.octets ≤ length octets
    by_header None told e = cc
    by_header (Some header) told e = by_options header told (options_behind (take (header - 20) (drop 20 octets)) 0) e

-- a frame has room for 1,480 octets behind the head of its datagram
pub segments_fit : (mac : Mac) (ours : Addr) (octets : List ℕ) (r : ReceivedSegment) → heard mac ours octets ≡ Ok (Tcp r) → length r.segment.octets ≤ MSS
segments_fit mac ours octets r answer =
    let from = from_datagram mac ours octets (Tcp r) answer (λ p no. cc) in
    let own = fits ours octets from.0 from.1 in
    omega (arith, read_fits from.0.source from.0.destination from.0.payload r.segment from.2.3, own.payload)
