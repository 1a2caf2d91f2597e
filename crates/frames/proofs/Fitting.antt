-- How long the parts are of what is heard.
use Rattle.std.proofs.Common.{◌≡◌, ℕ, ◌+◌, ◌-◌, ◌≤◌, ◌==◌, ◌/◌, ◌||◌, ◌++◌, Bool, true, false, nat_lt, cond, List, length, take, drop, slice_index, Option, Some, None, Result, Ok, Err, arith, refl, sym, ◌∙◌, ap, subst, length-append}
use Rattle.std.proofs.lemmas.Bool.Decides.{nat_tests}
use Rattle.std.proofs.lemmas.List.{length-drop, length-take}
use Rattle.ether.specs.Frame.{Frame}
use Rattle.ether.specs.Reading.{frame_of}
use Rattle.ipv4.specs.declared.addr.Addr.{Addr}
use Rattle.ipv4.specs.declared.fault.Ipv4Fault.TheVariants.{IpSum}
use Rattle.ipv4.specs.Datagram.{Datagram, header_octets}
use Rattle.ipv4.specs.Reading.{checked, datagram_in, datagram_of, datagram_with, has_place, lengths_in, header_length_field, word_at}
use Rattle.icmp.specs.declared.fault.IcmpFault.{IcmpFault}
use Rattle.icmp.specs.declared.fault.IcmpFault.TheVariants.{UpperHeader, UpperSum}
use Rattle.icmp.specs.Message.{Message}
use Rattle.icmp.specs.Reading.{message_of, message_or_fault}
use Rattle.frames.proofs.Origins.{Brought}

-- the lengths of a datagram's parts, where it was read of so many octets
pub record Fits (d : Datagram) (len : ℕ) : Type 0 where
  pub source : length d.source.0 ≡ 4
  pub destination : length d.destination.0 ≡ 4
  pub options : length d.options ≤ 40
  pub payload : 20 + length d.payload ≤ len

-- of a header and a whole of these lengths
parts : (octets : List ℕ) (header total : ℕ) → 20 ≤ header → header ≤ 60 → header ≤ length octets
    → Fits (datagram_of (take header octets) (take (total - header) (drop header octets))) (length octets)
parts octets header total least most within =
    let front : List ℕ = take header octets in
    let front_len : length front ≡ header = omega (arith, length-take header octets, within) in record {
      source = omega (arith, length-take 4 (drop 12 front), length-drop 12 front, front_len, least);
      destination = omega (arith, length-take 4 (drop 16 front), length-drop 16 front, front_len, least);
      options = omega (arith, length-drop 20 front, front_len, most);
      payload = omega (arith, length-take (total - header) (drop header octets), length-drop header octets, least, within);
    }

-- a test that guards a value
guarded : {A : Type 0} (b : Bool) (x : Option A) (y : A) → cond b None x ≡ Some y → (b ≡ false) × (x ≡ Some y)
guarded true x y e = cc
guarded false x y e = (refl, e)

granted : {A : Type 0} (b : Bool) (x y : A) → cond b (Some x) None ≡ Some y → x ≡ y
granted true x y e = cc
granted false x y e = cc

passed : {A E : Type 0} (b : Bool) (x y : A) (fault : E) → ◌≡◌ {A = Result A E} (cond b (Ok x) (Err fault)) (Ok y) → x ≡ y
passed true x y fault e = cc
passed false x y fault e = cc

-- the lengths that are told
told : (octets : List ℕ) (header total : ℕ) → lengths_in octets ≡ Some (header, total)
    → (20 ≤ header) × (header ≤ 60) × (header ≤ length octets) × (header_length_field octets ≡ header)
told octets header total is =
    let room = guarded (nat_lt (length octets) 20) _ (header, total) is in
    let fit = guarded (nat_lt (header_length_field octets) 20 || nat_lt (word_at octets 2) (header_length_field octets) || nat_lt (length octets) (word_at octets 2)) _ (header, total) room.1 in
    let both : ◌≡◌ {A = ℕ × ℕ} (header_length_field octets, word_at octets 2) (header, total) = granted (slice_index octets 0 / 16 == 4) (header_length_field octets, word_at octets 2) (header, total) fit.1 in
    let same : header_length_field octets ≡ header = ap (λ (pair : ℕ × ℕ). pair.0) both in
    (grind (arith, nat_tests, fit.0, same), omega (arith, same), grind (arith, nat_tests, fit.0, same), same)

-- a datagram that is read
checked_is : (b : Bool) (own d : Datagram) → checked (cond b (Some own) None) ≡ Ok d → own ≡ d
checked_is true own d e = passed _ own d IpSum e
checked_is false own d e = cc

read : (octets : List ℕ) (d : Datagram) → datagram_in octets ≡ Ok d → Fits d (length octets)
read octets d found = by_lengths (lengths_in octets) refl found
  where
    by_lengths : (lengths : Option (ℕ × ℕ)) → lengths_in octets ≡ lengths → checked (datagram_with octets lengths) ≡ Ok d → Fits d (length octets)
    by_lengths None is e = cc
    by_lengths (Some (header, total)) is e =
        let own : Datagram = datagram_of (take header octets) (take (total - header) (drop header octets)) in
        let lens = told octets header total is in
        let same : own ≡ d = checked_is (has_place own.more_fragments own.offset (length own.payload)) own d e in
        subst (λ (d : Datagram). Fits d (length octets)) same (parts octets header total lens.0 lens.1 lens.2)

-- its protocol stands behind eight octets and another
pub protocol_told : (octets : List ℕ) (d : Datagram) → datagram_in octets ≡ Ok d → d.protocol ≡ slice_index (take (header_length_field octets) octets) 9
protocol_told octets d found = by_lengths (lengths_in octets) refl found
  where
    by_lengths : (lengths : Option (ℕ × ℕ)) → lengths_in octets ≡ lengths → checked (datagram_with octets lengths) ≡ Ok d
        → d.protocol ≡ slice_index (take (header_length_field octets) octets) 9
    by_lengths None is e = cc
    by_lengths (Some (header, total)) is e =
        let own : Datagram = datagram_of (take header octets) (take (total - header) (drop header octets)) in
        let same : own ≡ d = checked_is (has_place own.more_fragments own.offset (length own.payload)) own d e in
        ap (λ (e : Datagram). e.protocol) (sym same) ∙ ap (λ (n : ℕ). slice_index (take n octets) 9) (sym (told octets header total is).3)

-- and of a frame
pub fits : (ours : Addr) (octets : List ℕ) (d : Datagram) → Brought ours octets d → Fits d 1500
fits ours octets d brought =
    let own = read brought.frame.payload d brought.found in
    let frame : ◌≡◌ {A = Option Frame} (Some (frame_of octets)) (Some brought.frame) = (guarded (nat_lt (length octets) 14) _ brought.frame brought.framed).1 in
    let same : frame_of octets ≡ brought.frame = cc in
    let len : length brought.frame.payload ≡ length octets - 14 = ap (λ (f : Frame). length f.payload) (sym same) ∙ length-drop 14 octets in
    record {
      source = own.source;
      destination = own.destination;
      options = own.options;
      payload = omega (arith, own.payload, len, brought.most);
    }

pub header_fits : (d : Datagram) (len : ℕ) → Fits d len → length (header_octets d) ≤ 60
header_fits d len own =
    omega (arith, length-append (d.source.0 ++ d.destination.0) d.options, length-append d.source.0 d.destination.0, own.source, own.destination, own.options)

-- a message that is read has its head
pub message_fits : (octets : List ℕ) (m : Message) → message_or_fault octets ≡ Ok m → 8 + length m.payload ≤ length octets
message_fits octets m found = by_tests (nat_lt (length octets) 8) _ refl found
  where
    by_tests : (few right : Bool) → nat_lt (length octets) 8 ≡ few
        → ◌≡◌ {A = Result Message IcmpFault} (cond few (Err UpperHeader) (cond right (Ok (message_of octets)) (Err UpperSum))) (Ok m) → 8 + length m.payload ≤ length octets
    by_tests true right is e = cc
    by_tests false right is e =
        let same : message_of octets ≡ m = passed right (message_of octets) m UpperSum e in
        let len : length m.payload ≡ length octets - 8 = ap (λ (n : Message). length n.payload) (sym same) ∙ length-drop 8 octets in
        grind (arith, nat_tests, is, len)
