-- Where the fields of a frame stand in its octets.
use Rattle.std.proofs.Common.{◌≡◌, ℕ, List, ◌++◌, length, take, drop, arith, ◌∙◌, ap, append_assoc, length-append}
use Rattle.std.proofs.lemmas.List.{take_at, drop_at}
use Rattle.byteorder.specs.Endian.{big_bytes}
use Rattle.ether.specs.Frame.{Frame, Spells}

-- the octets of a frame, one field behind the other
apart : (f : Frame) (octets : List ℕ) → Spells f octets → octets ≡ f.destination.0 ++ (f.source.0 ++ (big_bytes 2 f.kind ++ f.payload))
apart f octets s = s.spelled ∙ simp append_assoc

-- what stands behind the destination
behind : (f : Frame) (octets : List ℕ) → Spells f octets → drop 6 octets ≡ f.source.0 ++ (big_bytes 2 f.kind ++ f.payload)
behind f octets s = ap (drop 6) (apart f octets s) ∙ drop_at f.destination.0 (f.source.0 ++ (big_bytes 2 f.kind ++ f.payload)) 6 s.destination

-- what stands behind both addresses
upper : (f : Frame) (octets : List ℕ) → Spells f octets → drop 12 octets ≡ big_bytes 2 f.kind ++ f.payload
upper f octets s =
    let both : length (f.destination.0 ++ f.source.0) ≡ 12 = omega (arith, length-append f.destination.0 f.source.0, s.destination, s.source) in
    let parted : octets ≡ (f.destination.0 ++ f.source.0) ++ (big_bytes 2 f.kind ++ f.payload) = s.spelled ∙ simp append_assoc in
    ap (drop 12) parted ∙ drop_at (f.destination.0 ++ f.source.0) (big_bytes 2 f.kind ++ f.payload) 12 both

pub destination_first : (f : Frame) (octets : List ℕ) → Spells f octets → take 6 octets ≡ f.destination.0
destination_first f octets s =
    ap (take 6) (apart f octets s) ∙ take_at f.destination.0 (f.source.0 ++ (big_bytes 2 f.kind ++ f.payload)) 6 s.destination

pub source_second : (f : Frame) (octets : List ℕ) → Spells f octets → take 6 (drop 6 octets) ≡ f.source.0
source_second f octets s = ap (take 6) (behind f octets s) ∙ take_at f.source.0 (big_bytes 2 f.kind ++ f.payload) 6 s.source

pub kind_third : (f : Frame) (octets : List ℕ) → Spells f octets → take 2 (drop 12 octets) ≡ big_bytes 2 f.kind
kind_third f octets s = ap (take 2) (upper f octets s)

pub payload_last : (f : Frame) (octets : List ℕ) → Spells f octets → drop 14 octets ≡ f.payload
payload_last f octets s =
    let head : List ℕ = (f.destination.0 ++ f.source.0) ++ big_bytes 2 f.kind in
    let both : length head ≡ 14 = omega (arith, length-append (f.destination.0 ++ f.source.0) (big_bytes 2 f.kind), length-append f.destination.0 f.source.0, s.destination, s.source) in
    ap (drop 14) s.spelled ∙ drop_at head f.payload 14 both
