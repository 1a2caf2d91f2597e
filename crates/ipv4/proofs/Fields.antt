-- Where the addresses and the options stand in a header.
use Rattle.std.proofs.Common.{◌≡◌, ℕ, List, ◌++◌, length, take, drop, arith, ◌∙◌, ap, append_assoc, length-append}
use Rattle.std.proofs.lemmas.List.{take_at, drop_at}
use Rattle.ipv4.specs.Datagram.{Datagram, IsDatagram, header_octets}

-- the octets before the addresses
abbrev first_words : Datagram → List ℕ
first_words d = take 12 (header_octets d)

-- a header, one part behind the other
apart : (d : Datagram) → header_octets d ≡ first_words d ++ (d.source.0 ++ (d.destination.0 ++ d.options))
apart d = simp append_assoc

behind_source : (d : Datagram) → IsDatagram d → drop 16 (header_octets d) ≡ d.destination.0 ++ d.options
behind_source d fields =
    let len : length (first_words d ++ d.source.0) ≡ 16 = omega (arith, length-append (first_words d) d.source.0, fields.source) in
    let parted : header_octets d ≡ (first_words d ++ d.source.0) ++ (d.destination.0 ++ d.options) = simp append_assoc in
    ap (drop 16) parted ∙ drop_at (first_words d ++ d.source.0) (d.destination.0 ++ d.options) 16 len

pub source_fourth : (d : Datagram) → IsDatagram d → take 4 (drop 12 (header_octets d)) ≡ d.source.0
source_fourth d fields = ap (λ xs. take 4 (drop 12 xs)) (apart d) ∙ take_at d.source.0 (d.destination.0 ++ d.options) 4 fields.source

pub destination_fifth : (d : Datagram) → IsDatagram d → take 4 (drop 16 (header_octets d)) ≡ d.destination.0
destination_fifth d fields = ap (take 4) (behind_source d fields) ∙ take_at d.destination.0 d.options 4 fields.destination

pub options_last : (d : Datagram) → IsDatagram d → drop 20 (header_octets d) ≡ d.options
options_last d fields =
    let len : length ((first_words d ++ d.source.0) ++ d.destination.0) ≡ 20 =
    omega (arith, length-append (first_words d ++ d.source.0) d.destination.0, length-append (first_words d) d.source.0, fields.source, fields.destination) in
    let parted : header_octets d ≡ ((first_words d ++ d.source.0) ++ d.destination.0) ++ d.options = simp append_assoc in
    ap (drop 20) parted ∙ drop_at ((first_words d ++ d.source.0) ++ d.destination.0) d.options 20 len
