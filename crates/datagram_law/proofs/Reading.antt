-- The whole of one that was accepted is read as that one.
use Rattle.std.proofs.Common.{◌≡◌, ℕ, ◌-◌, ◌<◌, ◌^◌, Bool, true, false, nat_eq, cond, List, [], length, get_or, Result, Ok, sym, ◌∙◌, ap, subst, append-nil, arith}
use Rattle.std.specs.List.{Any}
use Rattle.ipv4.specs.declared.addr.Addr.{Addr}
use Rattle.ipv4.specs.declared.addr.Endpoint.{Endpoint}
use Rattle.ipv4.specs.Datagram.{Datagram}
use Rattle.udp.specs.declared.fault.UdpFault.{UdpFault}
use Rattle.udp.specs.Datagram.{UserDatagram, IsParsed, Spells, spelling}
use Rattle.udp.specs.Sent.{CanBeSent, checksum_field}
use Rattle.udp.specs.Reading.{datagram_or_fault}
use Rattle.udp.proofs.Plain.{fault_ok}
use Rattle.udp.proofs.Answering.{one_answer, sent_spelled}
use Rattle.datagram_law.specs.Accepted.{Accepted, AreInTurn, CameFrom, IsInWidths, datagram_of, head_of}
use Rattle.datagram_law.specs.Carried.{IsOf, IsWholeOfOne}

told_fits : (sum : ℕ) → checksum_field (65535 - sum) < 2 ^ 16
told_fits sum = by_test (nat_eq (65535 - sum) 0)
  where
    by_test : (b : Bool) → cond b 65535 (65535 - sum) < 2 ^ 16
    by_test true = omega arith
    by_test false = omega arith

can_be_sent : (a : Accepted) → IsInWidths a → CanBeSent a.source.addr a.peer.addr (head_of a) a.octets
can_be_sent a fits = record {
  src_octets = fits.source_addr;
  dst_octets = fits.peer_addr;
  fields = record { source = fits.source_port; destination = fits.peer_port; len = omega (arith, fits.len); checksum = told_fits _ };
}

spelled : (a : Accepted) → IsInWidths a → Spells a.source.addr a.peer.addr (datagram_of a) (spelling (datagram_of a))
spelled a fits =
    subst (λ (octets : List ℕ). Spells a.source.addr a.peer.addr (datagram_of a) octets) (append-nil (spelling (datagram_of a)))
    (sent_spelled a.source.addr a.peer.addr (head_of a) a.octets [] (can_be_sent a fits))

-- between the addresses of a datagram that has the whole of it
pub spells_one : (a : Accepted) (d : Datagram) (payload : List ℕ) → IsInWidths a → IsOf a d → payload ≡ spelling (datagram_of a)
    → Spells d.source d.destination (datagram_of a) payload
spells_one a d payload fits of is =
    subst (λ (octets : List ℕ). Spells d.source d.destination (datagram_of a) octets) (sym is)
    (subst (λ (src : Addr). Spells src d.destination (datagram_of a) (spelling (datagram_of a))) (sym of.source)
    (subst (λ (dst : Addr). Spells a.source.addr dst (datagram_of a) (spelling (datagram_of a))) (sym of.destination) (spelled a fits)))

pub widths_of : (accepted : List Accepted) (k : ℕ) (a : Accepted) → AreInTurn accepted → k < length accepted → get_or accepted k a ≡ a → IsInWidths a
widths_of accepted k a turn within there = subst IsInWidths there (turn.widths k a within)

pub parsed : (accepted : List Accepted) (d : Datagram) (payload : List ℕ) (answer : Result UserDatagram UdpFault) → AreInTurn accepted
    → IsWholeOfOne accepted d payload → IsParsed d.source d.destination payload answer → Any (λ a. IsOf a d × (answer ≡ Ok (datagram_of a))) accepted
parsed accepted d payload answer turn (k, a, within, there, (of, is)) h =
    let spells = spells_one a d payload (widths_of accepted k a turn within there) of is in
    (k, a, within, there, (of, one_answer d.source d.destination payload answer (Ok (datagram_of a)) h spells))

pub came_from : (accepted : List Accepted) (d : Datagram) (u : UserDatagram) → Any (λ a. IsOf a d × (u ≡ datagram_of a)) accepted
    → CameFrom accepted (record { addr = d.source; port = u.source }) (record { addr = d.destination; port = u.destination }) u.payload
came_from accepted d u (k, a, within, there, (of, is)) =
    let source : a.source ≡ record { addr = d.source; port = u.source } =
    ap (λ (x : Addr). let e : Endpoint = record { addr = x; port = a.source.port } in e) (sym of.source)
    ∙ ap (λ (x : UserDatagram). let e : Endpoint = record { addr = d.source; port = x.source } in e) (sym is) in
    let peer : a.peer ≡ record { addr = d.destination; port = u.destination } =
    ap (λ (x : Addr). let e : Endpoint = record { addr = x; port = a.peer.port } in e) (sym of.destination)
    ∙ ap (λ (x : UserDatagram). let e : Endpoint = record { addr = d.destination; port = x.destination } in e) (sym is) in
    (k, a, within, there, (source, peer, sym (ap (λ (x : UserDatagram). x.payload) is)))

pub read : (accepted : List Accepted) (d : Datagram) (payload : List ℕ) → AreInTurn accepted → IsWholeOfOne accepted d payload
    → Any (λ a. IsOf a d × (datagram_or_fault d.source d.destination payload ≡ Ok (datagram_of a))) accepted
read accepted d payload turn (k, a, within, there, (of, is)) =
    let spells = spells_one a d payload (widths_of accepted k a turn within there) of is in
    (k, a, within, there, (of, fault_ok d.source d.destination payload (datagram_of a) spells))

pub came : (accepted : List Accepted) (d : Datagram) (payload : List ℕ) (u : UserDatagram) → AreInTurn accepted → IsWholeOfOne accepted d payload
    → datagram_or_fault d.source d.destination payload ≡ Ok u
    → CameFrom accepted (record { addr = d.source; port = u.source }) (record { addr = d.destination; port = u.destination }) u.payload
came accepted d payload u turn whole h = came_from accepted d u (inside (read accepted d payload turn whole))
  where
    read_as : UserDatagram → Result UserDatagram UdpFault
    read_as x = Ok x

    same : (x y : UserDatagram) → read_as x ≡ read_as y → x ≡ y
    same x y e = cc

    inside : Any (λ a. IsOf a d × (datagram_or_fault d.source d.destination payload ≡ read_as (datagram_of a))) accepted
        → Any (λ a. IsOf a d × (u ≡ datagram_of a)) accepted
    inside (k, a, within, there, (of, is)) = (k, a, within, there, (of, same u (datagram_of a) (sym h ∙ is)))
