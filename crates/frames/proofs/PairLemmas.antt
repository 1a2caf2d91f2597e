-- A frame that is heard as a segment carries the pair of its two ends.
use Rattle.std.proofs.Common.{◌≡◌, ℕ, ◌==◌, ◌&&◌, not, cond, List, Option, Some, None, Ok, sym, ◌∙◌, ap}
use Rattle.std.proofs.lemmas.Bool.{eq-eqb}
use Rattle.ether.specs.declared.mac.Mac.{Mac}
use Rattle.ipv4.specs.declared.addr.Addr.{Addr}
use Rattle.ipv4.specs.declared.addr.Pair.{Pair}
use Rattle.ipv4.specs.Datagram.{Datagram}
use Rattle.tcp_segment.specs.Reading.{segment_in}
use Rattle.tcp_segment.proofs.Answering.{alike}
use Rattle.frames.specs.declared.meaning.Meaning.TheVariants.{Tcp}
use Rattle.frames.specs.declared.meaning.ReceivedSegment.{ReceivedSegment}
use Rattle.frames.specs.Meaning.{heard}
use Rattle.frames.specs.Pairs.{datagram_pair, pair_between, pair_in, segment_pair}
use Rattle.frames.proofs.Origins.{Brought, IsOf, from_datagram}
use Rattle.frames.proofs.PairReading.{as_frame, of_ipv4}

-- of a datagram of which a segment is heard
of_datagram : (d : Datagram) (r : ReceivedSegment) → IsOf d (Tcp r) → datagram_pair (Ok d) ≡ Some (pair_between r.source d.destination r.segment)
of_datagram d r is =
    let read : Option Pair = segment_pair d.source d.destination (segment_in d.source d.destination d.payload) in
    ap (λ part. cond (not part && d.protocol == 6) read None) is.0
    ∙ ap (λ tcp. cond tcp read None) (eq-eqb d.protocol 6 is.1)
    ∙ ap (segment_pair d.source d.destination) ((alike d.source d.destination d.payload r.segment).0 is.3)
    ∙ ap (λ (a : Addr). Some (pair_between a d.destination r.segment)) (sym is.2)

-- of octets of which one is heard
of_octets : (ours : Addr) (octets : List ℕ) (d : Datagram) (r : ReceivedSegment) → Brought ours octets d → IsOf d (Tcp r) → pair_in octets ≡ Some (pair_between r.source ours r.segment)
of_octets ours octets d r brought is =
    as_frame octets (Some brought.frame) brought.framed
    ∙ of_ipv4 brought.frame brought.type
    ∙ ap datagram_pair brought.found
    ∙ of_datagram d r is
    ∙ ap (λ (a : Addr). Some (pair_between r.source a r.segment)) brought.destination

pub heard_pairs : (mac : Mac) (ours : Addr) (octets : List ℕ) (received : ReceivedSegment) → heard mac ours octets ≡ Ok (Tcp received)
    → pair_in octets ≡ Some (pair_between received.source ours received.segment)
heard_pairs mac ours octets r answer =
    let from = from_datagram mac ours octets (Tcp r) answer (λ p no. cc) in
    of_octets ours octets from.0 r from.1 from.2
