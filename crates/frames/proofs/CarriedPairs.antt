-- The pair that is read is that of the segment which octets carry.
use Rattle.std.proofs.Common.{◌≡◌, ◌↔◌, ℕ, ◌==◌, ◌&&◌, not, Bool, true, false, cond, List, Option, Some, None, Result, Ok, Err, refl, sym, ◌∙◌, ap, subst}
use Rattle.std.proofs.lemmas.Bool.{eqb-true, eq-eqb}
use Rattle.ether.specs.Frame.{Frame, Spells as SpellsFrame}
use Rattle.ether.specs.Reading.{frame_in}
use Rattle.ether.proofs.Reading.{is_spelled as frame_spelled, read_ok as frame_found}
use Rattle.ipv4.specs.declared.addr.Pair.{Pair}
use Rattle.ipv4.specs.declared.fault.Ipv4Fault.{Ipv4Fault}
use Rattle.ipv4.specs.Datagram.{Datagram, IsParsed as IsDatagram}
use Rattle.ipv4.specs.Reading.{datagram_in}
use Rattle.ipv4.proofs.Octets.{each_octet}
use Rattle.ipv4.proofs.Reading.{is_parsed as datagram_parsed, read_ok as datagram_found}
use Rattle.tcp_segment.specs.Segment.{Segment, IsParsed as IsSegment, Spells as SpellsSegment}
use Rattle.tcp_segment.specs.Reading.{segment_in}
use Rattle.tcp_segment.proofs.Answering.{alike, fault_parsed, read_ok as segment_found}
use Rattle.frames.specs.Meaning.{ipv4_type, is_fragment}
use Rattle.frames.specs.Pairs.{CarryPair, datagram_pair, frame_pair, pair_between, pair_in, segment_pair}
use Rattle.frames.proofs.Meanings.{AreOctets, datagram_octets, payload_octets}
use Rattle.frames.proofs.Deciding.{unfragmented, whole}

-- the pair of a segment that octets carry is read
pub carried_read : (octets : List ℕ) (pair : Pair) → CarryPair octets pair → pair_in octets ≡ Some pair
unfolding pair_in
carried_read octets pair carries =
    let f : Frame = carries.frame in
    let d : Datagram = carries.datagram in
    let read : Option Pair = segment_pair d.source d.destination (segment_in d.source d.destination d.payload) in
    ap frame_pair (frame_found octets f carries.framed)
    ∙ ap (λ b. cond b (datagram_pair (datagram_in f.payload)) None) (eq-eqb f.kind ipv4_type carries.type)
    ∙ ap datagram_pair (datagram_found f.payload d carries.carried)
    ∙ ap (λ b. cond (not b && d.protocol == 6) read None) (unfragmented d carries.whole)
    ∙ ap (λ b. cond b read None) (eq-eqb d.protocol 6 carries.protocol)
    ∙ ap (segment_pair d.source d.destination) (segment_found d.source d.destination d.payload carries.segment carries.spelled)
    ∙ ap Some (sym carries.ends)

-- a segment that is read is spelled
segment_spelled : (d : Datagram) (s : Segment) → AreOctets d.payload → segment_in d.source d.destination d.payload ≡ Some s → SpellsSegment d.source d.destination s d.payload
segment_spelled d s each found =
    subst (IsSegment d.source d.destination d.payload) ((alike d.source d.destination d.payload s).1 found) (fault_parsed d.source d.destination d.payload (each_octet d.payload each))

-- a pair that is read is that of a segment: of a frame of IPv4 with this datagram
by_datagram : (octets : List ℕ) (pair : Pair) (f : Frame) (read : Result Datagram Ipv4Fault) → AreOctets f.payload → SpellsFrame f octets → f.kind ≡ ipv4_type
    → IsDatagram f.payload read → datagram_pair read ≡ Some pair → CarryPair octets pair
by_datagram octets pair f (Err fault) each spells type is e = cc
by_datagram octets pair f (Ok d) each spells type is e = by_tests (is_fragment d) (d.protocol == 6) (segment_in d.source d.destination d.payload) refl refl refl e
  where
    by_tests : (part tcp : Bool) (read : Option Segment) → is_fragment d ≡ part → (d.protocol == 6) ≡ tcp → segment_in d.source d.destination d.payload ≡ read
        → cond (not part && tcp) (segment_pair d.source d.destination read) None ≡ Some pair → CarryPair octets pair
    by_tests true tcp read is_part is_tcp found e = cc
    by_tests false false read is_part is_tcp found e = cc
    by_tests false true None is_part is_tcp found e = cc
    by_tests false true (Some s) is_part is_tcp found e =
        let same : pair_between d.source d.destination s ≡ pair = cc in
        record {
          frame = f;
          datagram = d;
          segment = s;
          framed = spells;
          type = type;
          carried = is;
          whole = whole d is_part;
          protocol = eqb-true d.protocol 6 is_tcp;
          spelled = segment_spelled d s (datagram_octets d f.payload is each) found;
          ends = sym same;
        }

by_frame : (octets : List ℕ) (pair : Pair) (read : Option Frame) → AreOctets octets → frame_in octets ≡ read → frame_pair read ≡ Some pair → CarryPair octets pair
by_frame octets pair None each found e = cc
by_frame octets pair (Some f) each found carries = by_kind (f.kind == ipv4_type) refl carries
  where
    spells : SpellsFrame f octets
    spells = frame_spelled octets f each found

    own : AreOctets f.payload
    own = payload_octets f octets spells each

    by_kind : (b : Bool) → (f.kind == ipv4_type) ≡ b → cond b (datagram_pair (datagram_in f.payload)) None ≡ Some pair → CarryPair octets pair
    by_kind true is e = by_datagram octets pair f (datagram_in f.payload) own spells (eqb-true f.kind ipv4_type is) (datagram_parsed f.payload own) e
    by_kind false is e = cc

read_carried : (octets : List ℕ) (pair : Pair) → AreOctets octets → pair_in octets ≡ Some pair → CarryPair octets pair
unfolding pair_in
read_carried octets pair each e = by_frame octets pair (frame_in octets) each refl e

pub carried_pairs : (octets : List ℕ) (pair : Pair) → AreOctets octets → (CarryPair octets pair ↔ (pair_in octets ≡ Some pair))
carried_pairs octets pair each = (carried_read octets pair, read_carried octets pair each)
