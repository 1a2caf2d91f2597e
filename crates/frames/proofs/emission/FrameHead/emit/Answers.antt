use Rattle.std.proofs.Common.{◌≡◌, ◌+◌, ◌++◌, ℕ, List, length, drop, slice_range, arith, ◌∙◌, ap, subst}
use Rattle.ether.specs.declared.head.Head.{Head as EtherHead}
use Rattle.ether.specs.Frame.{spelling as frame_octets, sent as frame_sent}
use Rattle.ipv4.specs.Datagram.{IsDatagram, spelling as datagram_octets}
use Rattle.ipv4.specs.Sent.{sent as datagram_sent}
use Rattle.ipv4.specs.declared.head.Head.{Head as Ipv4Head}
use Rattle.ipv4.proofs.Answering.{sent_len}
use Rattle.frames.specs.Meaning.{ipv4_type}
use Rattle.frames.proofs.Emitted.{framed_payload, kept_behind, segment_at, segment_len}
use borrow.Rule.Slice.PartMut.{mid_of, put_mid}
use Rattle.frames.proofs.emission.FrameHead.emit.Goals as goal

pub returns-clause-octets : goal.returns-clause-octets
returns-clause-octets c =
    let n : ℕ = c.args.payload_len in
    let out : List ℕ = c.args.out.now in
    let head : Ipv4Head = c.args.head in
    let total : ℕ = c.emit-datagram_len.result in
    let is_total : total ≡ 20 + n = c.emit-datagram_len.ensures.len in
    let segment : List ℕ = slice_range out 34 (34 + n) in
    let written : c.emit-datagram_len.new.out ≡ datagram_octets (datagram_sent head (slice_range (mid_of 14 1500 out) 20 total)) ++ drop total (mid_of 14 1500 out) =
    c.emit-datagram_len.ensures.octets in
    let same_segment : slice_range (mid_of 14 1500 out) 20 total ≡ segment =
    ap (λ (k : ℕ). slice_range (mid_of 14 1500 out) 20 k) is_total ∙ segment_at out n c.told-out c.requires.most in
    let same : datagram_sent head (slice_range (mid_of 14 1500 out) 20 total) ≡ datagram_sent head segment =
    ap (datagram_sent head) same_segment in
    let fields : IsDatagram (datagram_sent head segment) = subst IsDatagram same c.emit-datagram_len.ensures.fields in
    let len : length (datagram_octets (datagram_sent head segment)) ≡ total =
    sent_len head segment fields ∙ omega (arith, segment_len out n c.told-out c.requires.most, is_total) in
    let new : c.emit-datagram_len.new.out ≡ datagram_octets (datagram_sent head segment) ++ drop total (mid_of 14 1500 out) =
    written ∙ ap (λ d. datagram_octets d ++ drop total (mid_of 14 1500 out)) same in
    let payload = framed_payload 14 1500 out c.emit-datagram_len.new.out (datagram_octets (datagram_sent head segment)) total c.told-out new len (omega (arith, is_total, c.requires.most)) in
    let kept = kept_behind 14 1500 out c.emit-datagram_len.new.out (datagram_octets (datagram_sent head segment)) total c.emit.result c.told-out new len (omega (arith, is_total, c.requires.most)) (omega (arith, c.emit.ensures.len)) in
    let frame_head : EtherHead = record { destination = c.args.self.now.destination; source = c.args.self.now.source; kind = ipv4_type } in
    let before : List ℕ = put_mid 14 1500 out c.emit-datagram_len.new.out in
    c.emit.ensures.octets
    ∙ ap (λ (l : List ℕ). frame_octets (frame_sent frame_head l) ++ drop c.emit.result before) payload
    ∙ ap (λ (l : List ℕ). frame_octets (frame_sent frame_head (datagram_octets (datagram_sent head segment))) ++ l) kept
