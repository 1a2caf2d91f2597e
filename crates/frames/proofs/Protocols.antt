-- What goes out is read as a datagram of its protocol, if as any, whatever its other numbers are: the protocol has its place in the header.
use Rattle.std.proofs.Common.{◌≡◌, ℕ, ◌++◌, List, length, Option, Some, Ok, arith, sym, ◌∙◌, ap}
use Rattle.ether.specs.declared.head.Head.{Head as EtherHead}
use Rattle.ether.specs.Frame.{Frame, padding, sent as frame_sent}
use Rattle.ether.specs.Reading.{frame_in}
use Rattle.ether.proofs.Answering.{sent_spelled as frame_spelled}
use Rattle.ether.proofs.Reading.{read_ok as frame_found}
use Rattle.ipv4.specs.declared.addr.Addr.{Addr}
use Rattle.ipv4.specs.declared.head.Head.{Head as Ipv4Head}
use Rattle.ipv4.specs.Datagram.{Datagram, spelling as datagram_octets}
use Rattle.ipv4.specs.Reading.{datagram_in}
use Rattle.ipv4.specs.Sent.{sent as datagram_sent}
use Rattle.frames.specs.declared.emission.FrameHead.{FrameHead}
use Rattle.frames.specs.Meaning.{ipv4_type}
use Rattle.frames.specs.Sent.{framed}
use Rattle.frames.proofs.Fitting.{protocol_told}
use Rattle.frames.proofs.Origins.{Brought}

-- of the octets of a datagram
pub protocol_sent : (head : Ipv4Head) (payload rest : List ℕ) (d : Datagram) → datagram_in (datagram_octets (datagram_sent head payload) ++ rest) ≡ Ok d
    → d.protocol ≡ head.protocol.0
protocol_sent head payload rest d found = protocol_told (datagram_octets (datagram_sent head payload) ++ rest) d found

-- the frame that goes out
abbrev pub frame_of : FrameHead → Ipv4Head → List ℕ → Frame
frame_of h head payload =
    let frame_head : EtherHead = record { destination = h.destination; source = h.source; kind = ipv4_type } in
    frame_sent frame_head (datagram_octets (datagram_sent head payload))

pub frame_read : (h : FrameHead) (head : Ipv4Head) (payload : List ℕ) → length h.destination.0 ≡ 6 → length h.source.0 ≡ 6
    → frame_in (framed h head payload) ≡ Some (frame_of h head payload)
frame_read h head payload destination source =
    let frame_head : EtherHead = record { destination = h.destination; source = h.source; kind = ipv4_type } in
    frame_found (framed h head payload) (frame_of h head payload)
    (frame_spelled frame_head (datagram_octets (datagram_sent head payload)) destination source (omega arith))

same_frame : (x y : Frame) → ◌≡◌ {A = Option Frame} (Some x) (Some y) → x ≡ y
same_frame x y e = cc

-- and of what it brings
pub protocol_brought : (h : FrameHead) (head : Ipv4Head) (payload : List ℕ) (ours : Addr) (d : Datagram) → length h.destination.0 ≡ 6 → length h.source.0 ≡ 6
    → Brought ours (framed h head payload) d → d.protocol ≡ head.protocol.0
protocol_brought h head payload ours d destination source brought =
    let octets : List ℕ = datagram_octets (datagram_sent head payload) in
    let same : frame_of h head payload ≡ brought.frame =
    same_frame (frame_of h head payload) brought.frame (sym (frame_read h head payload destination source) ∙ brought.framed) in
    protocol_sent head payload (padding octets) d (ap (λ (f : Frame). datagram_in f.payload) same ∙ brought.found)
