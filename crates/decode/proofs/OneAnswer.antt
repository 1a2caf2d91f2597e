-- What is shown of a layer is determined by its octets, as what they are parsed to is.
use Rattle.std.proofs.Common.{◌≡◌, ◌++◌, List, ℕ, Option, Result, Ok, Err, sym, ap, ap₂, subst, ◌∙◌}
use Rattle.ether.specs.Frame.{Frame}
use Rattle.ether.specs.declared.view.FrameFault.{FrameFault}
use Rattle.ether.specs.declared.view.FrameFault.TheVariants as frame
use Rattle.ipv4.specs.Datagram.{Datagram}
use Rattle.ipv4.specs.declared.fault.Ipv4Fault.{Ipv4Fault}
use Rattle.ether.proofs.Answering.{one_answer as one_frame}
use Rattle.arp.proofs.OnePacket.{one_answer as one_packet}
use Rattle.ipv4.proofs.Answering.{one_answer as one_datagram}
use Rattle.icmp.proofs.Answering.{one_answer as one_message}
use Rattle.udp.proofs.Answering.{one_answer as one_udp_datagram}
use Rattle.tcp_segment.proofs.Answering.{one_answer as one_segment}
use Rattle.decode.specs.declared.unreadable.Unreadable.{Unreadable}
use Rattle.decode.specs.declared.carried.Carried.{Carried}
use Rattle.decode.specs.declared.carried.Carried.TheVariants.{Arp, Ipv4, Other}
use Rattle.decode.specs.declared.carried.Upper.{Upper}
use Rattle.decode.specs.declared.carried.Upper.TheVariants.{Icmp, Tcp, Udp, Unread}
use Rattle.decode.specs.Lines.{ether_line, ipv4_line}
use Rattle.decode.specs.Layers.{Shown, Decodes, IsShown, IsFrameShown, IsPayloadShown, IsDatagramShown, IsUpperShown, above, arp_shown, carried_by, drop_line, icmp_shown, tcp_shown, udp_shown, upper_in}

one-upper : (upper : Upper) (d : Datagram) (first second : Shown) → IsUpperShown upper d first → IsUpperShown upper d second → first ≡ second
one-upper Unread d first second a b = a ∙ sym b
one-upper Icmp d first second a b = a.2 ∙ ap icmp_shown (one_message d.payload a.0 b.0 a.1 b.1) ∙ sym b.2
one-upper Udp d first second a b = a.2 ∙ ap udp_shown (one_udp_datagram d.source d.destination d.payload a.0 b.0 a.1 b.1) ∙ sym b.2
one-upper Tcp d first second a b = a.2 ∙ ap tcp_shown (one_segment d.source d.destination d.payload a.0 b.0 a.1 b.1) ∙ sym b.2

one-datagram : (read : Result Datagram Ipv4Fault) (first second : Shown) → IsDatagramShown read first → IsDatagramShown read second → first ≡ second
one-datagram (Ok d) first second a b = a.2 ∙ ap (above (ipv4_line d)) (one-upper (upper_in d) d a.0 b.0 a.1 b.1) ∙ sym b.2
one-datagram (Err fault) first second a b = a ∙ sym b

one-payload : (carried : Carried) (payload : List ℕ) (first second : Shown) → IsPayloadShown carried payload first → IsPayloadShown carried payload second → first ≡ second
one-payload Other payload first second a b = a ∙ sym b
one-payload Arp payload first second a b = a.2 ∙ ap arp_shown (one_packet payload a.0 b.0 a.1 b.1) ∙ sym b.2
one-payload Ipv4 payload first second a b =
    one-datagram b.0 first second (subst (λ read. IsDatagramShown read first) (one_datagram payload a.0 b.0 a.1 b.1) a.2) b.2

one-frame-shown : (read : Result Frame FrameFault) (first second : Shown) → IsFrameShown read first → IsFrameShown read second → first ≡ second
one-frame-shown (Ok f) first second a b = a.2 ∙ ap (above (ether_line f)) (one-payload (carried_by f.kind) f.payload a.0 b.0 a.1 b.1) ∙ sym b.2
one-frame-shown (Err frame.Short) first second a b = a ∙ sym b

pub one-shown : (octets : List ℕ) (first second : Shown) → IsShown octets first → IsShown octets second → first ≡ second
one-shown octets first second a b =
    one-frame-shown b.0 first second (subst (λ read. IsFrameShown read first) (one_frame octets a.0 b.0 a.1 b.1) a.2) b.2

pub one-decoded : (octets old first second : List ℕ) (one other : Option Unreadable) →
    Decodes octets one old first → Decodes octets other old second → (first ≡ second) × (one ≡ other)
one-decoded octets old first second one other a b =
    let same = one-shown octets a.0 b.0 a.1 b.1 in
    let cause : one ≡ other = a.2 ∙ ap (λ shown. shown.cause) same ∙ sym b.2 in (
      a.3 ∙ ap₂ (λ shown cause. old ++ (shown.lines ++ drop_line cause)) same cause ∙ sym b.3,
      cause,
    )
