-- What an error is about: a datagram that was delivered, with the reason for which its source is told (RFC 792, RFC 1122 section 3.2.2).
use Rattle.std.specs.Prelude.{◌≡◌}
use Rattle.icmp.specs.declared.error.Reason.{Reason}
use Rattle.icmp.specs.declared.error.Reason.TheVariants.{ProtocolUnreachable, PortUnreachable, ReassemblyTimeExceeded}
use Rattle.ipv4.specs.Datagram.{Datagram}
use Rattle.frames.specs.declared.meaning.Meaning.{Meaning}
use Rattle.frames.specs.declared.meaning.Meaning.TheVariants.{Udp, Other, UdpFragment}
use Rattle.udp.specs.Datagram.{UserDatagram}

-- Nothing takes its protocol; no socket is bound to the port of a UDP datagram, that came whole or in fragments; or its other fragments haven't
-- come in time. Of one in fragments an error is about a fragment zero.
pub data IsAbout : Reason → Datagram → Meaning → Type 0 where
  Untaken : (d : Datagram) → IsAbout ProtocolUnreachable d (Other d)
  Unbound : (d : Datagram) (u : UserDatagram) → IsAbout PortUnreachable d (Udp (record { carrier = d; datagram = u }))
  UnboundInFragments : (d : Datagram) → d.offset ≡ 0 → IsAbout PortUnreachable d (UdpFragment d)
  Late : (d : Datagram) → d.offset ≡ 0 → IsAbout ReassemblyTimeExceeded d (UdpFragment d)
