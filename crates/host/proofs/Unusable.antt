-- Why a datagram for which a host has no use is reported to its source.
use Rattle.std.proofs.Common.{◌≡◌, ℕ, true, List, [], ◌∷◌, ◌++◌, take, None, Result, Ok, ◌∙◌, ap, subst}
use Rattle.std.specs.List.{find}
use Rattle.ipv4.specs.Datagram.{Datagram, header_octets}
use Rattle.clock.specs.declared.moment.Moment.{Moment}
use Rattle.icmp.specs.declared.error.Reason.TheVariants.{ProtocolUnreachable, PortUnreachable}
use Rattle.frames.specs.declared.drop.DropCause.{DropCause}
use Rattle.frames.specs.declared.meaning.Meaning.{Meaning}
use Rattle.frames.specs.declared.meaning.Meaning.TheVariants.{Udp, Other}
use Rattle.frames.specs.declared.meaning.ReceivedDatagram.{ReceivedDatagram}
use Rattle.interface.specs.declared.reply.Reply.TheVariants.{Error}
use Rattle.interface.specs.InterfaceView.{InterfaceView}
use Rattle.interface.specs.Ways.{is_routed}
use Rattle.sockets.specs.declared.datagrams.Reception.{Reception}
use Rattle.sockets.specs.declared.datagrams.Reception.TheVariants.{NoSocket}
use Rattle.sockets.specs.Datagrams.{reception}
use Rattle.sockets.specs.Entries.{is_datagrams_at}
use Rattle.sockets.specs.SocketsView.{later_moment}
use Rattle.host.specs.Arrival.{IsDelivered, MeetsHeard, MeetsUserDatagram}
use Rattle.host.specs.Heard.{heard_by}
use Rattle.host.specs.HostView.{HostView}
use Rattle.host.proofs.Reporting.{queued-so}

-- one of another protocol
pub untaken_reported : (h : HostView) (now : Moment) (isn : ℕ) (octets : List ℕ) (d : Datagram) (new : HostView) → heard_by h octets ≡ Ok (Other d) → is_routed h.interface d.source ≡ true → IsDelivered h now isn octets (Ok tt) new
    → new.interface.replies ≡ h.interface.replies ++ record { since = later_moment h.sockets now; reply = Error d.source ProtocolUnreachable (header_octets d ++ take 8 d.payload) } ∷ []
untaken_reported h now isn octets d new is routed delivered =
    let moment = later_moment h.sockets now in
    let r = Error d.source ProtocolUnreachable (header_octets d ++ take 8 d.payload) in
    let met = subst (λ (m : Result Meaning DropCause). MeetsHeard m h moment isn (Ok tt) new) is delivered in
    ap (λ (x : HostView). x.interface.replies) met.1 ∙ ap (λ (i : InterfaceView). i.replies) (queued-so h.interface moment d.source r routed met.0)

-- a UDP datagram to whose port no socket is bound
pub unbound_reported : (h : HostView) (now : Moment) (isn : ℕ) (octets : List ℕ) (u : ReceivedDatagram) (new : HostView) → heard_by h octets ≡ Ok (Udp u) → find (is_datagrams_at u.datagram.destination) h.sockets.entries ≡ None
    → is_routed h.interface u.carrier.source ≡ true → IsDelivered h now isn octets (Ok tt) new
    → new.interface.replies ≡ h.interface.replies ++ record { since = later_moment h.sockets now; reply = Error u.carrier.source PortUnreachable (header_octets u.carrier ++ take 8 u.carrier.payload) } ∷ []
unbound_reported h now isn octets u new is none routed delivered =
    let moment = later_moment h.sockets now in
    let r = Error u.carrier.source PortUnreachable (header_octets u.carrier ++ take 8 u.carrier.payload) in
    let as_user = subst (λ (m : Result Meaning DropCause). MeetsHeard m h moment isn (Ok tt) new) is delivered in
    let no_socket : reception h.sockets u.datagram ≡ NoSocket = rw none in
    let met : MeetsUserDatagram NoSocket h moment u (Ok tt) new = subst (λ (to : Reception). MeetsUserDatagram to h moment u (Ok tt) new) no_socket as_user in
    ap (λ (x : HostView). x.interface.replies) met.1 ∙ ap (λ (i : InterfaceView). i.replies) (queued-so h.interface moment u.carrier.source r routed met.0)
