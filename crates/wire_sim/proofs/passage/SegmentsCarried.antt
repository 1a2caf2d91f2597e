-- What goes out of a host with a segment is sent as that segment, and whoever receives it hears it so.
use Rattle.std.proofs.Common.{◌≡◌, ℕ, List, Option, Some, None, refl, subst}
use Rattle.std.specs.List.{slice_get}
use Rattle.ether.specs.declared.mac.Mac.{Mac}
use Rattle.ipv4.specs.declared.addr.Addr.{Addr}
use Rattle.clock.specs.declared.moment.Moment.{Moment}
use Rattle.interface.specs.declared.reply.Reply.{Reply}
use Rattle.interface.specs.declared.reply.Reply.TheVariants.{Arp, Reset, Echo, Error}
use Rattle.interface.specs.declared.reply.Waiting.{Waiting}
use Rattle.interface.specs.declared.way.Way.{Way}
use Rattle.interface.specs.declared.way.Way.TheVariants.{To, Ask, Waits}
use Rattle.interface.specs.InterfaceView.{InterfaceView}
use Rattle.interface.specs.Emission.{frame_by, frame_of_one}
use Rattle.interface.specs.Replies.{way_of}
use Rattle.interface.specs.Sound.{IsSound, IsSoundReply}
use Rattle.sockets.specs.Order.{IsOrdered}
use Rattle.sockets.specs.SocketsView.{later_moment}
use Rattle.host.specs.Carried.{Carried, carried, carried_by, carried_for, carried_reply}
use Rattle.host.specs.Emission.{Emission, Replies, Sends, Asks, Nothing, emission, emission_octets, octets_of}
use Rattle.host.specs.HostView.{HostView}
use Rattle.host.specs.Sound.{IsSoundHost}
use Rattle.wire_sim.specs.Sent.{Sent, IsSpelled, reply_sent_by, segment_from, sent_at, sent_by, waiting_sent}
use Rattle.wire_sim.proofs.lists.FoundAfterChange.{All-at}
use Rattle.wire_sim.proofs.passage.HostsSend.{IsSent, connection-sent, reply-mac, reply-said, sends-carried}
use Rattle.wire_sim.proofs.passage.PartsSaid.{IsHeardAs}

-- octets that go out with a segment
pub record IsCarried (own : Addr) (octets : List ℕ) (o : Option Sent) (c : Carried) : Type 0 where
  pub is : o ≡ Some (segment_from own c)
  pub said : IsHeardAs octets (segment_from own c)

of-reply : (i : InterfaceView) (now : Moment) (r : Reply) (c : Carried) → IsSound i → IsSoundReply i.addr r → (w : Way) → way_of i now r ≡ w → carried_reply r w ≡ Some c → IsCarried i.addr (frame_by i r w) (reply_sent_by i r w) c
of-reply i now (Arp packet) c sound solid (To theirs) leads is = cc
of-reply i now (Arp packet) c sound solid (Ask hop) leads is = cc
of-reply i now (Arp packet) c sound solid Waits leads is = cc
of-reply i now (Reset to head) c sound solid (To theirs) leads is =
    let own : Carried = record { mac = theirs; to = to; segment = _ } in
    let same : own ≡ c = cc in
    let said : IsCarried i.addr (frame_by i (Reset to head) (To theirs)) (reply_sent_by i (Reset to head) (To theirs)) own =
    record { is = refl; said = reply-said i theirs (Reset to head) sound solid (reply-mac i now (Reset to head) theirs sound solid leads) } in
    subst (IsCarried i.addr (frame_by i (Reset to head) (To theirs)) (reply_sent_by i (Reset to head) (To theirs))) same said
of-reply i now (Reset to head) c sound solid (Ask hop) leads is = cc
of-reply i now (Reset to head) c sound solid Waits leads is = cc
of-reply i now (Echo to identifier number octets) c sound solid (To theirs) leads is = cc
of-reply i now (Echo to identifier number octets) c sound solid (Ask hop) leads is = cc
of-reply i now (Echo to identifier number octets) c sound solid Waits leads is = cc
of-reply i now (Error to reason quoted) c sound solid (To theirs) leads is = cc
of-reply i now (Error to reason quoted) c sound solid (Ask hop) leads is = cc
of-reply i now (Error to reason quoted) c sound solid Waits leads is = cc

of-place : (h : HostView) (moment : Moment) (place : ℕ) (c : Carried) → IsSound h.interface → (o : Option Waiting) → slice_get h.interface.replies place ≡ o → carried_for h moment o ≡ Some c
    → IsCarried h.interface.addr (frame_of_one h.interface moment o) (waiting_sent h.interface moment o) c
of-place h moment place c sound None at is = cc
of-place h moment place c sound (Some waiting) at is =
    of-reply h.interface moment waiting.reply c sound (All-at (λ (w : Waiting). IsSoundReply h.interface.addr w.reply) h.interface.replies place waiting sound.replies at) (way_of h.interface moment waiting.reply) refl is

-- a connection's segment is the one that it has due
of-connection : (h : HostView) (moment : Moment) (mac : Mac) (to : Addr) (c : Carried) → IsSoundHost h → IsOrdered h.sockets → emission h moment ≡ Sends mac to → carried_by h moment (Sends mac to) ≡ Some c
    → IsCarried h.interface.addr (octets_of h moment (Sends mac to)) (sent_by h moment (Sends mac to)) c
of-connection h moment mac to c sound ordered is carries =
    let s : IsSent (octets_of h moment (Sends mac to)) (sent_by h moment (Sends mac to)) = connection-sent h moment mac to c sound ordered is carries in
    let own : sent_by h moment (Sends mac to) ≡ Some (segment_from h.interface.addr c) = sends-carried h moment mac to c carries in
    let same : s.what ≡ segment_from h.interface.addr c = only s.what (segment_from h.interface.addr c) (sent_by h moment (Sends mac to)) s.is own in
    record { is = own; said = subst (λ (x : Sent). IsSpelled x.says → IsHeardAs (octets_of h moment (Sends mac to)) x) same s.said tt }
  where
    only : (x y : Sent) (o : Option Sent) → o ≡ Some x → o ≡ Some y → x ≡ y
    only x y o first second = cc

pub carried-sent : (h : HostView) (now : Moment) (c : Carried) → IsSoundHost h → IsOrdered h.sockets → carried h now ≡ Some c → IsCarried h.interface.addr (emission_octets h now) (sent_at h now) c
carried-sent h now c sound ordered = by_emission (emission h moment) refl
  where
    moment : Moment
    moment = later_moment h.sockets now

    by_emission : (x : Emission) → emission h moment ≡ x → carried_by h moment x ≡ Some c → IsCarried h.interface.addr (octets_of h moment x) (sent_by h moment x) c
    by_emission (Replies place) is some = of-place h moment place c sound.interface (slice_get h.interface.replies place) refl some
    by_emission (Sends mac to) is some = of-connection h moment mac to c sound ordered is some
    by_emission (Asks hop) is some = cc
    by_emission Nothing is some = cc
