-- What opens where something gave way to it.
use Rattle.std.proofs.Common.{◌≡◌, ℕ, true, false, List, Option, Some, None, Result, Ok, Err, refl, sym, ◌∙◌, ap}
use Rattle.frames.specs.declared.drop.DropCause.{DropCause}
use Rattle.frames.specs.declared.meaning.Meaning.{Meaning}
use Rattle.frames.specs.declared.meaning.Meaning.TheVariants.{Arp, Tcp, Icmp, Udp, Other, UdpFragment}
use Rattle.frames.specs.declared.meaning.ReceivedSegment.{ReceivedSegment}
use Rattle.interface.specs.Ways.{is_routed}
use Rattle.ipv4.specs.declared.addr.Addr.{Addr}
use Rattle.tcp_segment.specs.Segment.{Segment}
use Rattle.sockets.specs.declared.entry.Entry.{Entry}
use Rattle.sockets.specs.declared.entry.SocketId.{SocketId}
use Rattle.sockets.specs.GiveWay as tables
use Rattle.sockets.specs.GiveWay.{IsGivenFor}
use Rattle.sockets.specs.Offered.{IsReached}
use Rattle.sockets.specs.Order.{IsOrdered}
use Rattle.sockets.proofs.Followed.{by_test}
use Rattle.sockets.proofs.GivenRoom.{segment_placed, opened_by_need}
use Rattle.sockets.proofs.GivenWay.{segment_given, none_gives}
use Rattle.host.specs.declared.lack.Lack.TheVariants.{Memory}
use Rattle.host.specs.Arrival.{foreseen, foreseen_of}
use Rattle.host.specs.GiveWay.{way_by, way_for, pair_by, pair_of, foreseen_by_way, without, with_way, with_place}
use Rattle.host.specs.Heard.{heard_by}
use Rattle.host.specs.HostView.{HostView}
use Rattle.host.specs.Lack.{lack, lack_of}

opens_by : (h : HostView) (id : SocketId) → IsOrdered h.sockets → IsReached h.sockets → (m : Result Meaning DropCause) → way_by h m ≡ Some id → pair_by h m ≡ foreseen_of (without h (Some id)) m
opens_by h id o reached (Ok (Tcp r)) way =
    by_test (is_routed h.interface r.source)
    (λ routed.
    let its : tables.way_for h.sockets r.source r.segment ≡ Some id = rw routed at way in
    rw routed (sym (opened_by_need (let w = without h (Some id) in w.sockets) r.source r.segment (segment_placed h.sockets r.source r.segment id o reached its))))
    (λ other. let bad : None ≡ Some id = rw other at way in cc)
opens_by h id o reached (Ok (Arp packet)) way = cc
opens_by h id o reached (Ok (Icmp control)) way = cc
opens_by h id o reached (Ok (Udp r)) way = cc
opens_by h id o reached (Ok (UdpFragment d)) way = cc
opens_by h id o reached (Ok (Other d)) way = cc
opens_by h id o reached (Err cause) way = cc

pub opened_by_way : (h : HostView) (octets : List ℕ) (id : SocketId) → IsOrdered h.sockets → IsReached h.sockets → way_for h octets ≡ Some id → pair_of h octets ≡ foreseen (with_way h octets) octets
opened_by_way h octets id o reached way = opens_by h id o reached (heard_by h octets) way ∙ ap (λ (w : Option SocketId). foreseen (without h w) octets) (sym way)

lacks_by : (h : HostView) (id : SocketId) → IsOrdered h.sockets → IsReached h.sockets → (m : Result Meaning DropCause) → way_by h m ≡ Some id → lack_of (without h (Some id)) m ≡ Some Memory
lacks_by h id o reached (Ok (Tcp r)) way =
    by_test (is_routed h.interface r.source)
    (λ routed.
    let its : tables.way_for h.sockets r.source r.segment ≡ Some id = rw routed at way in
    rw (segment_placed h.sockets r.source r.segment id o reached its, routed) refl)
    (λ other. let bad : None ≡ Some id = rw other at way in cc)
lacks_by h id o reached (Ok (Arp packet)) way = cc
lacks_by h id o reached (Ok (Icmp control)) way = cc
lacks_by h id o reached (Ok (Udp r)) way = cc
lacks_by h id o reached (Ok (UdpFragment d)) way = cc
lacks_by h id o reached (Ok (Other d)) way = cc
lacks_by h id o reached (Err cause) way = cc

pub opened : (h : HostView) (octets : List ℕ) (id : SocketId) → IsOrdered h.sockets → IsReached h.sockets → way_for h octets ≡ Some id → (foreseen (with_way h octets) octets ≡ pair_of h octets) × (lack (with_way h octets) octets ≡ Some Memory)
opened h octets id o reached way =
    (sym (opened_by_way h octets id o reached way), ap (λ (w : Option SocketId). lack (without h w) octets) way ∙ lacks_by h id o reached (heard_by h octets) way)

-- What gives way.

pub given : (h : HostView) (octets : List ℕ) (id : SocketId) → IsOrdered h.sockets → way_for h octets ≡ Some id
    → (r : ReceivedSegment) × (heard_by h octets ≡ Ok (Tcp r)) × (is_routed h.interface r.source ≡ true) × (x : Entry) × (x.id ≡ id) × IsGivenFor h.sockets r.source r.segment x
given h octets id o way = by_heard (heard_by h octets) refl way
  where
    Given : Type 0
    Given = (r : ReceivedSegment) × (heard_by h octets ≡ Ok (Tcp r)) × (is_routed h.interface r.source ≡ true) × (x : Entry) × (x.id ≡ id) × IsGivenFor h.sockets r.source r.segment x

    by_heard : (m : Result Meaning DropCause) → heard_by h octets ≡ m → way_by h m ≡ Some id → Given
    by_heard (Ok (Tcp r)) is way =
        by_test (is_routed h.interface r.source)
        (λ routed. let its : tables.way_for h.sockets r.source r.segment ≡ Some id = rw routed at way in let it = segment_given h.sockets r.source r.segment id o its in (r, is, routed, it.0, it.1, it.2))
        (λ other. let bad : None ≡ Some id = rw other at way in cc)
    by_heard (Ok (Arp packet)) is way = cc
    by_heard (Ok (Icmp control)) is way = cc
    by_heard (Ok (Udp r)) is way = cc
    by_heard (Ok (UdpFragment d)) is way = cc
    by_heard (Ok (Other d)) is way = cc
    by_heard (Err cause) is way = cc

pub stays : (h : HostView) (octets : List ℕ) → way_for h octets ≡ None → with_way h octets ≡ h
stays h octets none = ap (without h) none

pub unguarded : (h : HostView) → h.sockets.manner.guards ≡ false → ((octets : List ℕ) → with_way h octets ≡ h) × (with_place h ≡ h)
unguarded h off =
    let none = none_gives h.sockets off in
    (λ octets. stays h octets (nothing (heard_by h octets) none.0), ap (without h) none.1)
  where
    nothing : (m : Result Meaning DropCause) → ((source : Addr) (s : Segment) → tables.way_for h.sockets source s ≡ None) → way_by h m ≡ None
    nothing (Ok (Tcp r)) none = by_test (is_routed h.interface r.source) (λ routed. rw (routed, none r.source r.segment) refl) (λ other. rw other refl)
    nothing (Ok (Arp packet)) none = refl
    nothing (Ok (Icmp control)) none = refl
    nothing (Ok (Udp r)) none = refl
    nothing (Ok (UdpFragment d)) none = refl
    nothing (Ok (Other d)) none = refl
    nothing (Err cause) none = refl

-- What a frame is to the host it is still, once something gave way, and so is what it opens.

pub heard_still : (h : HostView) (way : Option SocketId) (octets : List ℕ) → heard_by (without h way) octets ≡ heard_by h octets
heard_still h None octets = refl
heard_still h (Some id) octets = refl

pub seen : (h : HostView) (octets : List ℕ) → IsOrdered h.sockets → IsReached h.sockets → foreseen_by_way h octets ≡ foreseen (with_way h octets) octets
seen h octets o reached = by_way (way_for h octets) refl
  where
    by_way : (w : Option SocketId) → way_for h octets ≡ w → foreseen_by_way h octets ≡ foreseen (with_way h octets) octets
    by_way None none = rw none refl
    by_way (Some id) some = rw some (opens_by h id o reached (heard_by h octets) some)
