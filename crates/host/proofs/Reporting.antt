-- What is answered by an error may be, and what is answered by an echo is.
use Rattle.std.proofs.Common.{◌≡◌, ◌≢◌, ℕ, ◌%◌, ◌==◌, ◌&&◌, ◌||◌, not, nat_lt, Bool, true, false, cond, List, [], ◌∷◌, ◌++◌, filter, length, slice_index, Option, Some, None, Result, Ok, Err, refl, sym, ◌∙◌, ap, subst, arith}
use Rattle.ether.specs.declared.mac.Mac.{Mac}
use Rattle.ether.specs.Frame.{Frame}
use Rattle.ether.specs.Reading.{frame_in}
use Rattle.ipv4.specs.declared.addr.Addr.{Addr}
use Rattle.ipv4.specs.Addresses.{IsUnicast}
use Rattle.ipv4.specs.Datagram.{Datagram}
use Rattle.ipv4.specs.Reading.{datagram_in}
use Rattle.clock.specs.declared.moment.Moment.{Moment}
use Rattle.arp.specs.declared.packet.ArpPacket.{ArpPacket}
use Rattle.arp.specs.Cache.{is_request_for}
use Rattle.arp.specs.Packet.{reply_to}
use Rattle.arp.specs.Reading.{packet_in}
use Rattle.icmp.specs.declared.error.Reason.{Reason}
use Rattle.icmp.specs.MayAnswer.{MayAnswer}
use Rattle.icmp.specs.Message.{Message, IsEchoRequest}
use Rattle.frames.specs.declared.drop.DropCause.{DropCause}
use Rattle.frames.specs.declared.drop.DropCause.TheVariants.{Short, OtherMac, OtherType, OtherAddress}
use Rattle.frames.specs.declared.meaning.Control.{Control}
use Rattle.frames.specs.declared.meaning.Meaning.{Meaning}
use Rattle.frames.specs.declared.meaning.Meaning.TheVariants.{Arp, Tcp, Icmp, Udp, Other, UdpFragment}
use Rattle.frames.specs.declared.meaning.ReceivedDatagram.{ReceivedDatagram}
use Rattle.frames.specs.Meaning.{broadcast, datagram_heard, frame_heard, heard, may_send, packet_heard, same_mac}
use Rattle.frames.proofs.Deciding.{mac-Decides}
use Rattle.frames.proofs.Hearers.{fragments_are_parts, fragments_from_others, others_are_whole, others_from_others, users_are_carried, users_from_others}
use Rattle.interface.specs.declared.reply.Reply.{Reply}
use Rattle.interface.specs.declared.reply.Reply.TheVariants as reply
use Rattle.interface.specs.declared.reply.QueueFault.TheVariants as fault
use Rattle.interface.specs.declared.reply.Waiting.{Waiting}
use Rattle.interface.specs.InterfaceView.{InterfaceView}
use Rattle.interface.specs.Replies.{is_full, learnt, owed, owed_answer, queued}
use Rattle.interface.specs.Ways.{is_routed}
use Rattle.sockets.specs.Arrival.{Arrival, Becomes, Opens, NoRoom as NoRoomInTable, Answers}
use Rattle.sockets.specs.SocketsView.{later_moment}
use Rattle.host.specs.Arrival.{IsDelivered, MeetsHeard, MeetsMessage, MeetsSegment, queue_answer, segment_arrival}
use Rattle.host.specs.Heard.{heard_by}
use Rattle.host.specs.Causes.{IsAbout, Untaken, Unbound, UnboundInFragments, Late}
use Rattle.host.specs.ConfigView.{IsOfOne}
use Rattle.host.specs.HostView.{HostView, with_interface}
use Rattle.host.specs.Messages.{Told, Asks, Refuses, Nothing, errors_of, is_error, refused_quote, told_by, error_of_quote}

-- a datagram of another protocol than ICMP, from one host, for one host, and no later fragment
may-so : (ours : Addr) (d : Datagram) → IsUnicast ours → d.destination ≡ ours → IsUnicast d.source → d.protocol ≢ 1 → d.offset ≡ 0 → MayAnswer d false
may-so ours d single here from other first =
    let at : IsUnicast d.destination = subst IsUnicast (sym here) single in
    record {
      no_error = λ is. other is.protocol;
      no_broadcast = λ is. let octet : slice_index d.destination.0 0 ≡ 255 = ap (λ (l : List ℕ). slice_index l 0) is in omega (arith, octet, at.class_a_to_c);
      no_multicast = λ is. omega (arith, is.least, at.class_a_to_c);
      no_link_broadcast = λ is. cc;
      first_fragment = first;
      single_source = from;
    }

not-icmp : (n : ℕ) → n ≡ 17 → n ≢ 1
not-icmp n is other = omega (arith, is, other)

-- what an error is about
pub may-answer : (mac : Mac) (ours : Addr) (octets : List ℕ) (reason : Reason) (d : Datagram) (meaning : Meaning) → IsUnicast ours → heard mac ours octets ≡ Ok meaning → IsAbout reason d meaning → MayAnswer d false
may-answer mac ours octets _ _ _ single e (Untaken d) =
    let others = others_are_whole mac ours octets d e in
    let whole = others.1 in
    may-so ours d single (others_from_others mac ours octets d e).1 others.0.single others.3 whole.1
may-answer mac ours octets _ _ _ single e (Unbound d u) =
    let r : ReceivedDatagram = record { carrier = d; datagram = u } in
    let users = users_are_carried mac ours octets r e in
    let whole = users.1 in
    may-so ours d single (users_from_others mac ours octets r e).1 users.0.single (not-icmp d.protocol users.2) whole.1
may-answer mac ours octets _ _ _ single e (UnboundInFragments d first) =
    let parts = fragments_are_parts mac ours octets d e in
    may-so ours d single (fragments_from_others mac ours octets d e).1 parts.0.single (not-icmp d.protocol parts.2) first
may-answer mac ours octets _ _ _ single e (Late d first) =
    let parts = fragments_are_parts mac ours octets d e in
    may-so ours d single (fragments_from_others mac ours octets d e).1 parts.0.single (not-icmp d.protocol parts.2) first

-- the frame of one isn't for all of the link
no-broadcast : (mac : Mac) → IsOfOne mac → mac ≢ broadcast
no-broadcast mac one is =
    let first : slice_index mac.0 0 ≡ 255 = ap (λ (m : Mac). slice_index m.0 0) is in
    let even : 255 % 2 ≡ 0 = ap (λ n. n % 2) (sym first) ∙ one in
    omega (arith, even)

-- what isn't an ARP packet
abbrev IsNoPacket : Meaning → Type 0
IsNoPacket (Arp packet) = ⊥
IsNoPacket (Tcp r) = Unit {0}
IsNoPacket (Icmp c) = Unit {0}
IsNoPacket (Udp r) = Unit {0}
IsNoPacket (Other d) = Unit {0}
IsNoPacket (UdpFragment d) = Unit {0}

about-no-packet : (reason : Reason) (d : Datagram) (meaning : Meaning) → IsAbout reason d meaning → IsNoPacket meaning
about-no-packet _ _ _ (Untaken d) = tt
about-no-packet _ _ _ (Unbound d u) = tt
about-no-packet _ _ _ (UnboundInFragments d first) = tt
about-no-packet _ _ _ (Late d first) = tt

of_packet : (ours : Addr) (m : Meaning) (o : Option ArpPacket) → IsNoPacket m → packet_heard ours o ≡ Ok m → ⊥
of_packet ours m None other e = cc
of_packet ours m (Some p) other e = by_test (may_send ours p.sender_addr) e
  where
    by_test : (b : Bool) → cond b (Ok (Arp p)) (Err OtherAddress) ≡ Ok m → ⊥
    by_test true e = let same : Arp p ≡ m = cc in subst IsNoPacket (sym same) other
    by_test false e = cc

of_frame : (mac : Mac) (ours : Addr) (m : Meaning) (f : Frame) → IsOfOne mac → IsNoPacket m → frame_heard mac ours (Some f) ≡ Ok m → f.destination ≢ broadcast
of_frame mac ours m f one other e for_all =
    by_tests (same_mac f.destination mac) (same_mac f.destination broadcast) (f.kind == 2054) refl e
  where
    rest : Result Meaning DropCause
    rest = cond (f.kind == 2048) (datagram_heard ours (datagram_in f.payload)) (Err OtherType)

    by_tests : (own all arp : Bool) → same_mac f.destination mac ≡ own → cond (own || (all && arp)) (cond arp (packet_heard ours (packet_in f.payload)) rest) (Err OtherMac) ≡ Ok m → ⊥
    by_tests true all true own e = of_packet ours m (packet_in f.payload) other e
    by_tests true all false own e = no-broadcast mac one (sym ((mac-Decides f.destination mac).0 own) ∙ for_all)
    by_tests false true true own e = of_packet ours m (packet_in f.payload) other e
    by_tests false true false own e = cc
    by_tests false false arp own e = cc

in-none : (mac : Mac) (ours : Addr) (octets : List ℕ) (m : Meaning) (f : Frame) → IsOfOne mac → IsNoPacket m → heard mac ours octets ≡ Ok m → frame_in octets ≡ Some f → f.destination ≢ broadcast
unfolding heard
in-none mac ours octets m f one other e framed = by_length (nat_lt 1514 (length octets)) e
  where
    by_length : (many : Bool) → cond many (Err Short) (frame_heard mac ours (frame_in octets)) ≡ Ok m → f.destination ≢ broadcast
    by_length true e = cc
    by_length false e = of_frame mac ours m f one other (subst (λ (o : Option Frame). frame_heard mac ours o ≡ Ok m) framed e)

pub in-no-broadcast : (mac : Mac) (ours : Addr) (octets : List ℕ) (reason : Reason) (d : Datagram) (meaning : Meaning) (f : Frame) → IsOfOne mac → heard mac ours octets ≡ Ok meaning → IsAbout reason d meaning
    → frame_in octets ≡ Some f → f.destination ≢ broadcast
in-no-broadcast mac ours octets reason d meaning f one e about framed = in-none mac ours octets meaning f one (about-no-packet reason d meaning about) e framed

-- No other frame adds an error.

filter-behind : {X : Type 0} (p : X → Bool) (xs : List X) (x : X) → p x ≡ false → filter p (xs ++ x ∷ []) ≡ filter p xs
filter-behind p [] x out = ap (λ b. cond b (x ∷ []) []) out
filter-behind {X} p (y ∷ ys) x out = by_test (p y) (filter-behind p ys x out)
  where
    by_test : (b : Bool) → filter p (ys ++ x ∷ []) ≡ filter p ys → cond b (y ∷ filter p (ys ++ x ∷ [])) (filter p (ys ++ x ∷ [])) ≡ cond b (y ∷ filter p ys) (filter p ys)
    by_test true rest = ap (λ l. y ∷ l) rest
    by_test false rest = rest

owed-adds-none : (h : HostView) (is_owed : Bool) (moment : Moment) (r : Reply) → is_error r ≡ false → errors_of (with_interface h (owed is_owed moment r h.interface)) ≡ errors_of h
owed-adds-none h is_owed moment r none = by_test (is_owed && not (is_full h.interface))
  where
    by_test : (b : Bool) → errors_of (with_interface h (cond b (queued moment r h.interface) h.interface)) ≡ errors_of h
    by_test true = filter-behind (λ (w : Waiting). is_error w.reply) h.interface.replies (record { since = moment; reply = r }) none
    by_test false = refl

of_segment : (a : Arrival) (h : HostView) (moment : Moment) (source : Addr) (answer : Result (Unit {0}) DropCause) (new : HostView) → MeetsSegment a h moment source answer new → errors_of new ≡ errors_of h
of_segment (Becomes next) h moment source answer new met = ap errors_of met.1
of_segment (Opens next) h moment source (Ok done) new met = ap errors_of met
of_segment (Opens next) h moment source (Err cause) new met = ap errors_of met.1
of_segment NoRoomInTable h moment source answer new met = ap errors_of met.1
of_segment (Answers head) h moment source answer new met = ap errors_of met.1 ∙ owed-adds-none h (is_routed h.interface source) moment (reply.Reset source head) refl

of_message : (told : Told) (h : HostView) (moment : Moment) (c : Control) (answer : Result (Unit {0}) DropCause) (new : HostView) → MeetsMessage told h moment c answer new → errors_of new ≡ errors_of h
of_message Asks h moment c answer new met =
    ap errors_of met.1 ∙ owed-adds-none h (is_routed h.interface c.source) moment (reply.Echo c.source c.message.identifier c.message.number c.message.payload) refl
of_message (Refuses quote) h moment c answer new met = ap errors_of met.1
of_message Nothing h moment c answer new met = ap errors_of met.1

of_meaning : (m : Result Meaning DropCause) (h : HostView) (moment : Moment) (isn : ℕ) (answer : Result (Unit {0}) DropCause) (new : HostView)
    → ((d : Datagram) → m ≢ Ok (Other d)) → ((r : ReceivedDatagram) → m ≢ Ok (Udp r)) → ((d : Datagram) → m ≢ Ok (UdpFragment d)) → MeetsHeard m h moment isn answer new → errors_of new ≡ errors_of h
of_meaning (Ok (Arp packet)) h moment isn answer new none user part met =
    let aware : HostView = with_interface h (learnt moment packet h.interface) in
    ap errors_of met.1 ∙ owed-adds-none aware (is_request_for h.interface.addr packet) moment (reply.Arp (reply_to packet h.interface.mac)) refl
of_meaning (Ok (Tcp r)) h moment isn answer new none user part met = of_segment (segment_arrival h moment isn r.source r.segment) h moment r.source answer new met
of_meaning (Ok (Icmp c)) h moment isn answer new none user part met = of_message (told_by c.message) h moment c answer new met
of_meaning (Ok (Udp r)) h moment isn answer new none user part met = absurd (user r refl)
of_meaning (Ok (Other d)) h moment isn answer new none user part met = absurd (none d refl)
of_meaning (Ok (UdpFragment d)) h moment isn answer new none user part met = absurd (part d refl)
of_meaning (Err cause) h moment isn answer new none user part met = ap errors_of met.1

pub others-add-none : (h : HostView) (now : Moment) (isn : ℕ) (octets : List ℕ) (answer : Result (Unit {0}) DropCause) (new : HostView)
    → ((d : Datagram) → heard_by h octets ≢ Ok (Other d)) → ((r : ReceivedDatagram) → heard_by h octets ≢ Ok (Udp r)) → ((d : Datagram) → heard_by h octets ≢ Ok (UdpFragment d))
    → IsDelivered h now isn octets answer new → errors_of new ≡ errors_of h
others-add-none h now isn octets answer new none user part delivered = of_meaning (heard_by h octets) h (later_moment h.sockets now) isn answer new none user part delivered

-- A request that is taken is answered.

asks-so : (m : Message) → IsEchoRequest m → told_by m ≡ Asks
asks-so m is =
    ap (λ k. cond (k == 8 && m.code == 0) Asks (error_of_quote (refused_quote m))) is.kind ∙ ap (λ k. cond (k == 0) Asks (error_of_quote (refused_quote m))) is.code

pub queued-so : (i : InterfaceView) (moment : Moment) (to : Addr) (r : Reply) → is_routed i to ≡ true → Ok tt ≡ queue_answer (owed_answer (is_routed i to) i) → owed (is_routed i to) moment r i ≡ queued moment r i
queued-so i moment to r routed e = by_tests (is_routed i to) (is_full i) routed e
  where
    by_tests : (led full : Bool) → led ≡ true → Ok tt ≡ queue_answer (cond (led && full) (Err fault.NoRoom) (Ok tt)) → cond (led && not full) (queued moment r i) i ≡ queued moment r i
    by_tests true true is e = cc
    by_tests true false is e = refl
    by_tests false full is e = cc

pub request-answered : (h : HostView) (now : Moment) (isn : ℕ) (octets : List ℕ) (c : Control) (new : HostView) → heard_by h octets ≡ Ok (Icmp c) → IsEchoRequest c.message → is_routed h.interface c.source ≡ true
    → IsDelivered h now isn octets (Ok tt) new
    → new.interface.replies ≡ h.interface.replies ++ record { since = later_moment h.sockets now; reply = reply.Echo c.source c.message.identifier c.message.number c.message.payload } ∷ []
request-answered h now isn octets c new is asks routed delivered =
    let moment = later_moment h.sockets now in
    let r : Reply = reply.Echo c.source c.message.identifier c.message.number c.message.payload in
    let as_message : MeetsMessage (told_by c.message) h moment c (Ok tt) new = subst (λ (m : Result Meaning DropCause). MeetsHeard m h moment isn (Ok tt) new) is delivered in
    let met : MeetsMessage Asks h moment c (Ok tt) new = subst (λ (t : Told). MeetsMessage t h moment c (Ok tt) new) (asks-so c.message asks) as_message in
    ap (λ (x : HostView). x.interface.replies) met.1 ∙ ap (λ (i : InterfaceView). i.replies) (queued-so h.interface moment c.source r routed met.0)
