-- What goes out carries the segment that is meant, or none.
use Rattle.std.proofs.Common.{◌≡◌, ◌≢◌, ℕ, zero, suc, ◌+◌, ◌*◌, ◌≤◌, Bool, true, false, cond, List, [], ◌∷◌, length, Option, Some, None, option_map, option_and_then, Result, Ok, refl, sym, ◌∙◌, ap, subst, arith}
use Rattle.std.specs.List.{find, position, slice_get, AllByRecursion}
use Rattle.ether.specs.declared.mac.Mac.{Mac}
use Rattle.ipv4.specs.declared.addr.Addr.{Addr}
use Rattle.ipv4.specs.declared.addr.Endpoint.{Endpoint}
use Rattle.clock.specs.declared.moment.Moment.{Moment}
use Rattle.tcp_segment.specs.declared.head.Head.{Head}
use Rattle.tcp_segment.specs.Segment.{Segment}
use Rattle.tcp_segment.specs.Sent.{CanBeSent, sent_segment, sent_octets, sent_offset}
use Rattle.tcp_segment.proofs.Sending.{most_offset}
use Rattle.tcp_state.specs.declared.emission.Due.{Due}
use Rattle.tcp_state.specs.View.{View}
use Rattle.tcp_state.specs.Due.{emitted_len, first_due, head_of, octets_of as text_of, segment_octets as connection_octets}
use Rattle.tcp_state.proofs.GoesOut.{due-may}
use Rattle.icmp.specs.Message.{Message, spelling}
use Rattle.icmp.specs.Sent.{echo_reply, error_for}
use Rattle.frames.specs.declared.drop.DropCause.{DropCause}
use Rattle.frames.specs.declared.meaning.Meaning.{Meaning}
use Rattle.frames.specs.declared.meaning.Meaning.TheVariants.{Tcp}
use Rattle.frames.specs.declared.meaning.ReceivedSegment.{ReceivedSegment}
use Rattle.frames.specs.Heard.{MaySend}
use Rattle.frames.specs.Meaning.{heard}
use Rattle.frames.specs.Pairs.{pair_in, pair_between}
use Rattle.interface.specs.declared.reply.Reply.{Reply}
use Rattle.interface.specs.declared.reply.Reply.TheVariants.{Arp, Reset, Echo, Error}
use Rattle.interface.specs.declared.reply.Waiting.{Waiting}
use Rattle.interface.specs.declared.way.Way.{Way}
use Rattle.interface.specs.declared.way.Way.TheVariants.{To, Ask, Waits}
use Rattle.interface.specs.InterfaceView.{InterfaceView}
use Rattle.interface.specs.Emission.{segment_frame_to, message_frame_to, part_frame_to, request_frame, reply_frame, frame_by, frame_of_one}
use Rattle.interface.specs.Replies.{is_due, way_of}
use Rattle.interface.specs.Sound.{IsSoundReply}
use Rattle.interface.specs.Ways.{way}
use Rattle.interface.proofs.Heard.{segment_heard}
use Rattle.sockets.specs.declared.entry.SocketId.{SocketId}
use Rattle.sockets.specs.declared.entry.Entry.{Entry}
use Rattle.sockets.specs.declared.role.Role.{Role}
use Rattle.sockets.specs.declared.role.Role.TheVariants.{Idle, Listener, Connected, Datagrams}
use Rattle.sockets.specs.declared.emission.Emitted.{Emitted}
use Rattle.sockets.specs.declared.emission.Emitted.TheVariants as what
use Rattle.sockets.specs.declared.emission.Outgoing.{Outgoing}
use Rattle.sockets.specs.declared.emission.Outgoing.TheVariants as outgoing
use Rattle.sockets.specs.Entries.{HasOutgoing, due_emitted, due_octets, due_to, sends, with_first}
use Rattle.sockets.specs.Emission.{emitted_octets, in_turn}
use Rattle.sockets.specs.Order.{IsOrdered, LiesAt}
use Rattle.sockets.specs.Sound.{IsSoundConnection, IsSoundRole}
use Rattle.sockets.specs.SocketsView.{later_moment}
use Rattle.sockets.proofs.Emitting.{due_outgoing, emitted-found, emitted_octets-found, first_segment, found_due}
use Rattle.udp.specs.declared.cutting.Part.{Part}
use Rattle.udp_socket.specs.Emission.{due_part}
use Rattle.udp_socket.specs.SocketView.{SocketView}
use Rattle.host.specs.Arrival.{IsDelivered, MeetsHeard, MeetsSegment, segment_arrival}
use Rattle.host.specs.Carried.{Carried, carried, carried_by, carried_for, carried_reply, due_segment}
use Rattle.host.specs.Emission.{Emission, Replies, Sends, Asks, Nothing, emission, emission_at, emission_by, emission_octets, emitted_frame, goes_out_from, octets_of, table_emission}
use Rattle.host.specs.Heard.{shuts_out}
use Rattle.host.specs.HostView.{HostView}
use Rattle.host.specs.Sound.{IsSoundHost}
use Rattle.host.proofs.Guarded.{takes_in}
use Rattle.host.proofs.DueSegments.{due-can, due-fits}
use Rattle.host.proofs.Emitting.{none_from, table_from}
use Rattle.host.proofs.FirstPlace.{part-waits}
use Rattle.host.proofs.Hearing.{CanGo, echo-can, echo-frame, error-can, error-frame, heard-nothing, heard-reply, heard-request, heard-segment, pair-message, pair-nothing, pair-part, pair-reply, pair-request, pair-segment, segment-message, segment-part, way-mac}

-- octets in which nobody hears a segment
record GoesNone (octets : List ℕ) : Type 0 where
  pub unheard : (mac : Mac) (ours : Addr) (r : ReceivedSegment) → heard mac ours octets ≡ Ok (Tcp r) → ⊥
  pub pairless : pair_in octets ≡ None

-- octets that are the frame of this segment
pub record Goes (i : InterfaceView) (octets : List ℕ) (c : Carried) : Type 0 where
  pub head : Head
  pub text : List ℕ
  pub is : octets ≡ segment_frame_to i c.mac c.to (sent_octets i.addr c.to head text)
  pub segment : c.segment ≡ sent_segment head text
  pub can : CanBeSent i.addr c.to head text
  pub whole : length c.mac.0 ≡ 6
  pub fits : 4 * sent_offset head + length text ≤ 1480

abbrev Carry : InterfaceView → List ℕ → Option Carried → Type 0
Carry i octets None = GoesNone octets
Carry i octets (Some c) = Goes i octets c

-- Elements of lists of which each is sound.

pub found-all : {X : Type 0} (P : X → Type 0) (t : X → Bool) (xs : List X) (x : X) → AllByRecursion P xs → find t xs ≡ Some x → P x
found-all P t [] x all e = cc
found-all P t (y ∷ ys) x all e = by_test (t y) (found-all P t ys x all.1) e
  where
    by_test : (b : Bool) → (find t ys ≡ Some x → P x) → cond b (Some y) (find t ys) ≡ Some x → P x
    by_test true further e = let same : y ≡ x = cc in subst P same all.0
    by_test false further e = further e

-- A control reply.

nothing-goes : GoesNone []
nothing-goes = record { unheard = heard-nothing; pairless = pair-nothing }

request-goes : (i : InterfaceView) (hop : Addr) → length i.mac.0 ≡ 6 → GoesNone (request_frame i hop)
request-goes i hop own = record { unheard = λ mac ours r. heard-request i hop mac ours r own; pairless = pair-request i hop own }

message-goes : (i : InterfaceView) (theirs : Mac) (to : Addr) (m : Message) (octets : List ℕ) → CanGo i theirs to m → octets ≡ message_frame_to i theirs to (spelling m) → GoesNone octets
message-goes i theirs to m octets can is =
    let goes : GoesNone (message_frame_to i theirs to (spelling m)) = record { unheard = λ mac ours r. segment-message i theirs to m mac ours r can; pairless = pair-message i theirs to m can } in
    subst GoesNone (sym is) goes

part-goes : (i : InterfaceView) (theirs : Mac) (to : Addr) (part : Part) (octets : List ℕ) → length theirs.0 ≡ 6 → length i.mac.0 ≡ 6 → GoesNone (part_frame_to i theirs to part octets)
part-goes i theirs to part octets whole own = record { unheard = λ mac ours r. segment-part i theirs to part octets mac ours r whole own; pairless = pair-part i theirs to part octets whole own }

reset-frame : (i : InterfaceView) (mac : Mac) (to : Addr) (head : Head) → reply_frame i mac (Reset to head) ≡ segment_frame_to i mac to (sent_octets i.addr to head [])
unfolding reply_frame
reset-frame i mac to head = refl

reply-goes : (h : HostView) (moment : Moment) → IsSoundHost h → (reply : Reply) → IsSoundReply h.interface.addr reply → (w : Way) → way_of h.interface moment reply ≡ w
    → Carry h.interface (frame_by h.interface reply w) (carried_reply reply w)
reply-goes h moment sound (Arp packet) solid (To theirs) is = record {
  unheard = λ mac ours r. heard-reply h.interface theirs mac ours packet r solid.sender_mac solid.target_mac;
  pairless = pair-reply h.interface theirs packet solid.sender_mac solid.target_mac;
}
reply-goes h moment sound (Arp packet) solid (Ask hop) is = cc
reply-goes h moment sound (Arp packet) solid Waits is = cc
reply-goes h moment sound (Reset to head) solid (To theirs) is = record {
  head = head;
  text = [];
  is = reset-frame h.interface theirs to head;
  segment = refl;
  can = solid.sendable;
  whole = way-mac h.interface moment to theirs sound.interface is;
  fits = omega (arith, most_offset head);
}
reply-goes h moment sound (Reset to head) solid (Ask hop) is = request-goes h.interface hop sound.interface.mac
reply-goes h moment sound (Reset to head) solid Waits is = nothing-goes
reply-goes h moment sound (Echo to identifier number octets) solid (To theirs) is =
    let whole : length theirs.0 ≡ 6 = way-mac h.interface moment to theirs sound.interface is in
    message-goes h.interface theirs to (echo_reply identifier number octets) (reply_frame h.interface theirs (Echo to identifier number octets))
    (echo-can h.interface theirs to identifier number octets sound.interface solid whole) (echo-frame h.interface theirs to identifier number octets)
reply-goes h moment sound (Echo to identifier number octets) solid (Ask hop) is = request-goes h.interface hop sound.interface.mac
reply-goes h moment sound (Echo to identifier number octets) solid Waits is = nothing-goes
reply-goes h moment sound (Error to reason quoted) solid (To theirs) is =
    let whole : length theirs.0 ≡ 6 = way-mac h.interface moment to theirs sound.interface is in
    message-goes h.interface theirs to (error_for reason quoted []) (reply_frame h.interface theirs (Error to reason quoted))
    (error-can h.interface theirs to reason quoted sound.interface solid whole) (error-frame h.interface theirs to reason quoted)
reply-goes h moment sound (Error to reason quoted) solid (Ask hop) is = request-goes h.interface hop sound.interface.mac
reply-goes h moment sound (Error to reason quoted) solid Waits is = nothing-goes

pub at-all : {X : Type 0} (P : X → Type 0) (xs : List X) (k : ℕ) (x : X) → AllByRecursion P xs → slice_get xs k ≡ Some x → P x
at-all P [] k x all e = cc
at-all P (y ∷ ys) zero x all e = let same : y ≡ x = cc in subst P same all.0
at-all P (y ∷ ys) (suc k) x all e = at-all P ys k x all.1 e

replies-go : (h : HostView) (moment : Moment) (place : ℕ) → IsSoundHost h → Carry h.interface (octets_of h moment (Replies place)) (carried_by h moment (Replies place))
replies-go h moment place sound = by_place (slice_get h.interface.replies place) refl
  where
    by_place : (o : Option Waiting) → slice_get h.interface.replies place ≡ o → Carry h.interface (frame_of_one h.interface moment o) (carried_for h moment o)
    by_place None at = nothing-goes
    by_place (Some waiting) at =
        let own = sound.interface in
        reply-goes h moment sound waiting.reply (at-all (λ (w : Waiting). IsSoundReply h.interface.addr w.reply) h.interface.replies place waiting own.replies at) (way_of h.interface moment waiting.reply) refl

-- What an entry has due.

-- the entry for which a frame goes out, and what it has due
record Sending (h : HostView) (moment : Moment) (mac : Mac) (to : Addr) : Type 0 where
  pub e : Entry
  pub due : Endpoint × Outgoing
  pub found : find (in_turn h.sockets (sends (goes_out_from h moment))) h.sockets.entries ≡ Some e
  pub is : due_to (goes_out_from h moment) e.role ≡ Some due
  pub is_to : to ≡ due.0.addr
  pub leads : way h.interface moment to ≡ To mac

sending : (h : HostView) (moment : Moment) (mac : Mac) (to : Addr) → emission h moment ≡ Sends mac to → Sending h moment mac to
sending h moment mac to = by_place (position (is_due h.interface moment) h.interface.replies)
  where
    goes : Addr → Bool
    goes = goes_out_from h moment

    by_way : (e : Entry) (due : Endpoint × Outgoing) → find (in_turn h.sockets (sends goes)) h.sockets.entries ≡ Some e → due_to goes e.role ≡ Some due → (w : Way) → way h.interface moment due.0.addr ≡ w
        → emission_by due.0.addr w ≡ Sends mac to → Sending h moment mac to
    by_way e due found its (To theirs) leads same =
        let macs : theirs ≡ mac = cc in
        let tos : due.0.addr ≡ to = cc in
        record { e = e; due = due; found = found; is = its; is_to = sym tos; leads = ap (way h.interface moment) (sym tos) ∙ (leads ∙ ap To macs) }
    by_way e due found its (Ask hop) leads same = cc
    by_way e due found its Waits leads same = cc

    by_entry : (o : Option Entry) → find (in_turn h.sockets (sends goes)) h.sockets.entries ≡ o → table_emission h moment ≡ Sends mac to → Sending h moment mac to
    by_entry None found same = let none = sym (none_from h moment found) ∙ same in cc
    by_entry (Some e) found same =
        let due = found_due h.sockets goes e found in
        by_way e due.0 found due.1 (way h.interface moment (let d = due.0 in d.0.addr)) refl (sym (table_from h moment e due.0 found due.1) ∙ same)

    by_place : (o : Option ℕ) → emission_at h moment o ≡ Sends mac to → Sending h moment mac to
    by_place (Some place) same = cc
    by_place None same = by_entry (find (in_turn h.sockets (sends goes)) h.sockets.entries) refl same

first-octets : (own : Addr) (w : Outgoing) (c : View) (l : Option SocketId) (due : Due) → first_due c ≡ Some due → due_octets own w (Connected c l) ≡ connection_octets c due
first-octets own w c l due first = rw first

-- It is a segment in that frame, or a part of a datagram.
pub data IsSending (h : HostView) (moment : Moment) (mac : Mac) (to : Addr) : Type 0 where
  SendsSegment : (own : Carried) → carried_by h moment (Sends mac to) ≡ Some own → Goes h.interface (octets_of h moment (Sends mac to)) own → IsSending h moment mac to
  SendsPart : (part : Part) (octets : List ℕ) → carried_by h moment (Sends mac to) ≡ None → octets_of h moment (Sends mac to) ≡ part_frame_to h.interface mac to part octets → length mac.0 ≡ 6 → IsSending h moment mac to

-- in the frame is what the entry has due
sent-frame : (h : HostView) (moment : Moment) (mac : Mac) (to : Addr) (e : Entry) (role : Role) (due : Endpoint × Outgoing) → find (in_turn h.sockets (sends (goes_out_from h moment))) h.sockets.entries ≡ Some e → due_to (goes_out_from h moment) e.role ≡ Some due → e.role ≡ role
    → octets_of h moment (Sends mac to) ≡ emitted_frame h.interface mac to (due_emitted due.1 role) (due_octets h.sockets.addr due.1 role)
sent-frame h moment mac to e role due found its is =
    let goes : Addr → Bool = goes_out_from h moment in
    ap (λ (o : Option Emitted). emitted_frame h.interface mac to o (emitted_octets h.sockets goes)) (emitted-found h.sockets goes e due found its ∙ ap (due_emitted due.1) is)
    ∙ ap (λ (l : List ℕ). emitted_frame h.interface mac to (due_emitted due.1 role) l) (emitted_octets-found h.sockets goes e due found its ∙ ap (due_octets h.sockets.addr due.1) is)

carried-so : (h : HostView) (moment : Moment) (mac : Mac) (to : Addr) (e : Entry) (role : Role) → find (in_turn h.sockets (sends (goes_out_from h moment))) h.sockets.entries ≡ Some e → e.role ≡ role
    → carried_by h moment (Sends mac to) ≡ option_map (λ segment. record { mac = mac; to = to; segment = segment }) (due_segment role)
carried-so h moment mac to e role found is =
    let made : Segment → Carried = λ s. record { mac = mac; to = to; segment = s } in
    ap (λ (o : Option Entry). option_map made (option_and_then (λ (x : Entry). due_segment x.role) o)) found ∙ ap (λ (r : Role). option_map made (due_segment r)) is

of-connection : (h : HostView) (moment : Moment) (mac : Mac) (to : Addr) (e : Entry) (c : View) (l : Option SocketId) (first : Endpoint × Outgoing) (due : Due) → IsSoundHost h → IsOrdered h.sockets
    → find (in_turn h.sockets (sends (goes_out_from h moment))) h.sockets.entries ≡ Some e → due_to (goes_out_from h moment) e.role ≡ Some first → e.role ≡ Connected c l → first_due c ≡ Some due → to ≡ c.peer.addr → way h.interface moment to ≡ To mac → IsSending h moment mac to
of-connection h moment mac to e c l out due sound ordered found its role first is_to leads =
    let goes : Addr → Bool = goes_out_from h moment in
    let head : Head = head_of c due in
    let text : List ℕ = text_of c due in
    let table = sound.table in
    let solid : IsSoundConnection c = subst IsSoundRole role (found-all (λ (x : Entry). IsSoundRole x.role) (in_turn h.sockets (sends goes)) h.sockets.entries e table.entries found) in
    let may = due-may c due solid.sound first in
    let lies : LiesAt h.sockets.addr (Connected c l) = subst (LiesAt h.sockets.addr) role (found-all (λ (x : Entry). LiesAt h.sockets.addr x.role) (in_turn h.sockets (sends goes)) h.sockets.entries e ordered.own found) in
    let source : c.local.addr ≡ h.interface.addr = lies.0 ∙ sym sound.own in
    let own : Carried = record { mac = mac; to = to; segment = sent_segment head text } in
    let made : Segment → Carried = λ s. record { mac = mac; to = to; segment = s } in
    let carries : carried_by h moment (Sends mac to) ≡ Some own =
    carried-so h moment mac to e (Connected c l) found role
    ∙ ap (λ (d : Option Due). option_map made (option_map (λ (x : Due). sent_segment (head_of c x) (text_of c x)) d)) first in
    let spelled : connection_octets c due ≡ sent_octets h.interface.addr to head text =
    ap (λ (a : Addr). sent_octets a c.peer.addr head text) source ∙ ap (λ (a : Addr). sent_octets h.interface.addr a head text) (sym is_to) in
    let framed : octets_of h moment (Sends mac to) ≡ segment_frame_to h.interface mac to (connection_octets c due) =
    sent-frame h moment mac to e (Connected c l) out found its role
    ∙ ap (λ (d : Option Due). emitted_frame h.interface mac to (option_map (λ (x : Due). what.Segment (emitted_len c x)) d) (due_octets h.sockets.addr out.1 (Connected c l))) first
    ∙ ap (segment_frame_to h.interface mac to) (first-octets h.sockets.addr out.1 c l due first) in
    let can : CanBeSent h.interface.addr to head text =
    subst (λ (a : Addr). CanBeSent h.interface.addr a head text) (sym is_to) (subst (λ (a : Addr). CanBeSent a c.peer.addr head text) source (due-can c due solid may)) in
    SendsSegment own carries (record {
      head = head;
      text = text;
      is = framed ∙ ap (segment_frame_to h.interface mac to) spelled;
      segment = refl;
      can = can;
      whole = way-mac h.interface moment to mac sound.interface leads;
      fits = due-fits c due may;
    })

of-datagrams : (h : HostView) (moment : Moment) (mac : Mac) (to : Addr) (e : Entry) (bound : Option Endpoint) (socket : SocketView) (due : Endpoint × Outgoing) (part : Part) → IsSoundHost h
    → find (in_turn h.sockets (sends (goes_out_from h moment))) h.sockets.entries ≡ Some e → due_to (goes_out_from h moment) e.role ≡ Some due → e.role ≡ Datagrams bound socket → due_part (with_first due.1 socket) ≡ Some part → way h.interface moment to ≡ To mac → IsSending h moment mac to
of-datagrams h moment mac to e bound socket due part sound found its role told leads =
    let octets : List ℕ = due_octets h.sockets.addr due.1 (Datagrams bound socket) in
    SendsPart part octets (carried-so h moment mac to e (Datagrams bound socket) found role)
    (sent-frame h moment mac to e (Datagrams bound socket) due found its role
    ∙ ap (λ (o : Option Part). emitted_frame h.interface mac to (option_map (λ (x : Part). what.Datagram x) o) octets) told)
    (way-mac h.interface moment to mac sound.interface leads)

pub is-sending : (h : HostView) (moment : Moment) (mac : Mac) (to : Addr) → IsSoundHost h → IsOrdered h.sockets → emission h moment ≡ Sends mac to → IsSending h moment mac to
is-sending h moment mac to sound ordered is =
    let k = sending h moment mac to is in
    by_role k.e k.found k.due k.is k.is_to k.leads k.e.role refl (due_outgoing (goes_out_from h moment) k.e.role k.due k.is)
  where
    goes : Addr → Bool
    goes = goes_out_from h moment

    by_part : (e : Entry) (bound : Option Endpoint) (socket : SocketView) (due : Endpoint × Outgoing) → find (in_turn h.sockets (sends goes)) h.sockets.entries ≡ Some e → due_to goes e.role ≡ Some due → e.role ≡ Datagrams bound socket → way h.interface moment to ≡ To mac
        → (w : Outgoing) → due.1 ≡ w → HasOutgoing (Datagrams bound socket) w → (o : Option Part) → due_part (with_first due.1 socket) ≡ o → IsSending h moment mac to
    by_part e bound socket due found its role leads w same has (Some part) told = of-datagrams h moment mac to e bound socket due part sound found its role told leads
    by_part e bound socket due found its role leads (outgoing.Segment d) same has None told = absurd has
    by_part e bound socket due found its role leads (outgoing.Datagram place) same has None told = absurd (part-waits place socket has (ap (λ (w : Outgoing). due_part (with_first w socket)) (sym same) ∙ told))

    by_role : (e : Entry) → find (in_turn h.sockets (sends goes)) h.sockets.entries ≡ Some e → (due : Endpoint × Outgoing) → due_to goes e.role ≡ Some due → to ≡ due.0.addr → way h.interface moment to ≡ To mac → (r : Role) → e.role ≡ r → HasOutgoing e.role due.1
        → IsSending h moment mac to
    by_role e found due its is_to leads (Connected c l) role has =
        let first = first_segment goes c l due (ap (due_to goes) (sym role) ∙ its) in
        of-connection h moment mac to e c l due first.segment sound ordered found its role first.first (is_to ∙ ap (λ (d : Endpoint × Outgoing). d.0.addr) (sym first.is)) leads
    by_role e found due its is_to leads (Datagrams bound socket) role has =
        by_part e bound socket due found its role leads due.1 refl (subst (λ (r : Role). HasOutgoing r due.1) role has) (due_part (with_first due.1 socket)) refl
    by_role e found due its is_to leads (Listener local backlog) role has = absurd (subst (λ (r : Role). HasOutgoing r due.1) role has)
    by_role e found due its is_to leads (Idle buffers bound) role has = absurd (subst (λ (r : Role). HasOutgoing r due.1) role has)

sends-go : (h : HostView) (moment : Moment) (mac : Mac) (to : Addr) → IsSoundHost h → IsOrdered h.sockets → emission h moment ≡ Sends mac to
    → Carry h.interface (octets_of h moment (Sends mac to)) (carried_by h moment (Sends mac to))
sends-go h moment mac to sound ordered is = elim (is-sending h moment mac to sound ordered is) [
  | SendsSegment own carries goes ↦ subst (Carry h.interface (octets_of h moment (Sends mac to))) (sym carries) goes
  | SendsPart part octets carries spelled whole ↦
      let mine = sound.interface in
      let none : GoesNone (octets_of h moment (Sends mac to)) = subst GoesNone (sym spelled) (part-goes h.interface mac to part octets whole mine.mac) in
      subst (Carry h.interface (octets_of h moment (Sends mac to))) (sym carries) none
]

-- Whatever goes out.
carries : (h : HostView) (moment : Moment) → IsSoundHost h → IsOrdered h.sockets → (x : Emission) → emission h moment ≡ x → Carry h.interface (octets_of h moment x) (carried_by h moment x)
carries h moment sound ordered (Replies place) is = replies-go h moment place sound
carries h moment sound ordered (Sends mac to) is = sends-go h moment mac to sound ordered is
carries h moment sound ordered (Asks hop) is = let own = sound.interface in request-goes h.interface hop own.mac
carries h moment sound ordered Nothing is = nothing-goes

-- it is heard at its address
goes-heard : (i : InterfaceView) (octets : List ℕ) (c : Carried) → length i.mac.0 ≡ 6 → MaySend c.to i.addr → Goes i octets c → heard c.mac c.to octets ≡ Ok (Tcp (record { source = i.addr; segment = c.segment }))
goes-heard i octets c own may g =
    ap (heard c.mac c.to) g.is ∙ segment_heard i c.mac c.to g.head g.text g.can g.whole own may g.fits
    ∙ ap (λ (s : Segment). let r : ReceivedSegment = record { source = i.addr; segment = s } in let m : Result Meaning DropCause = Ok (Tcp r) in m) (sym g.segment)

-- and nowhere else
goes-hearer : (i : InterfaceView) (octets : List ℕ) (o : Option Carried) (mac : Mac) (ours : Addr) (r : ReceivedSegment) → length i.mac.0 ≡ 6 → Carry i octets o → heard mac ours octets ≡ Ok (Tcp r)
    → (c : Carried) × (o ≡ Some c) × (ours ≡ c.to) × (r ≡ record { source = i.addr; segment = c.segment })
goes-hearer i octets None mac ours r own g e = absurd (g.unheard mac ours r e)
goes-hearer i octets (Some c) mac ours r own g e =
    let two = heard-segment i c.mac c.to g.head g.text mac ours r g.can g.whole own g.fits (subst (λ (l : List ℕ). heard mac ours l ≡ Ok (Tcp r)) g.is e) in
    (c, refl, two.0, two.1 ∙ ap (λ (s : Segment). let x : ReceivedSegment = record { source = i.addr; segment = s } in x) (sym g.segment))

goes-pair : (i : InterfaceView) (octets : List ℕ) (o : Option Carried) → length i.mac.0 ≡ 6 → Carry i octets o → pair_in octets ≡ option_map (λ (c : Carried). pair_between i.addr c.to c.segment) o
goes-pair i octets None own g = g.pairless
goes-pair i octets (Some c) own g =
    ap pair_in g.is ∙ pair-segment i c.mac c.to g.head g.text g.can g.whole own g.fits ∙ ap (λ (s : Segment). Some (pair_between i.addr c.to s)) (sym g.segment)

pub carried-heard : (h : HostView) (now : Moment) (c : Carried) → IsSoundHost h → IsOrdered h.sockets → carried h now ≡ Some c → h.interface.addr ≢ c.to
    → heard c.mac c.to (emission_octets h now) ≡ Ok (Tcp (record { source = h.interface.addr; segment = c.segment }))
carried-heard h now c sound ordered is other =
    let moment = later_moment h.sockets now in
    let own = sound.interface in
    let may : MaySend c.to h.interface.addr = record { single = sound.single; other = other } in
    goes-heard h.interface (emission_octets h now) c own.mac may (subst (Carry h.interface (emission_octets h now)) is (carries h moment sound ordered (emission h moment) refl))

pub carried-met : (h g : HostView) (now then : Moment) (isn : ℕ) (c : Carried) (answer : Result (Unit {0}) DropCause) (new : HostView) → IsSoundHost h → IsOrdered h.sockets
    → carried h now ≡ Some c → h.interface.addr ≢ c.to → g.interface.mac ≡ c.mac → g.interface.addr ≡ c.to → shuts_out g h.interface.addr ≡ false → IsDelivered g then isn (emission_octets h now) answer new
    → let moment = later_moment g.sockets then in MeetsSegment (segment_arrival g moment isn h.interface.addr c.segment) g moment h.interface.addr answer new
carried-met h g now then isn c answer new sound ordered is other for at lets delivered =
    let heard_is = ap (λ (m : Mac). heard m g.interface.addr (emission_octets h now)) for ∙ ap (λ (a : Addr). heard c.mac a (emission_octets h now)) at ∙ carried-heard h now c sound ordered is other in
    subst (λ (m : Result Meaning DropCause). MeetsHeard m g (later_moment g.sockets then) isn answer new) (takes_in g (emission_octets h now) (record { source = h.interface.addr; segment = c.segment }) lets heard_is) delivered

pub carried-hearer : (h : HostView) (now : Moment) (mac : Mac) (ours : Addr) (received : ReceivedSegment) → IsSoundHost h → IsOrdered h.sockets → heard mac ours (emission_octets h now) ≡ Ok (Tcp received)
    → (c : Carried) × (carried h now ≡ Some c) × (ours ≡ c.to) × (received ≡ record { source = h.interface.addr; segment = c.segment })
carried-hearer h now mac ours r sound ordered e =
    let moment = later_moment h.sockets now in
    let own = sound.interface in
    goes-hearer h.interface (emission_octets h now) (carried h now) mac ours r own.mac (carries h moment sound ordered (emission h moment) refl) e

pub carried-pair : (h : HostView) (now : Moment) → IsSoundHost h → IsOrdered h.sockets → pair_in (emission_octets h now) ≡ option_map (λ (c : Carried). pair_between h.interface.addr c.to c.segment) (carried h now)
carried-pair h now sound ordered =
    let moment = later_moment h.sockets now in
    let own = sound.interface in
    goes-pair h.interface (emission_octets h now) (carried h now) own.mac (carries h moment sound ordered (emission h moment) refl)
