-- Why the two ends of a connection come to each other.
use Rattle.std.proofs.Common.{◌≡◌, ℕ, ◌+◌, ◌&&◌, not, Bool, true, false, if◌then◌else◌, [], ◌∷◌, ◌++◌, Option, Some, None, Result, Ok, Err, refl, sym, ◌∙◌, ap, subst, arith}
use Rattle.std.specs.List.{find}
use Rattle.ipv4.specs.declared.addr.Addr.{Addr}
use Rattle.ipv4.specs.declared.addr.Endpoint.{Endpoint}
use Rattle.ipv4.specs.Addresses.{same_addr}
use Rattle.clock.specs.declared.moment.Moment.{Moment}
use Rattle.tcp_segment.specs.declared.seq.Seq.{Seq}
use Rattle.tcp_segment.specs.Segment.{Segment}
use Rattle.tcp_segment.specs.Sent.{sent_segment}
use Rattle.tcp_segment.specs.Wire.{wire}
use Rattle.tcp_halves.proofs.Choices.{and_false}
use Rattle.tcp_state.specs.declared.calls.Refusal.TheVariants as error
use Rattle.tcp_state.specs.declared.connection.Fate.{Fate}
use Rattle.tcp_state.specs.declared.connection.Fate.TheVariants.{Stays, Removed}
use Rattle.tcp_state.specs.declared.emission.Due.{Due}
use Rattle.tcp_state.specs.declared.emission.Due.TheVariants.{Syn, Text, Ack}
use Rattle.tcp_state.specs.declared.state.State.{State}
use Rattle.tcp_state.specs.Arrival.{opened_passively, fate}
use Rattle.tcp_state.specs.Edges as edge
use Rattle.tcp_state.specs.Said.{segment_of, IsClosedBy}
use Rattle.tcp_state.specs.View.{View, IsSound, is_closed, is_syn_received}
use Rattle.tcp_state.proofs.ThreeSteps.{listener_answers}
use Rattle.frames.specs.declared.drop.DropCause.{DropCause}
use Rattle.interface.specs.declared.reply.Reply.TheVariants.{Reset}
use Rattle.interface.specs.declared.reply.QueueFault.TheVariants as queue
use Rattle.interface.specs.InterfaceView.{InterfaceView}
use Rattle.interface.specs.Replies.{is_full, owed, after_answer, answer_result}
use Rattle.interface.specs.Ways.{is_routed}
use Rattle.sockets.specs.declared.entry.SocketId.{SocketId}
use Rattle.sockets.specs.declared.entry.Entry.{Entry}
use Rattle.sockets.specs.Arrival.{Arrival, Opens, NoRoom, local_end, peer_end, is_opening, has_no_room, after_opening, arrival, room_for}
use Rattle.sockets.specs.Causes.{Hears, after_event}
use Rattle.sockets.specs.Closing.{entry_of}
use Rattle.sockets.specs.Entries.{is_socket, is_between, is_listening_at, is_kept, new_waiting}
use Rattle.sockets.specs.Ids.{has_id}
use Rattle.sockets.specs.Offered.{is_ready_id}
use Rattle.sockets.specs.Order.{IsOrdered, LiesAt}
use Rattle.sockets.specs.Sound.{IsSoundConnection, IsSoundRole}
use Rattle.sockets.specs.SocketsView.{SocketsView, later_moment}
use Rattle.sockets.specs.Steps.{connected}
use Rattle.sockets.specs.Strays.{IsResetOf}
use Rattle.sockets.proofs.OneEvent.{socket_once}
use Rattle.sockets.proofs.Ends.{eqb-same, same_addr-true}
use Rattle.sockets.proofs.Followed.{by_test}
use Rattle.sockets.proofs.OfferOrder.{joins-at-end}
use Rattle.sockets.proofs.Strays.{stray_answered, syn_opens}
use Rattle.host.specs.Arrival.{MeetsSegment, arrival_by_route, queue_answer}
use Rattle.host.specs.HostView.{HostView, with_interface, with_sockets}
use Rattle.host.specs.Sound.{IsSoundHost}
use Rattle.sides.specs.declared.side.Side.{Side}
use Rattle.sides.specs.Sides.{other_side}
use Rattle.wire_sim.specs.declared.event.Answer.{Answer}
use Rattle.wire_sim.specs.declared.event.Answer.TheVariants as reply
use Rattle.wire_sim.specs.Duties.{Has, AreEnds, IsUnknown, TellsRefused, EveryUnheardConnectIsRefused, EveryRefusalIsTold, EverySynOpens, EverySynAckOpens, EveryAckConfirms, EveryFirstFinCloses, EveryLastFinCloses, EveryLastAckEnds}
use Rattle.wire_sim.specs.Handshakes.{IsAsking, fin_alone}
use Rattle.wire_sim.specs.Passage.{addr_at}
use Rattle.wire_sim.specs.WorldView.{WorldView, host_of, table_of}
use Rattle.wire_sim.proofs.lists.FoundAfterChange.{find-added}
use Rattle.wire_sim.proofs.two_ends.Closes.{first_fin, last_fin, last_ack}
use Rattle.wire_sim.proofs.two_ends.Opens.{refused_by, opened_by, confirmed_by}
use Rattle.wire_sim.proofs.two_ends.Travels.{answer_of, Arrives, travelled, under, found_once, Awaits, heard}
use Rattle.wire_sim.proofs.two_ends.UnderIds.{none_past, ready_under}

-- a connection of a host is sound, and lies at its address
pub sound_under : (h : HostView) (id : SocketId) (c : View) (l : Option SocketId) → IsSoundHost h → entry_of h.sockets id ≡ Some (connected id c l) → IsSound c
sound_under h id c l sound found = let solid : IsSoundConnection c = under (λ (e : Entry). IsSoundRole e.role) h.sockets id (connected id c l) sound.table.entries found in solid.sound

pub lies_under : (h : SocketsView) (id : SocketId) (c : View) (l : Option SocketId) → IsOrdered h → entry_of h id ≡ Some (connected id c l) → c.local.addr ≡ h.addr
lies_under h id c l ordered found = (under (λ (e : Entry). LiesAt h.addr e.role) h id (connected id c l) ordered.own found).0

pub at_addr : (e : Endpoint) (a : Addr) → e.addr ≡ a → ◌≡◌ {A = Endpoint} e (record { addr = a; port = e.port })
at_addr e a is = ap (λ (x : Addr). let y : Endpoint = record { addr = x; port = e.port } in y) is

-- The segment of one end is between the ends of the other.
awaits : (side : Side) (w0 w2 w3 : WorldView) (answer : Answer) (isn : Seq) (due : Due) (id other : SocketId) (l m : Option SocketId) (c v : View) → Arrives side (segment_of c due) w0 w2 w3 answer isn → Has w0 side id l c → Has w2 (other_side side) other m v → AreEnds c v
    → is_closed v.state ≡ false → (is_kept (fate v (segment_of c due)) ≡ true → fate v (segment_of c due) ≡ Stays) → Awaits side (segment_of c due) w0 w2 other m v
awaits side w0 w2 w3 answer isn due id other l m c v a has there two lives takes = record {
  has = there;
  lives = lives;
  local = at_addr v.local (let t = table_of w2.network (other_side side) in t.addr) (lies_under (table_of w2.network (other_side side)) other v m a.kept_there.ordered there)
      ∙ ap (λ (e : Endpoint). let y : Endpoint = record { addr = (let t = table_of w2.network (other_side side) in t.addr); port = e.port } in y) two.local;
  peer = two.peer ∙ at_addr c.local (addr_at w0.network side) (lies_under (table_of w0.network side) id c l a.kept.ordered has ∙ sym a.sound.own);
  takes = takes;
}

-- what a segment by which a connection stays leaves under its id
stays_under : (other : SocketId) (m : Option SocketId) (f : Fate) (w : View) (o : Option Entry) → o ≡ (if is_kept f then Some (connected other w m) else None) → f ≡ Stays → o ≡ Some (connected other w m)
stays_under other m f w o left stays = left ∙ ap (λ (x : Fate). if is_kept x then Some (connected other w m) else None) stays

-- Closing.

pub first_closes : EveryFirstFinCloses
first_closes limit side id other l m state ours theirs c v w0 w1 w2 w3 answer isn t has ends there rests room two =
    let s = segment_of c (Text fin_alone) in
    let a = travelled limit side s w0 w1 w2 w3 answer isn t in
    let solid : IsSound c = sound_under (host_of w0.network side) id c l a.sound has in
    let sound : IsSound v = sound_under (host_of w2.network (other_side side)) other v m a.there there in
    let meets = λ (now : Moment). first_fin state ours theirs c v now solid ends sound rests room in
    let stays : fate v s ≡ Stays = (meets a.moment).1 in
    let h = heard side s w0 w2 w3 answer isn other m v a (awaits side w0 w2 w3 answer isn (Text fin_alone) id other l m c v a has there two (ap is_closed rests.in_state) (λ kept. stays)) in
    (h.taken, (edge.after_event v (edge.Hears s h.now), stays_under other m (fate v s) _ _ h.left stays, (meets h.now).0.0, (meets h.now).0.1))

pub last_closes : EveryLastFinCloses
last_closes limit side id other l m state ours theirs c v w0 w1 w2 w3 answer isn t has ends there waits out room two =
    let s = segment_of c (Text fin_alone) in
    let a = travelled limit side s w0 w1 w2 w3 answer isn t in
    let solid : IsSound c = sound_under (host_of w0.network side) id c l a.sound has in
    let sound : IsSound v = sound_under (host_of w2.network (other_side side)) other v m a.there there in
    let meets = λ (now : Moment). last_fin state ours theirs c v now solid ends sound waits out room in
    let stays : fate v s ≡ Stays = (meets a.moment).1 in
    let h = heard side s w0 w2 w3 answer isn other m v a (awaits side w0 w2 w3 answer isn (Text fin_alone) id other l m c v a has there two (ap is_closed waits.in_state) (λ kept. stays)) in
    (h.taken, (edge.after_event v (edge.Hears s h.now), stays_under other m (fate v s) _ _ h.left stays, (meets h.now).0.0, (meets h.now).0.1))

pub ack_ends : EveryLastAckEnds
ack_ends limit side id other l m ours theirs e v w0 w1 w2 w3 answer isn t has rests there waits out two =
    let s = segment_of e Ack in
    let a = travelled limit side s w0 w1 w2 w3 answer isn t in
    let sound : IsSound v = sound_under (host_of w2.network (other_side side)) other v m a.there there in
    let solid : IsSound e = sound_under (host_of w0.network side) id e l a.sound has in
    let meets = λ (now : Moment). last_ack ours theirs e v now solid rests sound waits out in
    let leaves : fate v s ≡ (if v.released then Removed else Stays) = (meets a.moment).1 in
    let h = heard side s w0 w2 w3 answer isn other m v a (awaits side w0 w2 w3 answer isn Ack id other l m e v a has there two (ap is_closed waits.in_state) (λ kept. unless_removed v.released (fate v s) leaves kept)) in
    let w = edge.after_event v (edge.Hears s h.now) in
    (h.taken, (w, (meets h.now).0, h.left ∙ (ap (λ (x : Fate). if is_kept x then Some (connected other w m) else None) leaves ∙ by_caller v.released (connected other w m))))
  where
    unless_removed : (b : Bool) (f : Fate) → f ≡ (if b then Removed else Stays) → is_kept f ≡ true → f ≡ Stays
    unless_removed true f is kept = let bad : false ≡ true = sym (ap is_kept is) ∙ kept in cc
    unless_removed false f is kept = is

    by_caller : (b : Bool) (x : Entry) → (if is_kept (if b then Removed else Stays) then Some x else None) ≡ (if b then None else Some x)
    by_caller true x = refl
    by_caller false x = refl

-- Opening.

pub syn_ack_opens : EverySynAckOpens
syn_ack_opens limit side waiting id listener ours theirs f c w0 w1 w2 w3 answer isn t has answers there asks out two =
    let s = segment_of f Syn in
    let a = travelled limit side s w0 w1 w2 w3 answer isn t in
    let sound : IsSound c = sound_under (host_of w2.network (other_side side)) id c None a.there there in
    let meets = λ (now : Moment). opened_by ours theirs f c now answers sound asks out in
    let stays : fate c s ≡ Stays = (meets a.moment).1 in
    let h = heard side s w0 w2 w3 answer isn id None c a (awaits side w0 w2 w3 answer isn Syn waiting id listener None f c a has there two (ap is_closed asks.state) (λ kept. stays)) in
    (h.taken, (edge.after_event c (edge.Hears s h.now), stays_under id None (fate c s) _ _ h.left stays, (meets h.now).0.0, (meets h.now).0.1))

pub ack_confirms : EveryAckConfirms
ack_confirms limit side id waiting listener ours theirs e f w0 w1 w2 w3 answer isn t has opened there answers out two =
    let s = segment_of e Ack in
    let a = travelled limit side s w0 w1 w2 w3 answer isn t in
    let table : SocketsView = table_of w2.network (other_side side) in
    let sound : IsSound f = sound_under (host_of w2.network (other_side side)) waiting f (Some listener) a.there there in
    let solid : IsSound e = sound_under (host_of w0.network side) id e None a.sound has in
    let meets = λ (now : Moment). confirmed_by ours theirs e f now solid opened sound answers out in
    let stays : fate f s ≡ Stays = (meets a.moment).1 in
    let h = heard side s w0 w2 w3 answer isn waiting (Some listener) f a (awaits side w0 w2 w3 answer isn Ack id waiting None (Some listener) e f a has there two (ap is_closed answers.state) (λ kept. stays)) in
    let g = edge.after_event f (edge.Hears s h.now) in
    let left : Has w3 (other_side side) waiting (Some listener) g = stays_under waiting (Some listener) (fate f s) g _ h.left stays in
    let met = meets h.now in
    let before : is_ready_id table.entries waiting ≡ false =
    ready_under table waiting (connected waiting f (Some listener)) a.kept_there.ordered there ∙ (ap (λ b. not f.released && not b) (ap is_syn_received answers.state) ∙ and_false (not f.released)) in
    let ready : is_ready_id (let u = table_of w3.network (other_side side) in u.entries) waiting ≡ true =
    ready_under (table_of w3.network (other_side side)) waiting (connected waiting g (Some listener)) a.kept_then.ordered left
    ∙ (ap (λ b. not b && not (is_syn_received g.state)) met.2 ∙ ap (λ (t : State). not (is_syn_received t)) met.0.state) in
    let other : same_addr (addr_at w0.network side) table.addr ≡ false =
    by_test (same_addr (addr_at w0.network side) table.addr) (λ same. absurd (a.another (same_addr-true (addr_at w0.network side) table.addr same ∙ sym a.there.own))) (λ no. no) in
    let joins : (let u = after_event table (Hears h.moment isn.0 (addr_at w0.network side) s) in u.offered) ≡ table.offered ++ waiting ∷ [] =
    joins-at-end table (Hears h.moment isn.0 (addr_at w0.network side) s) waiting a.kept_there.reached other before (subst (λ (u : SocketsView). is_ready_id u.entries waiting ≡ true) h.table ready) in
    (h.taken, (g, left, met.0), ap (λ (u : SocketsView). u.offered) h.table ∙ joins)

-- a reset that acknowledges the SYN
pub refusal_told : EveryRefusalIsTold
refusal_told limit side id ours c d head w0 w1 w2 w3 answer isn reset t there asks out local peer addr =
    let s = sent_segment head [] in
    let a = travelled limit side s w0 w1 w2 w3 answer isn t in
    let table : SocketsView = table_of w2.network (other_side side) in
    let sound : IsSound d = sound_under (host_of w2.network (other_side side)) id d None a.there there in
    let meets = λ (now : Moment). refused_by ours d s now sound asks out reset.rst reset.ack reset.acknowledgement in
    let stays : fate d s ≡ Stays = (meets a.moment).1 in
    let own : d.local ≡ local_end table s =
    at_addr d.local table.addr (lies_under table id d None a.kept_there.ordered there) ∙ ap (λ (n : ℕ). let y : Endpoint = record { addr = table.addr; port = n } in y) (ap (λ (e : Endpoint). e.port) local ∙ sym reset.destination) in
    let far : d.peer ≡ peer_end (addr_at w0.network side) s =
    peer ∙ (at_addr c.peer (addr_at w0.network side) addr ∙ ap (λ (n : ℕ). let y : Endpoint = record { addr = addr_at w0.network side; port = n } in y) (sym reset.source)) in
    let h = heard side s w0 w2 w3 answer isn id None d a (record { has = there; lives = ap is_closed asks.state; local = own; peer = far; takes = λ kept. stays }) in
    let e = edge.after_event d (edge.Hears s h.now) in
    let left : Has w3 (other_side side) id None e = stays_under id None (fate d s) e _ h.left stays in
    let met = meets h.now in
    (h.taken, (e, left, met.0), tells (table_of w3.network (other_side side)) e a.kept_then.ordered left met.2 met.0)
  where
    tells : (h : SocketsView) (e : View) → IsOrdered h → entry_of h id ≡ Some (connected id e None) → e.released ≡ false → IsClosedBy error.ECONNREFUSED e → TellsRefused h id
    tells h e ordered found left closed =
        let passes : is_socket id (connected id e None) ≡ true = ap (λ b. b && not e.released) (eqb-same id.0) ∙ ap not left in
        let named : find (is_socket id) h.entries ≡ Some (connected id e None) = found_once (is_socket id) (has_id id) h.entries (connected id e None) found passes (socket_once h id ordered) in
        record {
          send = λ octets. rw named (rw (closed.send octets) refl);
          recv = λ len some. rw named (rw some (rw (closed.recv len) refl));
          shutdown = rw named (rw closed.shutdown refl);
        }

-- The SYN comes to where no connection is.
record SynComes (side : Side) (w0 w2 : WorldView) (ours : ℕ) (c : View) : Type 0 where
  number : (let s = segment_of c Syn in s.number) ≡ ours
  no_ack : (let s = segment_of c Syn in s.flags.ack) ≡ false
  local : local_end (table_of w2.network (other_side side)) (segment_of c Syn) ≡ c.peer
  peer : peer_end (addr_at w0.network side) (segment_of c Syn) ≡ c.local
  addr : addr_at w0.network side ≡ c.local.addr
  none : find (is_between (local_end (table_of w2.network (other_side side)) (segment_of c Syn)) (peer_end (addr_at w0.network side) (segment_of c Syn))) (let t = table_of w2.network (other_side side) in t.entries) ≡ None
  routed : is_routed (let h = host_of w2.network (other_side side) in h.interface) (addr_at w0.network side) ≡ true

syn_comes : (side : Side) (w0 w2 w3 : WorldView) (isn : Seq) (id : SocketId) (ours : ℕ) (c : View) → Arrives side (segment_of c Syn) w0 w2 w3 reply.Taken isn → Has w0 side id None c → IsAsking ours c → IsUnknown (host_of w2.network (other_side side)) c
    → SynComes side w0 w2 ours c
syn_comes side w0 w2 w3 isn id ours c a has asks unknown = record {
  number = asks.syn;
  no_ack = ap is_syn_received asks.state;
  local = local;
  peer = peer;
  addr = sym own;
  none = ap (λ (x : Endpoint). find (is_between x (peer_end (addr_at w0.network side) (segment_of c Syn))) table.entries) local ∙ (ap (λ (x : Endpoint). find (is_between c.peer x) table.entries) peer ∙ unknown.none);
  routed = ap (is_routed (let h = host_of w2.network (other_side side) in h.interface)) (sym own) ∙ unknown.routed;
}
  where
    table : SocketsView
    table = table_of w2.network (other_side side)

    own : c.local.addr ≡ addr_at w0.network side
    own = lies_under (table_of w0.network side) id c None a.kept.ordered has ∙ sym a.sound.own

    local : local_end table (segment_of c Syn) ≡ c.peer
    local = sym (at_addr c.peer table.addr unknown.own)

    peer : peer_end (addr_at w0.network side) (segment_of c Syn) ≡ c.local
    peer = sym (at_addr c.local (addr_at w0.network side) own)

-- what was taken was not refused
ok-told : (r : Result (Unit {0}) DropCause) → reply.Taken ≡ answer_of r → r ≡ Ok tt
ok-told (Ok done) is = refl
ok-told (Err cause) is = cc

-- where a segment opens a connection, the table is as that leaves it
opens_so : (h : SocketsView) (now : Moment) (isn : ℕ) (source : Addr) (s : Segment) (listener : Entry) (next : SocketsView) → find (is_between (local_end h s) (peer_end source s)) h.entries ≡ None → find (is_listening_at s.destination) h.entries ≡ Some listener
    → s.flags.rst ≡ false → s.flags.ack ≡ false → s.flags.syn ≡ true → arrival h now isn source s ≡ Opens next → arrival h now isn source s ≡ Opens (after_opening h (later_moment h now) isn listener source s)
opens_so h now isn source s listener next none found rst ack syn opens =
    let opened : is_opening s.flags ≡ true = rw (syn, rst, ack) refl in
    by_test (has_no_room h listener)
    (λ full. let no : arrival h now isn source s ≡ NoRoom = rw (none, found, opened, full) refl in let bad : NoRoom ≡ Opens next = sym no ∙ opens in cc)
    (λ room. rw (none, found, opened, room) refl)

pub syn_opened : EverySynOpens
syn_opened limit side id ours c listener w0 w1 w2 w3 isn t has asks unknown place =
    let s = segment_of c Syn in
    let a = travelled limit side s w0 w1 w2 w3 reply.Taken isn t in
    let h : HostView = host_of w2.network (other_side side) in
    let source = addr_at w0.network side in
    let m = syn_comes side w0 w2 w3 isn id ours c a has asks unknown in
    let opens = syn_opens h.sockets a.moment isn.0 source s listener m.none place.listens refl m.no_ack refl place.fewer place.room place.young in
    let next : SocketsView = after_opening h.sockets (later_moment h.sockets a.moment) isn.0 listener source s in
    let is : arrival h.sockets a.moment isn.0 source s ≡ Opens next = opens_so h.sockets a.moment isn.0 source s listener opens.0 m.none place.listens refl m.no_ack refl opens.1 in
    let met = subst (λ (x : Arrival). MeetsSegment (arrival_by_route (is_routed h.interface source) x) h a.moment source a.told (host_of w3.network (other_side side))) is a.met in
    let by_route = subst (λ (b : Bool). MeetsSegment (if b then Opens next else NoRoom) h a.moment source a.told (host_of w3.network (other_side side))) m.routed met in
    let new : host_of w3.network (other_side side) ≡ with_sockets h next = subst (λ (r : Result (Unit {0}) DropCause). MeetsSegment (Opens next) h a.moment source r (host_of w3.network (other_side side))) (ok-told a.told a.answered) by_route in
    let own : SocketId = record { 0 = h.sockets.last_id + 1 } in
    let f : View = opened_passively (room_for h.sockets s) (local_end h.sockets s) (peer_end source s) isn.0 s (later_moment h.sockets a.moment) in
    let none : find (has_id own) h.sockets.entries ≡ None = none_past own 0 h.sockets.last_id h.sockets.entries (omega arith) a.kept_there.ordered.ids in
    let there : entry_of next own ≡ Some (connected own f (Some listener.id)) = find-added (has_id own) h.sockets.entries (new_waiting own listener.id f) none (eqb-same own.0) in
    let answers = listener_answers (room_for h.sockets s) (local_end h.sockets s) (peer_end source s) isn.0 s (later_moment h.sockets a.moment) a.small in (
      f,
      ap (λ (k : HostView). entry_of k.sockets own) new ∙ there,
      record { state = refl; syn = refl; expects = ap (λ (n : ℕ). wire n 1) m.number },
      record { local = m.local; peer = m.peer },
      answers.due,
    )

pub unheard_refused : EveryUnheardConnectIsRefused
unheard_refused limit side id ours c w0 w1 w2 w3 isn t has asks unknown nobody =
    let s = segment_of c Syn in
    let a = travelled limit side s w0 w1 w2 w3 reply.Taken isn t in
    let h : HostView = host_of w2.network (other_side side) in
    let source = addr_at w0.network side in
    let m = syn_comes side w0 w2 w3 isn id ours c a has asks unknown in
    let stray = stray_answered h.sockets a.moment isn.0 source s m.none nobody refl m.no_ack in
    let head = stray.0 in
    let met = subst (λ (x : Arrival). MeetsSegment (arrival_by_route (is_routed h.interface source) x) h a.moment source a.told (host_of w3.network (other_side side))) stray.1 a.met in
    let told : a.told ≡ queue_answer (answer_result h.interface source) = met.0 in
    let room : is_full h.interface ≡ false = by_test (is_full h.interface) (λ full. refuses h.interface source m.routed full (sym (ok-told a.told a.answered) ∙ told)) (λ no. no) in
    let queued : after_answer h.interface a.moment source head ≡ record h.interface { replies = h.interface.replies ++ record { since = a.moment; reply = Reset source head } ∷ [] } =
    ap (λ (b : Bool). owed b a.moment (Reset source head) h.interface) m.routed ∙ ap (λ (b : Bool). if not b then record h.interface { replies = h.interface.replies ++ record { since = a.moment; reply = Reset source head } ∷ [] } else h.interface) room in
    let new : host_of w3.network (other_side side) ≡ with_interface h (record h.interface { replies = h.interface.replies ++ record { since = a.moment; reply = Reset source head } ∷ [] }) = met.1 ∙ ap (with_interface h) queued in (
      head,
      subst (λ (n : ℕ). IsResetOf s 0 n true head) (ap (λ (n : ℕ). wire n 1) m.number) stray.2,
      ap (λ (k : HostView). k.sockets) new,
      record {
        since = a.moment;
        last = ap (λ (k : HostView). k.interface.replies) new ∙ ap (λ (x : Addr). h.interface.replies ++ record { since = a.moment; reply = Reset x head } ∷ []) m.addr;
      },
    )
  where
    refuses : {P : Type 0} (i : InterfaceView) (source : Addr) → is_routed i source ≡ true → is_full i ≡ true → ◌≡◌ {A = Result (Unit {0}) DropCause} (Ok tt) (queue_answer (answer_result i source)) → P
    refuses i source routed full is =
        let no : ◌≡◌ {A = Result (Unit {0}) DropCause} (Ok tt) (queue_answer (Err queue.NoRoom)) = is ∙ ap (λ (b : Bool). queue_answer (if b && is_full i then Err queue.NoRoom else Ok tt)) routed ∙ ap (λ (b : Bool). queue_answer (if b then Err queue.NoRoom else Ok tt)) full in
        cc
