-- What befalls a connection by a frame that comes, by what goes out and by a tick.
use Rattle.std.proofs.Common.{◌≡◌, ℕ, ◌≤◌, ◌<◌, ◌^◌, ◌&&◌, not, Bool, true, false, if◌then◌else◌, List, Option, Some, None, Result, Ok, Err, refl, sym, ◌∙◌, ap, subst, arith}
use Rattle.clock.specs.declared.moment.Moment.{Moment}
use Rattle.ipv4.specs.declared.addr.Addr.{Addr}
use Rattle.ipv4.specs.declared.addr.Endpoint.{Endpoint}
use Rattle.ipv4.specs.Addresses.{same_end}
use Rattle.ipv4.specs.Datagram.{Datagram}
use Rattle.ether.specs.declared.mac.Mac.{Mac}
use Rattle.udp.specs.declared.fault.UdpFault.{UdpFault}
use Rattle.udp.specs.Datagram.{UserDatagram}
use Rattle.udp.specs.Reading.{datagram_or_fault}
use Rattle.tcp_segment.specs.Segment.{Segment}
use Rattle.frames.specs.declared.drop.DropCause.{DropCause}
use Rattle.frames.specs.declared.meaning.Control.{Control}
use Rattle.frames.specs.declared.meaning.Meaning.{Meaning}
use Rattle.frames.specs.declared.meaning.Meaning.TheVariants.{Arp, Tcp, Icmp, Udp, Other, UdpFragment}
use Rattle.frames.specs.declared.meaning.ReceivedSegment.{ReceivedSegment}
use Rattle.frames.specs.Meaning.{heard}
use Rattle.interface.specs.Ways.{is_routed}
use Rattle.reassembly.specs.Reassembly.{Outcome}
use Rattle.reassembly.specs.Reassembly.Outcome.{Waits, Completes, GivesUp}
use Rattle.reassembly.specs.Places.{after_take}
use Rattle.tcp_state.specs.Edges as edge
use Rattle.tcp_state.specs.declared.emission.Due.{Due}
use Rattle.tcp_state.specs.Due.{first_due}
use Rattle.tcp_state.specs.View.{View, is_closed}
use Rattle.tcp_state.proofs.Edges.{and_left, and_right}
use Rattle.sockets.specs.declared.datagrams.Reception.{Reception}
use Rattle.sockets.specs.declared.datagrams.Reception.TheVariants as socket
use Rattle.sockets.specs.declared.entry.SocketId.{SocketId}
use Rattle.sockets.specs.Arrival.{Arrival, Becomes, Opens, NoRoom as NoRoomInTable, Answers, arrival, local_end, peer_end}
use Rattle.sockets.specs.Causes.{after_arrival, after_event, is_next_out}
use Rattle.sockets.specs.Causes as table
use Rattle.sockets.specs.Closing.{entry_of}
use Rattle.sockets.specs.Datagrams.{reception}
use Rattle.sockets.specs.Entries.{is_between, is_kept}
use Rattle.sockets.specs.Lost.{loses_hop}
use Rattle.sockets.specs.Order.{IsOrdered}
use Rattle.sockets.specs.Steps.{connected, event_of, view_left, is_let_go}
use Rattle.sockets.specs.SocketsView.{SocketsView, later_moment}
use Rattle.sockets.proofs.Ends.{same_end-true}
use Rattle.sockets.proofs.Followed.{by_test}
use Rattle.sockets.proofs.Numbered.{never_back}
use Rattle.sockets.proofs.OfferCounts.{by_option}
use Rattle.sockets.proofs.Ordered.{stays_ordered}
use Rattle.host.specs.Arrival.{arrival_by_route, segment_arrival, MeetsSegment, MeetsMessage, MeetsFragment, MeetsHeard, after_user_datagram, after_payload, after_outcome, fragment_outcome, is_late_copy, pool_for, with_noted}
use Rattle.host.specs.ConfigView.{ConfigView}
use Rattle.host.specs.Emission.{Emission, Replies, Sends, Asks, Nothing, goes_out_from, left_by}
use Rattle.host.specs.Heard.{heard_by}
use Rattle.host.specs.HostView.{HostView, with_pool, with_sockets}
use Rattle.host.specs.Messages.{Told, Asks as AsksForEcho, Refuses, Nothing as TellsNothing, told_by}
use Rattle.host.specs.Runs.{Event, Delivers, Emits, Ticks}
use Rattle.host.proofs.Guarded.{meant_by}
use Rattle.host_law.specs.Coming.{IsHeard}
use Rattle.host_law.specs.History.{Step, connection_of}
use Rattle.host_law.proofs.Befalls.{IsGone, IsOut, IsUntold, Quietly, stays, moves, Befalls, absent, quietly, hears, emits, leaves}
use Rattle.host_law.proofs.LedBy.{IsFrameOf, gone, used, by_same, by_event, quiet_if, quiet_from, quiet_left, one_left, let_or, cast}
use Rattle.host_law.proofs.TableUnder.{found_given}
use Rattle.host_law.proofs.TableViews.{IsUsed, view_of, view_out, used_on, view_left_of, seen_entry, Comes, nothing, connects, accepts, comes}

-- A frame.

same_parts : (m n : Moment) (i j : ℕ) (a b : Addr) (s t : Segment) → table.Hears m i a s ≡ table.Hears n j b t → (a ≡ b) × (s ≡ t)
same_parts m n i j a b s t same = let from : a ≡ b = cc in let segment : s ≡ t = cc in (from, segment)

module _ (c : ConfigView) (id : SocketId) (old new : HostView) (now : Moment) (isn : ℕ) (octets : List ℕ) (o : IsOrdered old.sockets) (small : isn < 2 ^ 32) (mac : old.interface.mac ≡ c.mac) (addr : old.interface.addr ≡ c.addr) (own : (let t = old.sockets in t.addr) ≡ c.addr) where
  abbrev h : SocketsView
  h = old.sockets

  abbrev event : Event
  event = Delivers now isn octets

  abbrev step : Step
  step = record { before = old; event = event; after = new }

  abbrev Led : Type 0
  Led = Befalls c id step (connection_of id old) (connection_of id new)

  untold : IsUntold id step
  untold = record { sent = refl; read = refl; ended = refl }

  stayed : new.sockets ≡ h → Led
  stayed same = by_same c id old new event same untold

  -- a segment between the ends of a connection is heard by it
  segment_heard : (moment : Moment) (r : ReceivedSegment) → heard c.mac c.addr octets ≡ Ok (Tcp r) → new.sockets ≡ after_event h (table.Hears moment isn r.source r.segment) → Led
  segment_heard moment r means is =
      by_event c id old new event (table.Hears moment isn r.source r.segment) o is came small (λ none. untold)
      (λ v l there goes. by_test (is_between (local_end h r.segment) (peer_end r.source r.segment) (connected id v l))
      (λ between.
      let at : Moment = later_moment h moment in
      let out : view_out h (table.Hears moment isn r.source r.segment) id v l ≡ view_left v (Some (edge.Hears r.segment at)) = ap (λ (b : Bool). view_left v (if b then Some (edge.Hears r.segment at) else None)) between in
      let ends : (same_end v.local (local_end h r.segment) && same_end v.peer (peer_end r.source r.segment)) ≡ true = and_right (not (is_closed v.state)) _ between in
      let local : v.local ≡ local_end h r.segment = same_end-true v.local (local_end h r.segment) (and_left _ _ ends) in
      let peer : v.peer ≡ peer_end r.source r.segment = same_end-true v.peer (peer_end r.source r.segment) (and_right _ _ ends) in
      let its : IsHeard c id v r.segment step = record {
        source = r.source;
        frame = record { now = now; isn = isn; octets = octets; delivered = refl; means = means };
        connection = sees v l there;
        local = local ∙ ap (λ (a : Addr). let e : Endpoint = record { addr = a; port = (let s = r.segment in s.destination) } in e) own;
        peer = peer;
      } in
      subst (λ (w : Option View). Befalls c id step (Some v) w) (sym out) (one_left c id old new event v (edge.Hears r.segment at) untold (λ none. goes (out ∙ none)) (hears v r.segment at untold its)))
      (λ other.
      let out : view_out h (table.Hears moment isn r.source r.segment) id v l ≡ Some v = ap (λ (b : Bool). view_left v (if b then Some (edge.Hears r.segment (later_moment h moment)) else None)) other in
      subst (λ (w : Option View). Befalls c id step (Some v) w) (sym out) (quietly v v untold (stays v))))
    where
      came : (then_at : Moment) (number : ℕ) (source : Addr) (s : Segment) → table.Hears moment isn r.source r.segment ≡ table.Hears then_at number source s → IsFrameOf c id old new event source s
      came then_at number source s same =
          let parts = same_parts moment then_at isn number r.source source r.segment s same in
          let this : ◌≡◌ {A = ReceivedSegment} r (record { source = source; segment = s }) = ap (λ (a : Addr). record { source = a; segment = r.segment }) parts.0 ∙ ap (λ (x : Segment). record { source = source; segment = x }) parts.1 in
          record { frame = record { now = now; isn = isn; octets = octets; delivered = refl; means = means ∙ ap (λ (x : ReceivedSegment). Ok (Tcp x)) this }; own = own }

      sees : (v : View) (l : Option SocketId) → entry_of h id ≡ Some (connected id v l) → connection_of id old ≡ Some v
      sees v l there = rw there refl

  segment_led : (moment : Moment) (r : ReceivedSegment) (answer : Result (Unit {0}) DropCause) → heard c.mac c.addr octets ≡ Ok (Tcp r) → MeetsSegment (segment_arrival old moment isn r.source r.segment) old moment r.source answer new → Led
  segment_led moment r answer means met = by_arrival (arrival h moment isn r.source r.segment) refl met
    where
      came : (next : SocketsView) → after_arrival h (arrival h moment isn r.source r.segment) ≡ next → new ≡ with_sockets old next → Led
      came next is same = segment_heard moment r means (ap (λ (w : HostView). w.sockets) same ∙ sym is)

      opened : (next : SocketsView) → arrival h moment isn r.source r.segment ≡ Opens next → (a : Result (Unit {0}) DropCause) → MeetsSegment (Opens next) old moment r.source a new → Led
      opened next is (Ok done) met = came next (ap (after_arrival h) is) met
      opened next is (Err cause) met = stayed (ap (λ (w : HostView). w.sockets) met.1)

      by_route : (next : SocketsView) → arrival h moment isn r.source r.segment ≡ Opens next → (routed : Bool) → MeetsSegment (arrival_by_route routed (Opens next)) old moment r.source answer new → Led
      by_route next is true met = opened next is answer met
      by_route next is false met = stayed (ap (λ (w : HostView). w.sockets) met.1)

      by_arrival : (a : Arrival) → arrival h moment isn r.source r.segment ≡ a → MeetsSegment (arrival_by_route (is_routed old.interface r.source) a) old moment r.source answer new → Led
      by_arrival (Becomes next) is met = came next (ap (after_arrival h) is) met.1
      by_arrival (Opens next) is met = by_route next is (is_routed old.interface r.source) met
      by_arrival NoRoomInTable is met = stayed (ap (λ (w : HostView). w.sockets) met.1)
      by_arrival (Answers head) is met = stayed (ap (λ (w : HostView). w.sockets) met.1)

  -- a datagram changes no connection
  datagram_led : (source : Addr) (d : UserDatagram) → new.sockets ≡ after_event h (table.HearsDatagram source d) → Led
  datagram_led source d is = by_event c id old new event (table.HearsDatagram source d) o is (λ moment number source s same. cc) tt (λ none. untold) (λ v l there goes. quietly v v untold (stays v))

  user_led : (k : HostView) (to : Reception) (moment : Moment) (source : Addr) (d : UserDatagram) (quote : List ℕ) → k.sockets ≡ h → new ≡ after_user_datagram to k moment source d quote → Led
  user_led k socket.Queued moment source d quote same is = datagram_led source d (ap (λ (w : HostView). w.sockets) is ∙ ap (λ (t : SocketsView). after_event t (table.HearsDatagram source d)) same)
  user_led k socket.NoRoom moment source d quote same is = stayed (ap (λ (w : HostView). w.sockets) is ∙ same)
  user_led k socket.NoSocket moment source d quote same is = stayed (ap (λ (w : HostView). w.sockets) is ∙ same)

  payload_led : (k : HostView) (read : Result UserDatagram UdpFault) (moment : Moment) (source : Addr) (quote : List ℕ) → k.sockets ≡ h → new ≡ after_payload read k moment source quote → Led
  payload_led k (Ok d) moment source quote same is = user_led k (reception k.sockets d) moment source d _ same is
  payload_led k (Err fault) moment source quote same is = stayed (ap (λ (w : HostView). w.sockets) is ∙ same)

  outcome_led : (k : HostView) (outcome : Outcome) (moment : Moment) (d : Datagram) → k.sockets ≡ h → new ≡ after_outcome outcome k moment d → Led
  outcome_led k (Waits r) moment d same is = stayed (ap (λ (w : HostView). w.sockets) is ∙ same)
  outcome_led k GivesUp moment d same is = stayed (ap (λ (w : HostView). w.sockets) is ∙ same)
  outcome_led k (Completes payload quote) moment d same is = payload_led (with_noted k moment d) (datagram_or_fault d.source d.destination payload) moment d.source quote same is

  fragment_led : (outcome : Option Outcome) (late : Bool) (moment : Moment) (d : Datagram) (answer : Result (Unit {0}) DropCause) → MeetsFragment outcome late old moment d answer new → Led
  fragment_led None late moment d answer met = stayed (ap (λ (w : HostView). w.sockets) met.1)
  fragment_led (Some outcome) true moment d answer met = stayed (ap (λ (w : HostView). w.sockets) met.1)
  fragment_led (Some outcome) false moment d answer met = outcome_led (with_pool old (after_take moment d (pool_for h.manner.guards d old.pool))) outcome moment d refl met.1

  -- an error about a segment may reset its connection
  message_led : (told : Told) (moment : Moment) (m : Control) (answer : Result (Unit {0}) DropCause) → MeetsMessage told old moment m answer new → Led
  message_led AsksForEcho moment m answer met = stayed (ap (λ (w : HostView). w.sockets) met.1)
  message_led (Refuses quote) moment m answer met =
      let e : table.Event = table.Unreachable quote.source quote.destination quote.number in
      by_event c id old new event e o (ap (λ (w : HostView). w.sockets) met.1) (λ moment number source s same. cc) tt (λ none. untold)
      (λ v l there goes. quiet_left c id old new event v untold _ (quiet_if (is_between quote.source quote.destination (connected id v l)) (edge.Unreachable quote.number) tt) goes)
  message_led TellsNothing moment m answer met = stayed (ap (λ (w : HostView). w.sockets) met.1)

  pub frame_led : (moment : Moment) (answer : Result (Unit {0}) DropCause) (m : Result Meaning DropCause) → heard_by old octets ≡ m → MeetsHeard m old moment isn answer new → Led
  frame_led moment answer (Ok (Arp packet)) is met = stayed (ap (λ (w : HostView). w.sockets) met.1)
  frame_led moment answer (Ok (Tcp r)) is met =
      segment_led moment r answer (subst (λ (a : Addr). heard c.mac a octets ≡ Ok (Tcp r)) addr (subst (λ (m : Mac). heard m old.interface.addr octets ≡ Ok (Tcp r)) mac (meant_by old octets (Tcp r) is))) met
  frame_led moment answer (Ok (Icmp m)) is met = message_led (told_by m.message) moment m answer met
  frame_led moment answer (Ok (Udp r)) is met = user_led old (reception h r.datagram) moment r.carrier.source r.datagram _ refl met.1
  frame_led moment answer (Ok (UdpFragment d)) is met = fragment_led (fragment_outcome moment d (pool_for h.manner.guards d old.pool)) (is_late_copy old moment d) moment d answer met
  frame_led moment answer (Ok (Other d)) is met = stayed (ap (λ (w : HostView). w.sockets) met.1)
  frame_led moment answer (Err cause) is met = stayed (ap (λ (w : HostView). w.sockets) met.1)

-- What goes out.

module _ (c : ConfigView) (id : SocketId) (old new : HostView) (now : Moment) (o : IsOrdered old.sockets) where
  abbrev out_step : Step
  out_step = record { before = old; event = Emits now; after = new }

  -- of the connection that is next what is due goes out
  abbrev pub GoesFrom : Moment → Emission → Type 0
  GoesFrom moment x =
      (mac : Mac) (to : Addr) → x ≡ Sends mac to → (v : View) (l : Option SocketId) → entry_of old.sockets id ≡ Some (connected id v l) → is_next_out old.sockets (goes_out_from old moment) (connected id v l) ≡ true → (due : Due) → first_due v ≡ Some due
      → IsOut c v due out_step

  pub emission_led : (moment : Moment) (x : Emission) → GoesFrom moment x → new ≡ left_by old moment x → Befalls c id out_step (connection_of id old) (connection_of id new)
  emission_led moment (Replies place) out is = by_same c id old new (Emits now) (ap (λ (w : HostView). w.sockets) is) (record { sent = refl; read = refl; ended = refl })
  emission_led moment (Sends mac to) out is =
      let untold : IsUntold id out_step = record { sent = refl; read = refl; ended = refl } in
      let goes : Addr → Bool = goes_out_from old moment in
      by_event c id old new (Emits now) (table.Emits goes moment) o (ap (λ (w : HostView). w.sockets) is) (λ moment number source s same. cc) tt (λ none. untold)
      (λ v l there leaves_it. by_test (is_next_out old.sockets goes (connected id v l))
      (λ next.
      let at : Moment = later_moment old.sockets moment in
      let left : view_out old.sockets (table.Emits goes moment) id v l ≡ view_left v (Some (edge.Emits at)) = ap (λ (b : Bool). view_left v (if b then Some (edge.Emits at) else None)) next in
      subst (λ (w : Option View). Befalls c id out_step (Some v) w) (sym left) (one_left c id old new (Emits now) v (edge.Emits at) untold (λ none. leaves_it (left ∙ none)) (emits v at untold (out mac to refl v l there next))))
      (λ other.
      let left : view_out old.sockets (table.Emits goes moment) id v l ≡ Some v = ap (λ (b : Bool). view_left v (if b then Some (edge.Emits (later_moment old.sockets moment)) else None)) other in
      subst (λ (w : Option View). Befalls c id out_step (Some v) w) (sym left) (quietly v v untold (stays v))))
  emission_led moment (Asks hop) out is = by_same c id old new (Emits now) (ap (λ (w : HostView). w.sockets) is) (record { sent = refl; read = refl; ended = refl })
  emission_led moment Nothing out is = by_same c id old new (Emits now) (ap (λ (w : HostView). w.sockets) is) (record { sent = refl; read = refl; ended = refl })

-- A tick: the timers act, and then what has waited for its hop for too long is given up.

-- neither opens any
opens_none : (h : SocketsView) (e : table.Event) (id : SocketId) → ((now : Moment) (isn : ℕ) (named : SocketId) (peer : Endpoint) (routed : Bool) → e ≡ table.Connects now isn named peer routed → ⊥)
    → ((now : Moment) (isn : ℕ) (source : Addr) (s : Segment) → e ≡ table.Hears now isn source s → ⊥) → Comes h e id → view_of id (after_event h e) ≡ None
opens_none h e id connected_none heard_none (nothing now) = now
opens_none h e id connected_none heard_none (connects now isn named peer routed same room local opened fresh) = absurd (connected_none now isn named peer routed same)
opens_none h e id connected_none heard_none (accepts now isn source s same opens room opened fresh) = absurd (heard_none now isn source s same)

module _ (c : ConfigView) (id : SocketId) (old new : HostView) (now moment : Moment) (lost : Addr → Bool) (o : IsOrdered old.sockets) (is : new.sockets ≡ after_event (after_event old.sockets (table.Ticks moment)) (table.GivesUp lost moment)) where
  abbrev tick_step : Step
  tick_step = record { before = old; event = Ticks now; after = new }

  abbrev ticked : SocketsView
  ticked = after_event old.sockets (table.Ticks moment)

  still : IsOrdered ticked
  still = stays_ordered old.sockets (table.Ticks moment) tt o

  quiet : IsUntold id tick_step
  quiet = record { sent = refl; read = refl; ended = refl }

  none_on : view_of id ticked ≡ None → connection_of id new ≡ None
  none_on none = ap (λ (t : SocketsView). view_of id t) is ∙ opens_none ticked (table.GivesUp lost moment) id (λ m i n p r same. cc) (λ m i a s same. cc) (comes ticked (table.GivesUp lost moment) still id none)

  gone_on : IsUsed id ticked → IsGone id new
  gone_on was = gone id new (subst (IsUsed id) (sym is) (used_on ticked (table.GivesUp lost moment) still id was))

  given : (v : View) (l : Option SocketId) → entry_of old.sockets id ≡ Some (connected id v l) → id.0 ≤ (let t = ticked in t.last_id)
  given v l there =
      let first : id.0 ≤ (let t = old.sockets in t.last_id) = found_given id 0 (let t = old.sockets in t.last_id) (let t = old.sockets in t.entries) (connected id v l) o.ids there in
      let back : (let t = old.sockets in t.last_id) ≤ (let t = ticked in t.last_id) = never_back old.sockets (table.Ticks moment) in
      omega (arith, first, back)

  tick_some : (v : View) (l : Option SocketId) → entry_of old.sockets id ≡ Some (connected id v l) → connection_of id old ≡ Some v → Befalls c id tick_step (connection_of id old) (connection_of id new)
  tick_some v l there sees =
      let left = view_left_of old.sockets (table.Ticks moment) o id v l there in
      let e : edge.Event = edge.Ticks (later_moment old.sockets moment) in
      by_option (view_of id ticked)
      (λ none.
      let taken : entry_of ticked id ≡ None = left.1 (sym left.0 ∙ none) in
      cast c id old new (Ticks now) (Some v) None sees (none_on none) (leaves v quiet (gone_on (given v l there, taken))))
      (λ w goes_on.
      let kept : view_left v (Some e) ≡ Some w = sym left.0 ∙ goes_on in
      let moved : edge.after_event v e ≡ w = by_kept v w e kept in
      let here = seen_entry ticked id w goes_on in
      let next = view_left_of ticked (table.GivesUp lost moment) still id w here.0 here.1 in
      let goes : view_out ticked (table.GivesUp lost moment) id w here.0 ≡ None → IsGone id new = λ out. gone_on_out v l there (next.1 out) in
      cast c id old new (Ticks now) (Some v) (view_out ticked (table.GivesUp lost moment) id w here.0) sees (ap (λ (t : SocketsView). view_of id t) is ∙ next.0)
      (let_or c id old new (Ticks now) (is_let_go ticked (table.GivesUp lost moment) (connected id w here.0)) v (view_left w (event_of ticked (table.GivesUp lost moment) (connected id w here.0))) quiet goes
      (λ rest. quiet_from c id old new (Ticks now) v w quiet (λ x so. moves v x e tt (subst (λ (u : View). Quietly u x) (sym moved) so)) _ (quiet_if (loses_hop lost (let y = connected id w here.0 in y.role)) (edge.LosesHop (later_moment ticked moment)) tt) rest)))
    where
      by_kept : (v w : View) (e : edge.Event) → view_left v (Some e) ≡ Some w → edge.after_event v e ≡ w
      by_kept v w e is = by_test (is_kept (edge.fate_by v e)) (λ kept. let one : ◌≡◌ {A = Option View} (Some (edge.after_event v e)) (Some w) = rw kept at is in cc) (λ out. let bad : ◌≡◌ {A = Option View} None (Some w) = rw out at is in cc)

      gone_on_out : (v : View) (l : Option SocketId) → entry_of old.sockets id ≡ Some (connected id v l) → entry_of (after_event ticked (table.GivesUp lost moment)) id ≡ None → IsGone id new
      gone_on_out v l there out =
          let before : id.0 ≤ (let t = ticked in t.last_id) = given v l there in
          let back : (let t = ticked in t.last_id) ≤ (let t = after_event ticked (table.GivesUp lost moment) in t.last_id) = never_back ticked (table.GivesUp lost moment) in
          gone id new (subst (IsUsed id) (sym is) (omega (arith, before, back), out))

  pub tick_led : Befalls c id tick_step (connection_of id old) (connection_of id new)
  tick_led =
      by_option (connection_of id old)
      (λ none. cast c id old new (Ticks now) None None none (none_on (opens_none old.sockets (table.Ticks moment) id (λ m i n p r same. cc) (λ m i a s same. cc) (comes old.sockets (table.Ticks moment) o id none)))
      (absent quiet (λ was. gone_on (used_on old.sockets (table.Ticks moment) o id (used id old was)))))
      (λ v sees. let there = seen_entry old.sockets id v sees in tick_some v there.0 there.1 sees)
