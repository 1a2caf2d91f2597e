-- What a frame that comes to a side's host makes of a connection there: it hears the segment that is for it, or nothing happens to it.
use Rattle.std.proofs.Common.{◌≡◌, ◌⊎◌, inl, inr, ℕ, ◌&&◌, ◌||◌, not, Bool, true, false, if◌then◌else◌, List, length, Option, Some, None, option_map, Result, Ok, Err, refl, sym, ◌∙◌, ap, subst}
use Rattle.std.specs.List.{find, slice_get}
use Rattle.std.proofs.lemmas.Bool.{and_parts, and_from}
use Rattle.ether.specs.declared.mac.Mac.{Mac}
use Rattle.ipv4.specs.declared.addr.Addr.{Addr}
use Rattle.ipv4.specs.declared.addr.Endpoint.{Endpoint}
use Rattle.ipv4.specs.declared.addr.Pair.{Pair}
use Rattle.ipv4.specs.Addresses.{pair_of, same_addr, same_end}
use Rattle.ipv4.specs.Datagram.{Datagram}
use Rattle.ipv4.proofs.Pairs.{pair_of-swapped}
use Rattle.clock.specs.declared.moment.Moment.{Moment}
use Rattle.tcp_segment.specs.declared.seq.Seq.{Seq}
use Rattle.tcp_segment.specs.Segment.{Segment}
use Rattle.tcp_state.specs.Arrival.{after_segment_at, fate}
use Rattle.tcp_state.specs.Edges as edge
use Rattle.tcp_state.specs.Unreachable.{after_unreachable, unreachable_fate}
use Rattle.tcp_state.specs.View.{View, is_opening, is_closed}
use Rattle.tcp_state.proofs.Losses.{past_opening}
use Rattle.udp.specs.declared.fault.UdpFault.{UdpFault}
use Rattle.udp.specs.Datagram.{UserDatagram}
use Rattle.udp.specs.Reading.{datagram_or_fault}
use Rattle.frames.specs.declared.drop.DropCause.{DropCause}
use Rattle.frames.specs.declared.drop.DropCause.TheVariants.{OtherAddress, OtherMac}
use Rattle.frames.specs.declared.meaning.Control.{Control}
use Rattle.frames.specs.declared.meaning.Meaning.{Meaning}
use Rattle.frames.specs.declared.meaning.Meaning.TheVariants.{Arp, Tcp, Icmp, Udp, UdpFragment, Other}
use Rattle.frames.specs.declared.meaning.ReceivedSegment.{ReceivedSegment}
use Rattle.frames.specs.Meaning.{heard, may_send, same_mac, broadcast}
use Rattle.frames.specs.Pairs.{pair_in, pair_between}
use Rattle.frames.proofs.PairLemmas.{heard_pairs}
use Rattle.interface.specs.Ways.{is_routed}
use Rattle.reassembly.specs.Places.{after_take}
use Rattle.reassembly.specs.Reassembly.{Outcome}
use Rattle.reassembly.specs.Reassembly.Outcome.{Waits, Completes, GivesUp}
use Rattle.sockets.specs.declared.datagrams.Reception.{Reception}
use Rattle.sockets.specs.declared.datagrams.Reception.TheVariants as socket
use Rattle.sockets.specs.declared.entry.Entry.{Entry}
use Rattle.sockets.specs.declared.entry.SocketId.{SocketId}
use Rattle.sockets.specs.Arrival.{Arrival, Becomes, Opens, NoRoom, Answers, local_end, peer_end, arrival}
use Rattle.sockets.specs.Causes.{Hears, HearsDatagram, Unreachable, after_arrival, after_event}
use Rattle.sockets.specs.Closing.{entry_of}
use Rattle.sockets.specs.Datagrams.{reception}
use Rattle.sockets.specs.Entries.{is_between, is_kept}
use Rattle.sockets.specs.Ids.{has_id}
use Rattle.sockets.specs.Order.{IsOrdered}
use Rattle.sockets.specs.SocketsView.{SocketsView, later_moment}
use Rattle.sockets.specs.Steps.{connected, view_left}
use Rattle.sockets.proofs.Ends.{same_end-same, same_end-true}
use Rattle.sockets.proofs.Followed.{by_test}
use Rattle.host.specs.Arrival.{IsDelivered, MeetsHeard, MeetsSegment, MeetsMessage, MeetsFragment, arrival_by_route, segment_arrival, after_user_datagram, after_payload, after_outcome, fragment_outcome, is_late_copy, pool_for, with_noted}
use Rattle.host.specs.Carried.{Carried}
use Rattle.host.specs.Heard.{heard_by}
use Rattle.host.specs.HostView.{HostView, with_pool, with_sockets}
use Rattle.host.specs.Messages.{Told, Asks, Refuses, Nothing, told_by}
use Rattle.host.specs.Sound.{IsSoundHost}
use Rattle.host.proofs.Guarded.{meant_by}
use Rattle.sides.specs.declared.side.Side.{Side}
use Rattle.wire_sim.specs.declared.event.Answer.{Answer}
use Rattle.wire_sim.specs.declared.event.Event.TheVariants as event
use Rattle.wire_sim.specs.declared.world.bag.Frame.{Frame}
use Rattle.wire_sim.specs.Duties.{Has}
use Rattle.wire_sim.specs.HostRuns.{IsKept}
use Rattle.wire_sim.specs.Runs.{IsReached, IsStep}
use Rattle.wire_sim.specs.Sent.{heard_as, segment_from}
use Rattle.wire_sim.specs.WorldView.{WorldView, host_of, clock_of}
use Rattle.wire_sim.proofs.HostsRun.{sound-at, tables-kept}
use Rattle.wire_sim.proofs.two_ends.Meets.{at_addr, lies_under}
use Rattle.wire_sim.proofs.two_ends.Travels.{frame-comes, delivered}
use Rattle.wire_sim.proofs.two_ends.UnderIds.{connection_then, segment_left, segment_apart}
use Rattle.settling_law.proofs.Frames.{Says, IsForeign, same_entry}

-- What a segment makes of a table: nothing, or what its arrival there does.
abbrev HearsIt : SocketsView → Moment → ℕ → Addr → Segment → SocketsView → Type 0
HearsIt h moment isn source s next = (next ≡ h) ⊎ (next ≡ after_event h (Hears moment isn source s))

segment_met : (h : HostView) (moment : Moment) (isn : ℕ) (source : Addr) (s : Segment) (r : Result (Unit {0}) DropCause) (new : HostView) → MeetsSegment (segment_arrival h moment isn source s) h moment source r new
    → HearsIt h.sockets moment isn source s new.sockets
segment_met h moment isn source s r new = by_arrival (arrival h.sockets moment isn source s) refl
  where
    tables : (k : HostView) → new ≡ k → new.sockets ≡ k.sockets
    tables k is = ap (λ (x : HostView). x.sockets) is

    stays : (k : HostView) → k.sockets ≡ h.sockets → new ≡ k → HearsIt h.sockets moment isn source s new.sockets
    stays k same is = inl (tables k is ∙ same)

    becomes : (next : SocketsView) → after_arrival h.sockets (arrival h.sockets moment isn source s) ≡ next → new ≡ with_sockets h next → HearsIt h.sockets moment isn source s new.sockets
    becomes next at is = inr (tables (with_sockets h next) is ∙ sym at)

    opened : (next : SocketsView) → after_arrival h.sockets (arrival h.sockets moment isn source s) ≡ next → (x : Result (Unit {0}) DropCause) → MeetsSegment (Opens next) h moment source x new → HearsIt h.sockets moment isn source s new.sockets
    opened next at (Ok done) met = becomes next at met
    opened next at (Err cause) met = stays h refl met.1

    by_route : (next : SocketsView) → after_arrival h.sockets (arrival h.sockets moment isn source s) ≡ next → (b : Bool) → MeetsSegment (arrival_by_route b (Opens next)) h moment source r new → HearsIt h.sockets moment isn source s new.sockets
    by_route next at true met = opened next at r met
    by_route next at false met = stays h refl met.1

    by_arrival : (a : Arrival) → arrival h.sockets moment isn source s ≡ a → MeetsSegment (arrival_by_route (is_routed h.interface source) a) h moment source r new → HearsIt h.sockets moment isn source s new.sockets
    by_arrival (Becomes next) at met = becomes next (ap (after_arrival h.sockets) at) met.1
    by_arrival (Opens next) at met = by_route next (ap (after_arrival h.sockets) at) (is_routed h.interface source) met
    by_arrival NoRoom at met = stays h refl met.1
    by_arrival (Answers head) at met = inl (ap (λ (x : HostView). x.sockets) met.1)

-- who hears a segment's frame hears just that segment
heard_just : (from : Addr) (c : Carried) (mac : Mac) (ours : Addr) (m : Meaning) → heard_as (segment_from from c) mac ours ≡ Ok m → m ≡ Tcp (record { source = from; segment = c.segment })
heard_just from c mac ours m = to_mac (same_mac c.mac mac || (same_mac c.mac broadcast && false)) (same_addr c.to ours && may_send ours from)
  where
    says : Meaning
    says = Tcp (record { source = from; segment = c.segment })

    to_mac : (a b : Bool) → (if a then (if b then Ok says else Err OtherAddress) else Err OtherMac) ≡ Ok m → m ≡ says
    to_mac true true is = cc
    to_mac true false is = cc
    to_mac false b is = cc

module _ (limit : ℕ) (w u : WorldView) (side : Side) (index : ℕ) (isn : Seq) (answer : Answer) (id : SocketId) (l k : Option SocketId) (v next : View) (reached : IsReached limit w) (step : IsStep (event.Deliver side index isn) answer w u)
    (has : Has w side id l v) (has_then : Has u side id k next) (lives : is_closed v.state ≡ false) (f : Frame) (there : slice_get w.network.frames index ≡ Some f) where
  abbrev h : HostView
  h = host_of w.network side

  abbrev new : HostView
  new = host_of u.network side

  abbrev now : Moment
  now = clock_of w.network side

  abbrev moment : Moment
  moment = later_moment h.sockets now

  sound : IsSoundHost h
  sound = sound-at w u step side

  kept : IsKept now h.sockets
  kept = tables-kept limit w reached side

  ordered : IsOrdered h.sockets
  ordered = kept.ordered

  met : (r : Result (Unit {0}) DropCause) × IsDelivered h now isn.0 f.octets.items r new
  met =
      let d = delivered h now isn.0 f.octets.items answer new (frame-comes w.network u.network side isn.0 (length w.trace) answer f (slice_get w.network.frames index) there step.network) in
      (d.0, d.2)

  -- the connection stays where what stands under its id does
  same_view : (x : View) (o : Option Entry) → entry_of new.sockets id ≡ o → o ≡ Some (connected id x l) → next ≡ x
  same_view x o at is = same_entry id k l next x (sym has_then ∙ (at ∙ is))

  stays : (t : SocketsView) → new.sockets ≡ t → entry_of t id ≡ Some (connected id v l) → next ≡ v
  stays t same at = same_view v (entry_of t id) (ap (λ (x : SocketsView). entry_of x id) same) at

  untouched : new.sockets ≡ h.sockets → next ≡ v
  untouched same = stays h.sockets same has

  -- What is for the connection.

  module _ (local peer : Endpoint) (s : Segment) (says : Says w index local peer s) (own : v.local ≡ peer) (other : v.peer ≡ local) where
    same_frame : says.f ≡ f
    same_frame = let one : Some says.f ≡ Some f = sym says.there ∙ there in cc

    between : is_between (local_end h.sockets says.c.segment) (peer_end local.addr says.c.segment) (connected id v l) ≡ true
    between =
        let here : v.local ≡ local_end h.sockets says.c.segment =
        at_addr v.local (let t = h.sockets in t.addr) (lies_under h.sockets id v l ordered has)
        ∙ ap (λ n. let y : Endpoint = record { addr = (let t = h.sockets in t.addr); port = n } in y) (ap (λ (e : Endpoint). e.port) own ∙ (sym says.destination ∙ ap (λ (x : Segment). x.destination) (sym says.is))) in
        let far : v.peer ≡ peer_end local.addr says.c.segment =
        other ∙ ap (λ n. let y : Endpoint = record { addr = local.addr; port = n } in y) (sym says.source ∙ ap (λ (x : Segment). x.source) (sym says.is)) in
        ap (λ b. not b && (same_end v.local (local_end h.sockets says.c.segment) && same_end v.peer (peer_end local.addr says.c.segment))) lives
        ∙ and_from (same_end v.local (local_end h.sockets says.c.segment)) (same_end v.peer (peer_end local.addr says.c.segment))
        (ap (λ e. same_end v.local e) (sym here) ∙ same_end-same v.local) (ap (λ e. same_end v.peer e) (sym far) ∙ same_end-same v.peer)

    heard_it : HearsIt h.sockets moment isn.0 local.addr says.c.segment new.sockets → (next ≡ v) ⊎ ((at : Moment) × (next ≡ after_segment_at v s at))
    heard_it (inl same) = inl (untouched same)
    heard_it (inr same) = inr (later_moment h.sockets moment, by_kept (is_kept (fate v says.c.segment)) (ap (λ (x : SocketsView). entry_of x id) same ∙ segment_left h.sockets moment isn.0 local.addr says.c.segment id v l ordered has between))
      where
        by_kept : (b : Bool) → entry_of new.sockets id ≡ (if b then Some (connected id (after_segment_at v says.c.segment (later_moment h.sockets moment)) l) else None) → next ≡ after_segment_at v s (later_moment h.sockets moment)
        by_kept true at =
            same_view (after_segment_at v says.c.segment (later_moment h.sockets moment)) _ at refl ∙ ap (λ g. after_segment_at v g (later_moment h.sockets moment)) says.is
        by_kept false at = let bad : Some (connected id next k) ≡ None = sym has_then ∙ at in cc

    by_meaning : (m : Result Meaning DropCause) → heard_by h f.octets.items ≡ m → MeetsHeard m h moment isn.0 met.0 new → (next ≡ v) ⊎ ((at : Moment) × (next ≡ after_segment_at v s at))
    by_meaning (Err cause) is comes = inl (untouched (ap (λ (x : HostView). x.sockets) comes.1))
    by_meaning (Ok m) is comes =
        let i = h.interface in
        let as_said : heard_as (segment_from local.addr says.c) i.mac i.addr ≡ Ok m = sym (says.said i.mac i.addr) ∙ (ap (λ (x : Frame). heard i.mac i.addr x.octets.items) same_frame ∙ meant_by h f.octets.items m is) in
        let just = heard_just local.addr says.c i.mac i.addr m as_said in
        heard_it (segment_met h moment isn.0 local.addr says.c.segment met.0 new (subst (λ x. MeetsHeard (Ok x) h moment isn.0 met.0 new) just comes))

    pub comes : (next ≡ v) ⊎ ((at : Moment) × (next ≡ after_segment_at v s at))
    comes = by_meaning (heard_by h f.octets.items) refl met.1

  -- What is not.

  module _ (pair : Pair) (foreign : IsForeign w index pair) (its : pair_of v.local v.peer ≡ pair) (opened : is_opening v.state ≡ false) where
    -- a segment that is heard lies between other ends
    apart : (r : ReceivedSegment) → heard_by h f.octets.items ≡ Ok (Tcp r) → is_between (local_end h.sockets r.segment) (peer_end r.source r.segment) (connected id v l) ≡ false
    apart r is = by_test (is_between local peer (connected id v l)) (λ yes. absurd (clashes yes)) (λ fails. fails)
      where
        local : Endpoint
        local = local_end h.sockets r.segment

        peer : Endpoint
        peer = peer_end r.source r.segment

        clashes : is_between local peer (connected id v l) ≡ true → ⊥
        clashes both_ends =
            let both = and_parts (same_end v.local local) (same_end v.peer peer) (and_parts (not (is_closed v.state)) (same_end v.local local && same_end v.peer peer) both_ends).1 in
            let here = same_end-true v.local local both.0 in
            let far = same_end-true v.peer peer both.1 in
            let i = h.interface in
            let ends : pair_between r.source i.addr r.segment ≡ pair =
            ap (λ (a : Addr). pair_between r.source a r.segment) sound.own
            ∙ (ap (λ e. pair_of peer e) (sym here) ∙ (ap (λ e. pair_of e v.local) (sym far) ∙ (pair_of-swapped v.peer v.local ∙ its))) in
            let octets : f.octets.items ≡ foreign.f.octets.items = (let one : Some f ≡ Some foreign.f = sym there ∙ foreign.there in cc) in
            foreign.other (pair_between r.source i.addr r.segment) (ap pair_in (sym octets) ∙ heard_pairs i.mac i.addr f.octets.items r (meant_by h f.octets.items (Tcp r) is)) ends

    -- an error that tells of a segment is only a hint
    hinted : (local peer : Endpoint) (number : ℕ) → new.sockets ≡ after_event h.sockets (Unreachable local peer number) → next ≡ v
    hinted local peer number same = by_ends (is_between local peer (connected id v l)) (ap (λ (t : SocketsView). entry_of t id) same ∙ connection_then h.sockets (Unreachable local peer number) id v l ordered has (λ zs none. ap (find (has_id id)) none))
      where
        hint : after_unreachable v number ≡ v
        hint = let waits = (past_opening v.state opened).0 in rw waits refl

        by_kept : (b : Bool) → entry_of new.sockets id ≡ option_map (λ d. connected id d l) (if b then Some (after_unreachable v number) else None) → next ≡ v
        by_kept true at = same_view (after_unreachable v number) _ at refl ∙ hint
        by_kept false at = let bad : Some (connected id next k) ≡ None = sym has_then ∙ at in cc

        by_ends : (b : Bool) → entry_of new.sockets id ≡ option_map (λ d. connected id d l) (view_left v (if b then Some (edge.Unreachable number) else None)) → next ≡ v
        by_ends true at = by_kept (is_kept (unreachable_fate v number)) at
        by_ends false at = same_view v _ at refl

    -- a datagram goes to a socket of its own
    user : (g : HostView) → g.sockets ≡ h.sockets → (to : Reception) (source : Addr) (d : UserDatagram) (quote : List ℕ) → new ≡ after_user_datagram to g moment source d quote → next ≡ v
    user g same socket.Queued source d quote is =
        stays (after_event h.sockets (HearsDatagram source d)) (ap (λ (x : HostView). x.sockets) is ∙ ap (λ (t : SocketsView). after_event t (HearsDatagram source d)) same)
        (connection_then h.sockets (HearsDatagram source d) id v l ordered has (λ zs none. ap (find (has_id id)) none))
    user g same socket.NoRoom source d quote is = untouched (ap (λ (x : HostView). x.sockets) is ∙ same)
    user g same socket.NoSocket source d quote is = untouched (ap (λ (x : HostView). x.sockets) is ∙ same)

    payload : (g : HostView) → g.sockets ≡ h.sockets → (read : Result UserDatagram UdpFault) (source : Addr) (quote : List ℕ) → new ≡ after_payload read g moment source quote → next ≡ v
    payload g same (Ok d) source quote is = user g same (reception g.sockets d) source d _ is
    payload g same (Err fault) source quote is = untouched (ap (λ (x : HostView). x.sockets) is ∙ same)

    outcome : (g : HostView) → g.sockets ≡ h.sockets → (x : Outcome) (d : Datagram) → new ≡ after_outcome x g moment d → next ≡ v
    outcome g same (Waits r) d is = untouched (ap (λ (x : HostView). x.sockets) is ∙ same)
    outcome g same GivesUp d is = untouched (ap (λ (x : HostView). x.sockets) is ∙ same)
    outcome g same (Completes whole quote) d is = payload (with_noted g moment d) same (datagram_or_fault d.source d.destination whole) d.source quote is

    fragment : (x : Option Outcome) (late : Bool) (d : Datagram) (r : Result (Unit {0}) DropCause) → MeetsFragment x late h moment d r new → next ≡ v
    fragment None late d r comes = untouched (ap (λ (x : HostView). x.sockets) comes.1)
    fragment (Some x) true d r comes = untouched (ap (λ (x : HostView). x.sockets) comes.1)
    fragment (Some x) false d r comes = outcome (with_pool h (after_take moment d (pool_for h.sockets.manner.guards d h.pool))) refl x d comes.1

    message : (x : Told) (c : Control) (r : Result (Unit {0}) DropCause) → MeetsMessage x h moment c r new → next ≡ v
    message Asks c r comes = untouched (ap (λ (x : HostView). x.sockets) comes.1)
    message (Refuses quote) c r comes = hinted quote.source quote.destination quote.number (ap (λ (x : HostView). x.sockets) comes.1)
    message Nothing c r comes = untouched (ap (λ (x : HostView). x.sockets) comes.1)

    other_meaning : (m : Result Meaning DropCause) → heard_by h f.octets.items ≡ m → MeetsHeard m h moment isn.0 met.0 new → next ≡ v
    other_meaning (Ok (Arp packet)) is comes = untouched (ap (λ (x : HostView). x.sockets) comes.1)
    other_meaning (Ok (Tcp r)) is comes = elim (segment_met h moment isn.0 r.source r.segment met.0 new comes) [
      | inl same ↦ untouched same
      | inr same ↦ stays (after_event h.sockets (Hears moment isn.0 r.source r.segment)) same (segment_apart h.sockets moment isn.0 r.source r.segment id v l ordered has (apart r is))
    ]
    other_meaning (Ok (Icmp c)) is comes = message (told_by c.message) c met.0 comes
    other_meaning (Ok (Udp r)) is comes = user h refl (reception h.sockets r.datagram) r.carrier.source r.datagram _ comes.1
    other_meaning (Ok (UdpFragment d)) is comes = fragment (fragment_outcome moment d (pool_for h.sockets.manner.guards d h.pool)) (is_late_copy h moment d) d met.0 comes
    other_meaning (Ok (Other d)) is comes = untouched (ap (λ (x : HostView). x.sockets) comes.1)
    other_meaning (Err cause) is comes = untouched (ap (λ (x : HostView). x.sockets) comes.1)

    pub passes : next ≡ v
    passes = other_meaning (heard_by h f.octets.items) refl met.1
