-- What the frame side of a host keeps over every list of events: its routes; its cache is one that events lead to, so at most as many neighbours are known as it was made for and at most
-- 64 requests are noted; at most as many replies wait as may, and to each of them a route leads.
use Rattle.std.proofs.Common.{◌≡◌, ℕ, zero, suc, ◌≤◌, ◌&&◌, not, Bool, true, false, cond, List, [], ◌∷◌, ◌++◌, length, remove, take, Option, Some, None, Result, Ok, Err, refl, sym, ◌∙◌, ap, subst, arith, length-append, ◌<◌}
use Rattle.std.specs.List.{AllByRecursion}
use Rattle.std.proofs.lemmas.Bool.{and_parts}
use Rattle.std.proofs.lemmas.Bool.Decides.{nat_tests}
use Rattle.std.proofs.lemmas.List.Sums.{fold_push}
use Rattle.ipv4.specs.declared.addr.Addr.{Addr}
use Rattle.ipv4.specs.Datagram.{Datagram}
use Rattle.udp.specs.declared.fault.UdpFault.{UdpFault}
use Rattle.udp.specs.Datagram.{UserDatagram}
use Rattle.udp.specs.Reading.{datagram_or_fault}
use Rattle.clock.specs.declared.moment.Moment.{Moment}
use Rattle.icmp.specs.declared.error.Reason.{Reason}
use Rattle.icmp.specs.declared.error.Reason.TheVariants.{PortUnreachable, ProtocolUnreachable, ReassemblyTimeExceeded}
use Rattle.arp.specs.declared.entry.Asked.{Asked}
use Rattle.arp.specs.Cache.{Cache, asked_after, empty, has_place_for, is_live_note, is_request_for, live_notes}
use Rattle.arp.specs.Events as arp
use Rattle.arp.specs.Packet.{reply_to}
use Rattle.arp.proofs.Asking.{has_place}
use Rattle.arp.proofs.History.{few_pairs, length-filter-le}
use Rattle.frames.specs.declared.drop.DropCause.{DropCause}
use Rattle.frames.specs.declared.meaning.Control.{Control}
use Rattle.frames.specs.declared.meaning.Meaning.{Meaning}
use Rattle.frames.specs.declared.meaning.Meaning.TheVariants.{Arp, Tcp, Icmp, Udp, Other, UdpFragment}
use Rattle.routes.specs.declared.route.Route.{Route}
use Rattle.interface.specs.declared.reply.Reply.{Reply}
use Rattle.interface.specs.declared.reply.Reply.TheVariants as reply
use Rattle.interface.specs.declared.reply.Waiting.{Waiting}
use Rattle.interface.specs.declared.way.Way.{Way}
use Rattle.interface.specs.declared.way.Way.TheVariants.{To, Ask, Waits as NoWay}
use Rattle.interface.specs.InterfaceView.{InterfaceView}
use Rattle.interface.specs.Emission.{asked, left_by as reply_left_by, way_at}
use Rattle.interface.specs.Replies.{after_report, is_full, learnt, owed, queued}
use Rattle.interface.specs.Timing.{after_tick as interface_after_tick, sought, stays}
use Rattle.interface.specs.Ways.{is_routed}
use Rattle.reassembly.specs.declared.expired.Expired.{Expired}
use Rattle.reassembly.specs.Fragments.{quote_of}
use Rattle.reassembly.specs.Places.{after_take, expired}
use Rattle.reassembly.specs.Reassembly.{Outcome}
use Rattle.reassembly.specs.Reassembly.Outcome.{Waits, Completes, GivesUp}
use Rattle.sockets.specs.declared.datagrams.Reception.{Reception}
use Rattle.sockets.specs.declared.datagrams.Reception.TheVariants as socket
use Rattle.sockets.specs.Arrival.{Arrival, Becomes, Opens, NoRoom as NoRoomInTable, Answers}
use Rattle.sockets.specs.Causes.{after_event}
use Rattle.sockets.specs.Datagrams.{reception}
use Rattle.sockets.specs.SocketsView.{later_moment}
use Rattle.host.specs.Arrival.{MeetsFragment, MeetsHeard, MeetsMessage, MeetsSegment, after_outcome, after_payload, after_user_datagram, fragment_outcome, is_late_copy, pool_for, segment_arrival, with_noted}
use Rattle.host.specs.Heard.{heard_by}
use Rattle.host.specs.ComesUp.{is_on_route}
use Rattle.host.specs.ConfigView.{ConfigView}
use Rattle.host.specs.Emission.{Emission, Replies, Sends, Asks as AsksFor, Nothing as NothingGoes, emission, left_by}
use Rattle.host.specs.HostView.{HostView, with_pool, with_sockets}
use Rattle.host.specs.Messages.{Told, Asks, Refuses, Nothing, told_by}
use Rattle.host.specs.Runs.{Event, Calls, Ticks, Delivers, Emits, Makes, Runs, Begins, GoesOn}
use Rattle.host.specs.Ticks.{after_tick, all_reported, reported}
use Rattle.host.proofs.Causes.{all-behind, all-filtered, all-left}

-- a cache that events lead to
pub record HasHistory (most : ℕ) (cache : Cache) : Type 0 where
  pub events : List arp.Event
  pub is : cache ≡ arp.cache_after most events

pub record KeepsSide (routes : List Route) (neighbours replies : ℕ) (i : InterfaceView) : Type 0 where
  pub same : i.routes ≡ routes
  pub history : HasHistory neighbours i.cache
  pub few : length i.cache.asked ≤ 64
  pub most : i.most_replies ≡ replies
  pub places : length i.replies ≤ i.most_replies
  pub routed : AllByRecursion (λ (w : Waiting). is_on_route i.routes (sought w.reply) ≡ true) i.replies

-- One event more.

history-on : {most : ℕ} (cache : Cache) (event : arp.Event) → HasHistory most cache → HasHistory most (arp.after_event cache event)
history-on {most = most} cache event history = record {
  events = history.events ++ event ∷ [];
  is = ap (λ (c : Cache). arp.after_event c event) history.is ∙ sym (fold_push arp.after_event (empty most) history.events event);
}

pub few-neighbours : {routes : List Route} {most many : ℕ} (i : InterfaceView) → 0 < most → KeepsSide routes most many i → length i.cache.pairs ≤ most
few-neighbours {most = most} i some keeps = let history = keeps.history in subst (λ (c : Cache). length c.pairs ≤ most) (sym history.is) (few_pairs most history.events some)

-- A request is noted where fewer than 64 are.

few-after : (now : Moment) (hop : Addr) (asked : List Asked) → length asked ≤ 64 → length (asked_after now hop asked) ≤ 64
unfolding asked_after
few-after now hop asked few = by_test (has_place_for hop (live_notes now asked)) refl
  where
    live : length (live_notes now asked) ≤ 64
    live = omega (arith, few, length-filter-le (is_live_note now) asked)

    by_test : (b : Bool) → has_place_for hop (live_notes now asked) ≡ b → length (cond b (live_notes now asked ++ record { addr = hop; at = now } ∷ []) (live_notes now asked)) ≤ 64
    by_test true is = omega (arith, has_place hop (live_notes now asked) is, length-append (live_notes now asked) (record { addr = hop; at = now } ∷ []))
    by_test false is = live

side-asked : {routes : List Route} {most many : ℕ} (i : InterfaceView) (now : Moment) (hop : Addr) → KeepsSide routes most many i → KeepsSide routes most many (asked i now hop)
side-asked i now hop keeps = record {
  same = keeps.same;
  history = history-on i.cache (arp.Ask now hop) keeps.history;
  few = few-after now hop i.cache.asked keeps.few;
  most = keeps.most;
  places = keeps.places;
  routed = keeps.routed;
}

-- A reply joins those that wait where a route leads to its address.

has-place : (i : InterfaceView) → length i.replies ≤ i.most_replies → not (is_full i) ≡ true → (now : Moment) (r : Reply) → (let next = queued now r i in length next.replies ≤ i.most_replies)
has-place i few room now r = let w : Waiting = record { since = now; reply = r } in grind (arith, nat_tests, few, room, length-append i.replies (w ∷ []))

side-owed : {routes : List Route} {most many : ℕ} (is_owed : Bool) (now : Moment) (r : Reply) (i : InterfaceView) → (is_owed ≡ true → is_on_route i.routes (sought r) ≡ true) → KeepsSide routes most many i → KeepsSide routes most many (owed is_owed now r i)
side-owed {routes = routes} {most = most} {many = many} is_owed now r i leads keeps = by_test (is_owed && not (is_full i)) refl
  where
    by_test : (b : Bool) → (is_owed && not (is_full i)) ≡ b → KeepsSide routes most many (cond b (queued now r i) i)
    by_test true is = record {
      same = keeps.same;
      history = keeps.history;
      few = keeps.few;
      most = keeps.most;
      places = has-place i keeps.places (and_parts is_owed (not (is_full i)) is).1 now r;
      routed = all-behind (λ (w : Waiting). is_on_route i.routes (sought w.reply) ≡ true) i.replies (record { since = now; reply = r }) keeps.routed (leads (and_parts is_owed (not (is_full i)) is).0);
    }
    by_test false is = keeps

side-told : {routes : List Route} {most many : ℕ} (i : InterfaceView) (now : Moment) (to : Addr) (reason : Reason) (quoted : List ℕ) → KeepsSide routes most many i → KeepsSide routes most many (after_report i now to reason quoted)
side-told i now to reason quoted keeps = side-owed (is_routed i to) now (reply.Error to reason quoted) i (λ is. is) keeps

side-reported : {routes : List Route} {most many : ℕ} (now : Moment) (datagrams : List Expired) (i : InterfaceView) → KeepsSide routes most many i → KeepsSide routes most many (all_reported now i datagrams)
side-reported now [] i keeps = keeps
side-reported now (d ∷ ds) i keeps = side-reported now ds (reported now i d) (side-told i now d.key.source ReassemblyTimeExceeded (take 68 d.quote) keeps)

-- It leaves when it has gone out, or is dropped.

length-remove-le : {X : Type 0} (xs : List X) (place : ℕ) → length (remove xs place) ≤ length xs
length-remove-le [] zero = omega arith
length-remove-le [] (suc place) = omega arith
length-remove-le (x ∷ xs) zero = omega arith
length-remove-le (x ∷ xs) (suc place) = omega (arith, length-remove-le xs place)

side-left : {routes : List Route} {most many : ℕ} (i : InterfaceView) (now : Moment) (place : ℕ) (way : Way) → KeepsSide routes most many i → KeepsSide routes most many (reply_left_by i now place way)
side-left i now place (To mac) keeps = record { same = keeps.same; history = keeps.history; few = keeps.few; most = keeps.most; places = omega (arith, keeps.places, length-remove-le i.replies place); routed = all-left (λ (w : Waiting). is_on_route i.routes (sought w.reply) ≡ true) i.replies place keeps.routed }
side-left i now place (Ask hop) keeps = side-asked i now hop keeps
side-left i now place NoWay keeps = keeps

side-ticked : {routes : List Route} {most many : ℕ} (i : InterfaceView) (now : Moment) → KeepsSide routes most many i → KeepsSide routes most many (interface_after_tick i now)
side-ticked i now keeps = record { same = keeps.same; history = history-on i.cache (arp.Age now) keeps.history; few = keeps.few; most = keeps.most; places = omega (arith, keeps.places, length-filter-le (stays i now) i.replies); routed = all-filtered (λ (w : Waiting). is_on_route i.routes (sought w.reply) ≡ true) (stays i now) i.replies keeps.routed }

-- What an event makes of it.

abbrev KeepsSideOf : List Route → ℕ → ℕ → HostView → Type 0
KeepsSideOf routes most many h = KeepsSide routes most many h.interface

side-to : {routes : List Route} {most many : ℕ} (left new : HostView) → new ≡ left → KeepsSideOf routes most many left → KeepsSideOf routes most many new
side-to {routes = routes} {most = most} {many = many} left new is keeps = subst (KeepsSideOf routes most many) (sym is) keeps

side-segment : {routes : List Route} {most many : ℕ} (a : Arrival) (h : HostView) (now : Moment) (source : Addr) (answer : Result (Unit {0}) DropCause) (new : HostView) → KeepsSideOf routes most many h → MeetsSegment a h now source answer new → KeepsSideOf routes most many new
side-segment (Becomes next) h now source answer new keeps met = side-to (with_sockets h next) new met.1 keeps
side-segment (Opens next) h now source (Ok done) new keeps met = side-to (with_sockets h next) new met keeps
side-segment (Opens next) h now source (Err cause) new keeps met = side-to h new met.1 keeps
side-segment NoRoomInTable h now source answer new keeps met = side-to h new met.1 keeps
side-segment (Answers head) h now source answer new keeps met = side-to _ new met.1 (side-owed (is_routed h.interface source) now (reply.Reset source head) h.interface (λ is. is) keeps)

side-message : {routes : List Route} {most many : ℕ} (told : Told) (h : HostView) (now : Moment) (c : Control) (answer : Result (Unit {0}) DropCause) (new : HostView) → KeepsSideOf routes most many h → MeetsMessage told h now c answer new → KeepsSideOf routes most many new
side-message Asks h now c answer new keeps met =
    side-to _ new met.1 (side-owed (is_routed h.interface c.source) now (reply.Echo c.source c.message.identifier c.message.number c.message.payload) h.interface (λ is. is) keeps)
side-message (Refuses quote) h now c answer new keeps met = side-to _ new met.1 keeps
side-message Nothing h now c answer new keeps met = side-to h new met.1 keeps

side-user : {routes : List Route} {most many : ℕ} (to : Reception) (h : HostView) (now : Moment) (source : Addr) (d : UserDatagram) (quote : List ℕ) → KeepsSideOf routes most many h → KeepsSideOf routes most many (after_user_datagram to h now source d quote)
side-user socket.Queued h now source d quote keeps = keeps
side-user socket.NoRoom h now source d quote keeps = keeps
side-user socket.NoSocket h now source d quote keeps = side-told h.interface now source PortUnreachable quote keeps

side-payload : {routes : List Route} {most many : ℕ} (read : Result UserDatagram UdpFault) (h : HostView) (now : Moment) (source : Addr) (quote : List ℕ) → KeepsSideOf routes most many h → KeepsSideOf routes most many (after_payload read h now source quote)
side-payload (Ok d) h now source quote keeps = side-user (reception h.sockets d) h now source d (take 68 quote) keeps
side-payload (Err fault) h now source quote keeps = keeps

side-outcome : {routes : List Route} {most many : ℕ} (outcome : Outcome) (h : HostView) (now : Moment) (d : Datagram) → KeepsSideOf routes most many h → KeepsSideOf routes most many (after_outcome outcome h now d)
side-outcome (Waits r) h now d keeps = keeps
side-outcome GivesUp h now d keeps = keeps
side-outcome (Completes payload quote) h now d keeps = side-payload (datagram_or_fault d.source d.destination payload) (with_noted h now d) now d.source quote keeps

side-fragment : {routes : List Route} {most many : ℕ} (outcome : Option Outcome) (late : Bool) (h : HostView) (now : Moment) (d : Datagram) (answer : Result (Unit {0}) DropCause) (new : HostView) → KeepsSideOf routes most many h → MeetsFragment outcome late h now d answer new → KeepsSideOf routes most many new
side-fragment None late h now d answer new keeps met = side-to h new met.1 keeps
side-fragment (Some outcome) true h now d answer new keeps met = side-to h new met.1 keeps
side-fragment (Some outcome) false h now d answer new keeps met = side-to _ new met.1 (side-outcome outcome (with_pool h (after_take now d (pool_for h.sockets.manner.guards d h.pool))) now d keeps)

side-heard : {routes : List Route} {most many : ℕ} (m : Result Meaning DropCause) (h : HostView) (now : Moment) (isn : ℕ) (answer : Result (Unit {0}) DropCause) (new : HostView) → KeepsSideOf routes most many h → MeetsHeard m h now isn answer new → KeepsSideOf routes most many new
side-heard {routes = routes} {most = most} {many = many} (Ok (Arp packet)) h now isn answer new keeps met =
    let aware : KeepsSide routes most many (learnt now packet h.interface) = record { same = keeps.same; history = history-on h.interface.cache (arp.Hear now packet h.interface.addr) keeps.history; few = keeps.few; most = keeps.most; places = keeps.places; routed = keeps.routed } in
    side-to _ new met.1 (side-owed (is_request_for h.interface.addr packet) now (reply.Arp (reply_to packet h.interface.mac)) (learnt now packet h.interface) (λ is. refl) aware)
side-heard (Ok (Tcp r)) h now isn answer new keeps met = side-segment (segment_arrival h now isn r.source r.segment) h now r.source answer new keeps met
side-heard (Ok (Icmp c)) h now isn answer new keeps met = side-message (told_by c.message) h now c answer new keeps met
side-heard (Ok (Udp r)) h now isn answer new keeps met = side-to _ new met.1 (side-user (reception h.sockets r.datagram) h now r.carrier.source r.datagram (quote_of r.carrier) keeps)
side-heard (Ok (UdpFragment d)) h now isn answer new keeps met = side-fragment (fragment_outcome now d (pool_for h.sockets.manner.guards d h.pool)) (is_late_copy h now d) h now d answer new keeps met
side-heard (Ok (Other d)) h now isn answer new keeps met = side-to _ new met.1 (side-told h.interface now d.source ProtocolUnreachable (quote_of d) keeps)
side-heard (Err cause) h now isn answer new keeps met = side-to h new met.1 keeps

side-emitted : {routes : List Route} {most many : ℕ} (h : HostView) (now : Moment) (x : Emission) → KeepsSideOf routes most many h → KeepsSideOf routes most many (left_by h now x)
side-emitted h now (Replies place) keeps = side-left h.interface now place (way_at h.interface now place) keeps
side-emitted h now (Sends mac to) keeps = keeps
side-emitted h now (AsksFor hop) keeps = side-asked h.interface now hop keeps
side-emitted h now NothingGoes keeps = keeps

side-on : {routes : List Route} {most many : ℕ} (event : Event) (old new : HostView) → Makes event old new → KeepsSideOf routes most many old → KeepsSideOf routes most many new
side-on (Calls call) old new makes keeps = side-to (with_sockets old (after_event old.sockets call)) new makes.1 keeps
side-on (Ticks now) old new makes keeps =
    let moment : Moment = later_moment old.sockets now in
    side-to (after_tick old now) new makes (side-reported moment (expired moment old.pool) (interface_after_tick old.interface moment) (side-ticked old.interface moment keeps))
side-on (Delivers now isn octets) old new makes keeps = side-heard (heard_by old octets) old (later_moment old.sockets now) isn makes.0 new keeps makes.1
side-on (Emits now) old new makes keeps = let moment : Moment = later_moment old.sockets now in side-to _ new makes (side-emitted old moment (emission old moment) keeps)

pub run-side : (c : ConfigView) (events : List Event) (h : HostView) → Runs c events h → KeepsSide c.routes c.sizes.neighbours c.sizes.replies h.interface
run-side c _ _ Begins = record { same = refl; history = record { events = []; is = refl }; few = omega arith; most = refl; places = omega arith; routed = tt }
run-side c _ _ (GoesOn before event old new ran sound small makes) = side-on event old new makes (run-side c before old ran)
