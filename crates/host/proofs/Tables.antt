-- What the events of a host make of its table: that is reached by events of the table, none of them refused, and its connections keep time.
use Rattle.sockets.specs.declared.sizes.Sizes.{Sizes as TableSizes}
use Rattle.std.proofs.Common.{◌≡◌, ℕ, ◌+◌, ◌≤◌, ◌<◌, ◌^◌, not, Bool, true, false, List, [], ◌∷◌, ◌++◌, length, Option, Some, None, Result, Ok, Err, refl, sym, ◌∙◌, ap, subst, arith, ◌*◌}
use Rattle.std.specs.List.{AllByRecursion}
use Rattle.std.proofs.lemmas.Bool.{and_parts}
use Rattle.ipv4.specs.declared.addr.Addr.{Addr}
use Rattle.ipv4.specs.Addresses.{same_addr, is_unicast}
use Rattle.ipv4.specs.Datagram.{Datagram}
use Rattle.udp.specs.declared.fault.UdpFault.{UdpFault}
use Rattle.udp.specs.Datagram.{UserDatagram}
use Rattle.udp.specs.Reading.{datagram_or_fault}
use Rattle.clock.specs.declared.moment.Moment.{Moment}
use Rattle.tcp_segment.specs.Segment.{Segment}
use Rattle.tcp_segment.specs.declared.TheConstants.{MSS}
use Rattle.frames.specs.declared.drop.DropCause.{DropCause}
use Rattle.frames.specs.declared.meaning.Control.{Control}
use Rattle.frames.specs.declared.meaning.Meaning.{Meaning}
use Rattle.frames.specs.declared.meaning.Meaning.TheVariants.{Arp, Tcp, Icmp, Udp, Other, UdpFragment}
use Rattle.frames.specs.Meaning.{may_send}
use Rattle.frames.proofs.Hearers.{from_others}
use Rattle.tcp_state.specs.View.{View}
use Rattle.tcp_state.specs.declared.calls.Refusal.{Refusal as Error}
use Rattle.tcp_state.proofs.Causes.{not_true}
use Rattle.interface.specs.Ways.{is_routed}
use Rattle.reassembly.specs.Reassembly.{Outcome}
use Rattle.reassembly.specs.Reassembly.Outcome.{Waits, Completes, GivesUp}
use Rattle.reassembly.specs.Places.{after_take}
use Rattle.sockets.specs.declared.datagrams.Reception.{Reception}
use Rattle.sockets.specs.declared.datagrams.Reception.TheVariants as socket
use Rattle.sockets.specs.declared.entry.SocketId.{SocketId}
use Rattle.sockets.specs.declared.role.Role.{Role}
use Rattle.sockets.specs.declared.role.Role.TheVariants.{Connected}
use Rattle.sockets.specs.Arrival.{Arrival, Becomes, Opens, NoRoom as NoRoomInTable, Answers, arrival}
use Rattle.sockets.specs.Causes.{after_arrival, after_event, pending_error_in, TellsStill}
use Rattle.sockets.specs.Causes as table
use Rattle.sockets.specs.Datagrams.{reception}
use Rattle.sockets.specs.Offered.{IsReached}
use Rattle.sockets.specs.Lost.{after_giving_up}
use Rattle.sockets.specs.Order.{IsOrdered, IsAllowed}
use Rattle.sockets.specs.Sound.{IsSoundTable, NoneIsOver}
use Rattle.sockets.specs.Timing.{EachKeepsTime, AreNear, NoneAsks}
use Rattle.sockets.specs.Timing as timing
use Rattle.sockets.specs.Leaving.{EachLeavesAWindow}
use Rattle.sockets.specs.Leaving as leaving
use Rattle.sockets.specs.SocketsView.{SocketsView, later_moment, role_of}
use Rattle.sockets.specs.Ticks.{least_deadline}
use Rattle.sockets.specs.Turns.{emission_of}
use Rattle.sockets.proofs.Leaving.{each_leaves, fresh_leaves}
use Rattle.sockets.proofs.Led.{led_nowhere, led_by, led_on, further, reached_by, reached_ordered, reached_over}
use Rattle.sockets.proofs.Near.{each_near, fresh_near, deadline_near, deadline_in_a_day}
use Rattle.sockets.proofs.Numbered.{address_stays, manner_stays, never_back, sizes_stay}
use Rattle.sockets.proofs.SoundTicks.{tick_sound}
use Rattle.sockets.proofs.Steps.{later_up_to, stepped}
use Rattle.sockets.proofs.Telling.{tells_on, socket_told, role_tells}
use Rattle.sockets.proofs.Timed.{each_timed, fresh_timed}
use Rattle.sockets.proofs.TurnsRound.{turn_kept}
use Rattle.host.specs.Arrival.{arrival_by_route, segment_arrival, MeetsSegment, MeetsMessage, MeetsFragment, MeetsHeard, after_user_datagram, after_payload, after_outcome, fragment_outcome, is_late_copy, pool_for, with_noted}
use Rattle.host.specs.Heard.{heard_by}
use Rattle.host.proofs.Guarded.{meant_by}
use Rattle.host.specs.ConfigView.{ConfigView}
use Rattle.host.specs.Emission.{Emission, Replies, Sends, Asks, Nothing, left_by, emission, goes_out_from}
use Rattle.host.specs.HostView.{HostView, with_pool, with_sockets, new_host}
use Rattle.host.specs.Messages.{Told, Asks as AsksForEcho, Refuses, Nothing as TellsNothing, told_by}
use Rattle.host.specs.Runs.{Event, Calls, Ticks, Delivers, Emits, IsNumbered, IsUpTo, IsSized, Makes, LeadOn, Runs, Begins, GoesOn, HasRun}
use Rattle.host.specs.Sound.{IsSoundHost}
use Rattle.host.specs.Ticks.{lacks_hop}
use Rattle.host.proofs.Sized.{segments_fit}

-- who may send to a host is another
another : (own source : Addr) → may_send own source ≡ true → same_addr source own ≡ false
another own source may = not_true (same_addr source own) (and_parts (is_unicast source) (not (same_addr source own)) may).1

-- a moment is this one at the latest
abbrev IsBy : Moment → Moment → Type 0
IsBy moment latest = moment.0 ≤ latest.0

-- What an event of a host makes of its table: nothing, what one event of the table makes of it, or what a tick does. None of them names a moment behind those
-- that bound the event's own, its sizes are such as leave windows where the event's own are, and it is no emission where the event's own is none.
data IsStep (h : SocketsView) (Bounds : Moment → Type 0) (Sized Quiet : Type 0) : SocketsView → Type 0 where
  stays : IsStep h Bounds Sized Quiet h
  steps : (e : table.Event) → IsAllowed h e → timing.IsNumbered e → ((latest : Moment) → Bounds latest → timing.IsUpTo latest e) → (Sized → leaving.IsSized e) → (Quiet → emission_of e ≡ None) → IsStep h Bounds Sized Quiet (after_event h e)
  ticks : (lost : Addr → Bool) (moment : Moment) → ((latest : Moment) → Bounds latest → moment.0 ≤ latest.0) → IsStep h Bounds Sized Quiet (after_giving_up (after_event h (table.Ticks moment)) lost moment)

-- that of a host's own events, whose sizes are, and which are no emissions
abbrev IsOwnStep : SocketsView → Moment → SocketsView → Type 0
IsOwnStep h moment new = IsStep h (IsBy moment) (Unit {0}) (Unit {0}) new

-- that of a host that is this one
step-to : {Bounds : Moment → Type 0} {Sized Quiet : Type 0} (h left new : HostView) → new ≡ left → IsStep h.sockets Bounds Sized Quiet left.sockets → IsStep h.sockets Bounds Sized Quiet new.sockets
step-to {Bounds = Bounds} {Sized = Sized} {Quiet = Quiet} h left new is step = subst (λ (w : HostView). IsStep h.sockets Bounds Sized Quiet w.sockets) (sym is) step

-- A segment from another address.

segment-leads : (h : HostView) (moment : Moment) (isn : ℕ) (source : Addr) (s : Segment) (answer : Result (Unit {0}) DropCause) (new : HostView) → isn < 2 ^ 32 → length s.octets ≤ MSS → same_addr source h.sockets.addr ≡ false
    → MeetsSegment (segment_arrival h moment isn source s) h moment source answer new → IsOwnStep h.sockets moment new.sockets
segment-leads h moment isn source s answer new small few apart met = by_arrival (arrival h.sockets moment isn source s) refl met
  where
    heard : (next : SocketsView) → after_arrival h.sockets (arrival h.sockets moment isn source s) ≡ next → IsOwnStep h.sockets moment next
    heard next is = subst (IsOwnStep h.sockets moment) is (steps (table.Hears moment isn source s) apart small (λ latest by. by) (λ own. few) (λ own. refl))

    opened : (next : SocketsView) → arrival h.sockets moment isn source s ≡ Opens next → (r : Result (Unit {0}) DropCause)
        → MeetsSegment (Opens next) h moment source r new → IsOwnStep h.sockets moment new.sockets
    opened next is (Ok done) met = step-to h (with_sockets h next) new met (heard next (ap (after_arrival h.sockets) is))
    opened next is (Err cause) met = step-to h h new met.1 stays

    by_route : (next : SocketsView) → arrival h.sockets moment isn source s ≡ Opens next → (routed : Bool) → MeetsSegment (arrival_by_route routed (Opens next)) h moment source answer new → IsOwnStep h.sockets moment new.sockets
    by_route next is true met = opened next is answer met
    by_route next is false met = step-to h h new met.1 stays

    by_arrival : (a : Arrival) → arrival h.sockets moment isn source s ≡ a → MeetsSegment (arrival_by_route (is_routed h.interface source) a) h moment source answer new → IsOwnStep h.sockets moment new.sockets
    by_arrival (Becomes next) is met = step-to h (with_sockets h next) new met.1 (heard next (ap (after_arrival h.sockets) is))
    by_arrival (Opens next) is met = by_route next is (is_routed h.interface source) met
    by_arrival NoRoomInTable is met = step-to h h new met.1 stays
    by_arrival (Answers head) is met = step-to h _ new met.1 stays

-- A UDP datagram, whole or put together.

user-leads : (h : HostView) (to : Reception) (moment : Moment) (source : Addr) (d : UserDatagram) (quote : List ℕ) → IsOwnStep h.sockets moment (let left = after_user_datagram to h moment source d quote in left.sockets)
user-leads h socket.Queued moment source d quote = steps (table.HearsDatagram source d) tt tt (λ latest by. tt) (λ own. tt) (λ own. refl)
user-leads h socket.NoRoom moment source d quote = stays
user-leads h socket.NoSocket moment source d quote = stays

payload-leads : (h : HostView) (read : Result UserDatagram UdpFault) (moment : Moment) (source : Addr) (quote : List ℕ) → IsOwnStep h.sockets moment (let left = after_payload read h moment source quote in left.sockets)
payload-leads h (Ok d) moment source quote = user-leads h (reception h.sockets d) moment source d _
payload-leads h (Err fault) moment source quote = stays

outcome-leads : (h : HostView) (outcome : Outcome) (moment : Moment) (d : Datagram) → IsOwnStep h.sockets moment (let left = after_outcome outcome h moment d in left.sockets)
outcome-leads h (Waits r) moment d = stays
outcome-leads h GivesUp moment d = stays
outcome-leads h (Completes payload quote) moment d = payload-leads (with_noted h moment d) (datagram_or_fault d.source d.destination payload) moment d.source quote

fragment-leads : (h : HostView) (outcome : Option Outcome) (late : Bool) (moment : Moment) (d : Datagram) (answer : Result (Unit {0}) DropCause) (new : HostView) → MeetsFragment outcome late h moment d answer new → IsOwnStep h.sockets moment new.sockets
fragment-leads h None late moment d answer new met = step-to h h new met.1 stays
fragment-leads h (Some outcome) true moment d answer new met = step-to h h new met.1 stays
fragment-leads h (Some outcome) false moment d answer new met = step-to h _ new met.1 (outcome-leads (with_pool h (after_take moment d (pool_for h.sockets.manner.guards d h.pool))) outcome moment d)

-- A message.

message-leads : (h : HostView) (told : Told) (moment : Moment) (c : Control) (answer : Result (Unit {0}) DropCause) (new : HostView) → MeetsMessage told h moment c answer new → IsOwnStep h.sockets moment new.sockets
message-leads h AsksForEcho moment c answer new met = step-to h _ new met.1 stays
message-leads h (Refuses quote) moment c answer new met = step-to h _ new met.1 (steps (table.Unreachable quote.source quote.destination quote.number) tt tt (λ latest by. tt) (λ own. tt) (λ own. refl))
message-leads h TellsNothing moment c answer new met = step-to h h new met.1 stays

-- A frame.

heard-leads : (h : HostView) (moment : Moment) (isn : ℕ) (octets : List ℕ) (answer : Result (Unit {0}) DropCause) (new : HostView) → isn < 2 ^ 32 → h.interface.addr ≡ h.sockets.addr → (m : Result Meaning DropCause) → heard_by h octets ≡ m
    → MeetsHeard m h moment isn answer new → IsOwnStep h.sockets moment new.sockets
heard-leads h moment isn octets answer new small own (Ok (Arp packet)) is met = step-to h _ new met.1 stays
heard-leads h moment isn octets answer new small own (Ok (Tcp r)) is met =
    let says = meant_by h octets (Tcp r) is in
    let other : may_send h.sockets.addr r.source ≡ true = subst (λ (a : Addr). may_send a r.source ≡ true) own (from_others h.interface.mac h.interface.addr octets r says) in
    segment-leads h moment isn r.source r.segment answer new small (segments_fit h.interface.mac h.interface.addr octets r says) (another h.sockets.addr r.source other) met
heard-leads h moment isn octets answer new small own (Ok (Icmp c)) is met = message-leads h (told_by c.message) moment c answer new met
heard-leads h moment isn octets answer new small own (Ok (Udp r)) is met = step-to h _ new met.1 (user-leads h (reception h.sockets r.datagram) moment r.carrier.source r.datagram _)
heard-leads h moment isn octets answer new small own (Ok (UdpFragment d)) is met = fragment-leads h (fragment_outcome moment d (pool_for h.sockets.manner.guards d h.pool)) (is_late_copy h moment d) moment d answer new met
heard-leads h moment isn octets answer new small own (Ok (Other d)) is met = step-to h _ new met.1 stays
heard-leads h moment isn octets answer new small own (Err cause) is met = step-to h h new met.1 stays

-- Any event.

emission-leads : (h : HostView) (moment : Moment) (x : Emission) → IsStep h.sockets (IsBy moment) (Unit {0}) ⊥ (let left = left_by h moment x in left.sockets)
emission-leads h moment (Replies place) = stays
emission-leads h moment (Sends mac to) = steps (table.Emits (goes_out_from h moment) moment) tt tt (λ latest by. by) (λ own. tt) (λ none. absurd none)
emission-leads h moment (Asks hop) = stays
emission-leads h moment Nothing = stays

-- a moment bounds the moment at which an event finds the host
abbrev Bounds : HostView → Event → Moment → Type 0
Bounds h (Calls call) = λ latest. timing.IsUpTo latest call
Bounds h (Ticks now) = IsBy (later_moment h.sockets now)
Bounds h (Delivers now isn octets) = IsBy (later_moment h.sockets now)
Bounds h (Emits now) = IsBy (later_moment h.sockets now)

-- it is no emission
abbrev pub IsQuiet : Event → Type 0
IsQuiet (Calls call) = emission_of call ≡ None
IsQuiet (Ticks now) = Unit {0}
IsQuiet (Delivers now isn octets) = Unit {0}
IsQuiet (Emits now) = ⊥

event-leads : (event : Event) (old new : HostView) → IsSoundHost old → IsNumbered event → Makes event old new → IsStep old.sockets (Bounds old event) (IsSized event) (IsQuiet event) new.sockets
event-leads (Calls call) old new sound small makes = step-to old _ new makes.1 (steps call makes.0 small (λ latest up. up) (λ sized. sized) (λ quiet. quiet))
event-leads (Ticks now) old new sound small makes = let moment : Moment = later_moment old.sockets now in step-to old _ new makes (ticks (lacks_hop old moment) moment (λ latest by. by))
event-leads (Delivers now isn octets) old new sound small makes = heard-leads old (later_moment old.sockets now) isn octets makes.0 new small sound.own (heard_by old octets) refl makes.1
event-leads (Emits now) old new sound small makes = let moment : Moment = later_moment old.sockets now in step-to old _ new makes (emission-leads old moment (emission old moment))

-- What a table keeps over an event of its host ..

-- the address that it is over
addr-on : {Bounds : Moment → Type 0} {Sized Quiet : Type 0} (h new : SocketsView) → IsStep h Bounds Sized Quiet new → new.addr ≡ h.addr
addr-on h _ stays = refl
addr-on h _ (steps e allowed small within sized quiet) = address_stays h e
addr-on h _ (ticks lost moment within) = address_stays h (table.Ticks moment)

-- whether windows may be scaled
manner-on : {Bounds : Moment → Type 0} {Sized Quiet : Type 0} (h new : SocketsView) → IsStep h Bounds Sized Quiet new → new.manner ≡ h.manner
manner-on h _ stays = refl
manner-on h _ (steps e allowed small within sized quiet) = manner_stays h e
manner-on h _ (ticks lost moment within) = manner_stays h (table.Ticks moment)

-- .. and how large it is
sizes-on : {Bounds : Moment → Type 0} {Sized Quiet : Type 0} (h new : SocketsView) → IsStep h Bounds Sized Quiet new → new.sizes ≡ h.sizes
sizes-on h _ stays = refl
sizes-on h _ (steps e allowed small within sized quiet) = sizes_stay h e
sizes-on h _ (ticks lost moment within) = sizes_stay h (table.Ticks moment)

reached-on : {Bounds : Moment → Type 0} {Sized Quiet : Type 0} (h new : SocketsView) → IsStep h Bounds Sized Quiet new → IsReached h → IsReached new
reached-on h _ stays reached = reached
reached-on h _ (steps e allowed small within sized quiet) reached = further h (after_event h e) (led_by h e allowed) reached
reached-on h _ (ticks lost moment within) reached =
    let ticked : SocketsView = after_event h (table.Ticks moment) in
    further h _ (led_on h ticked _ (led_by h (table.Ticks moment) tt) (led_by ticked (table.GivesUp lost moment) tt)) reached

timed-on : {Bounds : Moment → Type 0} {Sized Quiet : Type 0} (h new : SocketsView) → IsSoundTable h → IsStep h Bounds Sized Quiet new → EachKeepsTime h → EachKeepsTime new
timed-on h _ sound stays keeps = keeps
timed-on h _ sound (steps e allowed small within sized quiet) keeps = each_timed h e sound small keeps
timed-on h _ sound (ticks lost moment within) keeps = each_timed (after_event h (table.Ticks moment)) (table.GivesUp lost moment) (tick_sound h moment sound) tt (each_timed h (table.Ticks moment) sound tt keeps)

leaves-on : {Bounds : Moment → Type 0} {Sized Quiet : Type 0} (h new : SocketsView) → IsSoundTable h → 3 * MSS ≤ h.sizes.buffer → Sized → IsStep h Bounds Sized Quiet new → EachLeavesAWindow h → EachLeavesAWindow new
leaves-on h _ sound wide own stays leaves = leaves
leaves-on h _ sound wide own (steps e allowed small within sized quiet) leaves = each_leaves h e sound wide small (sized own) leaves
leaves-on h _ sound wide own (ticks lost moment within) leaves =
    each_leaves (after_event h (table.Ticks moment)) (table.GivesUp lost moment) (tick_sound h moment sound) wide tt tt (each_leaves h (table.Ticks moment) sound wide tt tt leaves)

near-on : {Bounds : Moment → Type 0} {Sized Quiet : Type 0} (latest : Moment) (h new : SocketsView) → IsSoundTable h → Bounds latest → IsStep h Bounds Sized Quiet new → AreNear latest h → AreNear latest new
near-on latest h _ sound bound stays near = near
near-on latest h _ sound bound (steps e allowed small within sized quiet) near = each_near h e latest sound (within latest bound) near
near-on latest h _ sound bound (ticks lost moment within) near = each_near (after_event h (table.Ticks moment)) (table.GivesUp lost moment) latest (tick_sound h moment sound) (within latest bound) (each_near h (table.Ticks moment) latest sound (within latest bound) near)

-- an error that each entry of an id tells
tells-on : {Bounds : Moment → Type 0} {Sized Quiet : Type 0} (id : SocketId) (error : Error) (h new : SocketsView) → IsSoundTable h → EachKeepsTime h → IsStep h Bounds Sized Quiet new → id.0 ≤ h.last_id → TellsStill id error h → TellsStill id error new
tells-on id error h _ sound keeps stays given told = told
tells-on id error h _ sound keeps (steps e allowed small within sized quiet) given told = tells_on h e id error sound keeps given told
tells-on id error h _ sound keeps (ticks lost moment within) given told =
    let ticked : SocketsView = after_event h (table.Ticks moment) in
    let back : h.last_id ≤ ticked.last_id = never_back h (table.Ticks moment) in
    tells_on ticked (table.GivesUp lost moment) id error (tick_sound h moment sound) (each_timed h (table.Ticks moment) sound tt keeps) (omega (arith, given, back)) (tells_on h (table.Ticks moment) id error sound keeps given told)

-- the id given last, which never goes back
given-on : {Bounds : Moment → Type 0} {Sized Quiet : Type 0} (h new : SocketsView) → IsStep h Bounds Sized Quiet new → h.last_id ≤ new.last_id
given-on h _ stays = omega arith
given-on h _ (steps e allowed small within sized quiet) = never_back h e
given-on h _ (ticks lost moment within) =
    let ticked : SocketsView = after_event h (table.Ticks moment) in
    let first : h.last_id ≤ ticked.last_id = never_back h (table.Ticks moment) in
    let second : (let left = after_giving_up ticked lost moment in ticked.last_id ≤ left.last_id) = never_back ticked (table.GivesUp lost moment) in
    omega (arith, first, second)

-- who sent last, where it is no emission
turn-on : {Bounds : Moment → Type 0} {Sized Quiet : Type 0} (h new : SocketsView) → IsStep h Bounds Sized Quiet new → Quiet → new.turn ≡ h.turn
turn-on h _ stays own = refl
turn-on h _ (steps e allowed small within sized quiet) own = turn_kept h e (after_event h e) (quiet own) (stepped h e)
turn-on h _ (ticks lost moment within) own =
    let ticked : SocketsView = after_event h (table.Ticks moment) in
    turn_kept ticked (table.GivesUp lost moment) (after_giving_up ticked lost moment) refl (stepped ticked (table.GivesUp lost moment)) ∙ turn_kept h (table.Ticks moment) ticked refl (stepped h (table.Ticks moment))

pub event-turns : (event : Event) (old new : HostView) → IsSoundHost old → IsNumbered event → Makes event old new → IsQuiet event → new.sockets.turn ≡ old.sockets.turn
event-turns event old new sound small makes quiet = turn-on old.sockets new.sockets (event-leads event old new sound small makes) quiet

pub event-reaches : (event : Event) (old new : HostView) → IsSoundHost old → IsNumbered event → Makes event old new → IsReached old.sockets → IsReached new.sockets
event-reaches event old new sound small makes reached = reached-on old.sockets new.sockets (event-leads event old new sound small makes) reached

pub event-timed : (event : Event) (old new : HostView) → IsSoundHost old → IsNumbered event → Makes event old new → EachKeepsTime old.sockets → EachKeepsTime new.sockets
event-timed event old new sound small makes keeps = timed-on old.sockets new.sockets sound.table (event-leads event old new sound small makes) keeps

pub event-leaves : (event : Event) (old new : HostView) → IsSoundHost old → 3 * MSS ≤ old.sockets.sizes.buffer → IsNumbered event → IsSized event → Makes event old new → EachLeavesAWindow old.sockets → EachLeavesAWindow new.sockets
event-leaves event old new sound wide small sized makes leaves = leaves-on old.sockets new.sockets sound.table wide sized (event-leads event old new sound small makes) leaves

bounded : (latest : Moment) (h : HostView) (event : Event) → h.sockets.kept.0 ≤ latest.0 → IsUpTo latest event → Bounds h event latest
bounded latest h (Calls call) kept up = up
bounded latest h (Ticks now) kept up = later_up_to h.sockets now latest kept up
bounded latest h (Delivers now isn octets) kept up = later_up_to h.sockets now latest kept up
bounded latest h (Emits now) kept up = later_up_to h.sockets now latest kept up

pub event-near : (event : Event) (old new : HostView) (latest : Moment) → IsSoundHost old → IsNumbered event → IsUpTo latest event → Makes event old new → AreNear latest old.sockets → AreNear latest new.sockets
event-near event old new latest sound small up makes near =
    near-on latest old.sockets new.sockets sound.table (bounded latest old event near.kept up) (event-leads event old new sound small makes) near

pub event-tells : (event : Event) (old new : HostView) (id : SocketId) (error : Error) → IsSoundHost old → IsNumbered event → Makes event old new → EachKeepsTime old.sockets → id.0 ≤ old.sockets.last_id
    → TellsStill id error old.sockets → TellsStill id error new.sockets
event-tells event old new id error sound small makes keeps given told = tells-on id error old.sockets new.sockets sound.table keeps (event-leads event old new sound small makes) given told

pub event-given : (event : Event) (old new : HostView) → IsSoundHost old → IsNumbered event → Makes event old new → old.sockets.last_id ≤ new.sockets.last_id
event-given event old new sound small makes = given-on old.sockets new.sockets (event-leads event old new sound small makes)

-- .. and over any list of them.

pub run-addr : (c : ConfigView) (events : List Event) (h : HostView) → Runs c events h → h.sockets.addr ≡ c.addr
run-addr c _ _ Begins = refl
run-addr c _ _ (GoesOn before event old new ran sound small makes) = addr-on old.sockets new.sockets (event-leads event old new sound small makes) ∙ run-addr c before old ran

pub manner-kept : (event : Event) (old new : HostView) → IsSoundHost old → IsNumbered event → Makes event old new → new.sockets.manner ≡ old.sockets.manner
manner-kept event old new sound small makes = manner-on old.sockets new.sockets (event-leads event old new sound small makes)

pub run-manner : (c : ConfigView) (events : List Event) (h : HostView) → Runs c events h → h.sockets.manner ≡ c.manner
run-manner c _ _ Begins = refl
run-manner c _ _ (GoesOn before event old new ran sound small makes) = manner-kept event old new sound small makes ∙ run-manner c before old ran

pub sizes-kept : (event : Event) (old new : HostView) → IsSoundHost old → IsNumbered event → Makes event old new → new.sockets.sizes ≡ old.sockets.sizes
sizes-kept event old new sound small makes = sizes-on old.sockets new.sockets (event-leads event old new sound small makes)

pub run-sizes : (c : ConfigView) (events : List Event) (h : HostView) → Runs c events h → h.sockets.sizes ≡ record { entries = c.sizes.entries; buffer = c.sizes.buffer }
run-sizes c _ _ Begins = refl
run-sizes c _ _ (GoesOn before event old new ran sound small makes) = sizes-kept event old new sound small makes ∙ run-sizes c before old ran

pub run-reached : (c : ConfigView) (events : List Event) (h : HostView) → Runs c events h → IsReached h.sockets
run-reached c _ _ Begins = let h = new_host c in reached_by c.addr c.manner h.sockets.sizes h.sockets (led_nowhere h.sockets)
run-reached c _ _ (GoesOn before event old new ran sound small makes) = event-reaches event old new sound small makes (run-reached c before old ran)

pub run-timed : (c : ConfigView) (events : List Event) (h : HostView) → Runs c events h → EachKeepsTime h.sockets
run-timed c _ _ Begins = let h = new_host c in fresh_timed c.addr c.manner h.sockets.sizes
run-timed c _ _ (GoesOn before event old new ran sound small makes) = event-timed event old new sound small makes (run-timed c before old ran)

pub run-ordered : (c : ConfigView) (events : List Event) (h : HostView) → Runs c events h → IsOrdered h.sockets
run-ordered c events h ran = reached_ordered h.sockets (run-reached c events h ran)

pub run-over : (c : ConfigView) (events : List Event) (h : HostView) → Runs c events h → NoneIsOver h.sockets
run-over c events h ran = reached_over h.sockets (run-reached c events h ran)

all-split : {X : Type 0} (P : X → Type 0) (xs : List X) (x : X) → AllByRecursion P (xs ++ x ∷ []) → AllByRecursion P xs × P x
all-split P [] x all = (tt, all.0)
all-split P (y ∷ ys) x all = let parts = all-split P ys x all.1 in ((all.0, parts.0), parts.1)

pub run-near : (c : ConfigView) (events : List Event) (h : HostView) (latest : Moment) → Runs c events h → AllByRecursion (IsUpTo latest) events → AreNear latest h.sockets
run-near c _ _ latest Begins up = let h = new_host c in fresh_near c.addr c.manner h.sockets.sizes latest
run-near c _ _ latest (GoesOn before event old new ran sound small makes) up =
    let parts = all-split (IsUpTo latest) before event up in
    event-near event old new latest sound small parts.1 makes (run-near c before old latest ran parts.0)

pub run-leaves : (c : ConfigView) (events : List Event) (h : HostView) → 3 * MSS ≤ c.sizes.buffer → Runs c events h → AllByRecursion IsSized events → EachLeavesAWindow h.sockets
run-leaves c _ _ wide Begins sized = let h = new_host c in fresh_leaves c.addr c.manner h.sockets.sizes
run-leaves c _ _ wide (GoesOn before event old new ran sound small makes) sized =
    let parts = all-split IsSized before event sized in
    let same = run-sizes c before old ran in
    event-leaves event old new sound (subst (λ (s : TableSizes). 3 * MSS ≤ s.buffer) (sym same) wide) small parts.1 makes (run-leaves c before old wide ran parts.0)

pub run-deadline : (c : ConfigView) (events : List Event) (h : HostView) (latest moment : Moment) → Runs c events h → AllByRecursion (IsUpTo latest) events → NoneAsks h.sockets → least_deadline h.sockets ≡ Some moment → moment.0 ≤ latest.0 + 240000
run-deadline c events h latest moment ran up none is = deadline_near h.sockets latest moment (run-near c events h latest ran up) none is

pub run-deadline-asking : (c : ConfigView) (events : List Event) (h : HostView) (latest moment : Moment) → Runs c events h → AllByRecursion (IsUpTo latest) events → least_deadline h.sockets ≡ Some moment → moment.0 ≤ latest.0 + 86400000
run-deadline-asking c events h latest moment ran up is = deadline_in_a_day h.sockets latest moment (run-near c events h latest ran up) is

-- a list that leads on ..

pub led-tells : (events : List Event) (h last : HostView) (id : SocketId) (error : Error) → EachKeepsTime h.sockets → id.0 ≤ h.sockets.last_id → LeadOn h events last → TellsStill id error h.sockets → TellsStill id error last.sockets
led-tells [] h last id error keeps given lead told = subst (λ (w : HostView). TellsStill id error w.sockets) (sym lead) told
led-tells (event ∷ rest) h last id error keeps given (sound, small, next, makes, lead) told =
    let back : h.sockets.last_id ≤ next.sockets.last_id = event-given event h next sound small makes in
    led-tells rest next last id error (event-timed event h next sound small makes keeps) (omega (arith, given, back)) lead (event-tells event h next id error sound small makes keeps given told)

-- .. from a host with a run of its own
pub run-tells : (h last : HostView) (events : List Event) (id : SocketId) (error : Error) → HasRun h → LeadOn h events last → id.0 ≤ h.sockets.last_id → TellsStill id error h.sockets → TellsStill id error last.sockets
run-tells h last events id error run lead given told = led-tells events h last id error (run-timed run.config run.events h run.runs) given lead told

pub run-socket_tells : (h last : HostView) (events : List Event) (id : SocketId) (c : View) (listener : Option SocketId) (error : Error) → HasRun h → LeadOn h events last → role_of h.sockets id ≡ Some (Connected c listener) → c.pending_error ≡ Some error
    → (role : Role) → role_of last.sockets id ≡ Some role → pending_error_in role ≡ Some error
run-socket_tells h last events id c listener error run lead is told role now =
    let tells = socket_told h.sockets id c listener error (run-ordered run.config run.events h run.runs) is told in
    role_tells last.sockets id error role (run-tells h last events id error run lead tells.1 tells.0) now
