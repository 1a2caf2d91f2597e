-- Why each open connection of a world of which nothing is due, and that has nothing to be read, leaves its peer a window: its host's buffers hold more than a segment, and what is heard of a frame has no more octets than one.
use Rattle.std.proofs.Common.{◌≡◌, ℕ, ◌+◌, ◌-◌, ◌≤◌, ◌<◌, ◌^◌, ◌||◌, inl, inr, min, Bool, true, false, if◌then◌else◌, List, [], length, Option, Some, None, option_map, Result, Ok, Err, refl, sym, ap, subst, arith}
use Rattle.std.specs.List.{find, AllByRecursion}
use Rattle.clock.specs.declared.moment.Moment.{Moment}
use Rattle.ipv4.specs.declared.addr.Addr.{Addr}
use Rattle.ipv4.specs.Addresses.{same_addr}
use Rattle.ipv4.specs.Datagram.{Datagram}
use Rattle.udp.specs.declared.fault.UdpFault.{UdpFault}
use Rattle.udp.specs.Datagram.{UserDatagram}
use Rattle.udp.specs.Reading.{datagram_or_fault}
use Rattle.tcp_segment.specs.Segment.{Segment}
use Rattle.tcp_segment.specs.declared.TheConstants.{MSS}
use Rattle.frames.specs.declared.drop.DropCause.{DropCause}
use Rattle.frames.specs.declared.meaning.Control.{Control}
use Rattle.frames.specs.declared.meaning.Meaning.{Meaning}
use Rattle.frames.specs.declared.meaning.Meaning.TheVariants.{Arp, Tcp, Icmp, Udp, Other, UdpFragment}
use Rattle.frames.specs.Meaning.{may_send}
use Rattle.frames.proofs.Hearers.{from_others}
use Rattle.interface.specs.Ways.{is_routed}
use Rattle.reassembly.specs.Reassembly.{Outcome}
use Rattle.reassembly.specs.Reassembly.Outcome.{Waits, Completes, GivesUp}
use Rattle.reassembly.specs.Places.{after_take}
use Rattle.routes.specs.declared.route.Route.{Route}
use Rattle.tcp_halves.specs.declared.buffers.Manner.{Manner}
use Rattle.tcp_halves.specs.declared.buffers.TheConstants.{CAPACITY}
use Rattle.tcp_halves.specs.Stream.{size_in, size_of, receive_window}
use Rattle.tcp_state.specs.View.{View, is_opening, is_closed}
use Rattle.tcp_state.specs.Due.{first_due}
use Rattle.tcp_state.specs.Edges as edge
use Rattle.tcp_state.specs.Progress as progress
use Rattle.sockets.specs.declared.sizes.Sizes.{Sizes as TableSizes}
use Rattle.sockets.specs.declared.datagrams.Reception.{Reception}
use Rattle.sockets.specs.declared.datagrams.Reception.TheVariants as socket
use Rattle.sockets.specs.declared.entry.Entry.{Entry}
use Rattle.sockets.specs.declared.entry.SocketId.{SocketId}
use Rattle.sockets.specs.declared.role.Role.{Role}
use Rattle.sockets.specs.declared.role.Role.TheVariants.{Idle, Listener, Connected, Datagrams}
use Rattle.sockets.specs.Arrival.{Arrival, Becomes, Opens, NoRoom as NoRoomInTable, Answers, arrival, manner_with, room_for, local_end, peer_end}
use Rattle.sockets.specs.Causes.{after_arrival, after_event}
use Rattle.sockets.specs.Causes as table
use Rattle.sockets.specs.Datagrams.{reception}
use Rattle.sockets.specs.Entries.{is_socket}
use Rattle.sockets.specs.Order.{IsAllowed}
use Rattle.sockets.specs.Sound.{IsSoundRole, IsSoundTable}
use Rattle.sockets.specs.SocketsView.{SocketsView, room_of, role_of, later_moment}
use Rattle.sockets.specs.Timing.{IsNumbered}
use Rattle.sockets.proofs.Followed.{all_joined}
use Rattle.sockets.proofs.OfferCounts.{all-found}
use Rattle.sockets.proofs.SoundTicks.{tick_sound}
use Rattle.sockets.proofs.Steps.{IsEventOf, comes_to_it, IsStepOf, stays, moves, binds, opens, accepted, IsJoining, made, made_datagrams, called, IsStepped, followed, joined, stepped}
use Rattle.sockets.proofs.Timed.{all_left}
use Rattle.tcp_halves.proofs.Choices.{not_true}
use Rattle.std.proofs.lemmas.Bool.{and_parts}
use Rattle.ipv4.specs.Addresses.{is_unicast}
use Rattle.host.specs.Arrival.{arrival_by_route, segment_arrival, MeetsSegment, MeetsMessage, MeetsFragment, MeetsHeard, after_user_datagram, after_payload, after_outcome, fragment_outcome, is_late_copy, pool_for, with_noted}
use Rattle.host.specs.ConfigView.{ConfigView}
use Rattle.host.specs.Emission.{Emission, Replies, Sends, Asks, Nothing, left_by, emission, goes_out_from}
use Rattle.host.specs.Heard.{heard_by}
use Rattle.host.specs.HostView.{HostView, with_pool, with_sockets}
use Rattle.host.specs.Messages.{Told, Asks as AsksForEcho, Refuses, Nothing as TellsNothing, told_by}
use Rattle.host.specs.Runs.{Event, Calls, Ticks, Delivers, Emits, IsCall, IsNumbered as IsNumberedEvent, Makes}
use Rattle.host.specs.Sound.{IsSoundHost}
use Rattle.host.specs.Ticks.{lacks_hop}
use Rattle.host.proofs.Guarded.{meant_by}
use Rattle.host.proofs.Sized.{segments_fit}
use Rattle.host.proofs.Tables.{sizes-kept}
use Rattle.sides.specs.declared.side.Side.{Side}
use Rattle.sides.specs.declared.side.Side.TheVariants.{A, B}
use Rattle.wire_sim.specs.Runs.{IsReached, begins, goes_on}
use Rattle.wire_sim.specs.WorldView.{WorldView, host_of, table_of, clock_of}
use Rattle.wire_sim.specs.Windows.{QuietReadersLeaveAWindow}
use Rattle.wire_sim.proofs.HostsRun.{hosts-run, moved, sound-at, IsOwnCall, IsMoved}
use Rattle.wire_sim.proofs.progress.QuietWindow.{LeavesSome, active_leaves, passive_leaves, event_leaves, quiet_leaves}

-- The events.

-- a segment that comes has no more octets than a segment may have
abbrev IsFew : table.Event → Type 0
IsFew (table.Hears now isn source s) = length s.octets ≤ MSS
IsFew _ = Unit {0}

few_of : (h : SocketsView) (x : Entry) (e : table.Event) (ev : edge.Event) → IsEventOf h x e ev → IsFew e → progress.IsSized ev
few_of h x _ _ (comes_to_it now isn source s between) few = few
few_of h x _ _ _ few = tt

-- a call of a socket brings no segment
call_few : (routes : List Route) (e : table.Event) → IsCall routes e → IsFew e
call_few routes (table.Hears now isn source s) own = absurd own
call_few routes _ own = tt

-- a connection leaves as much, and a socket that may open a connection has room for that and a segment
abbrev LeavesSomeIn : ℕ → Role → Type 0
LeavesSomeIn left (Connected c listener) = LeavesSome left c
LeavesSomeIn left (Idle buffers bound) = left + MSS ≤ size_of buffers
LeavesSomeIn left (Listener local backlog) = Unit {0}
LeavesSomeIn left (Datagrams bound socket) = Unit {0}

abbrev EachLeavesSome : ℕ → SocketsView → Type 0
EachLeavesSome left h = AllByRecursion (λ (e : Entry). LeavesSomeIn left e.role) h.entries

-- So many octets and a segment are no more than 16 bits can tell of.
module _ (left : ℕ) (fits : left + MSS ≤ CAPACITY) where
  -- A table.

  room_some : (buffer : ℕ) (manner : Manner) → left + MSS ≤ buffer → left + MSS ≤ size_of (room_of buffer manner)
  room_some buffer manner holds = wide manner.scales
    where
      wide : (scales : Bool) → left + MSS ≤ size_in scales (if scales then buffer else min buffer CAPACITY)
      wide true = holds
      wide false = omega (arith, holds, fits)

  step_leaves : (h : SocketsView) (e : table.Event) → IsFew e → (x y : Entry) → IsStepOf h e x (Some y) → IsSoundRole x.role → LeavesSomeIn left x.role → LeavesSomeIn left y.role
  step_leaves h e few x _ stays sound leaves = leaves
  step_leaves h e few _ _ (moves ev id c l meets kept) sound leaves = event_leaves left fits c ev sound.sound (few_of h _ e ev meets few) leaves
  step_leaves h _ few _ _ (binds named asked id buffers bound local names) sound leaves = leaves
  step_leaves h _ few _ _ (opens now isn named peer routed id buffers bound local names) sound leaves = active_leaves left fits buffers local peer isn (later_moment h now) leaves
  step_leaves h _ few _ _ (accepted named id c l next) sound leaves = leaves
  step_leaves h e few _ _ _ sound leaves = tt

  joining_leaves : (h : SocketsView) (e : table.Event) → left + MSS ≤ h.sizes.buffer → IsAllowed h e → IsNumbered e → (x : Entry) → IsJoining h e x → LeavesSomeIn left x.role
  joining_leaves h _ holds allowed small _ (made buffers) = subst (λ room. left + MSS ≤ size_of room) (sym allowed.1) (room_some h.sizes.buffer h.manner holds)
  joining_leaves h _ holds allowed small _ made_datagrams = tt
  joining_leaves h _ holds allowed small _ (called now isn source s listener call) = passive_leaves left fits (room_for h s) (local_end h s) (peer_end source s) isn s (later_moment h now) small (room_some h.sizes.buffer (manner_with h s) holds)

  each_leaves : (h : SocketsView) (e : table.Event) → IsSoundTable h → left + MSS ≤ h.sizes.buffer → IsAllowed h e → IsNumbered e → IsFew e → EachLeavesSome left h → EachLeavesSome left (after_event h e)
  each_leaves h e sound holds allowed small few all = by_step (after_event h e) (stepped h e)
    where
      by_step : (w : SocketsView) → IsStepped h e w → EachLeavesSome left w
      by_step w (followed f) = all_left (IsStepOf h e) (λ (x : Entry). IsSoundRole x.role) (λ (x : Entry). LeavesSomeIn left x.role) (step_leaves h e few) h.entries w.entries f.entries sound.entries all
      by_step _ (joined {x = x} j) = all_joined (λ (y : Entry). LeavesSomeIn left y.role) h.entries x all (joining_leaves h e holds allowed small x j)

  -- a socket's connection is one of the table
  socket_leaves : (h : SocketsView) (id : SocketId) (c : View) (listener : Option SocketId) → EachLeavesSome left h → role_of h id ≡ Some (Connected c listener)
      → (is_opening c.state || is_closed c.state) ≡ false → first_due c ≡ None → c.receiving.readable ≡ [] → left ≤ receive_window c.receiving
  socket_leaves h id c listener all is opened none read = by_entry (find (is_socket id) h.entries) refl is
    where
      by_entry : (o : Option Entry) → find (is_socket id) h.entries ≡ o → option_map (λ (e : Entry). e.role) o ≡ Some (Connected c listener) → left ≤ receive_window c.receiving
      by_entry None found at = cc
      by_entry (Some x) found at =
          let role : x.role ≡ Connected c listener = cc in
          let leaves : LeavesSomeIn left x.role = all-found (λ (y : Entry). LeavesSomeIn left y.role) (is_socket id) h.entries x all found in
          quiet_leaves left fits c (subst (LeavesSomeIn left) role leaves) opened none read

  -- A host: what one event of it makes of its table is what one event of the table makes of it, or two of a tick.
  module _ (h : HostView) (sound : IsSoundHost h) (holds : left + MSS ≤ h.sockets.sizes.buffer) (all : EachLeavesSome left h.sockets) where
    steps : (e : table.Event) → IsAllowed h.sockets e → IsNumbered e → IsFew e → EachLeavesSome left (after_event h.sockets e)
    steps e allowed small few = each_leaves h.sockets e sound.table holds allowed small few all

    left_as : (other new : HostView) → new ≡ other → EachLeavesSome left other.sockets → EachLeavesSome left new.sockets
    left_as other new is kept = subst (λ (w : HostView). EachLeavesSome left w.sockets) (sym is) kept

    segment_leaves : (moment : Moment) (isn : ℕ) (source : Addr) (s : Segment) (answer : Result (Unit {0}) DropCause) (new : HostView) → isn < 2 ^ 32 → length s.octets ≤ MSS → same_addr source h.sockets.addr ≡ false
        → MeetsSegment (segment_arrival h moment isn source s) h moment source answer new → EachLeavesSome left new.sockets
    segment_leaves moment isn source s answer new small few apart met = by_arrival (arrival h.sockets moment isn source s) refl met
      where
        heard : (next : SocketsView) → after_arrival h.sockets (arrival h.sockets moment isn source s) ≡ next → EachLeavesSome left next
        heard next is = subst (EachLeavesSome left) is (steps (table.Hears moment isn source s) apart small few)

        opened : (next : SocketsView) → arrival h.sockets moment isn source s ≡ Opens next → (r : Result (Unit {0}) DropCause) → MeetsSegment (Opens next) h moment source r new → EachLeavesSome left new.sockets
        opened next is (Ok done) met = left_as (with_sockets h next) new met (heard next (ap (after_arrival h.sockets) is))
        opened next is (Err cause) met = left_as h new met.1 all

        by_route : (next : SocketsView) → arrival h.sockets moment isn source s ≡ Opens next → (routed : Bool) → MeetsSegment (arrival_by_route routed (Opens next)) h moment source answer new → EachLeavesSome left new.sockets
        by_route next is true met = opened next is answer met
        by_route next is false met = left_as h new met.1 all

        by_arrival : (a : Arrival) → arrival h.sockets moment isn source s ≡ a → MeetsSegment (arrival_by_route (is_routed h.interface source) a) h moment source answer new → EachLeavesSome left new.sockets
        by_arrival (Becomes next) is met = left_as (with_sockets h next) new met.1 (heard next (ap (after_arrival h.sockets) is))
        by_arrival (Opens next) is met = by_route next is (is_routed h.interface source) met
        by_arrival NoRoomInTable is met = left_as h new met.1 all
        by_arrival (Answers head) is met = left_as _ new met.1 all

    user_leaves : (g : HostView) → g.sockets ≡ h.sockets → (to : Reception) (moment : Moment) (source : Addr) (d : UserDatagram) (quote : List ℕ) → EachLeavesSome left (let next = after_user_datagram to g moment source d quote in next.sockets)
    user_leaves g same socket.Queued moment source d quote = subst (λ (t : SocketsView). EachLeavesSome left (after_event t (table.HearsDatagram source d))) (sym same) (steps (table.HearsDatagram source d) tt tt tt)
    user_leaves g same socket.NoRoom moment source d quote = subst (EachLeavesSome left) (sym same) all
    user_leaves g same socket.NoSocket moment source d quote = subst (EachLeavesSome left) (sym same) all

    payload_leaves : (g : HostView) → g.sockets ≡ h.sockets → (read : Result UserDatagram UdpFault) (moment : Moment) (source : Addr) (quote : List ℕ) → EachLeavesSome left (let next = after_payload read g moment source quote in next.sockets)
    payload_leaves g same (Ok d) moment source quote = user_leaves g same (reception g.sockets d) moment source d _
    payload_leaves g same (Err fault) moment source quote = subst (EachLeavesSome left) (sym same) all

    outcome_leaves : (g : HostView) → g.sockets ≡ h.sockets → (outcome : Outcome) (moment : Moment) (d : Datagram) → EachLeavesSome left (let next = after_outcome outcome g moment d in next.sockets)
    outcome_leaves g same (Waits r) moment d = subst (EachLeavesSome left) (sym same) all
    outcome_leaves g same GivesUp moment d = subst (EachLeavesSome left) (sym same) all
    outcome_leaves g same (Completes payload quote) moment d = payload_leaves (with_noted g moment d) same (datagram_or_fault d.source d.destination payload) moment d.source quote

    fragment_leaves : (outcome : Option Outcome) (late : Bool) (moment : Moment) (d : Datagram) (answer : Result (Unit {0}) DropCause) (new : HostView) → MeetsFragment outcome late h moment d answer new → EachLeavesSome left new.sockets
    fragment_leaves None late moment d answer new met = left_as h new met.1 all
    fragment_leaves (Some outcome) true moment d answer new met = left_as h new met.1 all
    fragment_leaves (Some outcome) false moment d answer new met = left_as _ new met.1 (outcome_leaves (with_pool h (after_take moment d (pool_for h.sockets.manner.guards d h.pool))) refl outcome moment d)

    message_leaves : (told : Told) (moment : Moment) (c : Control) (answer : Result (Unit {0}) DropCause) (new : HostView) → MeetsMessage told h moment c answer new → EachLeavesSome left new.sockets
    message_leaves AsksForEcho moment c answer new met = left_as _ new met.1 all
    message_leaves (Refuses quote) moment c answer new met = left_as _ new met.1 (steps (table.Unreachable quote.source quote.destination quote.number) tt tt tt)
    message_leaves TellsNothing moment c answer new met = left_as h new met.1 all

    frame_leaves : (moment : Moment) (isn : ℕ) (octets : List ℕ) (answer : Result (Unit {0}) DropCause) (new : HostView) → isn < 2 ^ 32 → (m : Result Meaning DropCause) → heard_by h octets ≡ m → MeetsHeard m h moment isn answer new → EachLeavesSome left new.sockets
    frame_leaves moment isn octets answer new small (Ok (Arp packet)) is met = left_as _ new met.1 all
    frame_leaves moment isn octets answer new small (Ok (Tcp r)) is met =
        let says = meant_by h octets (Tcp r) is in
        let other : may_send h.sockets.addr r.source ≡ true = subst (λ (a : Addr). may_send a r.source ≡ true) sound.own (from_others h.interface.mac h.interface.addr octets r says) in
        segment_leaves moment isn r.source r.segment answer new small (segments_fit h.interface.mac h.interface.addr octets r says) (not_true (same_addr r.source h.sockets.addr) (and_parts (is_unicast r.source) _ other).1) met
    frame_leaves moment isn octets answer new small (Ok (Icmp c)) is met = message_leaves (told_by c.message) moment c answer new met
    frame_leaves moment isn octets answer new small (Ok (Udp r)) is met = left_as _ new met.1 (user_leaves h refl (reception h.sockets r.datagram) moment r.carrier.source r.datagram _)
    frame_leaves moment isn octets answer new small (Ok (UdpFragment d)) is met = fragment_leaves (fragment_outcome moment d (pool_for h.sockets.manner.guards d h.pool)) (is_late_copy h moment d) moment d answer new met
    frame_leaves moment isn octets answer new small (Ok (Other d)) is met = left_as _ new met.1 all
    frame_leaves moment isn octets answer new small (Err cause) is met = left_as h new met.1 all

    emission_leaves : (moment : Moment) (x : Emission) → EachLeavesSome left (let next = left_by h moment x in next.sockets)
    emission_leaves moment (Replies place) = all
    emission_leaves moment (Sends mac to) = steps (table.Emits (goes_out_from h moment) moment) tt tt tt
    emission_leaves moment (Asks hop) = all
    emission_leaves moment Nothing = all

    host_leaves : (routes : List Route) (e : Event) (new : HostView) → IsNumberedEvent e → IsOwnCall routes e → Makes e h new → EachLeavesSome left new.sockets
    host_leaves routes (Calls call) new small own makes = left_as _ new makes.1 (steps call makes.0 small (call_few routes call own))
    host_leaves routes (Ticks now) new small own makes =
        let moment : Moment = later_moment h.sockets now in
        left_as _ new makes
        (each_leaves (after_event h.sockets (table.Ticks moment)) (table.GivesUp (lacks_hop h moment) moment) (tick_sound h.sockets moment sound.table) holds tt tt tt (steps (table.Ticks moment) tt tt tt))
    host_leaves routes (Delivers now isn octets) new small own makes = frame_leaves (later_moment h.sockets now) isn octets makes.0 new small (heard_by h octets) refl makes.1
    host_leaves routes (Emits now) new small own makes = let moment : Moment = later_moment h.sockets now in left_as _ new makes (emission_leaves moment (emission h moment))

-- A world.

-- 2,048 octets are the least that a host's buffers are set up for
pub buffers_hold : (limit : ℕ) (w : WorldView) → IsReached limit w → (side : Side) → 2048 ≤ (let t = table_of w.network side in t.sizes.buffer)
buffers_hold limit w reached side =
    let ran = hosts-run limit w reached side in
    let r = ran.run in
    let sizes = r.set_up.sizes in
    subst (λ (n : ℕ). 2048 ≤ n) (ap (λ (c : ConfigView). c.sizes.buffer) ran.own) sizes.buffer.0

tables_leave : (left : ℕ) → left + MSS ≤ CAPACITY → (limit : ℕ) (w : WorldView) → IsReached limit w → (side : Side) → left + MSS ≤ (let t = table_of w.network side in t.sizes.buffer) → EachLeavesSome left (table_of w.network side)
tables_leave left fits limit w (begins a b a_is b_is apart small) A holds = tt
tables_leave left fits limit w (begins a b a_is b_is apart small) B holds = tt
tables_leave left fits limit _ (goes_on w v happens answer reached step) side holds = by_move (λ was. tables_leave left fits limit w reached side was) (moved w v happens answer step side)
  where
    old : HostView
    old = host_of w.network side

    new : HostView
    new = host_of v.network side

    by_move : (left + MSS ≤ old.sockets.sizes.buffer → EachLeavesSome left old.sockets) → IsMoved w.network (clock_of v.network side) side happens old new → EachLeavesSome left new.sockets
    by_move before (inl same) = subst (λ (h : HostView). EachLeavesSome left h.sockets) (sym same) (before (subst (λ (h : HostView). left + MSS ≤ h.sockets.sizes.buffer) same holds))
    by_move before (inr (e, numbered, makes, brings, up, own)) =
        let sound = sound-at w v step side in
        let was : left + MSS ≤ old.sockets.sizes.buffer = subst (λ (s : TableSizes). left + MSS ≤ s.buffer) (sizes-kept e old new sound numbered makes) holds in
        host_leaves left fits old sound was (before was) (let i = old.interface in i.routes) e new numbered own makes

pub quiet-leave : QuietReadersLeaveAWindow
quiet-leave limit w reached side id c listener is opened none read =
    let t = table_of w.network side in
    let least = buffers_hold limit w reached side in
    let left : ℕ = min t.sizes.buffer CAPACITY - MSS in
    let leaves : left ≤ receive_window c.receiving = socket_leaves left (omega (arith, least)) t id c listener (tables_leave left (omega (arith, least)) limit w reached side (omega (arith, least))) is opened none read in
    omega (arith, leaves, least)
