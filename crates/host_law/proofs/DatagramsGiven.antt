-- Whatever happens to a host, what `recvfrom` gives on its sockets came for them.
use Rattle.std.proofs.Common.{◌≡◌, ◌⊎◌, inl, inr, ℕ, ◌==◌, max, min, nat_lt, Bool, true, false, List, [], ◌∷◌, drop, length, replicate, if◌then◌else◌, Option, Some, None, option_map, Result, Ok, Err, refl, sym, ◌∙◌, ap, subst, arith}
use Rattle.std.specs.Prelude.{take}
use Rattle.std.specs.List.{find, AllByRecursion}
use Rattle.std.proofs.lemmas.Bool.{eqb-true}
use Rattle.std.proofs.lemmas.Bool.Decides.{nat_tests}
use Rattle.clock.specs.declared.moment.Moment.{Moment}
use Rattle.ether.specs.declared.mac.Mac.{Mac}
use Rattle.ipv4.specs.declared.addr.Addr.{Addr}
use Rattle.ipv4.specs.declared.addr.Endpoint.{Endpoint}
use Rattle.ipv4.specs.Datagram.{Datagram}
use Rattle.udp.specs.declared.fault.UdpFault.{UdpFault}
use Rattle.udp.specs.Datagram.{UserDatagram}
use Rattle.udp.specs.Reading.{datagram_or_fault}
use Rattle.udp.specs.Waiting.{Waiting}
use Rattle.udp_socket.specs.SocketView.{SocketView as Queues}
use Rattle.tcp_segment.specs.Segment.{Segment}
use Rattle.frames.specs.declared.drop.DropCause.{DropCause}
use Rattle.frames.specs.declared.meaning.Control.{Control}
use Rattle.frames.specs.declared.meaning.Meaning.{Meaning}
use Rattle.frames.specs.declared.meaning.Meaning.TheVariants.{Arp, Tcp, Icmp, Udp, Other, UdpFragment}
use Rattle.frames.specs.Meaning.{heard}
use Rattle.interface.specs.InterfaceView.{InterfaceView}
use Rattle.interface.specs.Ways.{is_routed}
use Rattle.reassembly.specs.declared.finished.Finished.{Finished}
use Rattle.reassembly.specs.declared.key.Key.{Key}
use Rattle.reassembly.specs.Fragments.{key_of}
use Rattle.reassembly.specs.Places.{after_take, outcome_at, place_for}
use Rattle.reassembly.specs.Reassembly.{Outcome, PoolView}
use Rattle.reassembly.specs.Reassembly.Outcome.{Waits as Goes, Completes, GivesUp}
use Rattle.sockets.specs.declared.datagrams.Reception.{Reception}
use Rattle.sockets.specs.declared.datagrams.Reception.TheVariants as socket
use Rattle.sockets.specs.declared.entry.SocketId.{SocketId}
use Rattle.sockets.specs.declared.entry.Entry.{Entry}
use Rattle.sockets.specs.declared.role.Role.{Role}
use Rattle.sockets.specs.declared.role.Role.TheVariants.{Idle, Listener, Connected, Datagrams}
use Rattle.sockets.specs.Arrival.{Arrival, Becomes, Opens, NoRoom as NoRoomInTable, Answers, arrival}
use Rattle.sockets.specs.Causes.{after_arrival, after_event}
use Rattle.sockets.specs.Causes as table
use Rattle.sockets.specs.Datagrams.{reception, recvfrom_front}
use Rattle.sockets.specs.Entries.{is_datagrams_at, is_socket, role_after_reception, role_after_recvfrom, uses_datagram_port}
use Rattle.sockets.specs.Ids.{AreAscending}
use Rattle.sockets.specs.SocketsView.{SocketsView, later_moment, role_of}
use Rattle.sockets.proofs.Ends.{eqb-same}
use Rattle.sockets.proofs.Followed.{by_test}
use Rattle.sockets.proofs.OfferCounts.{all-found}
use Rattle.sockets.proofs.Opened.{found_passes}
use Rattle.sockets.proofs.Queues.{queued-change}
use Rattle.tcp_state.proofs.Edges.{and_left}
use Rattle.host.specs.Arrival.{arrival_by_route, segment_arrival, MeetsSegment, MeetsMessage, MeetsFragment, MeetsHeard, after_user_datagram, after_payload, after_outcome, is_late_copy, pool_for, with_noted}
use Rattle.host.specs.ConfigView.{ConfigView}
use Rattle.host.specs.Emission.{Emission, Replies, Sends, Asks, Nothing, left_by, emission, goes_out_from}
use Rattle.host.specs.Heard.{heard_by}
use Rattle.host.specs.HostView.{HostView, new_host, with_interface, with_pool, with_sockets}
use Rattle.host.specs.Messages.{Told, Asks as AsksForEcho, Refuses, Nothing as TellsNothing, told_by}
use Rattle.host.specs.Runs.{Event, Calls, Ticks, Delivers, Emits, IsAsked, Makes, Runs, Begins, GoesOn}
use Rattle.host.specs.Ticks.{after_tick, lacks_hop}
use Rattle.host.proofs.Causes.{run-stands}
use Rattle.host.proofs.Guarded.{meant_by}
use Rattle.host.proofs.Tables.{run-ordered}
use Rattle.host_law.specs.Datagrams.{AreOfOne, ticked, IsBrought, CameWhole, WasPutTogether, CameFor, Given, given_at, GivesWhatCame}
use Rattle.host_law.specs.History.{Step, history}
use Rattle.host_law.proofs.Led.{parted}
use Rattle.host_law.proofs.DatagramsGathered.{all-more, AreGathered, IsMade, IsLeft, none-gathered, stay-gathered, aged, made-room, outcome-left, after-taking}
use Rattle.host_law.proofs.DatagramsInboxes.{IsPlain, Holds, AllHold, plain-holds, tick-holds}
use Rattle.host_law.proofs.DatagramsQueued.{Waits, IsRead, reads, given-came, nothing-waits, GivesNone, gives-on, waits-on, waits-queued, waits-read, itself-found, found-hold}

-- What was given on its sockets came for them, what waits there too, and the fragments that it puts together; and it keeps the latest moment that a tick told.
pub record Stands (c : ConfigView) (steps : List Step) (h : HostView) : Type 0 where
  pub gives : (id : SocketId) → GivesWhatCame c id steps
  pub inboxes : AllHold (Waits c steps) h.sockets.entries
  pub pool : AreGathered c steps h.pool.places
  pub kept : h.sockets.kept.0 ≡ ticked steps

to-new : (c : ConfigView) (steps : List Step) (left new : HostView) → new ≡ left → Stands c steps left → Stands c steps new
to-new c steps left new is stands = subst (Stands c steps) (sym is) stands

holds-more : (V W : SocketId → List Waiting → Type 0) (id : SocketId) (role : Role) → ((inbox : List Waiting) → V id inbox → W id inbox) → Holds V id role → Holds W id role
holds-more V W id (Datagrams bound s) more holds = more s.inbox holds
holds-more V W id (Connected c l) more holds = tt
holds-more V W id (Listener local b) more holds = tt
holds-more V W id (Idle buffers bound) more holds = tt

all-hold : (V W : SocketId → List Waiting → Type 0) → ((id : SocketId) (inbox : List Waiting) → V id inbox → W id inbox) → (xs : List Entry) → AllHold V xs → AllHold W xs
all-hold V W more [] all = tt
all-hold V W more (e ∷ rest) all = (holds-more V W e.id e.role (more e.id) all.0, all-hold V W more rest all.1)

-- a step by which nothing is given and no time told
quiet-on : (c : ConfigView) (step : Step) (steps : List Step) (h : HostView) → ((id : SocketId) → GivesNone c step steps id) → ticked (step ∷ steps) ≡ ticked steps → Stands c steps h → Stands c (step ∷ steps) h
quiet-on c step steps h none still stands = record {
  gives = λ id. gives-on c step steps id (none id) (stands.gives id);
  inboxes = all-hold (Waits c steps) (Waits c (step ∷ steps)) (λ id inbox waits. waits-on c step steps id inbox (none id) waits) h.sockets.entries stands.inboxes;
  pool = stay-gathered c step steps still h.pool.places stands.pool;
  kept = stands.kept ∙ sym still;
}

-- a plain event of the table
table-on : (c : ConfigView) (steps : List Step) (h : HostView) (e : table.Event) → IsPlain e → Stands c steps h → Stands c steps (with_sockets h (after_event h.sockets e))
table-on c steps h e plain stands =
    let left = plain-holds (Waits c steps) (λ id. nothing-waits c steps id (stands.gives id)) h.sockets e plain stands.inboxes in
    record { gives = stands.gives; inboxes = left.holds; pool = stands.pool; kept = ap (λ (m : Moment). m.0) left.kept ∙ stands.kept }

side-on : (c : ConfigView) (steps : List Step) (h : HostView) (i : InterfaceView) → Stands c steps h → Stands c steps (with_interface h i)
side-on c steps h i stands = record { gives = stands.gives; inboxes = stands.inboxes; pool = stands.pool; kept = stands.kept }

-- Calls.

-- `recvfrom`
module _ (c : ConfigView) (steps : List Step) (old : HostView) (named : SocketId) (len : ℕ) (new : HostView) where
  abbrev read : Step
  read = record { before = old; event = Calls (table.ReceivesFrom named len); after = new }

  another : (id : SocketId) → (named.0 == id.0) ≡ false → GivesNone c read steps id
  another id other = rw other refl

  module _ (r : IsRead old.sockets named len) where
    -- what it gives
    abbrev first_given : Given
    first_given = let octets : List ℕ = r.first.octets in record { endpoint = r.first.endpoint; room = len; octets = take (min (length octets) len) (recvfrom_front old.sockets named (replicate len 0)) }

    gave : (id : SocketId) → (named.0 == id.0) ≡ true → given_at id old (Calls (table.ReceivesFrom named len)) ≡ first_given ∷ []
    gave id same = rw (same, r.answer) refl

    own-id : r.e.id.0 ≡ named.0
    own-id = let e : Entry = r.e in eqb-true e.id.0 named.0 (and_left _ _ (found_passes (is_socket named) old.sockets.entries e r.found))

    own-test : (named.0 == r.e.id.0) ≡ true
    own-test = ap (λ (n : ℕ). named.0 == n) own-id ∙ eqb-same named.0

    first-read : (inbox : List Waiting) → r.s.inbox ≡ inbox → Waits c steps r.e.id inbox → Waits c (read ∷ steps) r.e.id (drop 1 inbox)
    first-read inbox is waits =
        let there : Waits c steps r.e.id (r.first ∷ r.rest) = subst (Waits c steps r.e.id) (sym is ∙ r.waits) waits in
        let left : Waits c (read ∷ steps) r.e.id r.rest = waits-read c read steps r.e.id r.first r.rest first_given (gave r.e.id own-test) refl r.front there in
        subst (λ (ws : List Waiting). Waits c (read ∷ steps) r.e.id (drop 1 ws)) (sym r.waits ∙ is) left

    role-read : (role : Role) → r.e.role ≡ role → Holds (Waits c steps) r.e.id role → Holds (Waits c (read ∷ steps)) r.e.id (role_after_recvfrom role)
    role-read role is holds =
        let same : Datagrams r.bound r.s ≡ role = sym r.role ∙ is in
        let P : Role → Type 0 = λ role. Holds (Waits c steps) r.e.id role → Holds (Waits c (read ∷ steps)) r.e.id (role_after_recvfrom role) in
        subst P same (λ (waits : Waits c steps r.e.id r.s.inbox). first-read r.s.inbox refl waits) holds

    other-read : (e : Entry) → (e.id.0 ≡ r.e.id.0 → ⊥) → Holds (Waits c steps) e.id e.role → Holds (Waits c (read ∷ steps)) e.id e.role
    other-read e apart holds =
        let far : (named.0 == e.id.0) ≡ false = by_test (named.0 == e.id.0) (λ yes. absurd (apart (sym (eqb-true named.0 e.id.0 yes) ∙ sym own-id))) (λ no. no) in
        holds-more (Waits c steps) (Waits c (read ∷ steps)) e.id e.role (λ inbox waits. waits-on c read steps e.id inbox (another e.id far) waits) holds

    read-on : AreAscending 0 old.sockets.last_id old.sockets.entries → Stands c steps old → Stands c (read ∷ steps) (with_sockets old (after_event old.sockets (table.ReceivesFrom named len)))
    read-on ids stands = record {
      gives = gives;
      inboxes = found-hold (Waits c steps) (Waits c (read ∷ steps)) (is_socket named) role_after_recvfrom 0 old.sockets.last_id old.sockets.entries r.e ids r.found other-read (role-read r.e.role refl) stands.inboxes;
      pool = stay-gathered c read steps refl old.pool.places stands.pool;
      kept = stands.kept;
    }
      where
        here : Holds (Waits c steps) r.e.id r.e.role
        here = all-found (λ (e : Entry). Holds (Waits c steps) e.id e.role) (is_socket named) old.sockets.entries r.e stands.inboxes r.found

        waiting : Waits c steps r.e.id r.s.inbox
        waiting = subst (λ (role : Role). Holds (Waits c steps) r.e.id role) r.role here

        gives : (id : SocketId) → GivesWhatCame c id (read ∷ steps)
        gives id =
            by_test (named.0 == id.0)
            (λ same.
            let is : r.e.id.0 ≡ id.0 = own-id ∙ eqb-true named.0 id.0 same in
            let own : r.e.id ≡ id = ap (λ (n : ℕ). let i : SocketId = record { 0 = n } in i) is in
            subst (λ (i : SocketId). GivesWhatCame c i (read ∷ steps)) own (given-came c (read ∷ steps) r.e.id (drop 1 r.s.inbox) (first-read r.s.inbox refl waiting)))
            (λ other. gives-on c read steps id (another id other) (stands.gives id))

called : (c : ConfigView) (steps : List Step) (call : table.Event) (old new : HostView) → IsAsked c (Calls call) → AreAscending 0 old.sockets.last_id old.sockets.entries → Makes (Calls call) old new → Stands c steps old
    → Stands c (record { before = old; event = Calls call; after = new } ∷ steps) new
called c steps (table.ReceivesFrom named len) old new asked ids makes stands =
    to-new c (read c steps old named len new ∷ steps) (with_sockets old (after_event old.sockets (table.ReceivesFrom named len))) new makes.1 (read-on c steps old named len new (reads old.sockets named len makes.0) ids stands)
called c steps (table.HearsDatagram source d) old new asked ids makes stands = absurd asked
called c steps (table.Ticks now) old new asked ids makes stands = absurd asked
called c steps call old new asked ids makes stands =
    let step : Step = record { before = old; event = Calls call; after = new } in
    to-new c (step ∷ steps) (with_sockets old (after_event old.sockets call)) new makes.1
    (table-on c (step ∷ steps) old call tt (quiet-on c step steps old (λ id. refl) refl stands))

-- A tick.

later-is : (kept now : Moment) → (let later : Moment = if nat_lt kept.0 now.0 then now else kept in later.0) ≡ max kept.0 now.0
later-is kept now = grind (arith, nat_tests)

told-once : (kept now : ℕ) → max kept (max kept now) ≡ max kept now
told-once kept now = grind arith

ticked-on : (c : ConfigView) (steps : List Step) (now : Moment) (old new : HostView) → new ≡ after_tick old now → Stands c steps old → Stands c (record { before = old; event = Ticks now; after = new } ∷ steps) new
ticked-on c steps now old new is stands =
    let step : Step = record { before = old; event = Ticks now; after = new } in
    let moment : Moment = later_moment old.sockets now in
    let told : moment.0 ≡ max (ticked steps) now.0 = later-is old.sockets.kept now ∙ ap (λ (n : ℕ). max n now.0) stands.kept in
    let more : AllHold (Waits c (step ∷ steps)) old.sockets.entries = all-hold (Waits c steps) (Waits c (step ∷ steps)) (λ id inbox waits. waits-on c step steps id inbox refl waits) old.sockets.entries stands.inboxes in
    let gives : (id : SocketId) → GivesWhatCame c id (step ∷ steps) = λ id. gives-on c step steps id refl (stands.gives id) in
    let alone : SocketsView = after_event old.sockets (table.Ticks moment) in
    let timed = tick-holds (Waits c (step ∷ steps)) old.sockets moment more in
    let left = plain-holds (Waits c (step ∷ steps)) (λ id. nothing-waits c (step ∷ steps) id (gives id)) alone (table.GivesUp (lacks_hop old moment) moment) tt timed.0 in
    let kept : alone.kept.0 ≡ max (ticked steps) now.0 =
    ap (λ (m : Moment). m.0) timed.1 ∙ later-is old.sockets.kept moment ∙ ap (λ (n : ℕ). max old.sockets.kept.0 n) told ∙ ap (λ (n : ℕ). max n (max (ticked steps) now.0)) stands.kept ∙ told-once (ticked steps) now.0 in
    to-new c (step ∷ steps) (after_tick old now) new is
    (record { gives = gives; inboxes = left.holds; pool = aged c step steps moment (sym told) old.pool.places stands.pool; kept = ap (λ (m : Moment). m.0) left.kept ∙ kept })

-- What goes out.

emitted-on : (c : ConfigView) (steps : List Step) (h : HostView) (moment : Moment) (x : Emission) → Stands c steps h → Stands c steps (left_by h moment x)
emitted-on c steps h moment (Replies place) stands = side-on c steps h _ stands
emitted-on c steps h moment (Sends mac to) stands = table-on c steps h (table.Emits (goes_out_from h moment) moment) tt stands
emitted-on c steps h moment (Asks hop) stands = side-on c steps h _ stands
emitted-on c steps h moment Nothing stands = stands

-- A frame is delivered.

-- the UDP socket at a port
record IsBoundAt (h : SocketsView) (port : ℕ) (e : Entry) : Type 0 where
  local : Endpoint
  s : Queues
  role : e.role ≡ Datagrams (Some local) s
  at : local.port ≡ port
  named : role_of h e.id ≡ Some (Datagrams (Some local) s)

bound-at : (h : SocketsView) (port : ℕ) (e : Entry) → AreAscending 0 h.last_id h.entries → find (is_datagrams_at port) h.entries ≡ Some e → IsBoundAt h port e
bound-at h port e ids found = by_role e.role refl (found_passes (is_datagrams_at port) h.entries e found)
  where
    by_role : (r : Role) → e.role ≡ r → uses_datagram_port port r ≡ true → IsBoundAt h port e
    by_role (Datagrams (Some local) s) is passes =
        let socket : is_socket e.id e ≡ true = rw (eqb-same e.id.0, is) refl in
        let there : find (is_socket e.id) h.entries ≡ Some e = itself-found (is_datagrams_at port) 0 h.last_id h.entries e ids found socket in
        record { local = local; s = s; role = is; at = eqb-true local.port port passes; named = ap (λ (o : Option Entry). option_map (λ (x : Entry). x.role) o) there ∙ ap (λ (r : Role). Some r) is }
    by_role (Datagrams None s) is passes = cc
    by_role (Connected c l) is passes = cc
    by_role (Listener local b) is passes = cc
    by_role (Idle buffers bound) is passes = cc

module _ (c : ConfigView) (steps : List Step) (old new : HostView) (now : Moment) (isn : ℕ) (octets : List ℕ) (ids : AreAscending 0 old.sockets.last_id old.sockets.entries) (stands : Stands c steps old)
    (says : (meaning : Meaning) → heard_by old octets ≡ Ok meaning → heard c.mac c.addr octets ≡ Ok meaning) where
  abbrev step : Step
  step = record { before = old; event = Delivers now isn octets; after = new }

  abbrev steps_then : List Step
  steps_then = step ∷ steps

  abbrev moment : Moment
  moment = later_moment old.sockets now

  on : Stands c steps_then old
  on = quiet-on c step steps old (λ id. refl) refl stands

  brings : (meaning : Meaning) → heard_by old octets ≡ Ok meaning → IsBrought c meaning moment.0 step steps
  brings meaning is = record { frame = record { now = now; isn = isn; octets = octets; delivered = refl; means = says meaning is }; at = later-is old.sockets.kept now ∙ ap (λ (n : ℕ). max n now.0) stands.kept }

  -- A datagram comes for a socket.

  user-queued : (i : InterfaceView) (pool : PoolView) (lately : List Finished) (source : Addr) (u : UserDatagram) → AreGathered c steps_then pool.places → CameWhole c source u step steps ⊎ WasPutTogether c source u step steps
      → reception old.sockets u ≡ socket.Queued → Stands c steps_then (record { interface = i; sockets = after_event old.sockets (table.HearsDatagram source u); pool = pool; lately = lately })
  user-queued i pool lately source u gathered came queued = by_entry (find test old.sockets.entries) refl
    where
      test : Entry → Bool
      test = is_datagrams_at u.destination

      from : Endpoint
      from = record { addr = source; port = u.source }

      w : Waiting
      w = record { endpoint = from; octets = u.payload }

      P : SocketsView → Type 0
      P sockets = Stands c steps_then (record { interface = i; sockets = sockets; pool = pool; lately = lately })

      by_entry : (o : Option Entry) → find test old.sockets.entries ≡ o → P (after_event old.sockets (table.HearsDatagram source u))
      by_entry None found = let none : reception old.sockets u ≡ socket.NoSocket = rw found refl in cc
      by_entry (Some e) found =
          let b = bound-at old.sockets u.destination e ids found in
          let comes : CameFor c e.id w step steps = record { source = source; u = u; came = came; from = refl; octets = refl; local = b.local; socket = b.s; bound = b.named; to = b.at } in
          let Q : Role → Type 0 = λ role. Holds (Waits c steps) e.id role → Holds (Waits c steps_then) e.id (role_after_reception from u.payload role) in
          let own : Q e.role = subst Q (sym b.role) (λ (waits : Waits c steps e.id (let s : Queues = b.s in s.inbox)). waits-queued c step steps e.id (let s : Queues = b.s in s.inbox) w refl comes waits) in
          subst P (sym (queued-change old.sockets source u queued))
          (record {
            gives = on.gives;
            inboxes = found-hold (Waits c steps) (Waits c steps_then) test (role_after_reception from u.payload) 0 old.sockets.last_id old.sockets.entries e ids found
                (λ x apart holds. holds-more (Waits c steps) (Waits c steps_then) x.id x.role (λ inbox waits. waits-on c step steps x.id inbox refl waits) holds) own stands.inboxes;
            pool = gathered;
            kept = on.kept;
          })

  user-comes : (pool : PoolView) (lately : List Finished) (source : Addr) (u : UserDatagram) (quote : List ℕ) → AreGathered c steps_then pool.places → CameWhole c source u step steps ⊎ WasPutTogether c source u step steps
      → (to : Reception) → reception old.sockets u ≡ to → Stands c steps_then (after_user_datagram to (record { interface = old.interface; sockets = old.sockets; pool = pool; lately = lately }) moment source u quote)
  user-comes pool lately source u quote gathered came socket.Queued is = user-queued old.interface pool lately source u gathered came is
  user-comes pool lately source u quote gathered came socket.NoRoom is = record { gives = on.gives; inboxes = on.inboxes; pool = gathered; kept = on.kept }
  user-comes pool lately source u quote gathered came socket.NoSocket is = record { gives = on.gives; inboxes = on.inboxes; pool = gathered; kept = on.kept }

  -- A fragment.

  module _ (d : Datagram) (is : heard_by old octets ≡ Ok (UdpFragment d)) where
    brought : IsBrought c (UdpFragment d) moment.0 step steps
    brought = brings (UdpFragment d) is

    payload-comes : (pool : PoolView) (lately : List Finished) (payload quote : List ℕ) → AreGathered c steps_then pool.places → IsMade c steps d payload → (read : Result UserDatagram UdpFault) → datagram_or_fault d.source d.destination payload ≡ read
        → Stands c steps_then (after_payload read (record { interface = old.interface; sockets = old.sockets; pool = pool; lately = lately }) moment d.source quote)
    payload-comes pool lately payload quote gathered made (Err fault) spells = record { gives = on.gives; inboxes = on.inboxes; pool = gathered; kept = on.kept }
    payload-comes pool lately payload quote gathered made (Ok u) spells =
        let put : WasPutTogether c d.source u step steps = record {
          fragments = made.fragments;
          last = d;
          since = made.since;
          moment = moment.0;
          came = made.came;
          brought = brought;
          one = all-more (λ (f : Datagram). key_of f ≡ key_of d) (λ (f : Datagram). AreOfOne f d) (λ f same. record { source = ap (λ (k : Key). k.source) same; destination = ap (λ (k : Key). k.destination) same; protocol = ap (λ (k : Key). k.protocol.0) same; identification = ap (λ (k : Key). k.identification) same }) made.fragments made.one_key;
          from = refl;
          payload = payload;
          whole = made.whole;
          spells = spells;
          young = made.young;
        } in
        user-comes pool lately d.source u (take 68 quote) gathered (inr put) (reception old.sockets u) refl

    outcome-comes : (pool : PoolView) → AreGathered c steps_then pool.places → (o : Outcome) → IsLeft c step steps moment d brought refl o → Stands c steps_then (after_outcome o (with_pool old pool) moment d)
    outcome-comes pool gathered (Goes r) left = record { gives = on.gives; inboxes = on.inboxes; pool = gathered; kept = on.kept }
    outcome-comes pool gathered GivesUp left = record { gives = on.gives; inboxes = on.inboxes; pool = gathered; kept = on.kept }
    outcome-comes pool gathered (Completes payload quote) left =
        let noted : HostView = with_noted (with_pool old pool) moment d in
        payload-comes pool noted.lately payload quote gathered left (datagram_or_fault d.source d.destination payload) refl

    fragment-comes : (answer : Result (Unit {0}) DropCause) (place : Option ℕ) (late : Bool) → place_for d (pool_for old.sockets.manner.guards d old.pool) ≡ place
        → MeetsFragment (option_map (outcome_at moment d (pool_for old.sockets.manner.guards d old.pool)) place) late old moment d answer new → Stands c steps_then new
    fragment-comes answer None late at met = to-new c steps_then old new met.1 on
    fragment-comes answer (Some i) true at met = to-new c steps_then old new met.1 on
    fragment-comes answer (Some i) false at met =
        let room : PoolView = pool_for old.sockets.manner.guards d old.pool in
        let gathered : AreGathered c steps room.places = made-room c steps old.sockets.manner.guards d old.pool stands.pool in
        to-new c steps_then (after_outcome (outcome_at moment d room i) (with_pool old (after_take moment d room)) moment d) new met.1
        (outcome-comes (after_take moment d room) (after-taking c step steps moment d brought refl room gathered) (outcome_at moment d room i) (outcome-left c step steps moment d brought refl room i gathered at))

  -- A segment.

  segment-comes : (source : Addr) (s : Segment) (answer : Result (Unit {0}) DropCause) → MeetsSegment (segment_arrival old moment isn source s) old moment source answer new → Stands c steps_then new
  segment-comes source s answer met = by_arrival (arrival old.sockets moment isn source s) refl met
    where
      hears : Stands c steps_then (with_sockets old (after_arrival old.sockets (arrival old.sockets moment isn source s)))
      hears = table-on c steps_then old (table.Hears moment isn source s) tt on

      becomes : (next : SocketsView) → after_arrival old.sockets (arrival old.sockets moment isn source s) ≡ next → Stands c steps_then (with_sockets old next)
      becomes next is = subst (λ (w : SocketsView). Stands c steps_then (with_sockets old w)) is hears

      opened : (next : SocketsView) → arrival old.sockets moment isn source s ≡ Opens next → (r : Result (Unit {0}) DropCause) → MeetsSegment (Opens next) old moment source r new → Stands c steps_then new
      opened next is (Ok done) met = to-new c steps_then (with_sockets old next) new met (becomes next (ap (after_arrival old.sockets) is))
      opened next is (Err cause) met = to-new c steps_then old new met.1 on

      by_route : (next : SocketsView) → arrival old.sockets moment isn source s ≡ Opens next → (routed : Bool) → MeetsSegment (arrival_by_route routed (Opens next)) old moment source answer new → Stands c steps_then new
      by_route next is true met = opened next is answer met
      by_route next is false met = to-new c steps_then old new met.1 on

      by_arrival : (a : Arrival) → arrival old.sockets moment isn source s ≡ a → MeetsSegment (arrival_by_route (is_routed old.interface source) a) old moment source answer new → Stands c steps_then new
      by_arrival (Becomes next) is met = to-new c steps_then (with_sockets old next) new met.1 (becomes next (ap (after_arrival old.sockets) is))
      by_arrival (Opens next) is met = by_route next is (is_routed old.interface source) met
      by_arrival NoRoomInTable is met = to-new c steps_then old new met.1 on
      by_arrival (Answers head) is met = to-new c steps_then _ new met.1 (side-on c steps_then old _ on)

  -- A message.

  message-comes : (told : Told) (m : Control) (answer : Result (Unit {0}) DropCause) → MeetsMessage told old moment m answer new → Stands c steps_then new
  message-comes AsksForEcho m answer met = to-new c steps_then _ new met.1 (side-on c steps_then old _ on)
  message-comes (Refuses quote) m answer met = to-new c steps_then _ new met.1 (table-on c steps_then old (table.Unreachable quote.source quote.destination quote.number) tt on)
  message-comes TellsNothing m answer met = to-new c steps_then old new met.1 on

  heard-on : (answer : Result (Unit {0}) DropCause) (m : Result Meaning DropCause) → heard_by old octets ≡ m → MeetsHeard m old moment isn answer new → Stands c steps_then new
  heard-on answer (Ok (Arp packet)) is met = to-new c steps_then _ new met.1 (side-on c steps_then old _ on)
  heard-on answer (Ok (Tcp r)) is met = segment-comes r.source r.segment answer met
  heard-on answer (Ok (Icmp m)) is met = message-comes (told_by m.message) m answer met
  heard-on answer (Ok (Udp r)) is met =
      let whole : CameWhole c r.carrier.source r.datagram step steps = record { carrier = r.carrier; moment = moment.0; brought = brings (Udp r) is; from = refl } in
      to-new c steps_then _ new met.1 (user-comes old.pool old.lately r.carrier.source r.datagram _ on.pool (inl whole) (reception old.sockets r.datagram) refl)
  heard-on answer (Ok (UdpFragment d)) is met = fragment-comes d is answer (place_for d (pool_for old.sockets.manner.guards d old.pool)) (is_late_copy old moment d) refl met
  heard-on answer (Ok (Other d)) is met = to-new c steps_then _ new met.1 (side-on c steps_then old _ on)
  heard-on answer (Err cause) is met = to-new c steps_then old new met.1 on

-- Any event.

stands-on : (c : ConfigView) (steps : List Step) (event : Event) (old new : HostView) → IsAsked c event → AreAscending 0 old.sockets.last_id old.sockets.entries → old.interface.mac ≡ c.mac → old.interface.addr ≡ c.addr → Makes event old new → Stands c steps old
    → Stands c (record { before = old; event = event; after = new } ∷ steps) new
stands-on c steps (Calls call) old new asked ids mac addr makes stands = called c steps call old new asked ids makes stands
stands-on c steps (Ticks now) old new asked ids mac addr makes stands = ticked-on c steps now old new makes stands
stands-on c steps (Delivers now isn octets) old new asked ids mac addr makes stands =
    let same : heard c.mac c.addr octets ≡ heard old.interface.mac old.interface.addr octets =
    ap (λ (m : Mac). heard m c.addr octets) (sym mac) ∙ ap (λ (a : Addr). heard old.interface.mac a octets) (sym addr) in
    heard-on c steps old new now isn octets ids stands (λ meaning is. same ∙ meant_by old octets meaning is) makes.0 (heard_by old octets) refl makes.1
stands-on c steps (Emits now) old new asked ids mac addr makes stands =
    let step : Step = record { before = old; event = Emits now; after = new } in
    let moment : Moment = later_moment old.sockets now in
    to-new c (step ∷ steps) (left_by old moment (emission old moment)) new makes (emitted-on c (step ∷ steps) old moment (emission old moment) (quiet-on c step steps old (λ id. refl) refl stands))

-- any that may be asked of a host that came so far
pub gives_on : (c : ConfigView) (before : List Event) (event : Event) (old new : HostView) (ran : Runs c before old) → IsAsked c event → Makes event old new → Stands c (history ran) old
    → Stands c (record { before = old; event = event; after = new } ∷ history ran) new
gives_on c before event old new ran asked makes stands =
    let ordered = run-ordered c before old ran in
    let set_up = run-stands c before old ran in
    let side = set_up.interface in
    stands-on c (history ran) event old new asked ordered.ids side.mac side.addr makes stands

pub begins_so : (c : ConfigView) → Stands c [] (new_host c)
begins_so c = record { gives = λ id. record { came = []; in_order = tt; fronts = tt }; inboxes = tt; pool = none-gathered c c.sizes.reassemblies; kept = refl }

-- any list of events
pub stands_so : (c : ConfigView) (events : List Event) (h : HostView) (run : Runs c events h) → AllByRecursion (IsAsked c) events → Stands c (history run) h
stands_so c _ _ Begins asked = begins_so c
stands_so c _ _ (GoesOn before event old new ran sound small makes) asked =
    let both = parted (IsAsked c) before event asked in gives_on c before event old new ran both.1 makes (stands_so c before old ran both.0)

pub datagrams_given : (c : ConfigView) (events : List Event) (h : HostView) (run : Runs c events h) → AllByRecursion (IsAsked c) events → (id : SocketId) → GivesWhatCame c id (history run)
datagrams_given c events h run asked = let stands = stands_so c events h run asked in stands.gives
