-- The deadline, and that a tick before it changes nothing where no neighbour is forgotten.
use Rattle.std.proofs.Common.{◌≡◌, ℕ, ◌+◌, drop, ◌<◌, ◌≤◌, ◌&&◌, ◌||◌, not, nat_lt, Bool, true, false, cond, List, [], ◌∷◌, filter, fold, length, Option, Some, None, IfSome, is_some, option_map, refl, sym, ◌∙◌, ap, arith}
use Rattle.std.specs.List.{find, list_any, slice_get, AllByRecursion}
use Rattle.std.proofs.lemmas.Bool.Decides.{nat_tests}
use Rattle.ipv4.specs.declared.addr.Addr.{Addr}
use Rattle.ipv4.specs.declared.addr.Endpoint.{Endpoint}
use Rattle.clock.specs.declared.moment.Moment.{Moment}
use Rattle.clock.specs.Moments.{after, has_come, sooner}
use Rattle.clock.proofs.Comings.{sooner-has_come}
use Rattle.arp.specs.declared.entry.Neighbour.{Neighbour}
use Rattle.arp.specs.Cache.{Cache, after_age, is_live_pair, is_pair_of}
use Rattle.arp.proofs.History.{length-filter-le}
use Rattle.interface.specs.declared.reply.Waiting.{Waiting}
use Rattle.interface.specs.InterfaceView.{InterfaceView}
use Rattle.interface.specs.Routing.{next_hop}
use Rattle.interface.specs.Ways.{knows_hop, mac_of}
use Rattle.interface.specs.Timing.{asked_until, deadline_for, deadline_of, end_of, is_over, is_unknown, sought, stays, after_tick as interface_after_tick, least_deadline as reply_deadline}
use Rattle.reassembly.specs.Places.{after_age as pool_after_age, expired, next_deadline as pool_deadline}
use Rattle.reassembly.specs.Reassembly.{PoolView}
use Rattle.reassembly.proofs.Soonest.{nothing_before}
use Rattle.sockets.specs.declared.entry.Entry.{Entry}
use Rattle.sockets.specs.declared.entry.SocketId.{SocketId}
use Rattle.sockets.specs.declared.role.Role.{Role}
use Rattle.sockets.specs.declared.role.Role.TheVariants.{Idle, Listener, Connected, Datagrams}
use Rattle.clock.specs.declared.moment.TheConstants.{HOP_WAIT}
use Rattle.sockets.specs.declared.emission.Outgoing.{Outgoing}
use Rattle.sockets.specs.Entries.{dues_of, entries_after_steps, is_kept, with_role}
use Rattle.sockets.specs.Lost.{after_giving_up, give_up_at, give_up_fate_of, role_after_giving_up, waits_until}
use Rattle.sockets.proofs.Followed.{by_test as by_either}
use Rattle.tcp_state.specs.Hop.{unheard_until}
use Rattle.sockets.specs.SocketsView.{SocketsView, later_moment}
use Rattle.sockets.specs.Ticks.{after_tick as sockets_after_tick, least_deadline as timer_deadline}
use Rattle.sockets.proofs.Deadlines.{tick_waits}
use Rattle.tcp_state.specs.View.{View}
use Rattle.udp_socket.specs.SocketView.{Outgoing as OutDatagram, SocketView}
use Rattle.udp_socket.specs.Waits.{after_giving_up as datagrams_after, deadline, deadline_of as datagram_deadline, is_given_up as is_datagram_given_up, parts_left}
use Rattle.host.specs.HostView.{HostView, with_sockets}
use Rattle.host.proofs.Emitting.{from-place, past-place}
use Rattle.host.specs.Ticks.{after_tick, all_reported, hop_deadline, lacks_hop, least_deadline, request_deadline, table_after_tick}

-- Tests and lists.

or-false : (b : Bool) → b ≡ (b || false)
or-false true = refl
or-false false = refl

or-assoc : (a b c : Bool) → ((a || b) || c) ≡ (a || (b || c))
or-assoc true b c = refl
or-assoc false b c = refl

neither : (a b : Bool) → (a || b) ≡ false → (a ≡ false) × (b ≡ false)
neither true b e = cc
neither false b e = (refl, e)

none-of : {X : Type 0} (p : X → Bool) (xs : List X) → list_any p xs ≡ false → AllByRecursion (λ (x : X). p x ≡ false) xs
none-of p [] e = tt
none-of p (x ∷ xs) e = let two = neither (p x) (list_any p xs) e in (two.0, none-of p xs two.1)

all-kept : {X : Type 0} (p : X → Bool) (xs : List X) → AllByRecursion (λ (x : X). p x ≡ true) xs → filter p xs ≡ xs
all-kept p [] all = refl
all-kept p (x ∷ xs) all = ap (λ b. cond b (x ∷ filter p xs) (filter p xs)) all.0 ∙ ap (λ ys. x ∷ ys) (all-kept p xs all.1)

kept-all : {X : Type 0} (p : X → Bool) (xs : List X) → filter p xs ≡ xs → AllByRecursion (λ (x : X). p x ≡ true) xs
kept-all p [] e = tt
kept-all {X} p (x ∷ xs) e = by_test (p x) refl (kept-all p xs) e
  where
    by_test : (b : Bool) → p x ≡ b → (filter p xs ≡ xs → AllByRecursion (λ (y : X). p y ≡ true) xs) → cond b (x ∷ filter p xs) (filter p xs) ≡ x ∷ xs → AllByRecursion (λ (y : X). p y ≡ true) (x ∷ xs)
    by_test true is further same = let rest : filter p xs ≡ xs = cc in (is, further rest)
    by_test false is further same = absurd (omega (arith, length-filter-le p xs, ap length same))

-- The least deadline.

pub fold-come : {X : Type 0} (f : X → Option Moment) (first : Option Moment) (xs : List X) (now : Moment)
    → has_come (fold (λ least x. sooner least (f x)) first xs) now ≡ (has_come first now || list_any (λ x. has_come (f x) now) xs)
fold-come f first [] now = or-false (has_come first now)
fold-come f first (x ∷ xs) now =
    fold-come f (sooner first (f x)) xs now
    ∙ ap (λ b. b || list_any (λ y. has_come (f y) now) xs) (sooner-has_come first (f x) now)
    ∙ or-assoc (has_come first now) (has_come (f x) now) (list_any (λ y. has_come (f y) now) xs)

pub deadline-come : (h : HostView) (now : Moment) → has_come (least_deadline h) now
    ≡ (has_come (timer_deadline h.sockets) now || has_come (reply_deadline h.interface h.sockets.kept) now || has_come (pool_deadline h.pool) now || list_any (λ e. has_come (hop_deadline h e) now) h.sockets.entries)
deadline-come h now =
    let sides : Option Moment = sooner (timer_deadline h.sockets) (reply_deadline h.interface h.sockets.kept) in
    let hops : Bool = list_any (λ e. has_come (hop_deadline h e) now) h.sockets.entries in
    fold-come (hop_deadline h) (sooner sides (pool_deadline h.pool)) h.sockets.entries now
    ∙ ap (λ b. b || hops) (sooner-has_come sides (pool_deadline h.pool) now)
    ∙ ap (λ b. (b || has_come (pool_deadline h.pool) now) || hops) (sooner-has_come (timer_deadline h.sockets) (reply_deadline h.interface h.sockets.kept) now)

-- the least moment of the requests for these, from a first one on
abbrev pub requests_from : HostView → Option Moment → List (Endpoint × Outgoing) → Option Moment
requests_from h first dues = fold (λ least due. sooner least (asked_until h.interface h.sockets.kept due.0.addr)) first dues

pub requests_here : (h : HostView) (least : Option Moment) (dues : List (Endpoint × Outgoing)) (n : ℕ) (due : Endpoint × Outgoing) → requests_from h None dues ≡ requests_from h least (drop n dues) → slice_get dues n ≡ Some due
    → requests_from h None dues ≡ requests_from h (sooner least (asked_until h.interface h.sockets.kept due.0.addr)) (drop (n + 1) dues)
requests_here h least dues n due so_far at = so_far ∙ ap (requests_from h least) (from-place dues n due at)

pub requests_past : (h : HostView) (least : Option Moment) (dues : List (Endpoint × Outgoing)) (n : ℕ) → requests_from h None dues ≡ requests_from h least (drop n dues) → slice_get dues n ≡ None → requests_from h None dues ≡ least
requests_past h least dues n so_far none = so_far ∙ ap (requests_from h least) (past-place dues n none)

pub none-left : {X : Type 0} (o : Option X) → ((x : X) → o ≡ Some x → ⊥) → o ≡ None
none-left None never = refl
none-left (Some x) never = absurd (never x refl)

-- Moments.

-- the later of a moment and the kept one isn't before that one, and is the later of itself and it
not-before : (t : SocketsView) (now : Moment) → t.kept.0 ≤ (let later = later_moment t now in later.0)
not-before t now = by_test (nat_lt t.kept.0 now.0) refl
  where
    by_test : (b : Bool) → nat_lt t.kept.0 now.0 ≡ b → t.kept.0 ≤ (let later : Moment = cond b now t.kept in later.0)
    by_test true is = grind (arith, nat_tests, is)
    by_test false is = omega arith

pub later-twice : (t : SocketsView) (now : Moment) → later_moment t (later_moment t now) ≡ later_moment t now
later-twice t now = by_test (nat_lt t.kept.0 now.0) refl
  where
    kept-stays : (b : Bool) → ◌≡◌ {A = Moment} (cond b t.kept t.kept) t.kept
    kept-stays true = refl
    kept-stays false = refl

    by_test : (b : Bool) → nat_lt t.kept.0 now.0 ≡ b → later_moment t (cond b now t.kept) ≡ cond b now t.kept
    by_test true is = ap (λ (c : Bool). cond c now t.kept) is
    by_test false is = kept-stays (nat_lt t.kept.0 t.kept.0)

later-own : (t : SocketsView) (m : Moment) → later_moment (record t { kept = m }) m ≡ m
later-own t m = by_test (nat_lt m.0 m.0)
  where
    by_test : (b : Bool) → ◌≡◌ {A = Moment} (cond b m m) m
    by_test true = refl
    by_test false = refl

-- Neighbours of which none is forgotten.

live-before : (kept moment : Moment) (pair : Neighbour) → kept.0 ≤ moment.0 → is_live_pair moment pair ≡ true → is_live_pair kept pair ≡ true
live-before kept moment pair order live = grind (arith, nat_tests, live, order)

found-alike : (kept moment : Moment) (addr : Addr) (pairs : List Neighbour) → kept.0 ≤ moment.0 → AllByRecursion (λ (pair : Neighbour). is_live_pair moment pair ≡ true) pairs
    → find (λ (pair : Neighbour). is_pair_of addr pair && is_live_pair moment pair) pairs ≡ find (λ (pair : Neighbour). is_pair_of addr pair && is_live_pair kept pair) pairs
found-alike kept moment addr [] order all = refl
found-alike kept moment addr (pair ∷ pairs) order all =
    let live : is_live_pair moment pair ≡ is_live_pair kept pair = all.0 ∙ sym (live-before kept moment pair order all.0) in
    let further = found-alike kept moment addr pairs order all.1 in
    ap (λ b. cond (is_pair_of addr pair && b) (Some pair) (find (λ (pair : Neighbour). is_pair_of addr pair && is_live_pair moment pair) pairs)) live
    ∙ ap (λ o. cond (is_pair_of addr pair && is_live_pair kept pair) (Some pair) o) further

-- a hop is known then as it was
known-alike : (i : InterfaceView) (kept moment : Moment) (to : Addr) → kept.0 ≤ moment.0 → after_age moment i.cache ≡ i.cache → knows_hop i moment to ≡ knows_hop i kept to
known-alike i kept moment to order aged = by_hop (next_hop i.routes to)
  where
    all : AllByRecursion (λ (pair : Neighbour). is_live_pair moment pair ≡ true) i.cache.pairs
    all = kept-all (is_live_pair moment) i.cache.pairs (ap (λ (c : Cache). c.pairs) aged)

    by_hop : (hop : Option Addr) → is_some (mac_of moment i.cache hop) ≡ is_some (mac_of kept i.cache hop)
    by_hop None = refl
    by_hop (Some hop) = ap (λ (o : Option Neighbour). is_some (option_map (λ (pair : Neighbour). pair.mac) o)) (found-alike kept moment hop i.cache.pairs order all)

-- What waits.

-- a reply stays
reply-stays : (i : InterfaceView) (kept moment : Moment) → kept.0 ≤ moment.0 → after_age moment i.cache ≡ i.cache → (w : Waiting) → has_come (deadline_of i kept w) moment ≡ false → stays i moment w ≡ true
reply-stays i kept moment order aged w early = by_sought (sought w.reply) early
  where
    by_known : (to : Addr) (then now : Bool) → then ≡ now → has_come (cond now None (sooner (Some (end_of w)) (asked_until i kept to))) moment ≡ false → not (not then && is_over moment w) ≡ true
    by_known to true now same e = refl
    by_known to false true same e = cc
    by_known to false false same e =
        let two = neither (has_come (Some (end_of w)) moment) (has_come (asked_until i kept to) moment) (sym (sooner-has_come (Some (end_of w)) (asked_until i kept to) moment) ∙ e) in
        ap not two.0

    by_sought : (o : Option Addr) → has_come (deadline_for i kept (end_of w) o) moment ≡ false → not (is_unknown i.routes i.cache moment o && is_over moment w) ≡ true
    by_sought None e = refl
    by_sought (Some to) e = by_known to (knows_hop i moment to) (knows_hop i kept to) (known-alike i kept moment to order aged) e

replies-stay : (i : InterfaceView) (kept moment : Moment) → kept.0 ≤ moment.0 → after_age moment i.cache ≡ i.cache → (ws : List Waiting) → AllByRecursion (λ (w : Waiting). has_come (deadline_of i kept w) moment ≡ false) ws
    → AllByRecursion (λ (w : Waiting). stays i moment w ≡ true) ws
replies-stay i kept moment order aged [] all = tt
replies-stay i kept moment order aged (w ∷ ws) all = (reply-stays i kept moment order aged w all.0, replies-stay i kept moment order aged ws all.1)

-- What has waited for less long than it may isn't given up.

and-false : (b : Bool) → (b && false) ≡ false
and-false true = refl
and-false false = refl

goes-on : (over moment : Moment) (then now : Bool) → then ≡ now → has_come (cond (not now) (Some over) None) moment ≡ false → (has_come (Some over) moment && not then) ≡ false
goes-on over moment true now same e = and-false (has_come (Some over) moment)
goes-on over moment false true same e = cc
goes-on over moment false false same e = ap (λ b. b && true) e

-- a connection, with its reset or with what takes numbers
connected-stays : (h : HostView) (moment : Moment) → h.sockets.kept.0 ≤ moment.0 → after_age moment h.interface.cache ≡ h.interface.cache → (c : View) (l : Option SocketId)
    → has_come (give_up_at (lacks_hop h h.sockets.kept) (Connected c l)) moment ≡ false
    → (is_kept (give_up_fate_of (lacks_hop h moment) moment (Connected c l)) ≡ true) × (role_after_giving_up (lacks_hop h moment) moment (Connected c l) ≡ Connected c l)
connected-stays h moment order aged c l early =
    let alike = known-alike h.interface h.sockets.kept moment c.peer.addr order aged in
    by_either (knows_hop h.interface moment c.peer.addr)
    (λ known. by_either c.owes_reset
    (λ owes. rw (owes, known, and-false (has_come (Some (after c.since HOP_WAIT)) moment)) (refl, refl))
    (λ other. rw (other, known) (refl, refl)))
    (λ unknown.
    let unknown_then : knows_hop h.interface h.sockets.kept c.peer.addr ≡ false = sym alike ∙ unknown in
    let waits : has_come (waits_until c) moment ≡ false = rw unknown_then at early in
    by_either c.owes_reset
    (λ owes. let reset : has_come (Some (after c.since HOP_WAIT)) moment ≡ false = rw owes at waits in rw (owes, reset) (refl, refl))
    (λ other. let numbers : has_come (unheard_until c) moment ≡ false = rw other at waits in rw (other, unknown, numbers) (refl, refl)))

-- the datagrams of a UDP socket
datagrams-stay : (h : HostView) (moment : Moment) → h.sockets.kept.0 ≤ moment.0 → after_age moment h.interface.cache ≡ h.interface.cache → (os : List OutDatagram)
    → AllByRecursion (λ (o : OutDatagram). has_come (datagram_deadline (lacks_hop h h.sockets.kept) o) moment ≡ false) os
    → AllByRecursion (λ (o : OutDatagram). not (is_datagram_given_up (lacks_hop h moment) moment o) ≡ true) os
datagrams-stay h moment order aged [] all = tt
datagrams-stay h moment order aged (o ∷ os) all =
    let here = goes-on (after o.since HOP_WAIT) moment (knows_hop h.interface moment o.peer.addr) (knows_hop h.interface h.sockets.kept o.peer.addr)
    (known-alike h.interface h.sockets.kept moment o.peer.addr order aged) all.0 in
    (ap not here, datagrams-stay h moment order aged os all.1)

parts-stay : (lost : Addr → Bool) (moment : Moment) (os : List OutDatagram) (parts : ℕ) → AllByRecursion (λ (o : OutDatagram). not (is_datagram_given_up lost moment o) ≡ true) os → parts_left lost moment os parts ≡ parts
parts-stay lost moment [] parts all = refl
parts-stay lost moment (o ∷ os) parts all = by_test (is_datagram_given_up lost moment o) all.0
  where
    by_test : (b : Bool) → not b ≡ true → cond b 0 parts ≡ parts
    by_test true e = cc
    by_test false e = refl

socket-stays : (h : HostView) (moment : Moment) → h.sockets.kept.0 ≤ moment.0 → after_age moment h.interface.cache ≡ h.interface.cache → (s : SocketView)
    → has_come (deadline (lacks_hop h h.sockets.kept) s) moment ≡ false → datagrams_after s (lacks_hop h moment) moment ≡ s
socket-stays h moment order aged s early =
    let waiting = none-of (λ o. has_come (datagram_deadline (lacks_hop h h.sockets.kept) o) moment) s.outbox (sym (fold-come (datagram_deadline (lacks_hop h h.sockets.kept)) None s.outbox moment) ∙ early) in
    let all = datagrams-stay h moment order aged s.outbox waiting in
    let kept : filter (λ (o : OutDatagram). not (is_datagram_given_up (lacks_hop h moment) moment o)) s.outbox ≡ s.outbox =
    all-kept (λ (o : OutDatagram). not (is_datagram_given_up (lacks_hop h moment) moment o)) s.outbox all in
    let parts : parts_left (lacks_hop h moment) moment s.outbox s.parts ≡ s.parts = parts-stay (lacks_hop h moment) moment s.outbox s.parts all in
    λ k. record s { outbox = kept k; parts = parts k }

-- an entry
role-stays : (h : HostView) (moment : Moment) → h.sockets.kept.0 ≤ moment.0 → after_age moment h.interface.cache ≡ h.interface.cache → (role : Role)
    → has_come (give_up_at (lacks_hop h h.sockets.kept) role) moment ≡ false
    → (is_kept (give_up_fate_of (lacks_hop h moment) moment role) ≡ true) × (role_after_giving_up (lacks_hop h moment) moment role ≡ role)
role-stays h moment order aged (Idle buffers bound) early = (refl, refl)
role-stays h moment order aged (Listener local backlog) early = (refl, refl)
role-stays h moment order aged (Connected c l) early = connected-stays h moment order aged c l early
role-stays h moment order aged (Datagrams bound socket) early = (refl, ap (λ (s : SocketView). Datagrams bound s) (socket-stays h moment order aged socket early))

entries-stay : (h : HostView) (moment : Moment) → h.sockets.kept.0 ≤ moment.0 → after_age moment h.interface.cache ≡ h.interface.cache → (entries : List Entry)
    → AllByRecursion (λ (e : Entry). has_come (hop_deadline h e) moment ≡ false) entries
    → entries_after_steps (give_up_fate_of (lacks_hop h moment) moment) (role_after_giving_up (lacks_hop h moment) moment) entries ≡ entries
entries-stay h moment order aged [] all = refl
entries-stay h moment order aged (e ∷ es) all =
    let two = neither (has_come (give_up_at (lacks_hop h h.sockets.kept) e.role) moment) (has_come (request_deadline h (dues_of e.role)) moment)
    (sym (sooner-has_come (give_up_at (lacks_hop h h.sockets.kept) e.role) (request_deadline h (dues_of e.role)) moment) ∙ all.0) in
    let here = role-stays h moment order aged e.role two.0 in
    let test = here.0 in
    let same : with_role (role_after_giving_up (lacks_hop h moment) moment) e ≡ e = ap (λ (r : Role). let x : Entry = record e { role = r } in x) here.1 in
    rw test (ap (λ (x : Entry). x ∷ entries_after_steps (give_up_fate_of (lacks_hop h moment) moment) (role_after_giving_up (lacks_hop h moment) moment) es) same
    ∙ ap (λ (xs : List Entry). e ∷ xs) (entries-stay h moment order aged es all.1))

-- the pool
before : (next moment : Moment) → has_come (Some next) moment ≡ false → moment.0 < next.0
before next moment early = grind (arith, nat_tests, early)

pool-stays : (pool : PoolView) (moment : Moment) → has_come (pool_deadline pool) moment ≡ false → (pool_after_age moment pool ≡ pool) × (expired moment pool ≡ [])
pool-stays pool moment early = nothing_before pool moment (by_next (pool_deadline pool) early)
  where
    by_next : (o : Option Moment) → has_come o moment ≡ false → IfSome o (λ (next : Moment). moment.0 < next.0)
    by_next None e = tt
    by_next (Some next) e = before next moment e

-- A tick.

pub tick-waits : (h : HostView) (now : Moment) → let moment = later_moment h.sockets now in has_come (least_deadline h) moment ≡ false → after_age moment h.interface.cache ≡ h.interface.cache
    → after_tick h now ≡ with_sockets h (record h.sockets { kept = moment })
tick-waits h now early aged =
    let moment : Moment = later_moment h.sockets now in
    let order : h.sockets.kept.0 ≤ moment.0 = not-before h.sockets now in
    let timer : Bool = has_come (timer_deadline h.sockets) moment in
    let reply : Bool = has_come (reply_deadline h.interface h.sockets.kept) moment in
    let aging : Bool = has_come (pool_deadline h.pool) moment in
    let hops : Bool = list_any (λ e. has_come (hop_deadline h e) moment) h.sockets.entries in
    let waits = neither (timer || reply || aging) hops (sym (deadline-come h moment) ∙ early) in
    let sides = neither (timer || reply) aging waits.0 in
    let fronts = neither timer reply sides.0 in
    let table : SocketsView = record h.sockets { kept = moment } in
    let timers : sockets_after_tick h.sockets moment ≡ table =
    tick_waits h.sockets moment (ap (has_come (timer_deadline h.sockets)) (later-twice h.sockets now) ∙ fronts.0) ∙ ap (λ (m : Moment). let t : SocketsView = record h.sockets { kept = m } in t) (later-twice h.sockets now) in
    let kept-on : entries_after_steps (give_up_fate_of (lacks_hop h moment) moment) (role_after_giving_up (lacks_hop h moment) moment) h.sockets.entries ≡ h.sockets.entries =
    entries-stay h moment order aged h.sockets.entries (none-of (λ e. has_come (hop_deadline h e) moment) h.sockets.entries waits.1) in
    let given_up : after_giving_up table (lacks_hop h moment) moment ≡ table =
    ap (λ (m : Moment). let t : SocketsView = record table { entries = entries_after_steps (give_up_fate_of (lacks_hop h moment) m) (role_after_giving_up (lacks_hop h moment) m) table.entries } in t) (later-own h.sockets moment)
    ∙ ap (λ (es : List Entry). let t : SocketsView = record table { entries = es } in t) kept-on in
    let waiting = none-of (λ w. has_come (deadline_of h.interface h.sockets.kept w) moment) h.interface.replies (sym (fold-come (deadline_of h.interface h.sockets.kept) None h.interface.replies moment) ∙ fronts.1) in
    let replies : filter (stays h.interface moment) h.interface.replies ≡ h.interface.replies =
    all-kept (stays h.interface moment) h.interface.replies (replies-stay h.interface h.sockets.kept moment order aged h.interface.replies waiting) in
    let own : interface_after_tick h.interface moment ≡ h.interface = λ k. record h.interface { cache = aged k; replies = replies k } in
    let pool = pool-stays h.pool moment sides.1 in
    let side : all_reported moment (interface_after_tick h.interface moment) (expired moment h.pool) ≡ h.interface =
    ap (all_reported moment (interface_after_tick h.interface moment)) pool.1 ∙ own in
    let tables : table_after_tick h moment ≡ table = ap (λ (t : SocketsView). after_giving_up t (lacks_hop h moment) moment) timers ∙ given_up in
    λ k. record { interface = side k; sockets = tables k; pool = pool.0 k; lately = h.lately }
