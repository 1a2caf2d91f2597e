-- What is due comes up: a frame can go out for it, or the host is woken when its hop may be asked for again.
use Rattle.std.proofs.Common.{◌≡◌, ◌⊎◌, inl, inr, ℕ, zero, suc, ◌<◌, ◌≤◌, ◌||◌, not, Bool, true, false, cond, List, [], ◌∷◌, ◌++◌, Contains, slice_index_or, length, map, Option, Some, None, IsTrue, is_some, option_map, refl, sym, ◌∙◌, ap, subst, arith}
use Rattle.std.specs.List.{find, flat_map, list_any, slice_get}
use Rattle.std.proofs.lemmas.Bool.Decides.{nat_tests}
use Rattle.std.proofs.lemmas.List.Concat.{flat_map-cons}
use Rattle.std.proofs.lemmas.List.Elements.{Contains-append_cases, Contains-append_left, Contains-append_right}
use Rattle.ether.specs.declared.mac.Mac.{Mac}
use Rattle.ipv4.specs.declared.addr.Addr.{Addr}
use Rattle.ipv4.specs.declared.addr.Endpoint.{Endpoint}
use Rattle.clock.specs.declared.moment.Moment.{Moment}
use Rattle.clock.specs.declared.moment.TheConstants.{HOP_WAIT}
use Rattle.clock.specs.Moments.{after, has_come, sooner}
use Rattle.clock.proofs.Comings.{sooner-has_come}
use Rattle.arp.specs.Cache.{look, may_ask}
use Rattle.arp.specs.Waits.{next_ask}
use Rattle.routes.specs.declared.route.Route.{Route}
use Rattle.interface.specs.declared.reply.Reply.{Reply}
use Rattle.interface.specs.declared.reply.Reply.TheVariants.{Arp, Reset, Echo, Error}
use Rattle.interface.specs.declared.reply.Waiting.{Waiting}
use Rattle.interface.specs.declared.way.Way.TheVariants.{Ask, Waits}
use Rattle.interface.specs.InterfaceView.{InterfaceView}
use Rattle.interface.specs.Replies.{goes_out, way_of}
use Rattle.interface.specs.Routing.{next_hop}
use Rattle.interface.specs.Timing.{asked_until, asked_until_over, deadline_for, deadline_of, end_of as reply_end, sought, least_deadline as reply_deadline}
use Rattle.interface.specs.Ways.{is_routed, knows_hop, mac_of, way, way_by_mac, way_over}
use Rattle.reassembly.specs.Places.{next_deadline as pool_deadline}
use Rattle.sockets.specs.declared.entry.Entry.{Entry}
use Rattle.sockets.specs.declared.entry.SocketId.{SocketId}
use Rattle.sockets.specs.declared.role.Role.{Role}
use Rattle.sockets.specs.declared.role.Role.TheVariants.{Connected, Datagrams}
use Rattle.sockets.specs.declared.emission.Outgoing.{Outgoing}
use Rattle.sockets.specs.declared.emission.Outgoing.TheVariants.{Segment, Datagram}
use Rattle.sockets.specs.Entries.{deadline_of as timer_of, dues_of, segment_due}
use Rattle.sockets.proofs.Emitting.{datagram_at}
use Rattle.sockets.specs.Lost.{give_up_at}
use Rattle.sockets.specs.Sound.{IsSoundRole}
use Rattle.sockets.specs.Ticks.{least_deadline as timer_deadline}
use Rattle.sockets.specs.Timing.{KeepsTimeIn, EachKeepsTime}
use Rattle.tcp_state.specs.declared.emission.Due.{Due}
use Rattle.tcp_state.specs.Due.{first_due}
use Rattle.tcp_state.specs.Positions.{HasToSend, takes_numbers}
use Rattle.tcp_state.specs.Timing.{deadline}
use Rattle.tcp_state.specs.View.{View}
use Rattle.tcp_state.proofs.Waiting.{goes_out as timed_or_due}
use Rattle.udp_socket.specs.SocketView.{Outgoing as OutDatagram, SocketView}
use Rattle.udp_socket.specs.Waits.{deadline_of as datagram_deadline_of}
use Rattle.host.specs.ComesUp.{address_of, is_on_route, IsAskedFrom, IsHeldAtTheEnd, IsPastAsking, IsWokenBy, IsDueSoon, ComesUp, ConnectionComesUp}
use Rattle.host.specs.HostView.{HostView}
use Rattle.host.specs.Places.{Place, ReplyOf, EntryOf, places, places_of, can_go_out}
use Rattle.host.specs.Runs.{HasRun}
use Rattle.host.specs.Sound.{IsSoundHost}
use Rattle.host.specs.Ticks.{hop_deadline, lacks_hop, least_deadline, request_deadline}
use Rattle.host.proofs.FrameSide.{KeepsSide, run-side}
use Rattle.host.proofs.Tables.{run-timed}
use Rattle.host.proofs.Waiting.{deadline-come, fold-come}
use Rattle.host.proofs.AskedAgain.{or-left, or-right, same-comes, any-of, all-of, mapped-in, in-mapped, asked-from}

-- What can't go out now.

-- its hop isn't known, and may not be asked for
pub record IsHeld (h : HostView) (now : Moment) (to hop : Addr) : Type 0 where
  pub leads : next_hop h.interface.routes to ≡ Some hop
  pub unknown : look now hop h.interface.cache ≡ None
  pub unasked : may_ask now hop h.interface.cache.asked ≡ false

pub held-by : (h : HostView) (now : Moment) (to : Addr) → is_on_route h.interface.routes (Some to) ≡ true → goes_out (way h.interface now to) ≡ false → (hop : Addr) × IsHeld h now to hop
held-by h now to routed held = by_hop (next_hop h.interface.routes to) refl routed
  where
    by_ask : (hop : Addr) → next_hop h.interface.routes to ≡ Some hop → look now hop h.interface.cache ≡ None → (b : Bool) → may_ask now hop h.interface.cache.asked ≡ b
        → goes_out (way_by_mac now h.interface.cache.asked hop None) ≡ false → (hop : Addr) × IsHeld h now to hop
    by_ask hop leads unknown true may goes = let no : true ≡ false = sym (ap (λ (b : Bool). goes_out (cond b (Ask hop) Waits)) may) ∙ goes in cc
    by_ask hop leads unknown false may goes = (hop, record { leads = leads; unknown = unknown; unasked = may })

    by_mac : (hop : Addr) → next_hop h.interface.routes to ≡ Some hop → (o : Option Mac) → look now hop h.interface.cache ≡ o → goes_out (way_by_mac now h.interface.cache.asked hop o) ≡ false
        → (hop : Addr) × IsHeld h now to hop
    by_mac hop leads (Some mac) known goes = cc
    by_mac hop leads None unknown goes = by_ask hop leads unknown (may_ask now hop h.interface.cache.asked) refl goes

    by_hop : (o : Option Addr) → next_hop h.interface.routes to ≡ o → is_some o ≡ true → (hop : Addr) × IsHeld h now to hop
    by_hop None leads is = cc
    by_hop (Some hop) leads is =
        let goes : goes_out (way_by_mac now h.interface.cache.asked hop (look now hop h.interface.cache)) ≡ false = sym (ap (λ (o : Option Addr). goes_out (way_over now h.interface.cache o)) leads) ∙ held in
        by_mac hop leads (look now hop h.interface.cache) refl goes

until-is : (h : HostView) (now : Moment) (to hop : Addr) → IsHeld h now to hop → asked_until h.interface now to ≡ next_ask hop h.interface.cache.asked
until-is h now to hop held =
    ap (asked_until_over h.interface.cache now) held.leads
    ∙ ap (λ (o : Option Mac). cond (is_some o || may_ask now hop h.interface.cache.asked) None (next_ask hop h.interface.cache.asked)) held.unknown
    ∙ ap (λ (b : Bool). cond b None (next_ask hop h.interface.cache.asked)) held.unasked

pub unknown-is : (h : HostView) (now : Moment) (to hop : Addr) → IsHeld h now to hop → knows_hop h.interface now to ≡ false
unknown-is h now to hop held = ap (λ (o : Option Addr). is_some (mac_of now h.interface.cache o)) held.leads ∙ ap (λ (o : Option Mac). is_some o) held.unknown

-- The host is woken.

pub woken : (h : HostView) (m : Moment) → has_come (least_deadline h) m ≡ true → IsWokenBy h m
woken h m come = by_deadline (least_deadline h) refl come
  where
    by_deadline : (o : Option Moment) → least_deadline h ≡ o → has_come o m ≡ true → IsWokenBy h m
    by_deadline None is e = cc
    by_deadline (Some d) is e = let order : d.0 ≤ m.0 = grind (arith, nat_tests, e) in (d, is, order)

-- by a timer
pub timer-wakes : (h : HostView) (e : Entry) (m : Moment) → Contains h.sockets.entries e → timer_of e.role ≡ Some m → IsWokenBy h m
timer-wakes h e m at is =
    let own : has_come (timer_of e.role) m ≡ true = ap (λ (o : Option Moment). has_come o m) is ∙ same-comes m in
    let timers : has_come (timer_deadline h.sockets) m ≡ true =
    fold-come (λ (x : Entry). timer_of x.role) None h.sockets.entries m ∙ any-of (λ (x : Entry). has_come (timer_of x.role) m) h.sockets.entries e at own in
    woken h m (deadline-come h m
    ∙ or-left (has_come (timer_deadline h.sockets) m || has_come (reply_deadline h.interface h.sockets.kept) m || has_come (pool_deadline h.pool) m) (list_any (λ x. has_come (hop_deadline h x) m) h.sockets.entries)
    (or-left (has_come (timer_deadline h.sockets) m || has_come (reply_deadline h.interface h.sockets.kept) m) (has_come (pool_deadline h.pool) m)
    (or-left (has_come (timer_deadline h.sockets) m) (has_come (reply_deadline h.interface h.sockets.kept) m) timers)))

-- for a reply
reply-wakes : (h : HostView) (w : Waiting) (to hop : Addr) (m : Moment) → Contains h.interface.replies w → sought w.reply ≡ Some to → IsHeld h h.sockets.kept to hop → next_ask hop h.interface.cache.asked ≡ Some m
    → IsWokenBy h m
reply-wakes h w to hop m at seeks held next =
    let i : InterfaceView = h.interface in
    let kept : Moment = h.sockets.kept in
    let own : deadline_of i kept w ≡ sooner (Some (reply_end w)) (Some m) =
    ap (deadline_for i kept (reply_end w)) seeks
    ∙ ap (λ (b : Bool). cond b None (sooner (Some (reply_end w)) (asked_until i kept to))) (unknown-is h kept to hop held)
    ∙ ap (sooner (Some (reply_end w))) (until-is h kept to hop held ∙ next) in
    let come : has_come (deadline_of i kept w) m ≡ true =
    ap (λ (o : Option Moment). has_come o m) own ∙ sooner-has_come (Some (reply_end w)) (Some m) m ∙ or-right (has_come (Some (reply_end w)) m) (has_come (Some m) m) (same-comes m) in
    let replies : has_come (reply_deadline i kept) m ≡ true = fold-come (deadline_of i kept) None i.replies m ∙ any-of (λ (x : Waiting). has_come (deadline_of i kept x) m) i.replies w at come in
    woken h m (deadline-come h m
    ∙ or-left (has_come (timer_deadline h.sockets) m || has_come (reply_deadline i kept) m || has_come (pool_deadline h.pool) m) (list_any (λ x. has_come (hop_deadline h x) m) h.sockets.entries)
    (or-left (has_come (timer_deadline h.sockets) m || has_come (reply_deadline i kept) m) (has_come (pool_deadline h.pool) m)
    (or-right (has_come (timer_deadline h.sockets) m) (has_come (reply_deadline i kept) m) replies)))

-- at the end of its own wait
reply-ends : (h : HostView) (w : Waiting) (to hop : Addr) → Contains h.interface.replies w → sought w.reply ≡ Some to → IsHeld h h.sockets.kept to hop → IsWokenBy h (reply_end w)
reply-ends h w to hop at seeks held =
    let i : InterfaceView = h.interface in
    let kept : Moment = h.sockets.kept in
    let m : Moment = reply_end w in
    let own : deadline_of i kept w ≡ sooner (Some m) (asked_until i kept to) =
    ap (deadline_for i kept m) seeks ∙ ap (λ (b : Bool). cond b None (sooner (Some m) (asked_until i kept to))) (unknown-is h kept to hop held) in
    let come : has_come (deadline_of i kept w) m ≡ true =
    ap (λ (o : Option Moment). has_come o m) own ∙ sooner-has_come (Some m) (asked_until i kept to) m ∙ or-left (has_come (Some m) m) (has_come (asked_until i kept to) m) (same-comes m) in
    let replies : has_come (reply_deadline i kept) m ≡ true = fold-come (deadline_of i kept) None i.replies m ∙ any-of (λ (x : Waiting). has_come (deadline_of i kept x) m) i.replies w at come in
    woken h m (deadline-come h m
    ∙ or-left (has_come (timer_deadline h.sockets) m || has_come (reply_deadline i kept) m || has_come (pool_deadline h.pool) m) (list_any (λ x. has_come (hop_deadline h x) m) h.sockets.entries)
    (or-left (has_come (timer_deadline h.sockets) m || has_come (reply_deadline i kept) m) (has_come (pool_deadline h.pool) m)
    (or-right (has_come (timer_deadline h.sockets) m) (has_come (reply_deadline i kept) m) replies)))

-- at the end of the wait of a datagram
datagram-ends : (h : HostView) (e : Entry) (bound : Option Endpoint) (socket : SocketView) (o : OutDatagram) (hop : Addr) → Contains h.sockets.entries e → e.role ≡ Datagrams bound socket → Contains socket.outbox o
    → IsHeld h h.sockets.kept o.peer.addr hop → IsWokenBy h (after o.since HOP_WAIT)
datagram-ends h e bound socket o hop at is waits held =
    let lost : Addr → Bool = lacks_hop h h.sockets.kept in
    let m : Moment = after o.since HOP_WAIT in
    let asks : Option Moment = request_deadline h (dues_of e.role) in
    let unknown : lost o.peer.addr ≡ true = ap not (unknown-is h h.sockets.kept o.peer.addr hop held) in
    let own : has_come (datagram_deadline_of lost o) m ≡ true = ap (λ (b : Bool). has_come (cond b (Some m) None) m) unknown ∙ same-comes m in
    let gives_up : has_come (give_up_at lost e.role) m ≡ true =
    ap (λ (r : Role). has_come (give_up_at lost r) m) is ∙ fold-come (datagram_deadline_of lost) None socket.outbox m ∙ any-of (λ (x : OutDatagram). has_come (datagram_deadline_of lost x) m) socket.outbox o waits own in
    let come : has_come (hop_deadline h e) m ≡ true =
    sooner-has_come (give_up_at lost e.role) asks m ∙ or-left (has_come (give_up_at lost e.role) m) (has_come asks m) gives_up in
    woken h m (deadline-come h m
    ∙ or-right (has_come (timer_deadline h.sockets) m || has_come (reply_deadline h.interface h.sockets.kept) m || has_come (pool_deadline h.pool) m) (list_any (λ x. has_come (hop_deadline h x) m) h.sockets.entries)
    (any-of (λ (x : Entry). has_come (hop_deadline h x) m) h.sockets.entries e at come))

-- for something that an entry has due
entry-wakes : (h : HostView) (e : Entry) (due : Endpoint × Outgoing) (hop : Addr) (m : Moment) → Contains h.sockets.entries e → Contains (dues_of e.role) due → IsHeld h h.sockets.kept due.0.addr hop → next_ask hop h.interface.cache.asked ≡ Some m
    → IsWokenBy h m
entry-wakes h e due hop m at among held next =
    let gives_up : Option Moment = give_up_at (lacks_hop h h.sockets.kept) e.role in
    let until : Endpoint × Outgoing → Option Moment = λ d. asked_until h.interface h.sockets.kept d.0.addr in
    let its : has_come (until due) m ≡ true = ap (λ (o : Option Moment). has_come o m) (until-is h h.sockets.kept due.0.addr hop held ∙ next) ∙ same-comes m in
    let own : has_come (request_deadline h (dues_of e.role)) m ≡ true = fold-come until None (dues_of e.role) m ∙ any-of (λ (d : Endpoint × Outgoing). has_come (until d) m) (dues_of e.role) due among its in
    let come : has_come (hop_deadline h e) m ≡ true = sooner-has_come gives_up (request_deadline h (dues_of e.role)) m ∙ or-right (has_come gives_up m) (has_come (request_deadline h (dues_of e.role)) m) own in
    woken h m (deadline-come h m
    ∙ or-right (has_come (timer_deadline h.sockets) m || has_come (reply_deadline h.interface h.sockets.kept) m || has_come (pool_deadline h.pool) m) (list_any (λ x. has_come (hop_deadline h x) m) h.sockets.entries)
    (any-of (λ (x : Entry). has_come (hop_deadline h x) m) h.sockets.entries e at come))

-- A place.

way-sought : (i : InterfaceView) (now : Moment) (r : Reply) (to : Addr) → sought r ≡ Some to → way_of i now r ≡ way i now to
way-sought i now (Arp packet) to e = cc
way-sought i now (Reset x head) to e = let same : x ≡ to = cc in ap (way i now) same
way-sought i now (Echo x identifier number octets) to e = let same : x ≡ to = cc in ap (way i now) same
way-sought i now (Error x reason quoted) to e = let same : x ≡ to = cc in ap (way i now) same

unsought-goes : (i : InterfaceView) (now : Moment) (r : Reply) → sought r ≡ None → goes_out (way_of i now r) ≡ true
unsought-goes i now (Arp packet) e = refl
unsought-goes i now (Reset x head) e = cc
unsought-goes i now (Echo x identifier number octets) e = cc
unsought-goes i now (Error x reason quoted) e = cc

-- what lists were joined of others has

flattened-in : {X Y : Type 0} (f : X → List Y) (xs : List X) (y : Y) → Contains (flat_map f xs) y → (x : X) × Contains xs x × Contains (f x) y
flattened-in f [] y at = absurd (omega (arith, at.1))
flattened-in {X} {Y} f (x ∷ xs) y at = by_side (flattened-in f xs y) (Contains-append_cases (f x) (flat_map f xs) y (subst (λ (ys : List Y). Contains ys y) (flat_map-cons f x xs) at))
  where
    by_side : (Contains (flat_map f xs) y → (z : X) × Contains xs z × Contains (f z) y) → Contains (f x) y ⊎ Contains (flat_map f xs) y → (z : X) × Contains (x ∷ xs) z × Contains (f z) y
    by_side further (inl here) = (x, (0, omega arith, refl), here)
    by_side further (inr there) = let found = further there in (found.0, (let k = found.1 in (suc k.0, omega (arith, k.1), k.2)), found.2)

in-flattened : {X Y : Type 0} (f : X → List Y) (xs : List X) (x : X) (y : Y) → Contains xs x → Contains (f x) y → Contains (flat_map f xs) y
in-flattened f [] x y at among = absurd (omega (arith, at.1))
in-flattened {X} {Y} f (z ∷ xs) x y at among = subst (λ (ys : List Y). Contains ys y) (sym (flat_map-cons f z xs)) (by_place (λ there. in-flattened f xs x y there among) at.0 at.1 at.2)
  where
    by_place : (Contains xs x → Contains (flat_map f xs) y) → (k : ℕ) → k < length (z ∷ xs) → slice_index_or (z ∷ xs) k x ≡ x → Contains (f z ++ flat_map f xs) y
    by_place further zero within is = Contains-append_left (f z) (flat_map f xs) y (subst (λ (w : X). Contains (f w) y) (sym is) among)
    by_place further (suc k) within is = Contains-append_right (f z) (flat_map f xs) y (further (k, omega (arith, within), is))

got-in : {X : Type 0} (xs : List X) (n : ℕ) (x : X) → slice_get xs n ≡ Some x → Contains xs x
got-in [] n x at = cc
got-in (y ∷ ys) zero x at = (0, omega arith, (let same : y ≡ x = cc in same))
got-in (y ∷ ys) (suc n) x at = let k = got-in ys n x at in (suc k.0, omega (arith, k.1), k.2)

reply-at : (h : HostView) (w : Waiting) → Contains (places h) (ReplyOf w) → Contains h.interface.replies w
reply-at h w at = by_side (Contains-append_cases (map ReplyOf h.interface.replies) (flat_map places_of h.sockets.entries) (ReplyOf w) at)
  where
    by_side : Contains (map ReplyOf h.interface.replies) (ReplyOf w) ⊎ Contains (flat_map places_of h.sockets.entries) (ReplyOf w) → Contains h.interface.replies w
    by_side (inl here) = let found = mapped-in ReplyOf h.interface.replies (ReplyOf w) here in let same : found.0 ≡ w = let e = found.2 in cc in subst (Contains h.interface.replies) same found.1
    by_side (inr there) =
        let entry = flattened-in places_of h.sockets.entries (ReplyOf w) there in
        let found = mapped-in (λ (due : Endpoint × Outgoing). EntryOf entry.0 due.0 due.1) (let x = entry.0 in dues_of x.role) (ReplyOf w) entry.2 in
        let no = found.2 in cc

entry-at : (h : HostView) (e : Entry) (peer : Endpoint) (what : Outgoing) → Contains (places h) (EntryOf e peer what) → Contains h.sockets.entries e × Contains (dues_of e.role) (peer, what)
entry-at h e peer what at = by_side (Contains-append_cases (map ReplyOf h.interface.replies) (flat_map places_of h.sockets.entries) (EntryOf e peer what) at)
  where
    of_due : (x : Entry) → Contains h.sockets.entries x → (due : Endpoint × Outgoing) → Contains (dues_of x.role) due → EntryOf x due.0 due.1 ≡ EntryOf e peer what → Contains h.sockets.entries e × Contains (dues_of e.role) (peer, what)
    of_due x here due among is =
        let entries : x ≡ e = cc in
        let peers : due.0 ≡ peer = cc in
        let whats : due.1 ≡ what = cc in
        let pair : due ≡ (peer, what) = ap (λ (p : Endpoint). let d : Endpoint × Outgoing = (p, due.1) in d) peers ∙ ap (λ (w : Outgoing). let d : Endpoint × Outgoing = (peer, w) in d) whats in
        subst (λ (y : Entry). Contains h.sockets.entries y × Contains (dues_of y.role) (peer, what)) entries (here, subst (Contains (dues_of x.role)) pair among)

    by_side : Contains (map ReplyOf h.interface.replies) (EntryOf e peer what) ⊎ Contains (flat_map places_of h.sockets.entries) (EntryOf e peer what) → Contains h.sockets.entries e × Contains (dues_of e.role) (peer, what)
    by_side (inl here) = let found = mapped-in ReplyOf h.interface.replies (EntryOf e peer what) here in let no = found.2 in cc
    by_side (inr there) =
        let entry = flattened-in places_of h.sockets.entries (EntryOf e peer what) there in
        let found = mapped-in (λ (due : Endpoint × Outgoing). EntryOf entry.0 due.0 due.1) (let x = entry.0 in dues_of x.role) (EntryOf e peer what) entry.2 in
        of_due entry.0 entry.1 found.0 found.1 found.2

-- what to do for an address that a route leads to
record IsHeldUp (h : HostView) (to : Addr) : Type 0 where
  hop : Addr
  held : IsHeld h h.sockets.kept to hop
  next : ((moment : Moment) × (next_ask hop h.interface.cache.asked ≡ Some moment) × IsAskedFrom h to moment) ⊎ IsPastAsking h to

held-up : (h : HostView) (to : Addr) → length h.interface.cache.asked ≤ 64 → is_on_route h.interface.routes (Some to) ≡ true → goes_out (way h.interface h.sockets.kept to) ≡ false → IsHeldUp h to
held-up h to few routed held =
    let by = held-by h h.sockets.kept to routed held in
    record { hop = by.0; held = by.1; next = asked-from h h.sockets.kept to by.0 few (let x = by.1 in x.leads) (let x = by.1 in x.unasked) }

reply-comes : (h : HostView) (w : Waiting) → length h.interface.cache.asked ≤ 64 → Contains h.interface.replies w → is_on_route h.interface.routes (sought w.reply) ≡ true → ComesUp h (ReplyOf w)
reply-comes h w few at routed = by_test (can_go_out h h.sockets.kept (ReplyOf w)) refl
  where
    by_next : (to hop : Addr) → sought w.reply ≡ Some to → IsHeld h h.sockets.kept to hop
        → ((moment : Moment) × (next_ask hop h.interface.cache.asked ≡ Some moment) × IsAskedFrom h to moment) ⊎ IsPastAsking h to → ComesUp h (ReplyOf w)
    by_next to hop is held (inl next) = inr (inl (to, next.0, is, next.2, reply-wakes h w to hop next.0 at is held next.1))
    by_next to hop is held (inr past) = inr (inr (to, is, past))

    by_address : (o : Option Addr) → sought w.reply ≡ o → is_on_route h.interface.routes o ≡ true → can_go_out h h.sockets.kept (ReplyOf w) ≡ false → ComesUp h (ReplyOf w)
    by_address None is fine held = let no = sym (unsought-goes h.interface h.sockets.kept w.reply is) ∙ held in cc
    by_address (Some to) is fine held =
        let waits = held-up h to few fine (sym (ap goes_out (way-sought h.interface h.sockets.kept w.reply to is)) ∙ held) in
        by_next to waits.hop is waits.held waits.next

    by_test : (b : Bool) → can_go_out h h.sockets.kept (ReplyOf w) ≡ b → ComesUp h (ReplyOf w)
    by_test true goes = inl goes
    by_test false held = by_address (sought w.reply) refl routed held

entry-comes : (h : HostView) (e : Entry) (peer : Endpoint) (what : Outgoing) → length h.interface.cache.asked ≤ 64 → Contains h.sockets.entries e → Contains (dues_of e.role) (peer, what)
    → is_on_route h.interface.routes (Some peer.addr) ≡ true → ComesUp h (EntryOf e peer what)
entry-comes h e peer what few at among routed = by_test (goes_out (way h.interface h.sockets.kept peer.addr)) refl
  where
    by_next : (hop : Addr) → IsHeld h h.sockets.kept peer.addr hop → ((moment : Moment) × (next_ask hop h.interface.cache.asked ≡ Some moment) × IsAskedFrom h peer.addr moment) ⊎ IsPastAsking h peer.addr
        → ComesUp h (EntryOf e peer what)
    by_next hop held (inl next) = inr (inl (peer.addr, next.0, refl, next.2, entry-wakes h e (peer, what) hop next.0 at among held next.1))
    by_next hop held (inr past) = inr (inr (peer.addr, refl, past))

    by_test : (b : Bool) → goes_out (way h.interface h.sockets.kept peer.addr) ≡ b → ComesUp h (EntryOf e peer what)
    by_test true goes = inl goes
    by_test false held = let waits = held-up h peer.addr few routed held in by_next waits.hop waits.held waits.next

pub place-comes : (h : HostView) (place : Place) → length h.interface.cache.asked ≤ 64 → Contains (places h) place → is_on_route h.interface.routes (address_of place) ≡ true → ComesUp h place
place-comes h (ReplyOf w) few at routed = reply-comes h w few (reply-at h w at) routed
place-comes h (EntryOf e peer what) few at routed = let found = entry-at h e peer what at in entry-comes h e peer what few found.0 found.1 routed

-- What waits is due.

reply-due : (h : HostView) (w : Waiting) → Contains h.interface.replies w → Contains (places h) (ReplyOf w)
reply-due h w at = Contains-append_left (map ReplyOf h.interface.replies) (flat_map places_of h.sockets.entries) (ReplyOf w) (in-mapped ReplyOf h.interface.replies w at)

pub entry-due : (h : HostView) (e : Entry) (peer : Endpoint) (what : Outgoing) → Contains h.sockets.entries e → Contains (dues_of e.role) (peer, what) → Contains (places h) (EntryOf e peer what)
entry-due h e peer what at among =
    Contains-append_right (map ReplyOf h.interface.replies) (flat_map places_of h.sockets.entries) (EntryOf e peer what)
    (in-flattened places_of h.sockets.entries e (EntryOf e peer what) at (in-mapped (λ (due : Endpoint × Outgoing). EntryOf e due.0 due.1) (dues_of e.role) (peer, what) among))

-- a datagram of a UDP socket

datagram-comes : (h : HostView) (e : Entry) (bound : Option Endpoint) (socket : SocketView) (place : ℕ) (o : OutDatagram) → length h.interface.cache.asked ≤ 64 → Contains h.sockets.entries e → e.role ≡ Datagrams bound socket
    → slice_get socket.outbox place ≡ Some o → is_some (next_hop h.interface.routes o.peer.addr) ≡ true → IsDueSoon h (EntryOf e o.peer (Datagram place))
datagram-comes h e bound socket place o few at is waits routed =
    let here : slice_get (dues_of (Datagrams bound socket)) place ≡ Some (o.peer, Datagram place) = datagram_at bound socket place (Some o.peer) (ap (option_map (λ (x : OutDatagram). x.peer)) waits) in
    let among : Contains (dues_of e.role) (o.peer, Datagram place) = subst (λ (r : Role). Contains (dues_of r) (o.peer, Datagram place)) (sym is) (got-in (dues_of (Datagrams bound socket)) place (o.peer, Datagram place) here) in
    (entry-due h e o.peer (Datagram place) at among, entry-comes h e o.peer (Datagram place) few at among routed)

-- A connection.

pub connection-comes : (h : HostView) (e : Entry) (c : View) (l : Option SocketId) → length h.interface.cache.asked ≤ 64 → IsSoundHost h → EachKeepsTime h.sockets → Contains h.sockets.entries e → e.role ≡ Connected c l
    → is_some (next_hop h.interface.routes c.peer.addr) ≡ true → HasToSend c → ConnectionComesUp h e c
connection-comes h e c l few sound timed at is routed waits = by_due (first_due c) refl either
  where
    solid : IsSoundRole (Connected c l)
    solid = subst IsSoundRole is (all-of (λ (x : Entry). IsSoundRole x.role) h.sockets.entries e sound.table.entries at)

    keeps : KeepsTimeIn (Connected c l)
    keeps = subst KeepsTimeIn is (all-of (λ (x : Entry). KeepsTimeIn x.role) h.sockets.entries e timed at)

    either : (takes_numbers (first_due c) || is_some (deadline c)) ≡ true
    either = timed_or_due c solid.sound keeps.0 keeps.1 waits

    by_deadline : (o : Option Moment) → deadline c ≡ o → is_some o ≡ true → ConnectionComesUp h e c
    by_deadline None none some = cc
    by_deadline (Some m) ends some = inr (m, ends, timer-wakes h e m at (ap timer_of is ∙ ends))

    by_due : (o : Option Due) → first_due c ≡ o → (takes_numbers o || is_some (deadline c)) ≡ true → ConnectionComesUp h e c
    by_due None first some = by_deadline (deadline c) refl some
    by_due (Some due) first some =
        let here : dues_of e.role ≡ (c.peer, Segment due) ∷ [] = ap dues_of is ∙ ap (segment_due c.peer) first in
        let among : Contains (dues_of e.role) (c.peer, Segment due) = subst (λ (ds : List (Endpoint × Outgoing)). Contains ds (c.peer, Segment due)) (sym here) (0, omega arith, refl) in
        inl (due, (entry-due h e c.peer (Segment due) at among, entry-comes h e c.peer (Segment due) few at among routed))

-- Where no frame can go out and there is no deadline, nothing waits.

none-can : {X : Type 0} (p : X → Bool) (xs : List X) (x : X) → find p xs ≡ None → Contains xs x → p x ≡ true → ⊥
none-can p [] x none at e = omega (arith, at.1)
none-can {X} p (y ∷ ys) x none at e = by_test (λ rest there. none-can p ys x rest there e) (p y) refl none
  where
    by_place : (find p ys ≡ None → Contains ys x → ⊥) → p y ≡ false → find p ys ≡ None → (k : ℕ) → k < length (y ∷ ys) → slice_index_or (y ∷ ys) k x ≡ x → ⊥
    by_place further fails rest zero within is = let no : true ≡ false = sym e ∙ sym (ap p is) ∙ fails in cc
    by_place further fails rest (suc k) within is = further rest (k, omega (arith, within), is)

    by_test : (find p ys ≡ None → Contains ys x → ⊥) → (b : Bool) → p y ≡ b → cond b (Some y) (find p ys) ≡ None → ⊥
    by_test further true passes found = cc
    by_test further false fails found = by_place further fails found at.0 at.1 at.2

pub unwoken : (h : HostView) (m : Moment) → least_deadline h ≡ None → IsWokenBy h m → ⊥
unwoken h m none wakes = let no = sym none ∙ wakes.1 in cc

comes-not : (h : HostView) (place : Place) → find (can_go_out h h.sockets.kept) (places h) ≡ None → least_deadline h ≡ None → Contains (places h) place → ComesUp h place → IsHeldAtTheEnd h place
comes-not h place none quiet at (inl goes) = absurd (none-can (can_go_out h h.sockets.kept) (places h) place none at goes)
comes-not h place none quiet at (inr (inl waits)) = absurd (unwoken h waits.1 quiet waits.4)
comes-not h place none quiet at (inr (inr past)) = past

pub unrouted-place : (h : HostView) → length h.interface.cache.asked ≤ 64 → find (can_go_out h h.sockets.kept) (places h) ≡ None → least_deadline h ≡ None
    → (place : Place) → Contains (places h) place → (is_on_route h.interface.routes (address_of place) ≡ false) ⊎ IsHeldAtTheEnd h place
unrouted-place h few none quiet place at = by_test (is_on_route h.interface.routes (address_of place)) refl
  where
    by_test : (b : Bool) → is_on_route h.interface.routes (address_of place) ≡ b → (is_on_route h.interface.routes (address_of place) ≡ false) ⊎ IsHeldAtTheEnd h place
    by_test true routed = inr (comes-not h place none quiet at (place-comes h place few at routed))
    by_test false unrouted = inl unrouted

-- a place for which no frame can go out
pub held-place : (h : HostView) (place : Place) → find (can_go_out h h.sockets.kept) (places h) ≡ None → Contains (places h) place → can_go_out h h.sockets.kept place ≡ false
held-place h place none at = by_test (can_go_out h h.sockets.kept place) refl
  where
    by_test : (b : Bool) → can_go_out h h.sockets.kept place ≡ b → can_go_out h h.sockets.kept place ≡ false
    by_test true goes = absurd (none-can (can_go_out h h.sockets.kept) (places h) place none at goes)
    by_test false held = held

pub no-reply : (h : HostView) (routes : List Route) (most many : ℕ) → KeepsSide routes most many h.interface → find (can_go_out h h.sockets.kept) (places h) ≡ None → least_deadline h ≡ None → h.interface.replies ≡ []
no-reply h routes most many keeps none quiet = by_replies h.interface.replies refl
  where
    by_address : (w : Waiting) (o : Option Addr) → Contains h.interface.replies w → sought w.reply ≡ o → is_on_route h.interface.routes o ≡ true → can_go_out h h.sockets.kept (ReplyOf w) ≡ false → ⊥
    by_address w None here is fine held = let no = sym (unsought-goes h.interface h.sockets.kept w.reply is) ∙ held in cc
    by_address w (Some to) here is fine held =
        let by = held-by h h.sockets.kept to fine (sym (ap goes_out (way-sought h.interface h.sockets.kept w.reply to is)) ∙ held) in
        unwoken h (reply_end w) quiet (reply-ends h w to by.0 here is by.1)

    by_replies : (ws : List Waiting) → h.interface.replies ≡ ws → h.interface.replies ≡ []
    by_replies [] is = is
    by_replies (w ∷ ws) is =
        let here : Contains h.interface.replies w = subst (λ (xs : List Waiting). Contains xs w) (sym is) (0, omega arith, refl) in
        let routed : is_on_route h.interface.routes (sought w.reply) ≡ true = all-of (λ (x : Waiting). is_on_route h.interface.routes (sought x.reply) ≡ true) h.interface.replies w keeps.routed here in
        absurd (by_address w (sought w.reply) here refl routed (held-place h (ReplyOf w) none (reply-due h w here)))

pub no-datagram : (h : HostView) → length h.interface.cache.asked ≤ 64 → find (can_go_out h h.sockets.kept) (places h) ≡ None → least_deadline h ≡ None
    → (e : Entry) (bound : Option Endpoint) (socket : SocketView) (place : ℕ) (o : OutDatagram) → Contains h.sockets.entries e → e.role ≡ Datagrams bound socket → slice_get socket.outbox place ≡ Some o
    → is_routed h.interface o.peer.addr ≡ false
no-datagram h few none quiet e bound socket place o at is waits = by_test (is_routed h.interface o.peer.addr) refl
  where
    by_test : (b : Bool) → is_routed h.interface o.peer.addr ≡ b → is_routed h.interface o.peer.addr ≡ false
    by_test true routed =
        let due = datagram-comes h e bound socket place o few at is waits routed in
        let by = held-by h h.sockets.kept o.peer.addr routed (held-place h (EntryOf e o.peer (Datagram place)) none due.0) in
        absurd (unwoken h (after o.since HOP_WAIT) quiet (datagram-ends h e bound socket o by.0 at is (got-in socket.outbox place o waits) by.1))
    by_test false unrouted = unrouted

-- Of every host.

pub place-of-run : (h : HostView) (place : Place) → HasRun h → Contains (places h) place → is_on_route h.interface.routes (address_of place) ≡ true → ComesUp h place
place-of-run h place run at routed = let keeps = run-side run.config run.events h run.runs in place-comes h place keeps.few at routed

pub reply-of-run : (h : HostView) (w : Waiting) → HasRun h → Contains h.interface.replies w → IsDueSoon h (ReplyOf w)
reply-of-run h w run at =
    let keeps = run-side run.config run.events h run.runs in
    let routed : is_on_route h.interface.routes (sought w.reply) ≡ true = all-of (λ (x : Waiting). is_on_route h.interface.routes (sought x.reply) ≡ true) h.interface.replies w keeps.routed at in
    (reply-due h w at, reply-comes h w keeps.few at routed)

pub datagram-of-run : (h : HostView) (e : Entry) (bound : Option Endpoint) (socket : SocketView) (place : ℕ) (o : OutDatagram) → HasRun h → Contains h.sockets.entries e → e.role ≡ Datagrams bound socket
    → slice_get socket.outbox place ≡ Some o → IsTrue (is_routed h.interface o.peer.addr) → IsDueSoon h (EntryOf e o.peer (Datagram place))
datagram-of-run h e bound socket place o run at is waits routed = let keeps = run-side run.config run.events h run.runs in datagram-comes h e bound socket place o keeps.few at is waits routed

pub connection-of-run : (h : HostView) (e : Entry) (c : View) (listener : Option SocketId) → IsSoundHost h → HasRun h → Contains h.sockets.entries e → e.role ≡ Connected c listener → IsTrue (is_routed h.interface c.peer.addr)
    → HasToSend c → ConnectionComesUp h e c
connection-of-run h e c l sound run at is routed waits =
    let keeps = run-side run.config run.events h run.runs in connection-comes h e c l keeps.few sound (run-timed run.config run.events h run.runs) at is routed waits
