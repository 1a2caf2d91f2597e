-- What gives way to another connection.
use Rattle.std.proofs.Common.{◌≡◌, if◌then◌else◌, ◌⊎◌, inl, inr, ℕ, ◌<◌, ◌≤◌, ◌==◌, ◌&&◌, not, Bool, true, false, List, [], ◌∷◌, length, count_by, Option, Some, None, is_some, refl, sym, ◌∙◌, ap, subst, arith}
use Rattle.std.specs.List.{find, AllByRecursion}
use Rattle.std.specs.Option.{option_or}
use Rattle.std.proofs.lemmas.Bool.{eqb-true, leb-true, leb-false}
use Rattle.clock.specs.declared.moment.Moment.{Moment}
use Rattle.ipv4.specs.declared.addr.Addr.{Addr}
use Rattle.tcp_segment.specs.Segment.{Segment}
use Rattle.tcp_state.specs.View.{is_syn_received}
use Rattle.tcp_state.specs.Way as of_connection
use Rattle.tcp_halves.proofs.Choices.{and_left, and_right, both, or_left, or_right}
use Rattle.sockets.specs.declared.entry.SocketId.{SocketId}
use Rattle.sockets.specs.declared.entry.Entry.{Entry}
use Rattle.sockets.specs.declared.role.Role.{Role}
use Rattle.sockets.specs.declared.role.Role.TheVariants.{Connected, Listener, Idle, Datagrams}
use Rattle.sockets.specs.Arrival.{is_opening, local_end, peer_end}
use Rattle.sockets.specs.Entries.{is_between, is_half_open, is_listening_at, is_pending, is_waiting_at, backlog_of}
use Rattle.sockets.specs.GiveWay.{is_unanswered_at, left_since, is_left_since, may_give_way, gives_way, first_id, longest_left, longest_id, id_at, id_at_port, has_backlog_at, opens_anew, id_for, gives_places, way_for, way_for_socket, IsOldestUnanswered, IsLongestLeft, IsForPlace, IsGivenFor, IsGivenForSocket}
use Rattle.sockets.specs.Ids.{AreAscending, has_id}
use Rattle.sockets.specs.Needs.{is_backlog_full}
use Rattle.sockets.specs.Order.{IsOrdered}
use Rattle.sockets.specs.SocketsView.{SocketsView}
use Rattle.sockets.proofs.Deadlines.{least}
use Rattle.sockets.proofs.Ends.{eqb-same}
use Rattle.sockets.proofs.Followed.{by_test}
use Rattle.sockets.proofs.Opened.{found_passes}
use Rattle.sockets.proofs.Steps.{entry}

-- Ids ascend: what is found first of its kind has the least id of it.

all_above : (before last : ℕ) (xs : List Entry) → AreAscending before last xs → (low : ℕ) → low ≤ before → (P : Entry → Bool) → AllByRecursion (λ (y : Entry). P y ≡ true → low ≤ y.id.0) xs
all_above before last [] ids low under P = tt
all_above before last (x ∷ xs) ids low under P = (λ passes. omega (arith, under, ids.0), all_above x.id.0 last xs ids.1 low (omega (arith, under, ids.0)) P)

found_above : (P : Entry → Bool) (before last : ℕ) (xs : List Entry) (x : Entry) → AreAscending before last xs → find P xs ≡ Some x → before < x.id.0
found_above P before last [] x ids found = cc
found_above P before last (y ∷ ys) x ids found =
    by_test (P y)
    (λ here. let same : y ≡ x = (let it : ◌≡◌ {A = Option Entry} (Some y) (Some x) = rw here at found in cc) in subst (λ (z : Entry). before < z.id.0) same ids.0)
    (λ there. let it : find P ys ≡ Some x = rw there at found in let above : y.id.0 < x.id.0 = found_above P y.id.0 last ys x ids.1 it in omega (arith, above, ids.0))

pub first_lowest : (P : Entry → Bool) (before last : ℕ) (xs : List Entry) (x : Entry) → AreAscending before last xs → find P xs ≡ Some x → AllByRecursion (λ (y : Entry). P y ≡ true → x.id.0 ≤ y.id.0) xs
first_lowest P before last [] x ids found = tt
first_lowest P before last (y ∷ ys) x ids found =
    by_test (P y)
    (λ here. let same : y ≡ x = (let it : ◌≡◌ {A = Option Entry} (Some y) (Some x) = rw here at found in cc) in
    subst (λ (z : Entry). AllByRecursion (λ (w : Entry). P w ≡ true → z.id.0 ≤ w.id.0) (y ∷ ys)) same (λ passes. omega arith, all_above y.id.0 last ys ids.1 y.id.0 (omega arith) P))
    (λ there. let it : find P ys ≡ Some x = rw there at found in (λ passes. let bad : true ≡ false = sym passes ∙ there in cc, first_lowest P y.id.0 last ys x ids.1 it))

-- what is found so is what its id names
pub found_by_id : (P : Entry → Bool) (before last : ℕ) (xs : List Entry) (x : Entry) → AreAscending before last xs → find P xs ≡ Some x → find (has_id x.id) xs ≡ Some x
found_by_id P before last [] x ids found = cc
found_by_id P before last (y ∷ ys) x ids found =
    by_test (P y)
    (λ here.
    let same : y ≡ x = (let is : ◌≡◌ {A = Option Entry} (Some y) (Some x) = rw here at found in cc) in
    let named : has_id x.id y ≡ true = ap (λ (z : Entry). z.id.0 == x.id.0) same ∙ eqb-same x.id.0 in
    rw named (ap Some same))
    (λ there.
    let later : find P ys ≡ Some x = rw there at found in
    let above : y.id.0 < x.id.0 = found_above P y.id.0 last ys x ids.1 later in
    let other : has_id x.id y ≡ false = by_test (has_id x.id y) (λ yes. absurd (omega (arith, above, eqb-true y.id.0 x.id.0 yes))) (λ no. no) in
    rw other (found_by_id P y.id.0 last ys x ids.1 later))

-- .. and what may give way is meant by its id
pub meant_by_id : (xs : List Entry) (x : Entry) → find (has_id x.id) xs ≡ Some x → may_give_way x ≡ true → (before last : ℕ) → AreAscending before last xs → find (gives_way (has_id x.id)) xs ≡ Some x
meant_by_id [] x found may before last ids = cc
meant_by_id (y ∷ ys) x found may before last ids =
    by_test (has_id x.id y)
    (λ here.
    let same : y ≡ x = (let is : ◌≡◌ {A = Option Entry} (Some y) (Some x) = rw here at found in cc) in
    let goes : gives_way (has_id x.id) y ≡ true = both (has_id x.id y) (may_give_way y) here (subst (λ (z : Entry). may_give_way z ≡ true) (sym same) may) in
    rw goes (ap Some same))
    (λ there.
    let later : find (has_id x.id) ys ≡ Some x = rw there at found in
    let stays : gives_way (has_id x.id) y ≡ false = by_test (gives_way (has_id x.id) y) (λ yes. let bad : true ≡ false = sym (and_left (has_id x.id y) (may_give_way y) yes) ∙ there in cc) (λ no. no) in
    rw stays (meant_by_id ys x later may y.id.0 last ids.1))

-- What gives way.

-- what waits unanswered may, and what waits in TIME-WAIT for nobody
pub unanswered_may : (listener : SocketId) (x : Entry) → is_unanswered_at listener x ≡ true → may_give_way x ≡ true
unanswered_may listener x waits = by_role x.id x.role waits
  where
    by_role : (id : SocketId) (r : Role) → is_unanswered_at listener (entry id r) ≡ true → may_give_way (entry id r) ≡ true
    by_role id (Connected c (Some l)) waits =
        let own : of_connection.is_unanswered c ≡ true = and_right (l.0 == listener.0) (of_connection.is_unanswered c) waits in
        let half : (c.passive && is_syn_received c.state) ≡ true = and_left (c.passive && is_syn_received c.state) _ own in
        or_left _ _ half
    by_role id _ waits = cc

left_may : (x : Entry) → is_some (left_since x.role) ≡ true → may_give_way x ≡ true
left_may x left = or_right (is_pending x.role && is_half_open x.role) _ left

-- what has been longest in TIME-WAIT
left_at : (since : Moment) (x : Entry) → is_left_since since x.role ≡ true → left_since x.role ≡ Some since
left_at since x is = by_wait (left_since x.role) refl is
  where
    by_wait : (w : Option Moment) → left_since x.role ≡ w → is_left_since since x.role ≡ true → left_since x.role ≡ Some since
    by_wait None none is = let bad : false ≡ true = rw none at is in cc
    by_wait (Some m) some is = let same : m.0 ≡ since.0 = eqb-true m.0 since.0 (rw some at is) in some ∙ ap (λ n. let t : Moment = record { 0 = n } in Some t) same

-- what an id of the first of these names
pub first_found : (P : Entry → Bool) (xs : List Entry) (id : SocketId) → first_id P xs ≡ Some id → (x : Entry) × (x.id ≡ id) × (find P xs ≡ Some x)
first_found P xs id first = by_found (find P xs) refl first
  where
    by_found : (o : Option Entry) → find P xs ≡ o → first_id P xs ≡ Some id → (x : Entry) × (x.id ≡ id) × (find P xs ≡ Some x)
    by_found None none first = let bad : None ≡ Some id = rw none at first in cc
    by_found (Some x) some first = let same : ◌≡◌ {A = Option SocketId} (Some x.id) (Some id) = rw some at first in (x, cc, some)

longest_found : (h : SocketsView) (id : SocketId) → IsOrdered h → longest_id h.entries ≡ Some id → (x : Entry) × (x.id ≡ id) × IsLongestLeft h x × (find (has_id x.id) h.entries ≡ Some x)
longest_found h id o is = by_least (longest_left h.entries) refl is
  where
    by_least : (w : Option Moment) → longest_left h.entries ≡ w → longest_id h.entries ≡ Some id → (x : Entry) × (x.id ≡ id) × IsLongestLeft h x × (find (has_id x.id) h.entries ≡ Some x)
    by_least None none is = let bad : None ≡ Some id = rw none at is in cc
    by_least (Some since) some is =
        let P : Entry → Bool = λ y. is_left_since since y.role in
        let it = first_found P h.entries id (rw some at is) in
        let left = left_at since it.0 (found_passes P h.entries it.0 it.2) in (
          it.0,
          it.1,
          record { since = since; left = left; longest = (least left_since None h.entries since some).others },
          found_by_id P 0 h.last_id h.entries it.0 o.ids it.2,
        )

pub longest_may : (h : SocketsView) (x : Entry) → IsLongestLeft h x → may_give_way x ≡ true
longest_may h x l = left_may x (ap is_some l.left)

unanswered_found : (h : SocketsView) (listener id : SocketId) → IsOrdered h → first_id (is_unanswered_at listener) h.entries ≡ Some id → (x : Entry) × (x.id ≡ id) × IsOldestUnanswered h listener x × (find (has_id x.id) h.entries ≡ Some x)
unanswered_found h listener id o is =
    let U : Entry → Bool = is_unanswered_at listener in
    let it = first_found U h.entries id is in (
      it.0,
      it.1,
      record { waits = found_passes U h.entries it.0 it.2; oldest = first_lowest U 0 h.last_id h.entries it.0 o.ids it.2 },
      found_by_id U 0 h.last_id h.entries it.0 o.ids it.2,
    )

-- To a segment.

abbrev Place : SocketsView → Entry → SocketId → Type 0
Place h listener id = (x : Entry) × (x.id ≡ id) × IsForPlace h listener x × (find (has_id x.id) h.entries ≡ Some x) × (may_give_way x ≡ true)

place_given : (h : SocketsView) (listener : Entry) (id : SocketId) → IsOrdered h → id_at h listener ≡ Some id → Place h listener id
place_given h listener id o is =
    by_test (is_backlog_full h listener)
    (λ full. unanswered (inl (leb-true _ _ full)) (rw full at is))
    (λ few.
    by_test (length h.entries == h.sizes.entries)
    (λ all. either few (inr (eqb-true (length h.entries) h.sizes.entries all)) (first_id U h.entries) refl (rw (few, all) at is))
    (λ less. let bad : None ≡ Some id = rw (few, less) at is in cc))
  where
    U : Entry → Bool
    U = is_unanswered_at listener.id

    Full : Type 0
    Full = (backlog_of listener.role ≤ count_by (is_waiting_at listener.id) h.entries) ⊎ (length h.entries ≡ h.sizes.entries)

    unanswered : Full → first_id U h.entries ≡ Some id → Place h listener id
    unanswered full first = let it = unanswered_found h listener.id id o first in (it.0, it.1, record { full = full; which = inl it.2 }, it.3, unanswered_may listener.id it.0 it.2.waits)

    either : is_backlog_full h listener ≡ false → Full → (w : Option SocketId) → first_id U h.entries ≡ w → option_or w (longest_id h.entries) ≡ Some id → Place h listener id
    either few full (Some first) found is = unanswered full (found ∙ is)
    either few full None none is = let it = longest_found h id o is in (it.0, it.1, record { full = full; which = inr (it.2, leb-false _ _ few) }, it.3, longest_may h it.0 it.2)

abbrev pub Given : SocketsView → Addr → Segment → SocketId → Type 0
Given h source s id = (x : Entry) × (x.id ≡ id) × IsGivenFor h source s x

pub segment_given : (h : SocketsView) (source : Addr) (s : Segment) (id : SocketId) → IsOrdered h → way_for h source s ≡ Some id → Given h source s id
segment_given h source s id o way =
    by_test (gives_places h)
    (λ gives.
    by_test (is_opening s.flags)
    (λ opens. by_connection (and_left h.manner.guards _ gives) opens (find between h.entries) refl (rw gives at way))
    (λ other. let bad : None ≡ Some id = rw (gives, other) at way in cc))
    (λ none. let bad : None ≡ Some id = rw none at way in cc)
  where
    between : Entry → Bool
    between = is_between (local_end h s) (peer_end source s)

    at_listener : h.manner.guards ≡ true → is_opening s.flags ≡ true → find between h.entries ≡ None → (w : Option Entry) → find (is_listening_at s.destination) h.entries ≡ w → id_at_port h s.destination ≡ Some id → Given h source s id
    at_listener guards opens none None no_listener is = let bad : None ≡ Some id = rw no_listener at is in cc
    at_listener guards opens none (Some listener) found is =
        let it = place_given h listener id o (rw found at is) in
        (it.0, it.1, record { guards = guards; opens = opens; there = it.3; may = it.4; listener = listener; listens = found; which = inr (none, it.2) })

    listening : (w : Option Entry) → find (is_listening_at s.destination) h.entries ≡ w → has_backlog_at h s.destination ≡ true
        → (listener : Entry) × (find (is_listening_at s.destination) h.entries ≡ Some listener) × (count_by (is_waiting_at listener.id) h.entries < backlog_of listener.role)
    listening None none has = let bad : false ≡ true = rw none at has in cc
    listening (Some listener) found has =
        let place : not (is_backlog_full h listener) ≡ true = rw found at has in
        (listener, found, by_test (is_backlog_full h listener) (λ full. let bad : false ≡ true = rw full at place in cc) (λ few. leb-false _ _ few))

    anew : h.manner.guards ≡ true → is_opening s.flags ≡ true → (e : SocketId) (r : Role) → find between h.entries ≡ Some (entry e r) → (if opens_anew h s r then Some e else None) ≡ Some id → Given h source s id
    anew guards opens e (Connected c None) found is =
        by_test (opens_anew h s (Connected c None))
        (λ again.
        let same : e ≡ id = (let it : ◌≡◌ {A = Option SocketId} (Some e) (Some id) = rw again at is in cc) in
        let tests : (is_some (of_connection.left_since c) && of_connection.lies_past c s) ≡ true = and_left (is_some (of_connection.left_since c) && of_connection.lies_past c s) (has_backlog_at h s.destination) again in
        let left : is_some (of_connection.left_since c) ≡ true = and_left (is_some (of_connection.left_since c)) _ tests in
        let l = listening (find (is_listening_at s.destination) h.entries) refl (and_right (is_some (of_connection.left_since c) && of_connection.lies_past c s) (has_backlog_at h s.destination) again) in (
          entry e (Connected c None),
          same,
          record {
            guards = guards;
            opens = opens;
            there = found_by_id between 0 h.last_id h.entries (entry e (Connected c None)) o.ids found;
            may = left_may (entry e (Connected c None)) left;
            listener = l.0;
            listens = l.1;
            which = inl (record { between = found; connection = c; connected = refl; left = left; past = and_right (is_some (of_connection.left_since c)) _ tests; backlog = l.2 });
          },
        ))
        (λ not_so. let bad : None ≡ Some id = rw not_so at is in cc)
    anew guards opens e (Connected c (Some l)) found is = cc
    anew guards opens e (Listener l b) found is = cc
    anew guards opens e (Idle buffers bound) found is = cc
    anew guards opens e (Datagrams bound socket) found is = cc

    by_connection : h.manner.guards ≡ true → is_opening s.flags ≡ true → (w : Option Entry) → find between h.entries ≡ w → id_for h source s ≡ Some id → Given h source s id
    by_connection guards opens None none is = at_listener guards opens none (find (is_listening_at s.destination) h.entries) refl (rw (opens, none) at is)
    by_connection guards opens (Some e) found is = anew guards opens e.id e.role found (rw (opens, found) at is)

-- To a socket.

pub socket_given : (h : SocketsView) (id : SocketId) → IsOrdered h → way_for_socket h ≡ Some id → (x : Entry) × (x.id ≡ id) × IsGivenForSocket h x
socket_given h id o way =
    by_test (gives_places h)
    (λ gives.
    by_test (length h.entries == h.sizes.entries)
    (λ all.
    let it = longest_found h id o (rw (gives, all) at way) in
    (it.0, it.1, record { guards = and_left h.manner.guards _ gives; full = eqb-true (length h.entries) h.sizes.entries all; there = it.3; longest = it.2 }))
    (λ less. let bad : None ≡ Some id = rw (gives, less) at way in cc))
    (λ none. let bad : None ≡ Some id = rw none at way in cc)

pub none_gives : (h : SocketsView) → h.manner.guards ≡ false → ((source : Addr) (s : Segment) → way_for h source s ≡ None) × (way_for_socket h ≡ None)
none_gives h off = (λ source s. rw off refl, rw off refl)
