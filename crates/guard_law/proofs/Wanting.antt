-- Something gives way on guard wherever room is wanting and something may.
use Rattle.std.proofs.Common.{◌≡◌, ◌⊎◌, inl, inr, ℕ, zero, suc, ◌+◌, ◌^◌, ◌<◌, ◌≤◌, ◌==◌, ◌&&◌, nat_le, Bool, true, false, List, [], ◌∷◌, length, count_by, fold, find, Option, Some, None, Ok, option_map, is_some, Contains, slice_index_or, refl, sym, ◌∙◌, ap, arith}
use Rattle.std.specs.Option.{option_or}
use Rattle.std.proofs.lemmas.Bool.{eqb-true, leb-true, leb-false}
use Rattle.clock.specs.declared.moment.Moment.{Moment}
use Rattle.clock.specs.Moments.{sooner}
use Rattle.frames.specs.declared.meaning.Meaning.TheVariants.{Tcp}
use Rattle.frames.specs.declared.meaning.ReceivedSegment.{ReceivedSegment}
use Rattle.interface.specs.Ways.{is_routed}
use Rattle.ipv4.specs.declared.addr.Addr.{Addr}
use Rattle.tcp_segment.specs.Segment.{Segment}
use Rattle.tcp_halves.proofs.Choices.{both}
use Rattle.sockets.specs.declared.entry.SocketId.{SocketId}
use Rattle.sockets.specs.declared.entry.Entry.{Entry}
use Rattle.sockets.specs.Arrival.{is_opening}
use Rattle.sockets.specs.Calls.{is_table_full}
use Rattle.sockets.specs.Entries.{is_listening_at, is_waiting_at, backlog_of}
use Rattle.sockets.specs.GiveWay.{is_unanswered_at, left_since, is_left_since, first_id, longest_left, longest_id, id_at, opens_anew, has_backlog_at, gives_places, way_for, way_for_socket, IsOpenedAnew}
use Rattle.sockets.specs.Needs.{is_backlog_full}
use Rattle.sockets.specs.Order.{IsOrdered}
use Rattle.sockets.specs.SocketsView.{SocketsView}
use Rattle.sockets.proofs.Deadlines.{least}
use Rattle.sockets.proofs.Ends.{eqb-same}
use Rattle.sockets.proofs.Followed.{by_test}
use Rattle.sockets.proofs.GivenRoom.{socket_placed}
use Rattle.host.specs.Heard.{heard_by}
use Rattle.host.specs.HostView.{HostView}
use Rattle.host.specs.GiveWay as of_host
use Rattle.guard_law.specs.Wanting.{IsOnGuard, ComesTo}

-- Of what is in the table and passes a test one is found first.

found : (P : Entry → Bool) (xs : List Entry) (x : Entry) → Contains xs x → P x ≡ true → is_some (find P xs) ≡ true
found P [] x at passes = absurd (omega (arith, at.1))
found P (y ∷ ys) x at passes = by_test (P y) (λ here. rw here refl) (λ fails. rw fails (by_place (λ within. found P ys x within passes) fails at.0 at.1 at.2))
  where
    by_place : (Contains ys x → is_some (find P ys) ≡ true) → P y ≡ false → (k : ℕ) → k < length (y ∷ ys) → slice_index_or (y ∷ ys) k x ≡ x → is_some (find P ys) ≡ true
    by_place further fails zero within is = let no : true ≡ false = sym passes ∙ sym (ap P is) ∙ fails in cc
    by_place further fails (suc k) within is = further (k, omega (arith, within), is)

named : (o : Option Entry) → is_some o ≡ true → is_some (option_map (λ (x : Entry). x.id) o) ≡ true
named None some = some
named (Some x) some = refl

first_named : (P : Entry → Bool) (xs : List Entry) (x : Entry) → Contains xs x → P x ≡ true → is_some (first_id P xs) ≡ true
first_named P xs x at passes = named (find P xs) (found P xs x at passes)

-- What is in TIME-WAIT for nobody.

abbrev least_of : Option Moment → List Entry → Option Moment
least_of first xs = fold (λ (least : Option Moment) (x : Entry). sooner least (left_since x.role)) first xs

sooner_left : (a b : Option Moment) → is_some a ≡ true → is_some (sooner a b) ≡ true
sooner_left a b some = grind arith

sooner_right : (a b : Option Moment) → is_some b ≡ true → is_some (sooner a b) ≡ true
sooner_right a b some = grind arith

stays : (first : Option Moment) (xs : List Entry) → is_some first ≡ true → is_some (least_of first xs) ≡ true
stays first [] some = some
stays first (y ∷ ys) some = stays (sooner first (left_since y.role)) ys (sooner_left first (left_since y.role) some)

has_least : (first : Option Moment) (xs : List Entry) (x : Entry) → Contains xs x → is_some (left_since x.role) ≡ true → is_some (least_of first xs) ≡ true
has_least first [] x at left = absurd (omega (arith, at.1))
has_least first (y ∷ ys) x at left = by_place (λ within. has_least (sooner first (left_since y.role)) ys x within left) at.0 at.1 at.2
  where
    by_place : (Contains ys x → is_some (least_of (sooner first (left_since y.role)) ys) ≡ true) → (k : ℕ) → k < length (y ∷ ys) → slice_index_or (y ∷ ys) k x ≡ x → is_some (least_of (sooner first (left_since y.role)) ys) ≡ true
    by_place further zero within is = stays (sooner first (left_since y.role)) ys (sooner_right first (left_since y.role) (ap (λ (z : Entry). is_some (left_since z.role)) is ∙ left))
    by_place further (suc k) within is = further (k, omega (arith, within), is)

longest_named : (h : SocketsView) (x : Entry) → Contains h.entries x → is_some (left_since x.role) ≡ true → is_some (longest_id h.entries) ≡ true
longest_named h x at left = by_least (longest_left h.entries) refl (has_least None h.entries x at left)
  where
    passes : (since : Moment) (y : Entry) → left_since y.role ≡ Some since → is_left_since since y.role ≡ true
    passes since y is = rw is (eqb-same since.0)

    by_least : (w : Option Moment) → longest_left h.entries ≡ w → is_some w ≡ true → is_some (longest_id h.entries) ≡ true
    by_least None none some = cc
    by_least (Some since) is some = rw is (by_one (least left_since None h.entries since is).one)
      where
        by_one : (None ≡ Some since) ⊎ ((y : Entry) × Contains h.entries y × (left_since y.role ≡ Some since)) → is_some (first_id (λ (y : Entry). is_left_since since y.role) h.entries) ≡ true
        by_one (inl e) = cc
        by_one (inr it) = first_named (λ (y : Entry). is_left_since since y.role) h.entries it.0 it.1 (passes since it.0 it.2)

-- What gives way.

gives : (h : SocketsView) → IsOnGuard h → gives_places h ≡ true
gives h on = both h.manner.guards _ on.guards (by_test (h.last_id + 1 == 2 ^ 64) (λ all. absurd (on.ids (eqb-true (h.last_id + 1) (2 ^ 64) all))) (λ few. rw few refl))

at_listener : (h : SocketsView) (source : Addr) (s : Segment) (listener : Entry) → IsOnGuard h → ComesTo h source s listener → is_some (id_at h listener) ≡ true → is_some (way_for h source s) ≡ true
at_listener h source s listener on comes some = rw (gives h on, comes.opens, comes.between, comes.listens) some

full_test : (n m : ℕ) → m ≤ n → nat_le m n ≡ true
full_test n m full = by_test (nat_le m n) (λ yes. yes) (λ no. let less : n < m = leb-false _ _ no in absurd (omega (arith, full, less)))

few_test : (n m : ℕ) → n < m → nat_le m n ≡ false
few_test n m few = by_test (nat_le m n) (λ yes. let more : m ≤ n = leb-true _ _ yes in absurd (omega (arith, few, more))) (λ no. no)

abbrev Waiting : SocketsView → Entry → ℕ
Waiting h listener = count_by (is_waiting_at listener.id) h.entries

pub backlog_given : (h : SocketsView) (source : Addr) (s : Segment) (listener x : Entry) → IsOnGuard h → ComesTo h source s listener → backlog_of listener.role ≤ Waiting h listener
    → Contains h.entries x → is_unanswered_at listener.id x ≡ true → is_some (way_for h source s) ≡ true
backlog_given h source s listener x on comes full at waits =
    let is_full : is_backlog_full h listener ≡ true = full_test (Waiting h listener) (backlog_of listener.role) full in
    at_listener h source s listener on comes (rw is_full (first_named (is_unanswered_at listener.id) h.entries x at waits))

pub table_given : (h : SocketsView) (source : Addr) (s : Segment) (listener x : Entry) → IsOnGuard h → ComesTo h source s listener → Waiting h listener < backlog_of listener.role → length h.entries ≡ h.sizes.entries
    → Contains h.entries x → (is_unanswered_at listener.id x ≡ true) ⊎ (is_some (left_since x.role) ≡ true) → is_some (way_for h source s) ≡ true
table_given h source s listener x on comes few all at may =
    let has_place : is_backlog_full h listener ≡ false = few_test (Waiting h listener) (backlog_of listener.role) few in
    let is_full : (length h.entries == h.sizes.entries) ≡ true = ap (λ (n : ℕ). n == h.sizes.entries) all ∙ eqb-same h.sizes.entries in
    at_listener h source s listener on comes (rw (has_place, is_full) (either (first_id (is_unanswered_at listener.id) h.entries) refl may))
  where
    either : (w : Option SocketId) → first_id (is_unanswered_at listener.id) h.entries ≡ w → (is_unanswered_at listener.id x ≡ true) ⊎ (is_some (left_since x.role) ≡ true) → is_some (option_or w (longest_id h.entries)) ≡ true
    either (Some id) is may = refl
    either None is (inl waits) = let no : false ≡ true = ap is_some (sym is) ∙ first_named (is_unanswered_at listener.id) h.entries x at waits in cc
    either None is (inr left) = longest_named h x at left

pub socket_given : (h : SocketsView) (x : Entry) → IsOnGuard h → length h.entries ≡ h.sizes.entries → Contains h.entries x → is_some (left_since x.role) ≡ true → is_some (way_for_socket h) ≡ true
socket_given h x on all at left =
    let is_full : (length h.entries == h.sizes.entries) ≡ true = ap (λ (n : ℕ). n == h.sizes.entries) all ∙ eqb-same h.sizes.entries in
    rw (gives h on, is_full) (longest_named h x at left)

pub anew_given : (h : SocketsView) (source : Addr) (s : Segment) (listener x : Entry) → IsOnGuard h → is_opening s.flags ≡ true → find (is_listening_at s.destination) h.entries ≡ Some listener
    → IsOpenedAnew h source s listener x → way_for h source s ≡ Some x.id
anew_given h source s listener x on opens listens again =
    let has_place : is_backlog_full h listener ≡ false = few_test (Waiting h listener) (backlog_of listener.role) again.backlog in
    let backlog : has_backlog_at h s.destination ≡ true = rw (listens, has_place) refl in
    let left : is_some (left_since x.role) ≡ true = rw again.connected again.left in
    let does : opens_anew h s x.role ≡ true = both (is_some (left_since x.role) && _) _ (both _ _ left (rw again.connected again.past)) backlog in
    rw (gives h on, opens, again.between, does) refl

-- A host makes way.

pub segment_given : (h : HostView) (octets : List ℕ) (r : ReceivedSegment) → heard_by h octets ≡ Ok (Tcp r) → is_routed h.interface r.source ≡ true → of_host.way_for h octets ≡ way_for h.sockets r.source r.segment
segment_given h octets r hears routed = rw (hears, routed) refl

pub place_given : (h : HostView) (x : Entry) → IsOrdered h.sockets → IsOnGuard h.sockets → length h.sockets.entries ≡ h.sockets.sizes.entries → Contains h.sockets.entries x → is_some (left_since x.role) ≡ true
    → is_table_full (of_host.with_place h).sockets ≡ false
place_given h x o on all at left = by_way (way_for_socket h.sockets) refl (socket_given h.sockets x on all at left)
  where
    by_way : (w : Option SocketId) → way_for_socket h.sockets ≡ w → is_some w ≡ true → is_table_full (of_host.with_place h).sockets ≡ false
    by_way None is some = cc
    by_way (Some id) is some = rw is (socket_placed h.sockets id o is)
