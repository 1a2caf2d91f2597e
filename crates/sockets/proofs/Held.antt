-- The connection that a segment opens holds its pair.
use Rattle.std.proofs.Common.{◌≡◌, ℕ, ◌+◌, ◌==◌, ◌&&◌, ◌||◌, not, Bool, true, false, cond, List, [], ◌∷◌, ◌++◌, Option, Some, None, option_map, refl, sym, ◌∙◌, ap}
use Rattle.std.specs.List.{find, AllByRecursion}
use Rattle.std.specs.Ordering.{is_le}
use Rattle.std.proofs.lemmas.Bool.{and_from, and_right}
use Rattle.ipv4.specs.declared.addr.Addr.{Addr}
use Rattle.ipv4.specs.declared.addr.Endpoint.{Endpoint}
use Rattle.ipv4.specs.declared.addr.Pair.{Pair}
use Rattle.ipv4.specs.Addresses.{endpoint_cmp, pair_of, same_addr, same_end}
use Rattle.tcp_segment.specs.declared.head.Head.{Head}
use Rattle.tcp_segment.specs.Segment.{Segment}
use Rattle.clock.specs.declared.moment.Moment.{Moment}
use Rattle.tcp_state.specs.View.{View, is_closed}
use Rattle.tcp_state.specs.Arrival.{opened_passively}
use Rattle.sockets.specs.declared.entry.SocketId.{SocketId}
use Rattle.sockets.specs.declared.entry.Entry.{Entry}
use Rattle.sockets.specs.declared.role.Role.{Role}
use Rattle.sockets.specs.declared.role.Role.TheVariants.{Connected}
use Rattle.sockets.specs.Entries.{is_between, is_of_pair, is_live_between, joins, new_waiting}
use Rattle.sockets.specs.SocketsView.{SocketsView, holder_id, later_moment}
use Rattle.sockets.specs.Arrival.{room_for, Opens, local_end, peer_end, arrival_with_reply, after_opening, arrival}
use Rattle.sockets.specs.Order.{LiesAt, IsOrdered}
use Rattle.sockets.proofs.Arrivals.{by_arrival}
use Rattle.sockets.proofs.Ends.{same_addr-same, same_addr-true, same_end-same}
use Rattle.sockets.proofs.Followed.{by_test}

-- the last of a list is found where none before it passes
found_last : (test : Entry → Bool) (xs : List Entry) (x : Entry) → find test xs ≡ None → test x ≡ true → find test (xs ++ x ∷ []) ≡ Some x
found_last test [] x none passes = rw passes
found_last test (y ∷ ys) x none passes =
    by_test (test y)
    (λ here. let some : Some y ≡ None = ap (λ b. cond b (Some y) (find test ys)) (sym here) ∙ none in cc)
    (λ not_here. rw not_here (found_last test ys x (ap (λ b. cond b (Some y) (find test ys)) (sym not_here) ∙ none) passes))

-- a connection from our address to another one lies not from that to ours
not_reversed : (here there : Endpoint) (r : Role) → same_addr here.addr there.addr ≡ false → LiesAt here.addr r → is_live_between there here r ≡ false
not_reversed here there (Connected c l) apart lies =
    let local : same_addr c.local.addr there.addr ≡ false = ap (λ a. same_addr a there.addr) lies.0 ∙ apart in
    and_right (not (is_closed c.state)) (same_end c.local there && same_end c.peer here)
    (ap (λ b. (b && (c.local.port == there.port)) && same_end c.peer here) local)
not_reversed here there _ apart lies = refl

-- so it is of the pair just where it lies between the two ends
joins_between : (here there : Endpoint) (r : Role) → same_addr here.addr there.addr ≡ false → LiesAt here.addr r → is_live_between here there r ≡ false → joins (pair_of here there) r ≡ false
joins_between here there r apart lies none = step (is_le (endpoint_cmp here there))
  where
    wrong : is_live_between there here r ≡ false
    wrong = not_reversed here there r apart lies

    step : (b : Bool) → joins (cond b (record { first = here; second = there }) (record { first = there; second = here })) r ≡ false
    step true = ap (λ x. x || is_live_between there here r) none ∙ wrong
    step false = ap (λ x. x || is_live_between here there r) wrong ∙ none

unheld : (here there : Endpoint) (xs : List Entry) → same_addr here.addr there.addr ≡ false → AllByRecursion (λ (e : Entry). LiesAt here.addr e.role) xs → find (is_between here there) xs ≡ None → find (is_of_pair (pair_of here there)) xs ≡ None
unheld here there [] apart all none = refl
unheld here there (x ∷ xs) apart all none =
    by_test (is_between here there x)
    (λ between. let some : Some x ≡ None = ap (λ b. cond b (Some x) (find (is_between here there) xs)) (sym between) ∙ none in cc)
    (λ other. rw (joins_between here there x.role apart all.0 other) (unheld here there xs apart all.1 (ap (λ b. cond b (Some x) (find (is_between here there) xs)) (sym other) ∙ none)))

-- a connection that is not CLOSED is of its pair
pub joins_own : (c : View) (l : Option SocketId) → is_closed c.state ≡ false → joins (pair_of c.local c.peer) (Connected c l) ≡ true
joins_own c l live = step (is_le (endpoint_cmp c.local c.peer))
  where
    own : is_live_between c.local c.peer (Connected c l) ≡ true
    own = and_from (not (is_closed c.state)) (same_end c.local c.local && same_end c.peer c.peer) (ap not live) (and_from (same_end c.local c.local) (same_end c.peer c.peer) (same_end-same c.local) (same_end-same c.peer))

    second : (b d : Bool) → d ≡ true → (b || d) ≡ true
    second true d e = refl
    second false d e = e

    step : (b : Bool) → joins (cond b (record { first = c.local; second = c.peer }) (record { first = c.peer; second = c.local })) (Connected c l) ≡ true
    step true = ap (λ b. b || is_live_between c.peer c.local (Connected c l)) own
    step false = second (is_live_between c.peer c.local (Connected c l)) (is_live_between c.local c.peer (Connected c l)) own

-- what a segment opens
record IsOpening (h : SocketsView) (now : Moment) (isn : ℕ) (source : Addr) (s : Segment) (next : SocketsView) : Type 0 where
  none : find (is_between (local_end h s) (peer_end source s)) h.entries ≡ None
  listener : Entry
  is : next ≡ after_opening h (later_moment h now) isn listener source s

answers_not : (h : SocketsView) (reply : Option Head) (next : SocketsView) → arrival_with_reply h reply ≡ Opens next → ⊥
answers_not h None next e = cc
answers_not h (Some head) next e = cc

opening_of : (h : SocketsView) (now : Moment) (isn : ℕ) (source : Addr) (s : Segment) (next : SocketsView) → arrival h now isn source s ≡ Opens next → IsOpening h now isn source s next
opening_of h now isn source s next =
    by_arrival h now isn source s (λ a. a ≡ Opens next → IsOpening h now isn source s next) (λ reply is opened. absurd (answers_not h reply next opened)) (λ e taker opened. cc) (λ listener called full opened. cc)
    (λ listener called room opened. record { none = called.none; listener = listener; is = cc })

apart_too : (a b : Addr) → same_addr a b ≡ false → same_addr b a ≡ false
apart_too a b apart = by_test (same_addr b a)
    (λ alike. let same : same_addr a b ≡ true = same_addr-same a b (sym (same_addr-true b a alike)) in cc)
    (λ other. other)

pub opening_holds : (h : SocketsView) (now : Moment) (isn : ℕ) (source : Addr) (s : Segment) (next : SocketsView) → IsOrdered h → same_addr source h.addr ≡ false → arrival h now isn source s ≡ Opens next
    → holder_id next (pair_of (local_end h s) (peer_end source s)) ≡ Some (record { 0 = h.last_id + 1 })
opening_holds h now isn source s next ordered apart opened =
    let o = opening_of h now isn source s next opened in
    let c : View = opened_passively (room_for h s) (local_end h s) (peer_end source s) isn s (later_moment h now) in
    let x : Entry = new_waiting (record { 0 = h.last_id + 1 }) o.listener.id c in
    let pair : Pair = pair_of (local_end h s) (peer_end source s) in
    let free : find (is_of_pair pair) h.entries ≡ None = unheld (local_end h s) (peer_end source s) h.entries (apart_too source h.addr apart) ordered.own o.none in
    let found : find (is_of_pair pair) (h.entries ++ x ∷ []) ≡ Some x = found_last (is_of_pair pair) h.entries x free (joins_own c (Some o.listener.id) refl) in
    ap (λ (w : SocketsView). holder_id w pair) o.is ∙ ap (option_map (λ (e : Entry). e.id)) found
