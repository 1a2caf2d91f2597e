-- The pair of two ends, and which entries of a table hold it.
use Rattle.std.proofs.Common.{◌≡◌, ℕ, ◌==◌, ◌&&◌, ◌||◌, not, Bool, true, false, cond, List, Option, Some, None, option_map, refl, sym, ◌∙◌, ap}
use Rattle.std.specs.List.{find}
use Rattle.std.specs.Ordering.{is_le}
use Rattle.std.proofs.lemmas.Bool.{and_parts, and_from, and_right, false_from_ne_true}
use Rattle.ipv4.specs.declared.addr.Addr.{Addr}
use Rattle.ipv4.specs.declared.addr.Endpoint.{Endpoint}
use Rattle.ipv4.specs.declared.addr.Pair.{Pair}
use Rattle.ipv4.specs.Addresses.{endpoint_cmp, pair_of, same_addr, same_end}
use Rattle.sockets.specs.declared.entry.SocketId.{SocketId}
use Rattle.sockets.specs.declared.entry.Entry.{Entry}
use Rattle.sockets.specs.declared.role.Role.{Role}
use Rattle.sockets.specs.declared.role.Role.TheVariants.{Idle, Listener, Connected, Datagrams}
use Rattle.tcp_state.specs.View.{View, is_closed}
use Rattle.sockets.specs.Entries.{is_live_between, is_between, joins, is_of_pair}
use Rattle.sockets.specs.SocketsView.{SocketsView, holder_id}
use Rattle.wire_sim.specs.Tallies.{same_pair}
use Rattle.wire_sim.proofs.lists.FoundAfterChange.{find-passes}
use Rattle.sockets.proofs.Ends.{same_addr-same, same_addr-true, same_end-same, same_end-true}
use Rattle.sockets.proofs.Held.{joins_own}
use Rattle.wire_sim.proofs.tables.TableById.{AreSole, role_at, found-role, none-role}

-- Tests of addresses, endpoints and pairs.

-- the test of two addresses is symmetric
pub same_addr-other : (a b : Addr) → same_addr a b ≡ false → same_addr b a ≡ false
same_addr-other a b other = false_from_ne_true (same_addr b a)
    (λ e. let bad : true ≡ false = sym (same_addr-same a b (sym (same_addr-true b a e))) ∙ other in cc)

-- a pair is the same as itself ..
pub same_pair-same : (pair : Pair) → same_pair pair pair ≡ true
same_pair-same pair = and_from (same_end pair.first pair.first) (same_end pair.second pair.second) (same_end-same pair.first) (same_end-same pair.second)

-- .. and as no other
pub same_pair-true : (a b : Pair) → same_pair a b ≡ true → a ≡ b
same_pair-true a b e =
    let parts = and_parts (same_end a.first b.first) (same_end a.second b.second) e in
    let first : a.first ≡ b.first = same_end-true a.first b.first parts.0 in
    let second : a.second ≡ b.second = same_end-true a.second b.second parts.1 in
    ap (λ x. let y : Pair = record { first = x; second = a.second } in y) first ∙ ap (λ x. let y : Pair = record { first = b.first; second = x } in y) second

-- Who holds a pair.

-- a role with a connection from our address
abbrev pub IsOurs : Addr → Role → Type 0
IsOurs own (Connected c listener) = c.local.addr ≡ own
IsOurs own (Listener local backlog) = Unit {0}
IsOurs own (Idle buffers bound) = Unit {0}
IsOurs own (Datagrams bound socket) = Unit {0}

-- a connection of ours lies not from another address to us
not_reversed : (local peer : Endpoint) (r : Role) → same_addr local.addr peer.addr ≡ false → IsOurs local.addr r → is_live_between peer local r ≡ false
not_reversed local peer (Connected c l) apart ours =
    let other : same_addr c.local.addr peer.addr ≡ false = ap (λ a. same_addr a peer.addr) ours ∙ apart in
    and_right (not (is_closed c.state)) ((same_addr c.local.addr peer.addr && (c.local.port == peer.port)) && (same_addr c.peer.addr local.addr && (c.peer.port == local.port)))
    (ap (λ b. (b && (c.local.port == peer.port)) && (same_addr c.peer.addr local.addr && (c.peer.port == local.port))) other)
not_reversed local peer (Listener bound backlog) apart ours = refl
not_reversed local peer (Idle buffers bound) apart ours = refl
not_reversed local peer (Datagrams bound socket) apart ours = refl

-- a role of ours is of the pair just where it lies between the two ends
pub joins-between : (local peer : Endpoint) (r : Role) → same_addr local.addr peer.addr ≡ false → IsOurs local.addr r → joins (pair_of local peer) r ≡ is_live_between local peer r
joins-between local peer r apart ours = step (is_le (endpoint_cmp local peer)) (is_live_between local peer r) refl
  where
    wrong : is_live_between peer local r ≡ false
    wrong = not_reversed local peer r apart ours

    step : (b c : Bool) → is_live_between local peer r ≡ c → joins (cond b (record { first = local; second = peer }) (record { first = peer; second = local })) r ≡ c
    step true true is = ap (λ x. x || is_live_between peer local r) is
    step true false is = ap (λ x. x || is_live_between peer local r) is ∙ wrong
    step false c is = ap (λ x. x || is_live_between local peer r) wrong ∙ is

-- where none lies between our end and another address's, none holds their pair
pub unheld-between : (local peer : Endpoint) (xs : List Entry) → same_addr local.addr peer.addr ≡ false → AreSole xs → ((i : ℕ) (r : Role) → role_at xs i ≡ Some r → IsOurs local.addr r)
    → find (is_between local peer) xs ≡ None → find (is_of_pair (pair_of local peer)) xs ≡ None
unheld-between local peer xs apart sole ours none = decide (find (is_of_pair (pair_of local peer)) xs) refl
  where
    decide : (o : Option Entry) → find (is_of_pair (pair_of local peer)) xs ≡ o → o ≡ None
    decide None at = refl
    decide (Some e) at =
        let role = found-role (is_of_pair (pair_of local peer)) xs e sole at in
        let between = joins-between local peer e.role apart (ours e.id.0 e.role role) in
        let passes = find-passes (is_of_pair (pair_of local peer)) xs e at in
        let bad : true ≡ false = sym passes ∙ (between ∙ none-role (is_live_between local peer) xs e.id.0 e.role none role) in
        cc

-- where none holds a pair, each of its connections is CLOSED
pub unheld-closed : (xs : List Entry) (pair : Pair) (i : ℕ) (c : View) (l : Option SocketId) → find (is_of_pair pair) xs ≡ None → role_at xs i ≡ Some (Connected c l) → pair_of c.local c.peer ≡ pair → is_closed c.state ≡ true
unheld-closed xs pair i c l none at same = decide (is_closed c.state) refl
  where
    decide : (b : Bool) → is_closed c.state ≡ b → b ≡ true
    decide true is = refl
    decide false is =
        let bad : true ≡ false = sym (joins_own c l is) ∙ (ap (λ p. joins p (Connected c l)) same ∙ none-role (joins pair) xs i (Connected c l) none at) in
        cc

-- a host without a holder of a pair
pub unheld : (h : SocketsView) (pair : Pair) → holder_id h pair ≡ None → find (is_of_pair pair) h.entries ≡ None
unheld h pair = decide (find (is_of_pair pair) h.entries)
  where
    decide : (o : Option Entry) → option_map (λ (e : Entry). e.id) o ≡ None → o ≡ None
    decide None e = refl
    decide (Some x) e = cc
