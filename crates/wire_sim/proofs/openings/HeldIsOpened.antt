-- A pair that a host does not hold is held after an event only where the event opens it.
use Rattle.tcp_halves.specs.Halves.{Room}
use Rattle.std.proofs.Common.{◌≡◌, ◌⊎◌, inl, inr, ℕ, ◌&&◌, ◌||◌, ◌==◌, not, if◌then◌else◌, Bool, true, false, cond, List, [], ◌∷◌, Option, Some, None, is_some, refl, sym, ◌∙◌, ap}
use Rattle.std.specs.List.{find}
use Rattle.std.proofs.lemmas.Bool.{and_parts}
use Rattle.ipv4.specs.declared.addr.Addr.{Addr}
use Rattle.ipv4.specs.declared.addr.Endpoint.{Endpoint}
use Rattle.ipv4.specs.declared.addr.Pair.{Pair}
use Rattle.std.specs.Ordering.{is_le}
use Rattle.ipv4.specs.Addresses.{endpoint_cmp, pair_of, same_end}
use Rattle.ipv4.proofs.Pairs.{pair_of-swapped}
use Rattle.tcp_segment.specs.Segment.{Segment}
use Rattle.tcp_state.specs.Edges as edge
use Rattle.tcp_state.specs.declared.connection.Fate.{Fate}
use Rattle.tcp_state.specs.declared.emission.Due.{Due}
use Rattle.clock.specs.declared.moment.Moment.{Moment}
use Rattle.tcp_state.specs.View.{opened_actively, View, is_closed, is_opening}
use Rattle.tcp_state.specs.Timing.{after_tick}
use Rattle.tcp_state.specs.Alive.{after_set_keepalive}
use Rattle.tcp_state.specs.Calls.{after_send, after_recv, after_shutdown, after_set_nodelay, after_abort}
use Rattle.tcp_state.specs.Due.{first_due, after_emitted}
use Rattle.tcp_state.specs.Arrival.{after_segment_at}
use Rattle.tcp_state.specs.Unreachable.{after_unreachable}
use Rattle.tcp_state.specs.Hop.{after_hopless}
use Rattle.udp.specs.Datagram.{UserDatagram}
use Rattle.udp_socket.specs.SocketView.{SocketView}
use Rattle.sockets.specs.declared.emission.Outgoing.{Outgoing}
use Rattle.sockets.specs.declared.entry.SocketId.{SocketId}
use Rattle.sockets.specs.declared.entry.Entry.{Entry}
use Rattle.sockets.specs.declared.role.Leave.{Leave}
use Rattle.sockets.specs.declared.role.Role.{Role}
use Rattle.sockets.specs.declared.role.Role.TheVariants.{Idle, Listener, Connected, Datagrams}
use Rattle.sockets.specs.Entries.{is_live_between, on_datagrams, is_datagrams_at, role_after_reception, role_after_connect, is_between, joins, is_of_pair, is_kept, entries_after_step, entries_after_steps, with_role, role_after_bind, role_after_listen, role_after_accept, role_after_tick, role_after_segment, role_after_unreachable, unreachable_fate_of, role_after_send, role_after_shutdown, role_after_nodelay, role_after_keepalive, role_after_recv, role_after_emission, leaving_event, role_after_leaving, role_after_abort, role_after_listener_close, waits_at}
use Rattle.sockets.specs.declared.datagrams.Reception.{Reception}
use Rattle.sockets.specs.declared.datagrams.Reception.TheVariants.{Queued, NoRoom, NoSocket}
use Rattle.sockets.specs.Datagrams.{reception, after_reception}
use Rattle.sockets.specs.Lists.{change_first, remove_first}
use Rattle.sockets.specs.Lost.{is_hopless, role_after_giving_up}
use Rattle.sockets.specs.SocketsView.{SocketsView}
use Rattle.sockets.specs.Unreachable as table_errors
use Rattle.wire_sim.proofs.lists.FoundAfterChange.{none-removed}
use Rattle.sockets.proofs.Ends.{same_end-true}
use Rattle.sockets.proofs.KeptEnds.{KeepsEnds, keeps-nothing, keeps-shutdown, keeps-event, keeps-first}

-- Lists.

-- a search that finds nothing passes over the first
none-parts : {X : Type 0} (x : X) (o : Option X) (b : Bool) → cond b (Some x) o ≡ None → (b ≡ false) × (o ≡ None)
none-parts x o true e = cc
none-parts x o false e = (refl, e)

none-from : {X : Type 0} (x : X) (o : Option X) (b : Bool) → b ≡ false → o ≡ None → cond b (Some x) o ≡ None
none-from x o b is e = ap (λ c. cond c (Some x) o) is ∙ e

-- a change of the first that passes another test, which makes none pass this one
pub none-changed : {X : Type 0} (s t : X → Bool) (f : X → X) (xs : List X) → ((x : X) → s x ≡ true → t x ≡ false → t (f x) ≡ false) → find t xs ≡ None → find t (change_first s f xs) ≡ None
none-changed {X} s t f xs keeps = go xs
  where
    step : (x : X) (xs : List X) → (find t xs ≡ None → find t (change_first s f xs) ≡ None) → (b : Bool) → s x ≡ b → t x ≡ false → find t xs ≡ None → find t (cond b (f x ∷ xs) (x ∷ change_first s f xs)) ≡ None
    step x xs more true is out none = none-from (f x) (find t xs) (t (f x)) (keeps x is out) none
    step x xs more false is out none = none-from x (find t (change_first s f xs)) (t x) out (more none)

    go : (xs : List X) → find t xs ≡ None → find t (change_first s f xs) ≡ None
    go [] none = refl
    go (x ∷ xs) none = let p = none-parts x (find t xs) (t x) none in step x xs (go xs) (s x) refl p.0 p.1

-- Roles.

-- a change of a role that makes it hold no pair that it did not hold
abbrev pub KeepsUnheld : (Role → Role) → Type 0
KeepsUnheld g = (pair : Pair) (r : Role) → joins pair r ≡ false → joins pair (g r) ≡ false

-- a connection whose endpoints stay, and that does not live again
pub unjoined : (pair : Pair) (v w : View) (l k : Option SocketId) → KeepsEnds v w → joins pair (Connected v l) ≡ false → joins pair (Connected w k) ≡ false
unjoined pair v w l k keeps out = decide (is_closed w.state) refl
  where
    test : Bool → Endpoint → Endpoint → Bool
    test b x y = (not b && (same_end x pair.first && same_end y pair.second)) || (not b && (same_end x pair.second && same_end y pair.first))

    decide : (b : Bool) → is_closed w.state ≡ b → test (is_closed w.state) w.local w.peer ≡ false
    decide true is = ap (λ b. test b w.local w.peer) is
    decide false is =
        ap (λ b. test b w.local w.peer) is ∙ (ap (λ x. test false x w.peer) keeps.local ∙ (ap (λ y. test false v.local y) keeps.peer ∙ (sym (ap (λ b. test b v.local v.peer) (keeps.live is)) ∙ out)))

pub unheld_bound_to : (local : Endpoint) → KeepsUnheld (role_after_bind local)
unheld_bound_to local pair (Idle b bound) out = refl
unheld_bound_to local pair (Datagrams bound s) out = refl
unheld_bound_to local pair (Listener x y) out = refl
unheld_bound_to local pair (Connected c l) out = out

pub unheld_listening : (backlog : ℕ) → KeepsUnheld (role_after_listen backlog)
unheld_listening backlog pair (Idle b (Some x)) out = refl
unheld_listening backlog pair (Idle b None) out = refl
unheld_listening backlog pair (Datagrams bound s) out = refl
unheld_listening backlog pair (Listener x y) out = refl
unheld_listening backlog pair (Connected c l) out = out

pub unheld_accepted : KeepsUnheld role_after_accept
unheld_accepted pair (Idle b bound) out = refl
unheld_accepted pair (Datagrams bound s) out = refl
unheld_accepted pair (Listener x y) out = refl
unheld_accepted pair (Connected c l) out = unjoined pair c c l None (keeps-nothing c) out

pub unheld_ticked : (now : Moment) → KeepsUnheld (role_after_tick now)
unheld_ticked now pair (Idle b bound) out = refl
unheld_ticked now pair (Datagrams bound s) out = refl
unheld_ticked now pair (Listener x y) out = refl
unheld_ticked now pair (Connected c l) out = unjoined pair c (after_tick c now) l l (keeps-event c (edge.Ticks now)) out

pub unheld_sent : (now : Moment) (octets : List ℕ) → KeepsUnheld (role_after_send now octets)
unheld_sent now octets pair (Idle b bound) out = refl
unheld_sent now octets pair (Datagrams bound s) out = refl
unheld_sent now octets pair (Listener x y) out = refl
unheld_sent now octets pair (Connected c l) out = unjoined pair c (after_send c octets now) l l (keeps-event c (edge.Sends octets now)) out

pub unheld_received : (len : ℕ) → KeepsUnheld (role_after_recv len)
unheld_received len pair (Idle b bound) out = refl
unheld_received len pair (Datagrams bound s) out = refl
unheld_received len pair (Listener x y) out = refl
unheld_received len pair (Connected c l) out = unjoined pair c (if len == 0 then c else after_recv c len) l l (either (len == 0)) out
  where
    either : (b : Bool) → KeepsEnds c (if b then c else after_recv c len)
    either true = keeps-nothing c
    either false = keeps-event c (edge.Receives len)

pub unheld_write_shut : (now : Moment) → KeepsUnheld (role_after_shutdown now)
unheld_write_shut now pair (Idle b bound) out = refl
unheld_write_shut now pair (Datagrams bound s) out = refl
unheld_write_shut now pair (Listener x y) out = refl
unheld_write_shut now pair (Connected c l) out = unjoined pair c (if is_some c.pending_error || is_opening c.state then c else after_shutdown c now) l l (either (is_some c.pending_error || is_opening c.state)) out
  where
    either : (b : Bool) → KeepsEnds c (if b then c else after_shutdown c now)
    either true = keeps-nothing c
    either false = keeps-shutdown c now

pub unheld_delayed : (on : Bool) (now : Moment) → KeepsUnheld (role_after_nodelay on now)
unheld_delayed on now pair (Idle b bound) out = refl
unheld_delayed on now pair (Datagrams bound s) out = refl
unheld_delayed on now pair (Listener x y) out = refl
unheld_delayed on now pair (Connected c l) out = unjoined pair c (after_set_nodelay c on now) l l (keeps-event c (edge.SetsNoDelay on now)) out

pub unheld_asked : (every : Option ℕ) (now : Moment) → KeepsUnheld (role_after_keepalive every now)
unheld_asked every now pair (Idle b bound) out = refl
unheld_asked every now pair (Datagrams bound s) out = refl
unheld_asked every now pair (Listener x y) out = refl
unheld_asked every now pair (Connected c l) out = unjoined pair c (after_set_keepalive c every now) l l (keeps-event c (edge.SetsKeepAlive every now)) out

pub unheld_left : (how : Leave) (now : Moment) → KeepsUnheld (role_after_leaving how now)
unheld_left how now pair (Idle b bound) out = refl
unheld_left how now pair (Datagrams bound s) out = refl
unheld_left how now pair (Listener x y) out = refl
unheld_left how now pair (Connected c l) out = unjoined pair c (edge.after_event c (leaving_event how now c)) l l (keeps-event c (leaving_event how now c)) out

unheld_aborted : (now : Moment) → KeepsUnheld (role_after_abort now)
unheld_aborted now pair (Idle b bound) out = refl
unheld_aborted now pair (Datagrams bound s) out = refl
unheld_aborted now pair (Listener x y) out = refl
unheld_aborted now pair (Connected c l) out = unjoined pair c (after_abort c now) l l (keeps-event c (edge.Aborts now)) out

-- an error is told to it
unheld_refused : (number : ℕ) → KeepsUnheld (role_after_unreachable number)
unheld_refused number pair (Idle b bound) out = refl
unheld_refused number pair (Datagrams bound s) out = refl
unheld_refused number pair (Listener x y) out = refl
unheld_refused number pair (Connected c l) out = unjoined pair c (after_unreachable c number) l l (keeps-event c (edge.Unreachable number)) out

pub unheld_forsaken : (now : Moment) (id : SocketId) → KeepsUnheld (role_after_listener_close now id)
unheld_forsaken now id pair r out = either (waits_at id r)
  where
    either : (b : Bool) → joins pair (if b then role_after_abort now r else r) ≡ false
    either true = unheld_aborted now pair r out
    either false = out

pub unheld_emitted_at : (now : Moment) (what : Outgoing) → KeepsUnheld (role_after_emission now what)
unheld_emitted_at now what pair (Idle b bound) out = refl
unheld_emitted_at now what pair (Datagrams bound s) out = refl
unheld_emitted_at now what pair (Listener x y) out = refl
unheld_emitted_at now what pair (Connected c l) out = by_due (first_due c) refl
  where
    by_due : (o : Option Due) → first_due c ≡ o → joins pair (role_after_emission now what (Connected c l)) ≡ false
    by_due None is = let same : role_after_emission now what (Connected c l) ≡ Connected c l = rw is in ap (joins pair) same ∙ out
    by_due (Some due) is = let same : role_after_emission now what (Connected c l) ≡ Connected (after_emitted c due now) l = rw is in ap (joins pair) same ∙ unjoined pair c (after_emitted c due now) l l (keeps-first c (Some due) now) out

-- what a UDP socket makes of itself
pub unheld_datagrams : (bind : Option Endpoint → Option Endpoint) (change : SocketView → SocketView) → KeepsUnheld (on_datagrams bind change)
unheld_datagrams bind change pair (Idle b bound) out = refl
unheld_datagrams bind change pair (Datagrams bound s) out = refl
unheld_datagrams bind change pair (Listener x y) out = refl
unheld_datagrams bind change pair (Connected c l) out = out

pub unheld_given_up : (lost : Addr → Bool) (now : Moment) → KeepsUnheld (role_after_giving_up lost now)
unheld_given_up lost now pair (Idle b bound) out = refl
unheld_given_up lost now pair (Datagrams bound s) out = refl
unheld_given_up lost now pair (Listener x y) out = refl
unheld_given_up lost now pair (Connected c l) out = by_hop (is_hopless lost c)
  where
    by_hop : (b : Bool) → joins pair (Connected (if b then after_hopless c now else c) l) ≡ false
    by_hop true = unjoined pair c (after_hopless c now) l l (keeps-event c (edge.LosesHop now)) out
    by_hop false = out

-- an idle socket connects, to an end of another pair
pub unheld_connecting : (room : Room) (local peer : Endpoint) (isn : ℕ) (now : Moment) (pair : Pair) → joins pair (Connected (opened_actively room local peer isn now) None) ≡ false → (r : Role) → joins pair r ≡ false → joins pair (role_after_connect local peer isn now r) ≡ false
unheld_connecting room local peer isn now pair other (Idle b bound) out = other
unheld_connecting room local peer isn now pair other (Datagrams bound s) out = refl
unheld_connecting room local peer isn now pair other (Listener x y) out = refl
unheld_connecting room local peer isn now pair other (Connected c l) out = out

-- what joins the pair of two ends lies between them
pub joined : (c : View) (l : Option SocketId) (x y : Endpoint) → (pair_of c.local c.peer ≡ pair_of x y) ⊎ (joins (pair_of x y) (Connected c l) ≡ false)
joined c l x y = by_order (is_le (endpoint_cmp x y)) refl
  where
    here : Endpoint → Endpoint → Bool
    here p q = is_live_between p q (Connected c l)

    ends : (p q : Endpoint) → here p q ≡ true → pair_of c.local c.peer ≡ pair_of p q
    ends p q is =
        let both = and_parts (same_end c.local p) (same_end c.peer q) (and_parts (not (is_closed c.state)) (same_end c.local p && same_end c.peer q) is).1 in
        ap (λ e. pair_of e c.peer) (same_end-true c.local p both.0) ∙ ap (pair_of p) (same_end-true c.peer q both.1)

    by_ends : (p q : Endpoint) → pair_of p q ≡ pair_of x y → (a b : Bool) → here p q ≡ a → here q p ≡ b → (pair_of c.local c.peer ≡ pair_of x y) ⊎ ((a || b) ≡ false)
    by_ends p q same true b is was = inl (ends p q is ∙ same)
    by_ends p q same false true is was = inl (ends q p was ∙ (pair_of-swapped q p ∙ same))
    by_ends p q same false false is was = inr refl

    by_order : (b : Bool) → is_le (endpoint_cmp x y) ≡ b → (pair_of c.local c.peer ≡ pair_of x y) ⊎ (joins (if b then record { first = x; second = y } else record { first = y; second = x }) (Connected c l) ≡ false)
    by_order true is = by_ends x y refl (here x y) (here y x) refl refl
    by_order false is = by_ends y x (pair_of-swapped y x) (here y x) (here x y) refl refl

-- a segment that is heard
unheld-arrived : (now : Moment) (s : Segment) (pair : Pair) (e : Entry) → is_of_pair pair e ≡ false → is_of_pair pair (with_role (role_after_segment now s) e) ≡ false
unheld-arrived now s pair e out = of_role e.role out
  where
    of_role : (r : Role) → joins pair r ≡ false → joins pair (role_after_segment now s r) ≡ false
    of_role (Idle b bound) out = refl
    of_role (Datagrams bound s) out = refl
    of_role (Listener x y) out = refl
    of_role (Connected c l) out = unjoined pair c (after_segment_at c s now) l l (keeps-event c (edge.Hears s now)) out

-- Tables.

-- the first entry that passes a test changes its role
pub unheld-changed : (test : Entry → Bool) (g : Role → Role) (pair : Pair) (xs : List Entry) → KeepsUnheld g → find (is_of_pair pair) xs ≡ None → find (is_of_pair pair) (change_first test (with_role g) xs) ≡ None
unheld-changed test g pair xs keeps none = none-changed test (is_of_pair pair) (with_role g) xs (λ e is out. keeps pair e.role out) none

-- the same, of one pair alone
pub unheld-changed_at : (test : Entry → Bool) (g : Role → Role) (pair : Pair) (xs : List Entry) → ((r : Role) → joins pair r ≡ false → joins pair (g r) ≡ false) → find (is_of_pair pair) xs ≡ None
    → find (is_of_pair pair) (change_first test (with_role g) xs) ≡ None
unheld-changed_at test g pair xs keeps none = none-changed test (is_of_pair pair) (with_role g) xs (λ e is out. keeps e.role out) none

-- or takes a step
pub unheld-settled : (fate : Fate) (test : Entry → Bool) (g : Role → Role) (pair : Pair) (xs : List Entry) → KeepsUnheld g → find (is_of_pair pair) xs ≡ None → find (is_of_pair pair) (entries_after_step fate test g xs) ≡ None
unheld-settled fate test g pair xs keeps none = by_fate (is_kept fate)
  where
    by_fate : (b : Bool) → find (is_of_pair pair) (if b then change_first test (with_role g) xs else remove_first test xs) ≡ None
    by_fate true = unheld-changed test g pair xs keeps none
    by_fate false = none-removed test (is_of_pair pair) xs none

-- the one that hears a segment
pub unheld-heard : (fate : Fate) (local peer : Endpoint) (now : Moment) (s : Segment) (pair : Pair) (xs : List Entry) → find (is_of_pair pair) xs ≡ None → find (is_of_pair pair) (entries_after_step fate (is_between local peer) (role_after_segment now s) xs) ≡ None
unheld-heard fate local peer now s pair xs none = by_fate (is_kept fate)
  where
    by_fate : (b : Bool) → find (is_of_pair pair) (if b then change_first (is_between local peer) (with_role (role_after_segment now s)) xs else remove_first (is_between local peer) xs) ≡ None
    by_fate true = none-changed (is_between local peer) (is_of_pair pair) (with_role (role_after_segment now s)) xs (λ e is out. unheld-arrived now s pair e out) none
    by_fate false = none-removed (is_between local peer) (is_of_pair pair) xs none

-- the one that an error is told to
pub unheld-told : (own : SocketsView) (local peer : Endpoint) (number : ℕ) (pair : Pair) → find (is_of_pair pair) own.entries ≡ None → find (is_of_pair pair) (let w = table_errors.after_unreachable own local peer number in w.entries) ≡ None
unheld-told own local peer number pair none = by_entry (find (is_between local peer) own.entries) refl
  where
    by_entry : (o : Option Entry) → find (is_between local peer) own.entries ≡ o → find (is_of_pair pair) (let w = table_errors.after_unreachable own local peer number in w.entries) ≡ None
    by_entry None is = let same : table_errors.after_unreachable own local peer number ≡ own = rw is in ap (λ (w : SocketsView). find (is_of_pair pair) w.entries) same ∙ none
    by_entry (Some e) is =
        let same : table_errors.after_unreachable own local peer number ≡ record own { entries = entries_after_step (unreachable_fate_of number e.role) (is_between local peer) (role_after_unreachable number) own.entries } = rw is in
        ap (λ (w : SocketsView). find (is_of_pair pair) w.entries) same ∙ unheld-settled (unreachable_fate_of number e.role) (is_between local peer) (role_after_unreachable number) pair own.entries (unheld_refused number) none

-- the UDP socket that a datagram comes for
pub unheld-received : (own : SocketsView) (source : Addr) (d : UserDatagram) (pair : Pair) → find (is_of_pair pair) own.entries ≡ None → find (is_of_pair pair) (let w = after_reception own source d in w.entries) ≡ None
unheld-received own source d pair none = by_reception (reception own d) refl
  where
    from : Endpoint
    from = record { addr = source; port = d.source }

    by_reception : (r : Reception) → reception own d ≡ r → find (is_of_pair pair) (let w = after_reception own source d in w.entries) ≡ None
    by_reception Queued is =
        let same : after_reception own source d ≡ record own { entries = change_first (is_datagrams_at d.destination) (with_role (role_after_reception from d.payload)) own.entries } = rw is in
        ap (λ (w : SocketsView). find (is_of_pair pair) w.entries) same ∙ unheld-changed (is_datagrams_at d.destination) (role_after_reception from d.payload) pair own.entries (unheld_datagrams _ _) none
    by_reception NoRoom is = let same : after_reception own source d ≡ own = rw is in ap (λ (w : SocketsView). find (is_of_pair pair) w.entries) same ∙ none
    by_reception NoSocket is = let same : after_reception own source d ≡ own = rw is in ap (λ (w : SocketsView). find (is_of_pair pair) w.entries) same ∙ none

-- each entry takes a step
pub unheld-all : (fate : Role → Fate) (g : Role → Role) (pair : Pair) (xs : List Entry) → KeepsUnheld g → find (is_of_pair pair) xs ≡ None → find (is_of_pair pair) (entries_after_steps fate g xs) ≡ None
unheld-all fate g pair xs keeps = go xs
  where
    step : (e : Entry) (xs : List Entry) → find (is_of_pair pair) (entries_after_steps fate g xs) ≡ None → is_of_pair pair e ≡ false → (b : Bool) → find (is_of_pair pair) (cond b (with_role g e ∷ entries_after_steps fate g xs) (entries_after_steps fate g xs)) ≡ None
    step e xs more out true = none-from (with_role g e) (find (is_of_pair pair) (entries_after_steps fate g xs)) (is_of_pair pair (with_role g e)) (keeps pair e.role out) more
    step e xs more out false = more

    go : (xs : List Entry) → find (is_of_pair pair) xs ≡ None → find (is_of_pair pair) (entries_after_steps fate g xs) ≡ None
    go [] none = refl
    go (e ∷ xs) none = let p = none-parts e (find (is_of_pair pair) xs) (is_of_pair pair e) none in step e xs (go xs p.1) p.0 (is_kept (fate e.role))
