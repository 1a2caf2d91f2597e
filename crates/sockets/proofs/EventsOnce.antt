-- What each event makes of the entries, one by one.
use Rattle.std.proofs.Common.{◌≡◌, ◌&&◌, inl, inr, ◌⊎◌, ℕ, ◌==◌, Bool, true, false, List, [], ◌∷◌, Option, Some, None, refl, sym, ◌∙◌, ap, subst}
use Rattle.std.proofs.lemmas.Bool.{eqb-true}
use Rattle.std.specs.List.{find}
use Rattle.ipv4.specs.declared.addr.Addr.{Addr}
use Rattle.ipv4.specs.declared.addr.Endpoint.{Endpoint}
use Rattle.clock.specs.declared.moment.Moment.{Moment}
use Rattle.tcp_segment.specs.declared.head.Head.{Head}
use Rattle.tcp_segment.specs.Segment.{Segment}
use Rattle.tcp_state.specs.declared.connection.Fate.TheVariants.{Stays, Removed, Rejected}
use Rattle.tcp_state.specs.View.{View}
use Rattle.tcp_state.specs.Edges as edge
use Rattle.tcp_state.proofs.Edges.{and_right}
use Rattle.tcp_state.proofs.Unchanged.{rejected_leaves_at}
use Rattle.sockets.specs.declared.entry.SocketId.{SocketId}
use Rattle.sockets.specs.declared.entry.Entry.{Entry}
use Rattle.sockets.specs.declared.emission.Outgoing.{Outgoing}
use Rattle.sockets.specs.declared.role.Leave.{Leave}
use Rattle.sockets.specs.declared.role.Role.{Role}
use Rattle.sockets.specs.declared.role.Role.TheVariants.{Idle, Listener, Connected, Datagrams}
use Rattle.sockets.specs.Lists.{change_first}
use Rattle.sockets.specs.Emission.{in_turn}
use Rattle.sockets.specs.Entries.{on_connection, in_connection, is_socket, is_between, waits_at, sends, is_kept, with_role}
use Rattle.sockets.specs.Entries as role
use Rattle.sockets.specs.SocketsView.{SocketsView, later_moment}
use Rattle.sockets.specs.GiveWay.{gives_way}
use Rattle.tcp_state.specs.Hop.{hopless_fate}
use Rattle.sockets.specs.Lost.{is_given_up, is_hopless, give_up_fate_of, role_after_giving_up}
use Rattle.sockets.specs.Calls.{after_socket_left, after_leaving}
use Rattle.sockets.specs.Arrival.{local_end, peer_end, arrival_with_reply}
use Rattle.sockets.specs.Causes.{Event, Makes, MakesDatagrams, Binds, Listens, Accepts, Connects, Sends, Receives, Shuts, SetsNoDelay, SetsKeepAlive, Leaves, Ticks, Hears, Emits, GivesUp, GivesWay, Unreachable, SendsTo, ReceivesFrom, HearsDatagram, after_arrival, after_event, is_next_out, is_next_away, IsAdded, Follows}
use Rattle.sockets.specs.Steps.{connected, closes_socket, remains, changes, closes, IsLeft, IsOneEvent}
use Rattle.sockets.specs.Order.{IsOrdered}
use Rattle.sockets.proofs.Arrivals.{by_arrival, IsReply, refusing, to_stray, at_listener}
use Rattle.sockets.proofs.Caused.{joining_added}
use Rattle.sockets.proofs.Closed.{left-found}
use Rattle.sockets.proofs.Emitting.{found_due, segment_sent-found, segment_sent-none}
use Rattle.sockets.proofs.Ends.{eqb-same}
use Rattle.sockets.proofs.Opened.{found_passes}
use Rattle.sockets.proofs.OfferCounts.{by_option}
use Rattle.sockets.proofs.Ordering.{count_unfound}
use Rattle.sockets.proofs.Steps.{entry, called, next_away}
use Rattle.sockets.proofs.Told.{told-found, told-none}
use Rattle.sockets.proofs.Followed.{IsNothing, by_test, joined_by, as_it_was, each_followed, settled_followed, steps_joined}
use Rattle.sockets.proofs.OneEvent.{untouched, joined_apart, changed_first, once_settled, ids_once, socket_once, readded, passed, passed_over, took, taken_out, settles_once, sockets_change}
use Rattle.udp_socket.specs.SocketView.{after_read}
use Rattle.udp_socket.specs.Emission.{after_part}
use Rattle.sockets.proofs.EachOnce.{bound_once, listens, connected_once, queues_change, sent_once, received_once, sends_once, reads_once, shuts_once, delays_once, asks_once, accepts_once}

-- Leaving.

-- a socket is left: the connection of none other
abbrev IsLeaving : SocketsView → Leave → SocketId → Entry → Option Entry → Type 0
IsLeaving h how id x None = IsOneEvent h (Leaves how id) x None
IsLeaving h how id x (Some y) = ((y ≡ x) × (is_socket id x ≡ false)) ⊎ (IsOneEvent h (Leaves how id) x (Some y) × (waits_at id y.role ≡ false))

-- and what waits at it is aborted
abbrev IsForsaking : SocketsView → Leave → SocketId → Entry → Option Entry → Type 0
IsForsaking h how id y left = (is_socket id y ≡ false → IsOneEvent h (Leaves how id) y left) × (waits_at id y.role ≡ false → left ≡ Some y)

module _ (h : SocketsView) (how : Leave) (id : SocketId) (o : IsOrdered h) where
  leaving : (x : Entry) → is_socket id x ≡ true → is_kept (role.leaving_fate_of how h.kept x.role) ≡ true → IsLeaving h how id x (Some (with_role (role.role_after_leaving how h.kept) x))
  leaving x named kept = by_role x.role named kept
    where
      by_role : (r : Role) → is_socket id (entry x.id r) ≡ true → is_kept (role.leaving_fate_of how h.kept r) ≡ true → IsLeaving h how id (entry x.id r) (Some (entry x.id (role.role_after_leaving how h.kept r)))
      by_role (Connected c None) named kept =
          inr (took h (Leaves how id) (λ y l. (refl, refl)) (role.leaving_event how h.kept c) (λ d. edge.after_event d (role.leaving_event how h.kept c)) (λ d. refl) (connected x.id c None) (rw named refl) kept refl, refl)
      by_role (Connected c (Some l)) named kept = let bad : false ≡ true = and_right (x.id.0 == id.0) false named in cc
      by_role _ named kept = cc

  taken : (x : Entry) → is_socket id x ≡ true → is_kept (role.leaving_fate_of how h.kept x.role) ≡ false → IsLeaving h how id x None
  taken x named gone = by_role x.role named gone
    where
      by_role : (r : Role) → is_socket id (entry x.id r) ≡ true → is_kept (role.leaving_fate_of how h.kept r) ≡ false → IsLeaving h how id (entry x.id r) None
      by_role (Connected c l) named gone = taken_out h (Leaves how id) (λ y k. (refl, refl)) (role.leaving_event how h.kept c) (connected x.id c l) (rw named refl) gone
      by_role (Idle buffers bound) named gone = closes how id (entry x.id (Idle buffers bound)) named
      by_role (Listener l b) named gone = closes how id (entry x.id (Listener l b)) named
      by_role (Datagrams bound queues) named gone = closes how id (entry x.id (Datagrams bound queues)) named

  socket_left : Follows (IsLeaving h how id) IsNothing h.entries (let w = after_socket_left h how id in w.entries)
  socket_left =
      by_option (find (is_socket id) h.entries)
      (λ none. let same : after_socket_left h how id ≡ h = rw none refl in
      subst (λ (w : SocketsView). Follows (IsLeaving h how id) IsNothing h.entries w.entries) (sym same)
      (untouched (IsLeaving h how id) (is_socket id) (λ x other. inl (refl, other)) h.entries (count_unfound (is_socket id) h.entries none)))
      (λ first found.
      let named : is_socket id first ≡ true = found_passes (is_socket id) h.entries first found in
      subst (λ (w : SocketsView). Follows (IsLeaving h how id) IsNothing h.entries w.entries) (sym (left-found h how id first found))
      (once_settled (IsLeaving h how id) (is_socket id) (λ x other. inl (refl, other)) (is_socket id) first named (role.leaving_fate_of how h.kept first.role) (role.role_after_leaving how h.kept) (leaving first named) (taken first named) h.entries found (socket_once h id o)))

  -- who leaves one socket leaves no other
  other_stays : (y : Entry) → is_socket id y ≡ false → closes_socket (Leaves how id) y ≡ false
  other_stays y apart = by_first (in_connection true (λ (c : View). false) y.role)
    where
      by_first : (b : Bool) → (b && is_socket id y) ≡ false
      by_first true = apart
      by_first false = refl

  forsaking : (y : Entry) → is_kept (role.listener_close_fate_of id y.role) ≡ true → IsForsaking h how id y (Some (with_role (role.role_after_listener_close h.kept id) y))
  forsaking y kept =
      by_test (waits_at id y.role)
      (λ waits. rw waits (
        λ no. took h (Leaves how id) (λ x l. (refl, refl)) (edge.Aborts h.kept) (λ (c : View). edge.after_event c (edge.Aborts h.kept)) (λ c. refl) y (rw (no, waits) refl) (rw waits at kept) (other_stays y no),
        λ other. cc,
      ))
      (λ other. rw other (λ no. passed h (Leaves how id) (λ x l. (refl, refl)) y (rw (no, other) refl) (other_stays y no), λ e. refl))

  forsaken : (y : Entry) → is_kept (role.listener_close_fate_of id y.role) ≡ false → IsForsaking h how id y None
  forsaken y gone =
      by_test (waits_at id y.role)
      (λ waits. (
        λ no. taken_out h (Leaves how id) (λ x l. (refl, refl)) (edge.Aborts h.kept) y (rw (no, waits) refl) (rw waits at gone),
        λ other. let bad : true ≡ false = sym waits ∙ other in cc,
      ))
      (λ other. let kept : is_kept (role.listener_close_fate_of id y.role) ≡ true = rw other in cc)

  pub leaves_once : Follows (IsOneEvent h (Leaves how id)) IsNothing h.entries (let w = after_leaving h how id in w.entries)
  leaves_once =
      let gone : SocketsView = after_socket_left h how id in
      steps_joined (IsLeaving h how id) (IsForsaking h how id) (IsOneEvent h (Leaves how id)) (λ x out. out) joins h.entries gone.entries _ socket_left
      (each_followed (IsForsaking h how id) IsNothing refl (λ y. is_kept (role.listener_close_fate_of id y.role)) (with_role (role.role_after_listener_close h.kept id)) gone.entries forsaking forsaken)
    where
      joins : (x y : Entry) (left : Option Entry) → IsLeaving h how id x (Some y) → IsForsaking h how id y left → IsOneEvent h (Leaves how id) x left
      joins x y left (inl same) step = (subst (λ (z : Entry). IsForsaking h how id z left) same.0 step).0 same.1
      joins x y left (inr socket) step = subst (λ (z : Option Entry). IsOneEvent h (Leaves how id) x z) (sym (step.1 socket.1)) socket.0

-- The clock.

pub ticks_once : (h : SocketsView) (now : Moment) → Follows (IsOneEvent h (Ticks now)) IsNothing h.entries (let w = after_event h (Ticks now) in w.entries)
ticks_once h now =
    let later : Moment = later_moment h now in
    each_followed (IsOneEvent h (Ticks now)) IsNothing refl (λ x. is_kept (role.tick_fate_of later x.role)) (with_role (role.role_after_tick later)) h.entries
    (λ x kept. took h (Ticks now) (λ y l. (refl, refl)) (edge.Ticks later) (λ (c : View). edge.after_event c (edge.Ticks later)) (λ c. refl) x refl kept refl)
    (λ x gone. taken_out h (Ticks now) (λ y l. (refl, refl)) (edge.Ticks later) x refl gone)

pub given_up_once : (h : SocketsView) (lost : Addr → Bool) (now : Moment) → Follows (IsOneEvent h (GivesUp lost now)) IsNothing h.entries (let w = after_event h (GivesUp lost now) in w.entries)
given_up_once h lost now = each_followed (IsOneEvent h e) IsNothing refl (λ x. is_kept (give_up_fate_of lost later x.role)) (with_role (role_after_giving_up lost later)) h.entries (λ x. stays x.id x.role) (λ x. goes x.id x.role)
  where
    e : Event
    e = GivesUp lost now

    later : Moment
    later = later_moment h now

    stays : (id : SocketId) (r : Role) → is_kept (give_up_fate_of lost later r) ≡ true → IsLeft h e id r (Some (entry id (role_after_giving_up lost later r)))
    stays id (Connected c l) kept =
        by_test (is_given_up lost later (Connected c l))
        (λ reset. let gone : is_kept (give_up_fate_of lost later (Connected c l)) ≡ false = rw reset in cc)
        (λ other. by_test (is_hopless lost c)
        (λ hopless. let so : is_kept (hopless_fate c later) ≡ true = rw (other, hopless) at kept in rw (other, hopless, so) refl)
        (λ reached. rw (other, reached) refl))
    stays id (Idle buffers bound) kept = remains refl
    stays id (Listener l b) kept = remains refl
    stays id (Datagrams bound queues) kept = changes (entry id (role_after_giving_up lost later (Datagrams bound queues))) refl refl refl

    goes : (id : SocketId) (r : Role) → is_kept (give_up_fate_of lost later r) ≡ false → IsLeft h e id r None
    goes id (Connected c l) gone =
        by_test (is_given_up lost later (Connected c l))
        (λ reset. rw reset refl)
        (λ other. by_test (is_hopless lost c)
        (λ hopless. let so : is_kept (hopless_fate c later) ≡ false = rw (other, hopless) at gone in rw (other, hopless, so) refl)
        (λ reached. let kept : is_kept (give_up_fate_of lost later (Connected c l)) ≡ true = rw (other, reached) in cc))
    goes id _ gone = cc

-- Segments.

unchanged_first : (test : Entry → Bool) (xs : List Entry) → change_first test (λ x. x) xs ≡ xs
unchanged_first test [] = refl
unchanged_first test (x ∷ xs) = by_test (test x) (λ here. rw here refl) (λ there. rw there (ap (λ ys. x ∷ ys) (unchanged_first test xs)))

module _ (h : SocketsView) (now : Moment) (isn : ℕ) (source : Addr) (s : Segment) (o : IsOrdered h) where
  abbrev heard : Event
  heard = Hears now isn source s

  abbrev at : edge.Event
  at = edge.Hears s (later_moment h now)

  abbrev between : Entry → Bool
  between = is_between (local_end h s) (peer_end source s)

  -- a segment that a connection refuses changes nothing of it
  refused : (first : Entry) → between first ≡ true → role.fate_of s first.role ≡ Rejected → IsOneEvent h heard first (Some first)
  refused first here rejected =
      let kept : is_kept (in_connection Stays (λ (c : View). edge.fate_by c at) first.role) ≡ true = ap is_kept rejected in
      subst (λ (y : Entry). IsOneEvent h heard first (Some y)) (same first.role rejected) (took h heard (λ x l. (refl, refl)) at (λ (c : View). edge.after_event c at) (λ c. refl) first (rw here refl) kept refl)
    where
      same : (r : Role) → role.fate_of s r ≡ Rejected → entry first.id (on_connection (λ (c : View). edge.after_event c at) r) ≡ entry first.id r
      same (Connected c l) rejected = ap (λ (d : View). connected first.id d l) (rejected_leaves_at c s (later_moment h now) rejected)
      same _ rejected = refl

  nobody : find between h.entries ≡ None → Follows (IsOneEvent h heard) IsNothing h.entries h.entries
  nobody none = untouched (IsOneEvent h heard) between (passed_over h heard (λ x l. (refl, refl)) (λ x. refl) between (λ x other. rw other refl)) h.entries (count_unfound between h.entries none)

  replied : (reply : Option Head) → IsReply h source s reply → Follows (IsOneEvent h heard) IsNothing h.entries h.entries
  replied _ (refusing first found rejected) =
      let here : between first ≡ true = found_passes between h.entries first found in
      subst (λ (ys : List Entry). Follows (IsOneEvent h heard) IsNothing h.entries ys) (unchanged_first between h.entries)
      (changed_first (IsOneEvent h heard) between (passed_over h heard (λ x l. (refl, refl)) (λ x. refl) between (λ x other. rw other refl)) between first here (λ x. x) (refused first here rejected) h.entries found (o.ends (local_end h s) (peer_end source s)))
  replied _ (to_stray none stray) = nobody none
  replied _ (at_listener listener none found other) = nobody none

  answered : (reply : Option Head) → Follows (IsOneEvent h heard) IsNothing h.entries h.entries → Follows (IsOneEvent h heard) (IsAdded h heard) h.entries (let w = after_arrival h (arrival_with_reply h reply) in w.entries)
  answered None f = readded (IsOneEvent h heard) (IsAdded h heard) (inl refl) h.entries h.entries f
  answered (Some head) f = readded (IsOneEvent h heard) (IsAdded h heard) (inl refl) h.entries h.entries f

  hears_once : Follows (IsOneEvent h heard) (IsAdded h heard) h.entries (let w = after_event h heard in w.entries)
  hears_once =
      by_arrival h now isn source s (λ a. Follows (IsOneEvent h heard) (IsAdded h heard) h.entries (let w = after_arrival h a in w.entries)) (λ reply is. answered reply (replied reply is))
      (λ first taker. readded (IsOneEvent h heard) (IsAdded h heard) (inl refl) h.entries _
      (settles_once h heard (λ x l. (refl, refl)) (λ x. refl) at between (λ x other. rw other refl) (λ x here. rw here refl) first taker.found (o.ends (local_end h s) (peer_end source s))))
      (λ listener call full. readded (IsOneEvent h heard) (IsAdded h heard) (inl refl) h.entries h.entries (nobody call.none))
      (λ listener call room. joined_apart (IsOneEvent h heard) between (passed_over h heard (λ x l. (refl, refl)) (λ x. refl) between (λ x other. rw other refl)) (IsAdded h heard) h.entries _
      (joining_added h heard _ (called now isn source s listener call)) (count_unfound between h.entries call.none))

told_once : (h : SocketsView) (local peer : Endpoint) (number : ℕ) → IsOrdered h → Follows (IsOneEvent h (Unreachable local peer number)) IsNothing h.entries (let w = after_event h (Unreachable local peer number) in w.entries)
told_once h local peer number o =
    by_option (find (is_between local peer) h.entries)
    (λ none. subst P (sym (told-none h local peer number none)) (untouched (IsOneEvent h e) (is_between local peer) (passed_over h e (λ x l. (refl, refl)) (λ x. refl) (is_between local peer) (λ x other. rw other refl)) h.entries (count_unfound (is_between local peer) h.entries none)))
    (λ first found. subst P (sym (told-found h local peer number first found))
    (settles_once h e (λ x l. (refl, refl)) (λ x. refl) (edge.Unreachable number) (is_between local peer) (λ x other. rw other refl) (λ x here. rw here refl) first found (o.ends local peer)))
  where
    e : Event
    e = Unreachable local peer number

    P : SocketsView → Type 0
    P w = Follows (IsOneEvent h e) IsNothing h.entries w.entries

-- What goes out is one entry's.

emits_once : (h : SocketsView) (goes : Addr → Bool) (now : Moment) → IsOrdered h → Follows (IsOneEvent h (Emits goes now)) IsNothing h.entries (let w = after_event h (Emits goes now) in w.entries)
emits_once h goes now o =
    by_option (find (in_turn h (sends goes)) h.entries)
    (λ none. subst P (sym (segment_sent-none h goes now none)) (as_it_was (IsOneEvent h e) IsNothing refl (λ x. passed h e (λ y l. (refl, refl)) x (rw none refl) refl) h.entries))
    (λ first found.
    let next : is_next_out h goes first ≡ true = rw found (eqb-same first.id.0) in
    let due = found_due h goes first found in
    let what : Outgoing = due.0.1 in
    subst P (sym (segment_sent-found h goes now first due.0 found due.1))
    (once_settled (IsOneEvent h e) (is_next_out h goes) (passed_over h e (λ x l. (refl, refl)) (λ x. refl) (is_next_out h goes) (λ x other. rw other refl)) (in_turn h (sends goes)) first next
    (role.emission_fate_of (role.role_after_emission later what first.role)) (role.role_after_emission later what) (going what first.id first.role next) (gone what first.id first.role next) h.entries found
    (ids_once first.id.0 (is_next_out h goes) (λ x passes. let same : (first.id.0 == x.id.0) ≡ true = rw found at passes in sym (eqb-true first.id.0 x.id.0 same)) 0 h.last_id h.entries o.ids)))
  where
    e : Event
    e = Emits goes now

    later : Moment
    later = later_moment h now

    P : SocketsView → Type 0
    P w = Follows (IsOneEvent h e) IsNothing h.entries w.entries

    going : (what : Outgoing) (id : SocketId) (r : Role) → is_next_out h goes (entry id r) ≡ true → is_kept (role.emission_fate_of (role.role_after_emission later what r)) ≡ true → IsLeft h e id r (Some (entry id (role.role_after_emission later what r)))
    going what id (Connected c l) next kept = took h e (λ x k. (refl, refl)) (edge.Emits later) (λ (d : View). edge.after_event d (edge.Emits later)) (λ d. refl) (connected id c l) (rw next refl) kept refl
    going what id (Idle buffers bound) next kept = remains refl
    going what id (Listener l b) next kept = remains refl
    going what id (Datagrams bound queues) next kept = changes (entry id (Datagrams bound (after_part (role.with_first what queues)))) refl refl next

    gone : (what : Outgoing) (id : SocketId) (r : Role) → is_next_out h goes (entry id r) ≡ true → is_kept (role.emission_fate_of (role.role_after_emission later what r)) ≡ false → IsLeft h e id r None
    gone what id (Connected c l) next removed = taken_out h e (λ x k. (refl, refl)) (edge.Emits later) (connected id c l) (rw next refl) removed
    gone what id _ next removed = cc

-- What gives way is one entry, a connection.

away_once : (h : SocketsView) (meant : Entry → Bool) → IsOrdered h → Follows (IsOneEvent h (GivesWay meant)) IsNothing h.entries (let w = after_event h (GivesWay meant) in w.entries)
away_once h meant o =
    by_option (find (gives_way meant) h.entries)
    (λ none. settled_followed (IsOneEvent h e) IsNothing refl Removed (gives_way meant) (λ r. r) h.entries (λ x. passed h e (λ y l. (rw none refl, refl)) x refl refl) (λ kept x passes at. cc) (λ gone x passes at. let bad : None ≡ Some x = sym none ∙ at in cc))
    (λ first found.
    let next : is_next_away h meant first ≡ true = next_away h meant first found in
    once_settled (IsOneEvent h e) (is_next_away h meant) (λ x other. others x.id x.role other) (gives_way meant) first next Removed (λ r. r) (λ kept. cc) (λ gone. goes first.id first.role next (found_passes (gives_way meant) h.entries first found)) h.entries found
    (ids_once first.id.0 (is_next_away h meant) (λ x passes. let same : (first.id.0 == x.id.0) ≡ true = rw found at passes in sym (eqb-true first.id.0 x.id.0 same)) 0 h.last_id h.entries o.ids))
  where
    e : Event
    e = GivesWay meant

    others : (id : SocketId) (r : Role) → is_next_away h meant (entry id r) ≡ false → IsLeft h e id r (Some (entry id r))
    others id (Connected c l) other = rw other refl
    others id (Idle buffers bound) other = remains refl
    others id (Listener l b) other = remains refl
    others id (Datagrams bound queues) other = remains refl

    goes : (id : SocketId) (r : Role) → is_next_away h meant (entry id r) ≡ true → gives_way meant (entry id r) ≡ true → IsLeft h e id r None
    goes id (Connected c l) next may = rw next refl
    goes id (Idle buffers bound) next may = let no : false ≡ true = and_right (meant (entry id (Idle buffers bound))) false may in cc
    goes id (Listener l b) next may = let no : false ≡ true = and_right (meant (entry id (Listener l b))) false may in cc
    goes id (Datagrams bound queues) next may = let no : false ≡ true = and_right (meant (entry id (Datagrams bound queues))) false may in cc

-- Every event.

plain : (h : SocketsView) (e : Event) → IsAdded h e [] → Follows (IsOneEvent h e) IsNothing h.entries (let w = after_event h e in w.entries) → Follows (IsOneEvent h e) (IsAdded h e) h.entries (let w = after_event h e in w.entries)
plain h e none f = readded (IsOneEvent h e) (IsAdded h e) none h.entries (let w = after_event h e in w.entries) f

pub one_event : (h : SocketsView) (e : Event) → IsOrdered h → Follows (IsOneEvent h e) (IsAdded h e) h.entries (let after = after_event h e in after.entries)
one_event h (Makes buffers) o = joined_by (IsOneEvent h (Makes buffers)) (IsAdded h (Makes buffers)) (λ x. passed h (Makes buffers) (λ y l. (refl, refl)) x refl refl) h.entries _ refl
one_event h MakesDatagrams o = joined_by (IsOneEvent h MakesDatagrams) (IsAdded h MakesDatagrams) (λ x. passed h MakesDatagrams (λ y l. (refl, refl)) x refl refl) h.entries _ refl
one_event h (Binds id local) o = plain h (Binds id local) refl (bound_once h id local)
one_event h (Listens id backlog) o = plain h (Listens id backlog) refl (sockets_change h (Listens id backlog) (λ x l. (refl, refl)) (λ x. refl) (λ x. refl) (is_socket id) (role.role_after_listen backlog) (λ i r passes. listens h id backlog i r passes))
one_event h (Accepts id) o = plain h (Accepts id) refl (accepts_once h o id)
one_event h (Connects now isn id peer routed) o = plain h (Connects now isn id peer routed) refl (connected_once h now isn id peer routed)
one_event h (Sends id octets) o = plain h (Sends id octets) refl (sends_once h o id octets)
one_event h (Receives id len) o = plain h (Receives id len) refl (reads_once h o id len)
one_event h (Shuts id) o = plain h (Shuts id) refl (shuts_once h o id)
one_event h (SetsNoDelay id on) o = plain h (SetsNoDelay id on) refl (delays_once h o id on)
one_event h (SetsKeepAlive id every) o = plain h (SetsKeepAlive id every) refl (asks_once h o id every)
one_event h (Leaves how id) o = plain h (Leaves how id) refl (leaves_once h how id o)
one_event h (Ticks now) o = plain h (Ticks now) refl (ticks_once h now)
one_event h (Hears now isn source s) o = hears_once h now isn source s o
one_event h (Emits goes now) o = plain h (Emits goes now) refl (emits_once h goes now o)
one_event h (GivesUp lost now) o = plain h (GivesUp lost now) refl (given_up_once h lost now)
one_event h (GivesWay meant) o = plain h (GivesWay meant) refl (away_once h meant o)
one_event h (Unreachable local peer number) o = plain h (Unreachable local peer number) refl (told_once h local peer number o)
one_event h (SendsTo id peer octets routed) o = plain h (SendsTo id peer octets routed) refl (sent_once h id peer octets routed)
one_event h (ReceivesFrom id len) o = plain h (ReceivesFrom id len) refl (queues_change h (ReceivesFrom id len) (λ x l. (refl, refl)) (λ x. refl) (λ x. refl) (λ bound. bound) after_read (is_socket id) (λ x passes. passes))
one_event h (HearsDatagram source d) o = plain h (HearsDatagram source d) refl (received_once h source d)
