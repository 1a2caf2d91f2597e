-- What stands in the table once a socket was closed or aborted.
use Rattle.std.proofs.Common.{◌≡◌, ℕ, ◌==◌, ◌&&◌, ◌||◌, not, Bool, true, false, cond, if◌then◌else◌, List, [], ◌∷◌, length, Option, Some, None, option_map, refl, sym, ◌∙◌, ap, subst}
use Rattle.std.proofs.lemmas.Bool.{eqb-true, or_parts}
use Rattle.std.specs.List.{find, filter, list_any}
use Rattle.clock.specs.declared.moment.Moment.{Moment}
use Rattle.tcp_state.specs.declared.connection.Fate.{Fate}
use Rattle.tcp_state.specs.declared.state.State.{State}
use Rattle.tcp_state.specs.declared.state.State.TheVariants.{Established, CloseWait}
use Rattle.tcp_state.specs.View.{View, is_closed, is_syn_sent, is_syn_received}
use Rattle.tcp_state.specs.Calls.{beyond_shutdown, aborted_at, after_release}
use Rattle.tcp_state.specs.Edges as edge
use Rattle.tcp_state.proofs.Edges.{and_left, and_right}
use Rattle.sockets.specs.declared.entry.SocketId.{SocketId}
use Rattle.sockets.specs.declared.entry.Entry.{Entry}
use Rattle.sockets.specs.declared.role.Leave.{Leave}
use Rattle.sockets.specs.declared.role.Leave.TheVariants.{Close, Abort}
use Rattle.sockets.specs.declared.role.Role.{Role}
use Rattle.sockets.specs.declared.role.Role.TheVariants.{Idle, Listener, Connected, Datagrams}
use Rattle.sockets.specs.Entries.{in_connection, is_socket, has_socket, waits_at, is_waiting_at, is_waiting_as, is_waiting_id, is_kept, leaving_event, role_after_leaving, leaving_fate_of, entries_after_step, with_role}
use Rattle.sockets.specs.Lists.{change_first, remove_first}
use Rattle.sockets.specs.Calls.{after_socket_left, after_leaving, after_close, after_abort}
use Rattle.sockets.specs.Causes.{Leaves}
use Rattle.sockets.specs.Closing.{entry_of, IsAborted, beyond_close, IsGoingOn}
use Rattle.sockets.specs.Order.{IsOrdered}
use Rattle.sockets.specs.SocketsView.{SocketsView, role_of}
use Rattle.sockets.specs.Steps.{connected, connection_left, view_left, closes_socket, IsSocketLeft, remains, changes, closes, IsLeft, IsOneEvent}
use Rattle.sockets.proofs.ByIds.{left_under, socket_found, no_socket, one_id}
use Rattle.sockets.proofs.Closed.{left-found, close-allowed}
use Rattle.sockets.proofs.Ends.{eqb-same}
use Rattle.sockets.proofs.EventsOnce.{leaves_once}
use Rattle.sockets.proofs.Followed.{by_test}
use Rattle.sockets.proofs.OfferCounts.{by_option}
use Rattle.sockets.proofs.Opened.{found_passes}
use Rattle.sockets.proofs.Ordered.{stays_ordered}
use Rattle.sockets.proofs.Steps.{entry}
use Rattle.sockets.proofs.Telling.{role_found}

neither : (b : Bool) → (b && false) ≡ false
neither true = refl
neither false = refl

-- the first of two, where the second fails
first_of : (a b : Bool) → (a || b) ≡ true → b ≡ false → a ≡ true
first_of true b either fails = refl
first_of false b either fails = sym fails ∙ either

beyond_same : (state : State) → beyond_shutdown state ≡ beyond_close state
beyond_same Established = refl
beyond_same CloseWait = refl
beyond_same _ = refl

-- what is left of a socket without a connection
socket_gone : (h : SocketsView) (how : Leave) (id : SocketId) (x : Entry) (left : Option Entry) → closes_socket (Leaves how id) x ≡ true → IsSocketLeft h (Leaves how id) x left → left ≡ None
socket_gone h how id x _ named (remains stays) = let bad : true ≡ false = sym named ∙ stays in cc
socket_gone h how id x _ named (changes y same alone may) = cc
socket_gone h how id _ _ named (closes by i x socket) = refl

socket_stays : (h : SocketsView) (how : Leave) (id : SocketId) (x : Entry) (left : Option Entry) → is_socket id x ≡ false → IsSocketLeft h (Leaves how id) x left → left ≡ Some x
socket_stays h how id x _ other (remains stays) = refl
socket_stays h how id x _ other (changes y same alone may) = cc
socket_stays h how id x _ other (closes by i y socket) = let bad : true ≡ false = sym socket ∙ other in cc

-- nothing is left of a connection that is CLOSED, or in SYN-SENT
view_closed : (now : Moment) (c : View) → (is_closed c.state || is_syn_sent c.state) ≡ true → view_left c (Some (edge.Closes now)) ≡ None
view_closed now c ends = rw ends refl

view_gone : (how : Leave) (now : Moment) (c : View) → (is_closed c.state || is_syn_sent c.state) ≡ true → view_left c (Some (leaving_event how now c)) ≡ None
view_gone Close now c ends = view_closed now c ends
view_gone Abort now c ends =
    let P : Bool → Type 0 = λ b. view_left c (Some (if b then edge.Closes now else edge.Aborts now)) ≡ None in
    by_test (is_syn_sent c.state) (λ sent. subst P (sym sent) (view_closed now c ends)) (λ past. subst P (sym past) (rw (first_of (is_closed c.state) (is_syn_sent c.state) ends past) refl))

-- a test that fails for the entry that takes a step, before and after, passes for as many
any_settled : (p test : Entry → Bool) (r : Fate) (change : Role → Role) (first : Entry) → p first ≡ false → p (with_role change first) ≡ false → (xs : List Entry) → find test xs ≡ Some first → list_any p (entries_after_step r test change xs) ≡ list_any p xs
any_settled p test r change first before after xs found = by_test (is_kept r) (λ kept. rw kept (changed xs found)) (λ gone. rw gone (removed xs found))
  where
    here_same : (x : Entry) (xs : List Entry) → find test (x ∷ xs) ≡ Some first → test x ≡ true → x ≡ first
    here_same x xs found here = let one : Some x ≡ Some first = ap (λ b. cond b (Some x) (find test xs)) (sym here) ∙ found in cc

    behind : (x : Entry) (xs : List Entry) → find test (x ∷ xs) ≡ Some first → test x ≡ false → find test xs ≡ Some first
    behind x xs found there = ap (λ b. cond b (Some x) (find test xs)) (sym there) ∙ found

    changed : (xs : List Entry) → find test xs ≡ Some first → list_any p (change_first test (with_role change) xs) ≡ list_any p xs
    changed [] found = refl
    changed (x ∷ xs) found =
        by_test (test x)
        (λ here. let same : x ≡ first = here_same x xs found here in
        let both : p (with_role change x) ≡ p x = ap (λ y. p (with_role change y)) same ∙ after ∙ sym before ∙ ap p (sym same) in
        rw here (ap (λ b. b || list_any p xs) both))
        (λ there. rw there (ap (λ b. p x || b) (changed xs (behind x xs found there))))

    removed : (xs : List Entry) → find test xs ≡ Some first → list_any p (remove_first test xs) ≡ list_any p xs
    removed [] found = refl
    removed (x ∷ xs) found =
        by_test (test x)
        (λ here. let same : x ≡ first = here_same x xs found here in
        let none : p x ≡ false = ap p same ∙ before in
        rw here (ap (λ b. b || list_any p xs) (sym none)))
        (λ there. rw there (ap (λ b. p x || b) (removed xs (behind x xs found there))))

module _ (h : SocketsView) (how : Leave) (id : SocketId) (o : IsOrdered h) where
  -- what stands under an id is what is left of what stood there
  under : (i : SocketId) (x : Entry) → entry_of h i ≡ Some x → (left : Option Entry) × IsOneEvent h (Leaves how id) x left × (entry_of (after_leaving h how id) i ≡ left)
  under i x found = left_under (IsOneEvent h (Leaves how id)) (one_id h (Leaves how id)) i 0 h.last_id h.entries (let w = after_leaving h how id in w.entries) (leaves_once h how id o) o.ids x found

  pub alone_left : (r : Role) → role_of h id ≡ Some r → in_connection None (λ c. Some c) r ≡ None → entry_of (after_leaving h how id) id ≡ None
  alone_left r is alone =
      let there = role_found h id r is in
      let left = under id there.0 (socket_found id 0 h.last_id h.entries there.0 o.ids there.1) in
      left.2 ∙ by_role there.0.id there.0.role left.0 (found_passes (is_socket id) h.entries there.0 there.1) (ap (λ (s : Role). in_connection None (λ c. Some c) s) there.2 ∙ alone) left.1
    where
      by_role : (i : SocketId) (s : Role) (left : Option Entry) → is_socket id (entry i s) ≡ true → in_connection None (λ c. Some c) s ≡ None → IsLeft h (Leaves how id) i s left → left ≡ None
      by_role i (Connected c l) left named none step = cc
      by_role i (Idle buffers bound) left named none step = socket_gone h how id (entry i (Idle buffers bound)) left named step
      by_role i (Listener local backlog) left named none step = socket_gone h how id (entry i (Listener local backlog)) left named step
      by_role i (Datagrams bound queues) left named none step = socket_gone h how id (entry i (Datagrams bound queues)) left named step

  -- the connection of a socket
  view_under : (c : View) → role_of h id ≡ Some (Connected c None) → entry_of (after_leaving h how id) id ≡ option_map (λ d. connected id d None) (view_left c (Some (leaving_event how h.kept c)))
  view_under c is =
      let there = role_found h id (Connected c None) is in
      let named = found_passes (is_socket id) h.entries there.0 there.1 in
      let same : there.0.id ≡ id = ap (λ (n : ℕ). let i : SocketId = record { 0 = n } in i) (eqb-true there.0.id.0 id.0 (and_left _ _ named)) in
      let at : there.0 ≡ connected id c None = ap (λ (i : SocketId). entry i there.0.role) same ∙ ap (entry id) there.2 in
      let left = under id there.0 (socket_found id 0 h.last_id h.entries there.0 o.ids there.1) in
      let step : IsOneEvent h (Leaves how id) (connected id c None) left.0 = subst (λ (x : Entry). IsOneEvent h (Leaves how id) x left.0) at left.1 in
      let socket : is_socket id (connected id c None) ≡ true = ap (is_socket id) (sym at) ∙ named in
      let is_left : connection_left h (Leaves how id) id c None ≡ option_map (λ d. connected id d None) (view_left c (Some (leaving_event how h.kept c))) = rw socket refl in
      left.2 ∙ step ∙ is_left

  pub connection_removed : (c : View) → role_of h id ≡ Some (Connected c None) → (is_closed c.state || is_syn_sent c.state) ≡ true → entry_of (after_leaving h how id) id ≡ None
  connection_removed c is ends = view_under c is ∙ ap (λ (left : Option View). option_map (λ d. connected id d None) left) (view_gone how h.kept c ends)

  -- a connection that waits at it
  view_forsaken : (i : SocketId) (c : View) → entry_of h i ≡ Some (connected i c (Some id)) → entry_of (after_leaving h how id) i ≡ option_map (λ d. connected i d (Some id)) (view_left c (Some (edge.Aborts h.kept)))
  view_forsaken i c found =
      let left = under i (connected i c (Some id)) found in
      let other : is_socket id (connected i c (Some id)) ≡ false = neither (i.0 == id.0) in
      let waits : is_waiting_at id (connected i c (Some id)) ≡ true = eqb-same id.0 in
      let is_left : connection_left h (Leaves how id) i c (Some id) ≡ option_map (λ d. connected i d (Some id)) (view_left c (Some (edge.Aborts h.kept))) = rw (other, waits) refl in
      left.2 ∙ left.1 ∙ is_left

  pub waiting_removed : (i : SocketId) (c : View) → entry_of h i ≡ Some (connected i c (Some id)) → is_closed c.state ≡ true → entry_of (after_leaving h how id) i ≡ None
  waiting_removed i c found ends = view_forsaken i c found ∙ rw ends refl

  pub waiting_aborted : (i : SocketId) (c : View) → entry_of h i ≡ Some (connected i c (Some id)) → is_closed c.state ≡ false → (d : View) × (entry_of (after_leaving h how id) i ≡ Some (connected i d (Some id))) × IsAborted h.kept c d
  waiting_aborted i c found lives = (
    aborted_at c h.kept,
    view_forsaken i c found ∙ rw lives refl,
    record { local = refl; peer = refl; state = refl; left = refl; reset = refl; next = refl; held = refl },
  )

  -- any other
  pub others_stay : (i : SocketId) (x : Entry) → entry_of h i ≡ Some x → is_socket id x ≡ false → is_waiting_at id x ≡ false → entry_of (after_leaving h how id) i ≡ Some x
  others_stay i x found other waits = let left = under i x found in left.2 ∙ by_role x.id x.role left.0 other waits left.1
    where
      by_role : (j : SocketId) (s : Role) (left : Option Entry) → is_socket id (entry j s) ≡ false → is_waiting_at id (entry j s) ≡ false → IsLeft h (Leaves how id) j s left → left ≡ Some (entry j s)
      by_role j (Connected c l) left other waits step = step ∙ rw (other, waits) refl
      by_role j (Idle buffers bound) left other waits step = socket_stays h how id (entry j (Idle buffers bound)) left other step
      by_role j (Listener local backlog) left other waits step = socket_stays h how id (entry j (Listener local backlog)) left other step
      by_role j (Datagrams bound queues) left other waits step = socket_stays h how id (entry j (Datagrams bound queues)) left other step

  -- the id names no socket any more
  unnamed : (left : Option Entry) → ((x : Entry) → left ≡ Some x → is_socket id x ≡ false) → (r : Role) → role_of h id ≡ Some r → entry_of (after_leaving h how id) id ≡ left → role_of (after_leaving h how id) id ≡ None
  unnamed left none r is at =
      let there = role_found h id r is in
      let later : IsOrdered (after_leaving h how id) = stays_ordered h (Leaves how id) (close-allowed h id there.0 there.1) o in
      let nobody : find (is_socket id) (let w = after_leaving h how id in w.entries) ≡ None = no_socket id 0 (let w = after_leaving h how id in w.last_id) (let w = after_leaving h how id in w.entries) left later.ids at none in
      ap (λ (found : Option Entry). option_map (λ (x : Entry). x.role) found) nobody

  -- .. where its connection goes on without it
  released_unnamed : (c d : View) → role_of h id ≡ Some (Connected c None) → d.released ≡ true → entry_of (after_leaving h how id) id ≡ Some (connected id d None) → role_of (after_leaving h how id) id ≡ None
  released_unnamed c d is left at = unnamed (Some (connected id d None)) none (Connected c None) is at
    where
      none : (x : Entry) → ◌≡◌ {A = Option Entry} (Some (connected id d None)) (Some x) → is_socket id x ≡ false
      none x is =
          let same : connected id d None ≡ x = cc in
          let out : is_socket id (connected id d None) ≡ false = rw left (neither (id.0 == id.0)) in
          subst (λ (y : Entry). is_socket id y ≡ false) same out

module _ (h : SocketsView) (id : SocketId) (o : IsOrdered h) where
  pub connection_aborted : (c : View) → role_of h id ≡ Some (Connected c None) → (is_closed c.state || is_syn_sent c.state) ≡ false → (is_syn_received c.state || not (length c.receiving.readable == 0)) ≡ true
      → (d : View) × (entry_of (after_close h id) id ≡ Some (connected id d None)) × IsAborted h.kept c d
  connection_aborted c is stays unread = (
    aborted_at c h.kept,
    view_under h Close id o c is ∙ rw (stays, unread) refl,
    record { local = refl; peer = refl; state = refl; left = refl; reset = refl; next = refl; held = refl },
  )

  pub connection_left_open : (c : View) → role_of h id ≡ Some (Connected c None) → (is_closed c.state || is_syn_sent c.state) ≡ false → (is_syn_received c.state || not (length c.receiving.readable == 0)) ≡ false
      → (d : View) × (entry_of (after_close h id) id ≡ Some (connected id d None)) × IsGoingOn c d
  connection_left_open c is stays read = (
    after_release c h.kept,
    view_under h Close id o c is ∙ rw (stays, read) refl,
    record { local = refl; peer = refl; state = beyond_same c.state; left = refl; sending = refl; receiving = refl; reset = refl; told = refl },
  )

  pub connection_reset : (c : View) → role_of h id ≡ Some (Connected c None) → (is_closed c.state || is_syn_sent c.state) ≡ false → (d : View) × (entry_of (after_abort h id) id ≡ Some (connected id d None)) × IsAborted h.kept c d
  connection_reset c is stays =
      let past = or_parts (is_closed c.state) (is_syn_sent c.state) stays in (
        aborted_at c h.kept,
        view_under h Abort id o c is ∙ rw (past.1, past.0) refl,
        record { local = refl; peer = refl; state = refl; left = refl; reset = refl; next = refl; held = refl },
      )

  -- the id of a connection that goes on
  connection_unnamed : (how : Leave) (c : View) → role_of h id ≡ Some (Connected c None) → (is_closed c.state || is_syn_sent c.state) ≡ false → role_of (after_leaving h how id) id ≡ None
  connection_unnamed Abort c is stays = let a = connection_reset c is stays in released_unnamed h Abort id o c a.0 is a.2.left a.1
  connection_unnamed Close c is stays =
      by_test (is_syn_received c.state || not (length c.receiving.readable == 0))
      (λ unread. let a = connection_aborted c is stays unread in released_unnamed h Close id o c a.0 is a.2.left a.1)
      (λ read. let a = connection_left_open c is stays read in released_unnamed h Close id o c a.0 is a.2.left a.1)

  pub nameless : (how : Leave) (r : Role) → role_of h id ≡ Some r → role_of (after_leaving h how id) id ≡ None
  nameless how (Connected c None) is =
      by_test (is_closed c.state || is_syn_sent c.state)
      (λ ends. unnamed h how id o None (λ x some. cc) (Connected c None) is (connection_removed h how id o c is ends))
      (connection_unnamed how c is)
  nameless how (Connected c (Some l)) is =
      let there = role_found h id (Connected c (Some l)) is in
      let named : is_socket id (entry there.0.id (Connected c (Some l))) ≡ true = subst (λ (r : Role). is_socket id (entry there.0.id r) ≡ true) there.2 (found_passes (is_socket id) h.entries there.0 there.1) in
      let bad : false ≡ true = and_right (there.0.id.0 == id.0) false named in cc
  nameless how (Idle buffers bound) is = unnamed h how id o None (λ x some. cc) (Idle buffers bound) is (alone_left h how id o (Idle buffers bound) is refl)
  nameless how (Listener local backlog) is = unnamed h how id o None (λ x some. cc) (Listener local backlog) is (alone_left h how id o (Listener local backlog) is refl)
  nameless how (Datagrams bound queues) is = unnamed h how id o None (λ x some. cc) (Datagrams bound queues) is (alone_left h how id o (Datagrams bound queues) is refl)

-- who was offered is offered still, but for those that wait at it
pub offered_left : (h : SocketsView) (how : Leave) (id : SocketId) → (let after = after_leaving h how id in after.offered) ≡ filter (λ x. not (is_waiting_id h.entries id x)) h.offered
offered_left h how id =
    let P : SocketsView → List SocketId = λ w. filter (λ x. not (is_waiting_id w.entries id x)) w.offered in
    by_option (find (is_socket id) h.entries)
    (λ none. let same : after_socket_left h how id ≡ h = rw none refl in ap P same)
    (λ first found.
    let closed : List Entry = entries_after_step (leaving_fate_of how h.kept first.role) (is_socket id) (role_after_leaving how h.kept) h.entries in
    let named : is_socket id first ≡ true = found_passes (is_socket id) h.entries first found in
    let none = no_wait first.role (and_right (first.id.0 == id.0) _ named) in
    let same : (x : SocketId) → is_waiting_id closed id x ≡ is_waiting_id h.entries id x = λ x.
    any_settled (is_waiting_as id x) (is_socket id) (leaving_fate_of how h.kept first.role) (role_after_leaving how h.kept) first (ap (λ b. (first.id.0 == x.0) && b) none.0 ∙ neither (first.id.0 == x.0)) (ap (λ b. (first.id.0 == x.0) && b) none.1 ∙ neither (first.id.0 == x.0)) h.entries found in
    ap P (left-found h how id first found) ∙ (λ i. filter (λ x. not (same x i)) h.offered))
  where
    no_wait : (r : Role) → has_socket r ≡ true → (waits_at id r ≡ false) × (waits_at id (role_after_leaving how h.kept r) ≡ false)
    no_wait (Connected c None) held = (refl, refl)
    no_wait (Connected c (Some l)) held = cc
    no_wait (Idle buffers bound) held = (refl, refl)
    no_wait (Listener local backlog) held = (refl, refl)
    no_wait (Datagrams bound queues) held = (refl, refl)
