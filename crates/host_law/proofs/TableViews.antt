-- What an event of the table leaves of the connection of an id.
use Rattle.std.proofs.Common.{◌≡◌, ◌⊎◌, inl, inr, ℕ, ◌+◌, ◌==◌, ◌≤◌, Bool, true, false, cond, if◌then◌else◌, List, [], ◌∷◌, ◌++◌, Option, Some, None, option_map, option_and_then, refl, sym, ◌∙◌, ap, subst, arith}
use Rattle.std.proofs.lemmas.Bool.{eqb-true}
use Rattle.std.specs.List.{find}
use Rattle.clock.specs.declared.moment.Moment.{Moment}
use Rattle.ipv4.specs.declared.addr.Endpoint.{Endpoint}
use Rattle.ipv4.specs.declared.addr.Addr.{Addr}
use Rattle.tcp_segment.specs.Segment.{Segment}
use Rattle.tcp_halves.specs.Halves.{Room}
use Rattle.tcp_state.specs.declared.connection.Fate.{Fate}
use Rattle.tcp_state.specs.Arrival.{opened_passively}
use Rattle.tcp_state.specs.View.{View, opened_actively}
use Rattle.sockets.specs.declared.entry.SocketId.{SocketId}
use Rattle.sockets.specs.declared.entry.Entry.{Entry}
use Rattle.sockets.specs.declared.role.Role.{Role}
use Rattle.sockets.specs.declared.role.Role.TheVariants.{Idle, Listener, Connected, Datagrams}
use Rattle.sockets.specs.Arrival.{is_opening, arrival, arrival_with_reply, room_for, local_end, peer_end}
use Rattle.tcp_segment.specs.declared.head.Head.{Head}
use Rattle.sockets.specs.Causes.{Event, Makes, MakesDatagrams, Hears, Connects, after_arrival, after_event, IsAdded}
use Rattle.sockets.specs.Closing.{entry_of}
use Rattle.sockets.specs.Entries.{in_connection, is_kept, entries_after_step, new_waiting, with_role}
use Rattle.sockets.specs.Lists.{change_first, remove_first}
use Rattle.sockets.specs.Ids.{has_id, AreAscending}
use Rattle.sockets.specs.Order.{IsOrdered}
use Rattle.sockets.specs.SocketsView.{SocketsView, later_moment}
use Rattle.sockets.specs.Steps.{event_of, listener_left, is_let_go, connected, connection_left, view_left, IsSocketLeft, remains, changes, opens, closes, IsLeft, IsOneEvent}
use Rattle.sockets.proofs.Arrivals.{by_arrival}
use Rattle.sockets.proofs.ByIds.{one_id, found_behind}
use Rattle.sockets.proofs.EventsOnce.{one_event}
use Rattle.sockets.proofs.Followed.{by_test}
use Rattle.sockets.proofs.OfferCounts.{by_option}
use Rattle.sockets.proofs.Opened.{found_passes}
use Rattle.sockets.proofs.Numbered.{never_back}
use Rattle.host_law.proofs.TableUnder.{stays_under, comes_under, none_below}

-- the connection of an entry
abbrev pub seen : Option Entry → Option View
seen o = option_and_then (λ e. in_connection None (λ c. Some c) e.role) o

-- that of an id
abbrev pub view_of : SocketId → SocketsView → Option View
view_of id h = seen (entry_of h id)

-- the id is given, and none has it
abbrev pub IsUsed : SocketId → SocketsView → Type 0
IsUsed id h = (id.0 ≤ h.last_id) × (entry_of h id ≡ None)

-- what an event leaves of a connection
abbrev pub view_out : SocketsView → Event → SocketId → View → Option SocketId → Option View
view_out h e id c listener = if is_let_go h e (connected id c listener) then None else view_left c (event_of h e (connected id c listener))

seen_left : (b : Bool) (id : SocketId) (l : Option SocketId) (o : Option View) → seen (if b then None else option_map (λ d. connected id d l) o) ≡ (if b then None else o)
seen_left true id l o = refl
seen_left false id l None = refl
seen_left false id l (Some d) = refl

none_left : (b : Bool) (id : SocketId) (l : Option SocketId) (o : Option View) → (if b then None else o) ≡ None → (if b then None else option_map (λ d. connected id d l) o) ≡ None
none_left true id l o is = refl
none_left false id l None is = refl
none_left false id l (Some d) is = cc

-- what is added comes behind
added_up : (h : SocketsView) (e : Event) (ys : List Entry) → IsAdded h e ys → AreAscending h.last_id (h.last_id + 1) ys
added_up h (Makes buffers) ys added = subst (AreAscending h.last_id (h.last_id + 1)) (sym added) (omega arith, omega arith)
added_up h MakesDatagrams ys added = subst (AreAscending h.last_id (h.last_id + 1)) (sym added) (omega arith, omega arith)
added_up h (Hears now isn source s) ys (inl none) = subst (AreAscending h.last_id (h.last_id + 1)) (sym none) (omega arith)
added_up h (Hears now isn source s) ys (inr (e, one, opened)) = subst (AreAscending h.last_id (h.last_id + 1)) (sym one) (let id = opened.id in omega (arith, id), let id = opened.id in omega (arith, id))
added_up h _ ys added = subst (AreAscending h.last_id (h.last_id + 1)) (sym added) (omega arith)

-- that entry is the one of this id
named : (h : SocketsView) (id : SocketId) (x : Entry) → entry_of h id ≡ Some x → x.id ≡ id
named h id x is = let at : x.id.0 ≡ id.0 = eqb-true x.id.0 id.0 (found_passes (has_id id) h.entries x is) in ap (λ (n : ℕ). let i : SocketId = record { 0 = n } in i) at

module _ (h : SocketsView) (e : Event) (o : IsOrdered h) (id : SocketId) where
  abbrev after : SocketsView
  after = after_event h e

  -- an entry leaves what its event leaves of it
  pub entry_left : (x : Entry) → entry_of h id ≡ Some x → (left : Option Entry) × IsOneEvent h e x left × (entry_of after id ≡ left)
  entry_left x is = stays_under (IsOneEvent h e) (IsAdded h e) (one_id h e) h.last_id (h.last_id + 1) (added_up h e) id 0 h.entries (let w = after in w.entries) (one_event h e o) o.ids x is

  pub entry_comes : entry_of h id ≡ None → (zs : List Entry) × IsAdded h e zs × (entry_of after id ≡ find (has_id id) zs)
  entry_comes none = comes_under (IsOneEvent h e) (IsAdded h e) (one_id h e) h.last_id (h.last_id + 1) (added_up h e) id h.entries (let w = after in w.entries) (one_event h e o) none

  -- an id that is used up stays so
  pub used_on : IsUsed id h → IsUsed id after
  used_on (given, none) =
      let back : (let w = after in h.last_id ≤ w.last_id) = never_back h e in
      let comes = entry_comes none in
      (omega (arith, given, back), comes.2 ∙ none_below id h.last_id (h.last_id + 1) comes.0 given (added_up h e comes.0 comes.1))

  -- a connection leaves exactly what its one event leaves of it
  pub view_left_of : (c : View) (l : Option SocketId) → entry_of h id ≡ Some (connected id c l) → (view_of id after ≡ view_out h e id c l) × (view_out h e id c l ≡ None → entry_of after id ≡ None)
  view_left_of c l is =
      let step = entry_left (connected id c l) is in
      let left : entry_of after id ≡ connection_left h e id c l = step.2 ∙ step.1 in (
        ap seen left ∙ seen_left (is_let_go h e (connected id c l)) id (listener_left h e (connected id c l) l) (view_left c (event_of h e (connected id c l))),
        λ none. left ∙ none_left (is_let_go h e (connected id c l)) id (listener_left h e (connected id c l) l) (view_left c (event_of h e (connected id c l))) none,
      )

-- the entry of a connection that is seen
pub seen_entry : (h : SocketsView) (id : SocketId) (c : View) → view_of id h ≡ Some c → (l : Option SocketId) × (entry_of h id ≡ Some (connected id c l))
seen_entry h id c sees = by_option (entry_of h id) (λ none. let bad : ◌≡◌ {A = Option View} None (Some c) = ap seen (sym none) ∙ sees in cc) (λ x is. by_role x.id x.role (named h id x is) is (ap seen (sym is) ∙ sees))
  where
    by_role : (i : SocketId) (r : Role) → i ≡ id → entry_of h id ≡ Some (record { id = i; role = r }) → in_connection None (λ d. Some d) r ≡ Some c → (l : Option SocketId) × (entry_of h id ≡ Some (connected id c l))
    by_role i (Connected d l) at is same = let one : d ≡ c = cc in (l, is ∙ ap (λ (j : SocketId). Some (connected j d l)) at ∙ ap (λ (v : View). Some (connected id v l)) one)
    by_role i (Idle buffers bound) at is same = cc
    by_role i (Listener local backlog) at is same = cc
    by_role i (Datagrams bound socket) at is same = cc

-- Where an id has no connection.

-- what comes there: none, or one that its caller or a segment opens
pub data Comes (h : SocketsView) (e : Event) (id : SocketId) : Type 0 where
  nothing : view_of id (after_event h e) ≡ None → Comes h e id
  connects : (now : Moment) (isn : ℕ) (named : SocketId) (peer : Endpoint) (routed : Bool) → e ≡ Connects now isn named peer routed → (room : Room) (local : Endpoint)
      → view_of id (after_event h e) ≡ Some (opened_actively room local peer isn (later_moment h now)) → (entry_of h id ≡ None → ⊥) → Comes h e id
  accepts : (now : Moment) (isn : ℕ) (source : Addr) (s : Segment) → e ≡ Hears now isn source s → is_opening s.flags ≡ true → (room : Room)
      → view_of id (after_event h e) ≡ Some (opened_passively room (local_end h s) (peer_end source s) isn s (later_moment h now)) → (id.0 ≤ h.last_id → ⊥) → Comes h e id

-- a step of others finds none there
none_settled : (r : Fate) (test : Entry → Bool) (change : Role → Role) (id : SocketId) (xs : List Entry) → find (has_id id) xs ≡ None → find (has_id id) (entries_after_step r test change xs) ≡ None
none_settled r test change id xs none = by_test (is_kept r) (λ kept. rw kept (changed xs none)) (λ gone. rw gone (removed xs none))
  where
    apart : (x : Entry) (xs : List Entry) → find (has_id id) (x ∷ xs) ≡ None → has_id id x ≡ false
    apart x xs none = by_test (has_id id x) (λ here. let bad : ◌≡◌ {A = Option Entry} (Some x) None = ap (λ b. cond b (Some x) (find (has_id id) xs)) (sym here) ∙ none in cc) (λ there. there)

    changed : (xs : List Entry) → find (has_id id) xs ≡ None → find (has_id id) (change_first test (with_role change) xs) ≡ None
    changed [] none = refl
    changed (x ∷ xs) none =
        let other = apart x xs none in
        let behind = found_behind (has_id id) x xs None other none in
        let rest = changed xs behind in
        by_test (test x) (λ here. rw (here, other) behind) (λ there. rw (there, other) rest)

    removed : (xs : List Entry) → find (has_id id) xs ≡ None → find (has_id id) (remove_first test xs) ≡ None
    removed [] none = refl
    removed (x ∷ xs) none =
        let other = apart x xs none in
        let behind = found_behind (has_id id) x xs None other none in
        let rest = removed xs behind in
        by_test (test x) (λ here. rw here behind) (λ there. rw (there, other) rest)

-- behind others stands one more
found_last : (id : SocketId) (x : Entry) (xs : List Entry) → find (has_id id) xs ≡ None → find (has_id id) (xs ++ x ∷ []) ≡ cond (has_id id x) (Some x) None
found_last id x [] none = refl
found_last id x (y ∷ ys) none =
    by_test (has_id id y)
    (λ here. let bad : ◌≡◌ {A = Option Entry} (Some y) None = ap (λ b. cond b (Some y) (find (has_id id) ys)) (sym here) ∙ none in cc)
    (λ there. let rest = found_last id x ys (found_behind (has_id id) y ys None there none) in rw there rest)

module _ (h : SocketsView) (e : Event) (o : IsOrdered h) (id : SocketId) where
  -- of a socket without one
  socket_comes : (x : Entry) → entry_of h id ≡ Some x → in_connection None (λ c. Some c) x.role ≡ None → Comes h e id
  socket_comes x is alone = let step = entry_left h e o id x is in by_role x.role alone step.0 step.1 step.2
    where
      at : SocketId
      at = x.id

      by_left : (f : Event) (y : Entry) (left : Option Entry) → f ≡ e → in_connection None (λ c. Some c) y.role ≡ None → IsSocketLeft h f y left → entry_of (after_event h e) id ≡ left → Comes h e id
      by_left f y _ event single (remains stays) now = nothing (ap seen now ∙ single)
      by_left f y _ event single (changes z same lone may) now = nothing (ap seen now ∙ lone)
      by_left _ _ _ event single (opens moment isn named peer routed port i buffers bound socket given) now =
          connects moment isn named peer routed (sym event) buffers (record { addr = h.addr; port = port }) (ap seen now) (λ none. let bad : ◌≡◌ {A = Option Entry} (Some x) None = sym is ∙ none in cc)
      by_left _ y _ event single (closes how named z socket) now = nothing (ap seen now)

      by_role : (r : Role) → in_connection None (λ c. Some c) r ≡ None → (left : Option Entry) → IsLeft h e at r left → entry_of (after_event h e) id ≡ left → Comes h e id
      by_role (Connected c l) single left step now = cc
      by_role (Idle buffers bound) single left step now = by_left e (record { id = at; role = Idle buffers bound }) left refl refl step now
      by_role (Listener local backlog) single left step now = by_left e (record { id = at; role = Listener local backlog }) left refl refl step now
      by_role (Datagrams bound socket) single left step now = by_left e (record { id = at; role = Datagrams bound socket }) left refl refl step now

-- of an id without an entry, where a segment comes
segment_comes : (h : SocketsView) (o : IsOrdered h) (id : SocketId) (now : Moment) (isn : ℕ) (source : Addr) (s : Segment) → entry_of h id ≡ None → Comes h (Hears now isn source s) id
segment_comes h o id now isn source s none =
    by_arrival h now isn source s (λ a. arrival h now isn source s ≡ a → Comes h (Hears now isn source s) id)
    (λ reply why is. stayed reply is)
    (λ first taker is. nothing (ap (λ a. view_of id (after_arrival h a)) is ∙ ap seen (none_settled _ _ _ id h.entries none)))
    (λ listener call full is. nothing (ap (λ a. view_of id (after_arrival h a)) is ∙ ap seen none))
    (λ listener call room is. by_test (has_id id (new_waiting (record { 0 = h.last_id + 1 }) listener.id (opened_passively (room_for h s) (local_end h s) (peer_end source s) isn s (later_moment h now))))
    (λ here. accepts now isn source s refl call.opens (room_for h s) (ap (λ a. view_of id (after_arrival h a)) is ∙ ap seen (found_last id _ h.entries none) ∙ ap (λ b. seen (cond b (Some (new_waiting (record { 0 = h.last_id + 1 }) listener.id (opened_passively (room_for h s) (local_end h s) (peer_end source s) isn s (later_moment h now)))) None)) here) (λ given. let at : h.last_id + 1 ≡ id.0 = eqb-true (h.last_id + 1) id.0 here in omega (arith, at, given)))
    (λ there. nothing (ap (λ a. view_of id (after_arrival h a)) is ∙ ap seen (found_last id _ h.entries none) ∙ ap (λ b. seen (cond b (Some (new_waiting (record { 0 = h.last_id + 1 }) listener.id (opened_passively (room_for h s) (local_end h s) (peer_end source s) isn s (later_moment h now)))) None)) there)))
    refl
  where
    stayed : (reply : Option Head) → arrival h now isn source s ≡ arrival_with_reply h reply → Comes h (Hears now isn source s) id
    stayed None is = nothing (ap (λ a. view_of id (after_arrival h a)) is ∙ ap seen none)
    stayed (Some head) is = nothing (ap (λ a. view_of id (after_arrival h a)) is ∙ ap seen none)

-- no other event adds a connection
added_alone : (h : SocketsView) (e : Event) (id : SocketId) (zs : List Entry) → IsAdded h e zs → ((now : Moment) (isn : ℕ) (source : Addr) (s : Segment) → e ≡ Hears now isn source s → ⊥) → seen (find (has_id id) zs) ≡ None
added_alone h (Makes buffers) id zs added other = ap (λ ys. seen (find (has_id id) ys)) added ∙ by_test (h.last_id + 1 == id.0) (λ here. rw here refl) (λ there. rw there refl)
added_alone h MakesDatagrams id zs added other = ap (λ ys. seen (find (has_id id) ys)) added ∙ by_test (h.last_id + 1 == id.0) (λ here. rw here refl) (λ there. rw there refl)
added_alone h (Hears now isn source s) id zs added other = absurd (other now isn source s refl)
added_alone h _ id zs added other = ap (λ ys. seen (find (has_id id) ys)) added

is_hears : (e : Event) → ((now : Moment) × (isn : ℕ) × (source : Addr) × (s : Segment) × (e ≡ Hears now isn source s)) ⊎ ((now : Moment) (isn : ℕ) (source : Addr) (s : Segment) → e ≡ Hears now isn source s → ⊥)
is_hears (Hears now isn source s) = inl (now, isn, source, s, refl)
is_hears _ = inr (λ now isn source s same. cc)

pub comes : (h : SocketsView) (e : Event) (o : IsOrdered h) (id : SocketId) → view_of id h ≡ None → Comes h e id
comes h e o id none =
    by_option (entry_of h id)
    (λ absent. elim (is_hears e) [
      | inl k ↦ subst (λ (f : Event). Comes h f id) (sym k.4) (segment_comes h o id k.0 k.1 k.2 k.3 absent)
      | inr other ↦ let added = entry_comes h e o id absent in nothing (ap seen added.2 ∙ added_alone h e id added.0 added.1 other)
    ])
    (λ x is. socket_comes h e o id x is (ap seen (sym is) ∙ none))
