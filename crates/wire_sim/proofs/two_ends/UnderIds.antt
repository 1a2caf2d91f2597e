-- What stands under an id of a table after an event by which others may be added.
use Rattle.std.proofs.Common.{◌≡◌, inl, inr, ℕ, ◌==◌, ◌≤◌, ◌<◌, ◌&&◌, ◌||◌, Bool, true, false, if◌then◌else◌, cond, List, [], ◌∷◌, Option, Some, None, option_map, refl, sym, ◌∙◌, ap, subst, arith}
use Rattle.std.proofs.lemmas.Bool.{eqb-true}
use Rattle.std.specs.List.{find, list_any}
use Rattle.ipv4.specs.declared.addr.Addr.{Addr}
use Rattle.clock.specs.declared.moment.Moment.{Moment}
use Rattle.tcp_segment.specs.Segment.{Segment}
use Rattle.tcp_state.specs.View.{View}
use Rattle.tcp_state.specs.Edges as edge
use Rattle.sockets.specs.declared.entry.SocketId.{SocketId}
use Rattle.sockets.specs.declared.entry.Entry.{Entry}
use Rattle.sockets.specs.Arrival.{local_end, peer_end}
use Rattle.sockets.specs.Causes.{Event, Hears, Follows, IsAdded, IsOpenedBy, after_event}
use Rattle.sockets.specs.Closing.{entry_of}
use Rattle.sockets.specs.Entries.{is_between, is_kept}
use Rattle.sockets.specs.Ids.{has_id, AreAscending}
use Rattle.sockets.specs.Offered.{is_ready, is_ready_as, is_ready_id}
use Rattle.sockets.specs.Order.{IsOrdered}
use Rattle.sockets.specs.SocketsView.{SocketsView, later_moment}
use Rattle.sockets.specs.Steps.{connected, connection_left, view_left, IsOneEvent}
use Rattle.sockets.proofs.ByIds.{one_id}
use Rattle.sockets.proofs.EventsOnce.{one_event}
use Rattle.sockets.proofs.Followed.{by_test}
use Rattle.wire_sim.proofs.lists.FoundAfterChange.{IsSole}

behind : (id : SocketId) (x : Entry) (xs : List Entry) (o : Option Entry) → has_id id x ≡ false → find (has_id id) (x ∷ xs) ≡ o → find (has_id id) xs ≡ o
behind id x xs o fails found = ap (λ b. cond b (Some x) (find (has_id id) xs)) (sym fails) ∙ found

here : (id : SocketId) (x y : Entry) (xs : List Entry) → has_id id x ≡ true → find (has_id id) (x ∷ xs) ≡ Some y → x ≡ y
here id x y xs passes found = let one : Some x ≡ Some y = ap (λ b. cond b (Some x) (find (has_id id) xs)) (sym passes) ∙ found in cc

-- an id up to the one before is none of theirs, nor is one past the last
pub none_below : (id : SocketId) (before last : ℕ) (xs : List Entry) → id.0 ≤ before → AreAscending before last xs → find (has_id id) xs ≡ None
none_below id before last [] below ids = refl
none_below id before last (x ∷ xs) below ids =
    let other : has_id id x ≡ false = by_test (x.id.0 == id.0) (λ yes. absurd (omega (arith, eqb-true x.id.0 id.0 yes, below, ids.0))) (λ no. no) in
    rw other (none_below id x.id.0 last xs (omega (arith, below, ids.0)) ids.1)

last_above : (before last : ℕ) (xs : List Entry) → AreAscending before last xs → before ≤ last
last_above before last [] ids = ids
last_above before last (x ∷ xs) ids = omega (arith, ids.0, last_above x.id.0 last xs ids.1)

pub none_past : (id : SocketId) (before last : ℕ) (xs : List Entry) → last < id.0 → AreAscending before last xs → find (has_id id) xs ≡ None
none_past id before last [] above ids = refl
none_past id before last (x ∷ xs) above ids =
    let other : has_id id x ≡ false = by_test (x.id.0 == id.0) (λ yes. absurd (omega (arith, eqb-true x.id.0 id.0 yes, above, last_above x.id.0 last xs ids.1))) (λ no. no) in
    rw other (none_past id x.id.0 last xs above ids.1)

pub found_within : (id : SocketId) (before last : ℕ) (xs : List Entry) (x : Entry) → AreAscending before last xs → find (has_id id) xs ≡ Some x → id.0 ≤ last
found_within id before last [] x ids found = cc
found_within id before last (y ∷ ys) x ids found =
    by_test (has_id id y)
    (λ yes. omega (arith, eqb-true y.id.0 id.0 yes, last_above y.id.0 last ys ids.1))
    (λ no. found_within id y.id.0 last ys x ids.1 (behind id y ys (Some x) no found))

-- one that stands under an id stands there alone
pub sole_id : (id : SocketId) (before last : ℕ) (xs : List Entry) → AreAscending before last xs → IsSole (has_id id) xs
sole_id id before last [] ids = tt
sole_id id before last (x ∷ xs) ids = (λ yes. none_below id x.id.0 last xs (omega (arith, eqb-true x.id.0 id.0 yes)) ids.1, sole_id id x.id.0 last xs ids.1)

-- Of the entries that an event leaves the one under an id is what is left of the one that was, where none is added under it.
module _ (Step : Entry → Option Entry → Type 0) (ids : (x y : Entry) → Step x (Some y) → y.id ≡ x.id) (Added : List Entry → Type 0) (id : SocketId) (apart : (zs : List Entry) → Added zs → find (has_id id) zs ≡ None) where
  none_left : (before last : ℕ) (xs ys : List Entry) → Follows Step Added xs ys → id.0 ≤ before → AreAscending before last xs → find (has_id id) ys ≡ None
  none_left before last [] ys f below ascends = apart ys f
  none_left before last (x ∷ xs) [] f below ascends = refl
  none_left before last (x ∷ xs) (y ∷ ys) (inl f) below ascends =
      let same : has_id id y ≡ has_id id x = ap (λ (i : SocketId). i.0 == id.0) (ids x y f.0) in
      let other : has_id id x ≡ false = by_test (x.id.0 == id.0) (λ yes. absurd (omega (arith, eqb-true x.id.0 id.0 yes, below, ascends.0))) (λ no. no) in
      let rest : find (has_id id) ys ≡ None = none_left x.id.0 last xs ys f.1 (omega (arith, below, ascends.0)) ascends.1 in
      let first : find (has_id id) (y ∷ ys) ≡ find (has_id id) ys = rw (same ∙ other) refl in
      first ∙ rest
  none_left before last (x ∷ xs) (y ∷ ys) (inr f) below ascends = none_left x.id.0 last xs (y ∷ ys) f.1 (omega (arith, below, ascends.0)) ascends.1

  pub left_there : (before last : ℕ) (xs ys : List Entry) → Follows Step Added xs ys → AreAscending before last xs → (x : Entry) → find (has_id id) xs ≡ Some x → (left : Option Entry) × Step x left × (find (has_id id) ys ≡ left)
  left_there before last [] ys f ascends x found = cc
  left_there before last (z ∷ zs) [] f ascends x found =
      by_test (has_id id z)
      (λ yes. (None, subst (λ w. Step w None) (here id z x zs yes found) f.0, refl))
      (λ no. left_there z.id.0 last zs [] f.1 ascends.1 x (behind id z zs (Some x) no found))
  left_there before last (z ∷ zs) (y ∷ ys) (inl f) ascends x found =
      let same : has_id id y ≡ has_id id z = ap (λ (i : SocketId). i.0 == id.0) (ids z y f.0) in
      by_test (has_id id z)
      (λ yes. (Some y, subst (λ w. Step w (Some y)) (here id z x zs yes found) f.0, rw (same ∙ yes) refl))
      (λ no. let rest = left_there z.id.0 last zs ys f.1 ascends.1 x (behind id z zs (Some x) no found) in
      let first : find (has_id id) (y ∷ ys) ≡ find (has_id id) ys = rw (same ∙ no) refl in
      (rest.0, rest.1, first ∙ rest.2))
  left_there before last (z ∷ zs) (y ∷ ys) (inr f) ascends x found =
      by_test (has_id id z)
      (λ yes.
      let at : z.id.0 ≡ id.0 = eqb-true z.id.0 id.0 yes in
      (None, subst (λ w. Step w None) (here id z x zs yes found) f.0, none_left z.id.0 last zs (y ∷ ys) f.1 (omega (arith, at)) ascends.1))
      (λ no. left_there z.id.0 last zs (y ∷ ys) f.1 ascends.1 x (behind id z zs (Some x) no found))

-- A connection under an id, and an event that adds none under it.
pub connection_then : (h : SocketsView) (e : Event) (id : SocketId) (c : View) (l : Option SocketId) → IsOrdered h → entry_of h id ≡ Some (connected id c l) → ((zs : List Entry) → IsAdded h e zs → find (has_id id) zs ≡ None)
    → entry_of (after_event h e) id ≡ connection_left h e id c l
connection_then h e id c l o found apart =
    let left = left_there (IsOneEvent h e) (one_id h e) (IsAdded h e) id apart 0 h.last_id h.entries (let w = after_event h e in w.entries) (one_event h e o) o.ids (connected id c l) found in
    left.2 ∙ left.1

-- a segment adds none under an id that is given
segment_adds : (h : SocketsView) (now : Moment) (isn : ℕ) (source : Addr) (s : Segment) (id : SocketId) → id.0 ≤ h.last_id → (zs : List Entry) → IsAdded h (Hears now isn source s) zs → find (has_id id) zs ≡ None
segment_adds h now isn source s id given zs (inl none) = ap (find (has_id id)) none
segment_adds h now isn source s id given zs (inr (e, one, opened)) =
    let own : IsOpenedBy h source s e = opened in
    let other : has_id id e ≡ false = by_test (e.id.0 == id.0) (λ yes. absurd (omega (arith, eqb-true e.id.0 id.0 yes, own.id, given))) (λ no. no) in
    ap (find (has_id id)) one ∙ ap (λ b. cond b (Some e) None) other

-- a segment of its two ends is one event of the connection
pub segment_left : (h : SocketsView) (now : Moment) (isn : ℕ) (source : Addr) (s : Segment) (id : SocketId) (c : View) (l : Option SocketId) → IsOrdered h → entry_of h id ≡ Some (connected id c l)
    → is_between (local_end h s) (peer_end source s) (connected id c l) ≡ true
    → entry_of (after_event h (Hears now isn source s)) id ≡ (if is_kept (edge.fate_by c (edge.Hears s (later_moment h now))) then Some (connected id (edge.after_event c (edge.Hears s (later_moment h now))) l) else None)
segment_left h now isn source s id c l o found between =
    let e : Event = Hears now isn source s in
    connection_then h e id c l o found (segment_adds h now isn source s id (found_within id 0 h.last_id h.entries (connected id c l) o.ids found))
    ∙ (ap (λ b. option_map (λ d. connected id d l) (view_left c (if b then Some (edge.Hears s (later_moment h now)) else None))) between
    ∙ kept (is_kept (edge.fate_by c (edge.Hears s (later_moment h now)))))
  where
    kept : (b : Bool) → option_map (λ d. connected id d l) (if b then Some (edge.after_event c (edge.Hears s (later_moment h now))) else None) ≡ (if b then Some (connected id (edge.after_event c (edge.Hears s (later_moment h now))) l) else None)
    kept true = refl
    kept false = refl

-- .. and one of other ends none
pub segment_apart : (h : SocketsView) (now : Moment) (isn : ℕ) (source : Addr) (s : Segment) (id : SocketId) (c : View) (l : Option SocketId) → IsOrdered h → entry_of h id ≡ Some (connected id c l)
    → is_between (local_end h s) (peer_end source s) (connected id c l) ≡ false → entry_of (after_event h (Hears now isn source s)) id ≡ Some (connected id c l)
segment_apart h now isn source s id c l o found apart =
    connection_then h (Hears now isn source s) id c l o found (segment_adds h now isn source s id (found_within id 0 h.last_id h.entries (connected id c l) o.ids found))
    ∙ ap (λ b. option_map (λ d. connected id d l) (view_left c (if b then Some (edge.Hears s (later_moment h now)) else None))) apart

-- Who is ready.

none_ready : (id : SocketId) (xs : List Entry) → find (has_id id) xs ≡ None → list_any (is_ready_as id) xs ≡ false
none_ready id [] none = refl
none_ready id (x ∷ xs) none =
    by_test (has_id id x)
    (λ yes. let bad : Some x ≡ None = ap (λ b. cond b (Some x) (find (has_id id) xs)) (sym yes) ∙ none in cc)
    (λ no. ap (λ b. (b && is_ready x.role) || list_any (is_ready_as id) xs) no ∙ none_ready id xs (behind id x xs None no none))

ready_there : (id : SocketId) (before last : ℕ) (xs : List Entry) (x : Entry) → AreAscending before last xs → find (has_id id) xs ≡ Some x → list_any (is_ready_as id) xs ≡ is_ready x.role
ready_there id before last [] x ids found = cc
ready_there id before last (y ∷ ys) x ids found =
    by_test (has_id id y)
    (λ yes.
    let at : y.id.0 ≡ id.0 = eqb-true y.id.0 id.0 yes in
    let none : list_any (is_ready_as id) ys ≡ false = none_ready id ys (none_below id y.id.0 last ys (omega (arith, at)) ids.1) in
    ap (λ b. (b && is_ready y.role) || list_any (is_ready_as id) ys) yes ∙ (ap (λ b. is_ready y.role || b) none ∙ (or_false (is_ready y.role) ∙ ap (λ (e : Entry). is_ready e.role) (here id y x ys yes found))))
    (λ no. ap (λ b. (b && is_ready y.role) || list_any (is_ready_as id) ys) no ∙ ready_there id y.id.0 last ys x ids.1 (behind id y ys (Some x) no found))
  where
    or_false : (b : Bool) → (b || false) ≡ b
    or_false true = refl
    or_false false = refl

pub ready_under : (h : SocketsView) (id : SocketId) (x : Entry) → IsOrdered h → entry_of h id ≡ Some x → is_ready_id h.entries id ≡ is_ready x.role
ready_under h id x o found = ready_there id 0 h.last_id h.entries x o.ids found
