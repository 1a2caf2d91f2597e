-- What stands under an id after an event, by what is left of the entry that stood there.
use Rattle.std.proofs.Common.{◌≡◌, inl, inr, ℕ, ◌==◌, ◌≤◌, ◌<◌, Bool, true, false, if◌then◌else◌, cond, List, [], ◌∷◌, Option, Some, None, option_map, refl, sym, ◌∙◌, ap, subst, arith}
use Rattle.std.proofs.lemmas.Bool.{eqb-true}
use Rattle.std.specs.List.{find}
use Rattle.tcp_state.specs.View.{View}
use Rattle.tcp_state.proofs.Edges.{and_left}
use Rattle.sockets.specs.declared.entry.SocketId.{SocketId}
use Rattle.sockets.specs.declared.entry.Entry.{Entry}
use Rattle.sockets.specs.declared.role.Role.{Role}
use Rattle.sockets.specs.declared.role.Role.TheVariants.{Idle, Listener, Connected, Datagrams}
use Rattle.sockets.specs.Entries.{is_socket}
use Rattle.sockets.specs.Ids.{has_id, AreAscending}
use Rattle.sockets.specs.Lists.{change_first}
use Rattle.sockets.specs.Causes.{Event, Follows}
use Rattle.sockets.specs.Steps.{event_of, listener_left, is_let_go, connected, view_left, IsSocketLeft, remains, changes, opens, IsLeft, IsOneEvent}
use Rattle.sockets.specs.SocketsView.{SocketsView}
use Rattle.sockets.proofs.Ascending.{ascends_followed}
use Rattle.sockets.proofs.Followed.{IsNothing, by_test}
use Rattle.sockets.proofs.OfferCounts.{by_option}
use Rattle.sockets.proofs.Opened.{found_passes}

-- what is found behind the first that fails
pub found_behind : (test : Entry → Bool) (x : Entry) (xs : List Entry) (o : Option Entry) → test x ≡ false → find test (x ∷ xs) ≡ o → find test xs ≡ o
found_behind test x xs o fails found = ap (λ b. cond b (Some x) (find test xs)) (sym fails) ∙ found

pub found_first : (test : Entry → Bool) (x y : Entry) (xs : List Entry) → test x ≡ true → find test (x ∷ xs) ≡ Some y → x ≡ y
found_first test x y xs passes found = let one : Some x ≡ Some y = ap (λ b. cond b (Some x) (find test xs)) (sym passes) ∙ found in cc

-- an id up to the one before is none of theirs
find_none : (id : SocketId) (before last : ℕ) (xs : List Entry) → id.0 ≤ before → AreAscending before last xs → find (has_id id) xs ≡ None
find_none id before last [] below ids = refl
find_none id before last (x ∷ xs) below ids =
    let other : has_id id x ≡ false = by_test (x.id.0 == id.0) (λ yes. absurd (omega (arith, eqb-true x.id.0 id.0 yes, below, ids.0))) (λ no. no) in
    rw other (find_none id x.id.0 last xs (omega (arith, below, ids.0)) ids.1)

-- the step of the entry of an id leaves what is found there
module _ (Step : Entry → Option Entry → Type 0) (ids : (x y : Entry) → Step x (Some y) → y.id ≡ x.id) (id : SocketId) where
  pub left_under : (before last : ℕ) (xs ys : List Entry) → Follows Step IsNothing xs ys → AreAscending before last xs → (x : Entry) → find (has_id id) xs ≡ Some x → (left : Option Entry) × Step x left × (find (has_id id) ys ≡ left)
  left_under before last [] ys f ascends x found = cc
  left_under before last (z ∷ zs) [] f ascends x found =
      by_test (has_id id z)
      (λ here. (None, subst (λ w. Step w None) (found_first (has_id id) z x zs here found) f.0, refl))
      (λ there. left_under z.id.0 last zs [] f.1 ascends.1 x (found_behind (has_id id) z zs (Some x) there found))
  left_under before last (z ∷ zs) (y ∷ ys) (inl f) ascends x found =
      let same : has_id id y ≡ has_id id z = ap (λ (i : SocketId). i.0 == id.0) (ids z y f.0) in
      by_test (has_id id z)
      (λ here. (Some y, subst (λ w. Step w (Some y)) (found_first (has_id id) z x zs here found) f.0, rw (same ∙ here) refl))
      (λ there. let rest = left_under z.id.0 last zs ys f.1 ascends.1 x (found_behind (has_id id) z zs (Some x) there found) in
      let behind : find (has_id id) (y ∷ ys) ≡ find (has_id id) ys = rw (same ∙ there) refl in
      (rest.0, rest.1, behind ∙ rest.2))
  left_under before last (z ∷ zs) (y ∷ ys) (inr f) ascends x found =
      by_test (has_id id z)
      (λ here.
      let above = ascends_followed Step ids z.id.0 last zs (y ∷ ys) f.1 ascends.1 in
      let at : z.id.0 ≡ id.0 = eqb-true z.id.0 id.0 here in
      (None, subst (λ w. Step w None) (found_first (has_id id) z x zs here found) f.0, find_none id z.id.0 last (y ∷ ys) (omega (arith, at)) above))
      (λ there. left_under z.id.0 last zs (y ∷ ys) f.1 ascends.1 x (found_behind (has_id id) z zs (Some x) there found))

-- Sockets.

pub found_above : (test : Entry → Bool) (before last : ℕ) (xs : List Entry) (x : Entry) → AreAscending before last xs → find test xs ≡ Some x → before < x.id.0
found_above test before last [] x ids found = cc
found_above test before last (y ∷ ys) x ids found =
    by_test (test y)
    (λ here. let same : y.id.0 ≡ x.id.0 = ap (λ (e : Entry). e.id.0) (found_first test y x ys here found) in omega (arith, same, ids.0))
    (λ there. omega (arith, ids.0, found_above test y.id.0 last ys x ids.1 (found_behind test y ys (Some x) there found)))

-- the socket of an id is its entry
pub socket_found : (id : SocketId) (before last : ℕ) (xs : List Entry) (x : Entry) → AreAscending before last xs → find (is_socket id) xs ≡ Some x → find (has_id id) xs ≡ Some x
socket_found id before last [] x ids found = cc
socket_found id before last (y ∷ ys) x ids found =
    by_test (is_socket id y)
    (λ here.
    let same : y ≡ x = found_first (is_socket id) y x ys here found in
    let at : has_id id y ≡ true = and_left _ _ here in
    let first : find (has_id id) (y ∷ ys) ≡ Some y = rw at refl in first ∙ ap (λ (e : Entry). Some e) same)
    (λ there.
    let later : find (is_socket id) ys ≡ Some x = found_behind (is_socket id) y ys (Some x) there found in
    let at : x.id.0 ≡ id.0 = eqb-true x.id.0 id.0 (and_left _ _ (found_passes (is_socket id) ys x later)) in
    let other : has_id id y ≡ false = by_test (y.id.0 == id.0) (λ yes. absurd (omega (arith, eqb-true y.id.0 id.0 yes, at, found_above (is_socket id) y.id.0 last ys x ids.1 later))) (λ no. no) in
    let behind : find (has_id id) (y ∷ ys) ≡ find (has_id id) ys = rw other refl in behind ∙ socket_found id y.id.0 last ys x ids.1 later)

-- the first that passes a test changes: where it is a socket then, its id names it
pub changed_found : (test : Entry → Bool) (change : Entry → Entry) (before last : ℕ) (xs : List Entry) (x : Entry) → AreAscending before last xs → find test xs ≡ Some x → is_socket x.id (change x) ≡ true
    → find (is_socket x.id) (change_first test change xs) ≡ Some (change x)
changed_found test change before last [] x ids found named = cc
changed_found test change before last (y ∷ ys) x ids found named =
    by_test (test y)
    (λ here.
    let same : y ≡ x = found_first test y x ys here found in
    let so : is_socket x.id (change y) ≡ true = ap (λ (e : Entry). is_socket x.id (change e)) same ∙ named in
    let first : find (is_socket x.id) (change_first test change (y ∷ ys)) ≡ Some (change y) = rw (here, so) refl in first ∙ ap (λ (e : Entry). Some (change e)) same)
    (λ there.
    let later : find test ys ≡ Some x = found_behind test y ys (Some x) there found in
    let above : y.id.0 < x.id.0 = found_above test y.id.0 last ys x ids.1 later in
    let other : (y.id.0 == x.id.0) ≡ false = by_test (y.id.0 == x.id.0) (λ yes. absurd (omega (arith, eqb-true y.id.0 x.id.0 yes, above))) (λ no. no) in
    let behind : find (is_socket x.id) (change_first test change (y ∷ ys)) ≡ find (is_socket x.id) (change_first test change ys) = rw (there, other) refl in
    behind ∙ changed_found test change y.id.0 last ys x ids.1 later named)

-- an entry of an id that is no socket is none by that name
pub no_socket : (id : SocketId) (before last : ℕ) (xs : List Entry) (left : Option Entry) → AreAscending before last xs → find (has_id id) xs ≡ left → ((x : Entry) → left ≡ Some x → is_socket id x ≡ false) → find (is_socket id) xs ≡ None
no_socket id before last xs left ids found none =
    by_option (find (is_socket id) xs) (λ is. is)
    (λ x is. let there : left ≡ Some x = sym found ∙ socket_found id before last xs x ids is in
    let bad : true ≡ false = sym (found_passes (is_socket id) xs x is) ∙ none x there in cc)

-- what is left of an entry keeps its id
kept_id : (b : Bool) (id : SocketId) (l : Option SocketId) (o : Option View) (y : Entry) → Some y ≡ (if b then None else option_map (λ d. connected id d l) o) → y.id ≡ id
kept_id true id l o y is = cc
kept_id false id l None y is = cc
kept_id false id l (Some d) y is = let same : y ≡ connected id d l = cc in ap (λ (e : Entry). e.id) same

socket_id : (h : SocketsView) (e : Event) (x y : Entry) → IsSocketLeft h e x (Some y) → y.id ≡ x.id
socket_id h e x _ (remains stays) = refl
socket_id h e x _ (changes y same alone may) = same
socket_id h _ _ _ (opens now isn named peer routed port id buffers bound socket given) = refl

pub one_id : (h : SocketsView) (e : Event) (x y : Entry) → IsOneEvent h e x (Some y) → y.id ≡ x.id
one_id h e x y step = by_role x.role step
  where
    by_role : (r : Role) → IsLeft h e x.id r (Some y) → y.id ≡ x.id
    by_role (Connected c l) is = kept_id (is_let_go h e (connected x.id c l)) x.id (listener_left h e (connected x.id c l) l) (view_left c (event_of h e (connected x.id c l))) y is
    by_role (Idle buffers bound) is = socket_id h e (record { id = x.id; role = Idle buffers bound }) y is
    by_role (Listener local backlog) is = socket_id h e (record { id = x.id; role = Listener local backlog }) y is
    by_role (Datagrams bound queues) is = socket_id h e (record { id = x.id; role = Datagrams bound queues }) y is
