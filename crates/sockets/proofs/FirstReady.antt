-- Why the socket that is found ready is the first of those that are.
use Rattle.std.proofs.Common.{◌≡◌, ℕ, ◌<◌, ◌==◌, ◌&&◌, nat_lt, Bool, true, false, cond, List, [], ◌∷◌, Option, Some, None, option_map, Ok, refl, sym, ◌∙◌, ap, arith}
use Rattle.std.specs.List.{find}
use Rattle.std.proofs.lemmas.Bool.{and_parts, and_from, eqb-true}
use Rattle.std.proofs.lemmas.Bool.Decides.{nat_tests}
use Rattle.tcp_state.proofs.Edges.{and_left}
use Rattle.sockets.specs.declared.entry.SocketId.{SocketId}
use Rattle.sockets.specs.declared.entry.Entry.{Entry}
use Rattle.sockets.specs.declared.ready.Ready.{Ready}
use Rattle.sockets.specs.declared.role.Role.{Role}
use Rattle.sockets.specs.Entries.{has_socket, is_socket}
use Rattle.sockets.specs.Ids.{AreAscending}
use Rattle.sockets.specs.Order.{IsOrdered}
use Rattle.sockets.specs.Ready.{is_any_of, is_ready_after, next_ready, ready_of, readiness}
use Rattle.sockets.specs.SocketsView.{SocketsView, role_of}
use Rattle.sockets.proofs.ByIds.{found_above, found_behind, found_first}
use Rattle.sockets.proofs.Followed.{by_test}
use Rattle.sockets.proofs.Foretold.{Told, told}
use Rattle.sockets.proofs.OfferCounts.{by_option}
use Rattle.sockets.proofs.Opened.{found_passes}

-- a socket is named by its id
itself : (test : Entry → Bool) (before last : ℕ) (xs : List Entry) (e : Entry) → AreAscending before last xs → find test xs ≡ Some e → has_socket e.role ≡ true → find (is_socket e.id) xs ≡ Some e
itself test before last [] e ids found socket = cc
itself test before last (y ∷ ys) e ids found socket =
    by_test (test y)
    (λ here.
    let same : y ≡ e = found_first test y e ys here found in
    let own : (e.id.0 == e.id.0) ≡ true = grind (arith, nat_tests) in
    let named : is_socket e.id y ≡ true = ap (λ (x : Entry). is_socket e.id x) same ∙ and_from (e.id.0 == e.id.0) (has_socket e.role) own socket in
    let first : find (is_socket e.id) (y ∷ ys) ≡ Some y = rw named refl in first ∙ ap (λ (x : Entry). Some x) same)
    (λ there.
    let later : find test ys ≡ Some e = found_behind test y ys (Some e) there found in
    let above : y.id.0 < e.id.0 = found_above test y.id.0 last ys e ids.1 later in
    let other : (y.id.0 == e.id.0) ≡ false = by_test (y.id.0 == e.id.0) (λ yes. absurd (omega (arith, eqb-true y.id.0 e.id.0 yes, above))) (λ no. no) in
    let behind : find (is_socket e.id) (y ∷ ys) ≡ find (is_socket e.id) ys = rw other refl in behind ∙ itself test y.id.0 last ys e ids.1 later socket)

-- an entry before the first that passes doesn't
fails_before : (test : Entry → Bool) (other : SocketId) (before last : ℕ) (xs : List Entry) (e x : Entry) → AreAscending before last xs → find test xs ≡ Some e → find (is_socket other) xs ≡ Some x → other.0 < e.id.0 → test x ≡ false
fails_before test other before last [] e x ids found named below = cc
fails_before test other before last (y ∷ ys) e x ids found named below =
    by_test (is_socket other y)
    (λ its.
    let same : y ≡ x = found_first (is_socket other) y x ys its named in
    let at : y.id.0 ≡ other.0 = eqb-true y.id.0 other.0 (and_left _ _ its) in
    by_test (test y)
    (λ here. let first : y.id.0 ≡ e.id.0 = ap (λ (z : Entry). z.id.0) (found_first test y e ys here found) in absurd (omega (arith, at, first, below)))
    (λ there. ap test (sym same) ∙ there))
    (λ others.
    let later : find (is_socket other) ys ≡ Some x = found_behind (is_socket other) y ys (Some x) others named in
    let above : y.id.0 < x.id.0 = found_above (is_socket other) y.id.0 last ys x ids.1 later in
    let at : x.id.0 ≡ other.0 = eqb-true x.id.0 other.0 (and_left _ _ (found_passes (is_socket other) ys x later)) in
    by_test (test y)
    (λ here. let first : y.id.0 ≡ e.id.0 = ap (λ (z : Entry). z.id.0) (found_first test y e ys here found) in absurd (omega (arith, above, at, first, below)))
    (λ there. fails_before test other y.id.0 last ys e x ids.1 (found_behind test y ys (Some e) there found) later below))

-- and where none passes, none of the list does
all_fail : (test named : Entry → Bool) (xs : List Entry) (x : Entry) → find test xs ≡ None → find named xs ≡ Some x → test x ≡ false
all_fail test named [] x none found = cc
all_fail test named (y ∷ ys) x none found =
    by_test (test y)
    (λ here. let some : Some y ≡ None = ap (λ b. cond b (Some y) (find test ys)) (sym here) ∙ none in cc)
    (λ there. by_test (named y)
    (λ its. ap test (sym (found_first named y x ys its found)) ∙ there)
    (λ others. all_fail test named ys x (found_behind test y ys None there none) (found_behind named y ys (Some x) others found)))

-- the entry of a socket that is told of
record Entered (h : SocketsView) (id : SocketId) (ready : Ready) : Type 0 where
  e : Entry
  found : find (is_socket id) h.entries ≡ Some e
  at : e.id.0 ≡ id.0
  socket : has_socket e.role ≡ true
  is : ready_of h id e.role ≡ ready

entered : (h : SocketsView) (id : SocketId) (ready : Ready) → readiness h id ≡ Ok ready → Entered h id ready
entered h id ready is =
    let t = told h id ready is in
    by_entry t (find (is_socket id) h.entries) refl
  where
    by_entry : (t : Told h id ready) (o : Option Entry) → find (is_socket id) h.entries ≡ o → Entered h id ready
    by_entry t None none = let no : role_of h id ≡ None = ap (λ (o : Option Entry). option_map (λ (e : Entry). e.role) o) none in let bad = t.there in cc
    by_entry t (Some e) found =
        let its : role_of h id ≡ Some e.role = ap (λ (o : Option Entry). option_map (λ (e : Entry). e.role) o) found in
        let there = t.there in
        let same : e.role ≡ t.role = cc in
        let parts = and_parts (e.id.0 == id.0) (has_socket e.role) (found_passes (is_socket id) h.entries e found) in
        record { e = e; found = found; at = eqb-true e.id.0 id.0 parts.0; socket = parts.1; is = ap (λ (r : Role). ready_of h id r) same ∙ t.is }

-- an id is its number
pub same_id : (a b : SocketId) → a.0 ≡ b.0 → a ≡ b
same_id a b same = ap (λ (n : ℕ). let id : SocketId = record { 0 = n } in id) same

-- it doesn't pass only where none of what holds of it is asked for
unasked : (h : SocketsView) (after : SocketId) (mask : Ready) (id : SocketId) (ready : Ready) (n : Entered h id ready) → after.0 < id.0 → is_ready_after h after mask n.e ≡ false → is_any_of ready mask ≡ false
unasked h after mask id ready n behind fails =
    by_test (is_any_of ready mask)
    (λ asked.
    let at = n.at in
    let same : n.e.id ≡ id = same_id n.e.id id at in
    let its : ready_of h n.e.id n.e.role ≡ ready = ap (λ (i : SocketId). ready_of h i n.e.role) same ∙ n.is in
    let later : nat_lt after.0 n.e.id.0 ≡ true = grind (arith, nat_tests, behind, at) in
    let passes : is_ready_after h after mask n.e ≡ true = and_from _ _ (and_from _ _ later n.socket) (ap (λ (r : Ready). is_any_of r mask) its ∙ asked) in
    let both : true ≡ false = sym passes ∙ fails in cc)
    (λ none. none)

-- what is told of an entry that is found
abbrev shown : SocketsView → Entry → SocketId × Ready
shown h e = (e.id, ready_of h e.id e.role)

-- what is found
record Found (h : SocketsView) (after : SocketId) (mask : Ready) (id : SocketId) (ready : Ready) : Type 0 where
  e : Entry
  first : find (is_ready_after h after mask) h.entries ≡ Some e
  named : e.id ≡ id
  is : ready_of h e.id e.role ≡ ready

found_ready : (h : SocketsView) (after : SocketId) (mask : Ready) (id : SocketId) (ready : Ready) → next_ready h after mask ≡ Some (id, ready) → Found h after mask id ready
found_ready h after mask id ready is = by_entry (find (is_ready_after h after mask) h.entries) refl is
  where
    by_entry : (o : Option Entry) → find (is_ready_after h after mask) h.entries ≡ o → option_map (shown h) o ≡ Some (id, ready) → Found h after mask id ready
    by_entry None first is = cc
    by_entry (Some e) first is =
        let same : shown h e ≡ (id, ready) = cc in
        record { e = e; first = first; named = ap (λ (x : SocketId × Ready). x.0) same; is = ap (λ (x : SocketId × Ready). x.1) same }

pub ready_told : (h : SocketsView) (after : SocketId) (mask : Ready) (id : SocketId) (ready : Ready) → IsOrdered h → next_ready h after mask ≡ Some (id, ready)
    → (after.0 < id.0) × (readiness h id ≡ Ok ready) × (is_any_of ready mask ≡ true)
ready_told h after mask id ready ordered is =
    let f = found_ready h after mask id ready is in
    let e : Entry = f.e in
    let parts = and_parts (nat_lt after.0 e.id.0 && has_socket e.role) (is_any_of (ready_of h e.id e.role) mask) (found_passes (is_ready_after h after mask) h.entries e f.first) in
    let tests = and_parts (nat_lt after.0 e.id.0) (has_socket e.role) parts.0 in
    let own : find (is_socket e.id) h.entries ≡ Some e = itself (is_ready_after h after mask) 0 h.last_id h.entries e ordered.ids f.first tests.1 in
    let there : role_of h e.id ≡ Some e.role = ap (λ (o : Option Entry). option_map (λ (x : Entry). x.role) o) own in
    let told : readiness h e.id ≡ Ok (ready_of h e.id e.role) = rw there refl in
    let later : after.0 < e.id.0 = grind (arith, nat_tests, tests.0) in
    let at : e.id.0 ≡ id.0 = ap (λ (i : SocketId). i.0) f.named in (
      omega (arith, later, at),
      ap (λ (i : SocketId). readiness h i) (sym f.named) ∙ told ∙ ap (λ (r : Ready). Ok r) f.is,
      ap (λ (r : Ready). is_any_of r mask) (sym f.is) ∙ parts.1,
    )

pub between_told : (h : SocketsView) (after : SocketId) (mask : Ready) (id : SocketId) (ready : Ready) (other : SocketId) (its : Ready) → IsOrdered h → next_ready h after mask ≡ Some (id, ready)
    → after.0 < other.0 → other.0 < id.0 → readiness h other ≡ Ok its → is_any_of its mask ≡ false
between_told h after mask id ready other its ordered is behind below tells =
    let f = found_ready h after mask id ready is in
    let n = entered h other its tells in
    let at : f.e.id.0 ≡ id.0 = ap (λ (i : SocketId). i.0) f.named in
    unasked h after mask other its n behind (fails_before (is_ready_after h after mask) other 0 h.last_id h.entries f.e n.e ordered.ids f.first n.found (omega (arith, below, at)))

pub none_told : (h : SocketsView) (after : SocketId) (mask : Ready) (other : SocketId) (its : Ready) → IsOrdered h → next_ready h after mask ≡ None
    → after.0 < other.0 → readiness h other ≡ Ok its → is_any_of its mask ≡ false
none_told h after mask other its ordered is behind tells =
    let n = entered h other its tells in
    let none : find (is_ready_after h after mask) h.entries ≡ None =
    by_option (find (is_ready_after h after mask) h.entries) (λ none. none)
    (λ e some. let bad : next_ready h after mask ≡ Some (e.id, ready_of h e.id e.role) = rw some refl in cc)
    in
    unasked h after mask other its n behind (all_fail (is_ready_after h after mask) (is_socket other) h.entries n.e none n.found)
