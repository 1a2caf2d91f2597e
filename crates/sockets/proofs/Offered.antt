-- Which connection a listener accepts next.
use Rattle.std.proofs.Common.{◌≡◌, ℕ, Bool, false, List, [], ◌∷◌, get_or, Option, Some, None, refl, sym, ◌∙◌, ap}
use Rattle.std.specs.List.{find, position}
use Rattle.std.proofs.Math.Path.{fun_ext}
use Rattle.std.proofs.lemmas.List.{get_or_default}
use Rattle.sockets.specs.declared.entry.SocketId.{SocketId}
use Rattle.sockets.specs.declared.entry.Entry.{Entry}
use Rattle.sockets.specs.Entries.{is_waiting_as, is_waiting_id}
use Rattle.sockets.specs.SocketsView.{SocketsView}
use Rattle.sockets.specs.Calls.{next_offered, is_next_at}
use Rattle.sockets.proofs.Firsts.{find-position, position-lt-length}

-- where its id is known, it is the connection of that id
pub next-test : (h : SocketsView) (id x : SocketId) → next_offered h id ≡ Some x → is_next_at h id ≡ is_waiting_as id x
next-test h id x found = fun_ext (λ e. rw found)

-- where none is offered, it is none
find-none : {X : Type 0} (xs : List X) → find (λ (x : X). false) xs ≡ None
find-none [] = refl
find-none (x ∷ xs) = find-none xs

pub next-none : (h : SocketsView) (id : SocketId) → next_offered h id ≡ None → find (is_next_at h id) h.entries ≡ None
next-none h id none = let no : is_next_at h id ≡ (λ e. false) = fun_ext (λ e. rw none) in rw no (find-none h.entries)

-- the element at the place of the first that passes, whatever stands for one that is not there
pub find-there : {X : Type 0} (p : X → Bool) (xs : List X) (i : ℕ) (d : X) → position p xs ≡ Some i → find p xs ≡ Some (get_or xs i d)
find-there p xs i d e = find-position p xs i (get_or xs i d) e (get_or_default xs i d (get_or xs i d) (position-lt-length p xs i e))

-- The place of the first id of those offered that waits at the listener, in lists that were lent ..
pub turn-found : (v h : SocketsView) (id : SocketId) (ids : List SocketId) (es : List Entry) (o : Option ℕ) → v ≡ h → ids ≡ v.offered → es ≡ v.entries → o ≡ position (is_waiting_id es id) ids → position (is_waiting_id h.entries id) h.offered ≡ o
turn-found v h id ids es o same offered entries is = rw (← same, ← offered, ← entries) (sym is)

-- .. and that of the connection that it names, which the listener accepts next
pub next-place : (v h : SocketsView) (id : SocketId) (turn : ℕ) (d : SocketId) (ids : List SocketId) (es : List Entry) (o : Option ℕ) → v ≡ h → position (is_waiting_id h.entries id) h.offered ≡ Some turn → ids ≡ v.offered → es ≡ v.entries → o ≡ position (is_waiting_as id (get_or ids turn d)) es
    → position (is_next_at h id) h.entries ≡ o
next-place v h id turn d ids es o same turned offered entries is =
    let x : SocketId = get_or h.offered turn d in
    let found : next_offered h id ≡ Some x = find-there (is_waiting_id h.entries id) h.offered turn d turned in
    ap (λ (t : Entry → Bool). position t h.entries) (next-test h id x found) ∙ rw (← same, ← offered, ← entries) (sym is)
