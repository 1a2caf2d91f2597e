-- Why the connection of a socket at a quiet host is alone there, and one that is alone is that of its socket.
use Rattle.std.proofs.Common.{◌≡◌, ◌⊎◌, ℕ, ◌<◌, ◌≤◌, ◌==◌, not, Bool, true, false, cond, List, [], ◌∷◌, ◌++◌, map, Option, Some, None, option_map, inl, inr, arith, refl, sym, ◌∙◌, ap, subst}
use Rattle.std.specs.List.{find, flat_map, AllByRecursion}
use Rattle.std.proofs.lemmas.Bool.{eq-eqb, eqb-true}
use Rattle.ether.specs.declared.mac.Mac.{Mac}
use Rattle.ipv4.specs.declared.addr.Endpoint.{Endpoint}
use Rattle.tcp_halves.proofs.Choices.{by, both, and_left, and_right, of_false}
use Rattle.tcp_state.specs.View.{View, is_closed}
use Rattle.sockets.specs.declared.emission.Outgoing.{Outgoing}
use Rattle.sockets.specs.declared.entry.Entry.{Entry}
use Rattle.sockets.specs.declared.entry.SocketId.{SocketId}
use Rattle.sockets.specs.declared.role.Role.{Role}
use Rattle.sockets.specs.declared.role.Role.TheVariants.{Connected}
use Rattle.sockets.specs.Entries.{in_connection, has_socket, dues_of, is_socket}
use Rattle.sockets.specs.Ids.{AreAscending}
use Rattle.sockets.specs.SocketsView.{role_of}
use Rattle.sockets.specs.Steps.{connected}
use Rattle.sockets.proofs.Led.{reached_ordered}
use Rattle.host.specs.HostView.{HostView}
use Rattle.host.specs.Places.{ReplyOf, EntryOf, places_of, places}
use Rattle.round_law.specs.Alone.{IsSilent, IsAlone}
use Rattle.round_law.specs.Progress.{IsQuiet}
use Rattle.round_law.proofs.Retained.{Fails, found_behind, all_front, all_back, all_of}

-- A list about the first that passes a test.

record Splits (test : Entry → Bool) (xs : List Entry) (x : Entry) : Type 0 where
  before : List Entry
  behind : List Entry
  is : xs ≡ before ++ x ∷ behind
  fail : AllByRecursion (Fails test) before
  passes : test x ≡ true

splits : (test : Entry → Bool) (xs : List Entry) (x : Entry) → find test xs ≡ Some x → Splits test xs x
splits test [] x found = cc
splits test (y ∷ ys) x found =
    by (Splits test (y ∷ ys) x) (test y)
    (λ here.
    let first : Some y ≡ Some x = ap (λ b. cond b (Some y) (find test ys)) (sym here) ∙ found in
    let same : y ≡ x = cc in record { before = []; behind = ys; is = ap (λ z. z ∷ ys) same; fail = tt; passes = subst (λ z. test z ≡ true) same here })
    (λ there.
    let later : find test ys ≡ Some x = ap (λ b. cond b (Some y) (find test ys)) (sym there) ∙ found in
    let more = splits test ys x later in record { before = y ∷ more.before; behind = more.behind; is = ap (λ l. y ∷ l) more.is; fail = (there, more.fail); passes = more.passes })

-- By ids in order.

above : (a b last : ℕ) (xs : List Entry) → a ≤ b → AreAscending b last xs → AllByRecursion (λ (e : Entry). a < e.id.0) xs
above a b last [] below ids = tt
above a b last (e ∷ xs) below ids = (omega (arith, below, ids.0), above a e.id.0 last xs (omega (arith, below, ids.0)) ids.1)

next_above : (b last : ℕ) (xs : List Entry) (x : Entry) (ys : List Entry) → AreAscending b last (xs ++ x ∷ ys) → b < x.id.0
next_above b last [] x ys ids = ids.0
next_above b last (e ∷ xs) x ys ids = omega (arith, ids.0, next_above e.id.0 last xs x ys ids.1)

all_below : (b last : ℕ) (xs : List Entry) (x : Entry) (ys : List Entry) → AreAscending b last (xs ++ x ∷ ys) → AllByRecursion (λ (e : Entry). e.id.0 < x.id.0) xs
all_below b last [] x ys ids = tt
all_below b last (e ∷ xs) x ys ids = (next_above e.id.0 last xs x ys ids.1, all_below e.id.0 last xs x ys ids.1)

all_above : (b last : ℕ) (xs : List Entry) (x : Entry) (ys : List Entry) → AreAscending b last (xs ++ x ∷ ys) → AllByRecursion (λ (e : Entry). x.id.0 < e.id.0) ys
all_above b last [] x ys ids = above x.id.0 x.id.0 last ys (omega arith) ids.1
all_above b last (e ∷ xs) x ys ids = all_above e.id.0 last xs x ys ids.1

-- Nothing is due.

none_of_two : {X : Type 0} (xs ys : List X) → xs ++ ys ≡ [] → (xs ≡ []) × (ys ≡ [])
none_of_two [] ys none = (refl, none)
none_of_two (x ∷ xs) ys none = cc

none_mapped : {X Y : Type 0} (f : X → Y) (xs : List X) → map f xs ≡ [] → xs ≡ []
none_mapped f [] none = refl
none_mapped f (x ∷ xs) none = cc

none_due : (xs : List Entry) → flat_map places_of xs ≡ [] → AllByRecursion (λ (e : Entry). dues_of e.role ≡ []) xs
none_due [] none = tt
none_due (e ∷ xs) none =
    let two = none_of_two (places_of e) (flat_map places_of xs) none in
    (none_mapped (λ (due : Endpoint × Outgoing). EntryOf e due.0 due.1) (dues_of e.role) two.0, none_due xs two.1)

-- Together.

abbrev IsOther : SocketId → Entry → Type 0
IsOther id e = (e.id ≡ id) ⊎ (in_connection true (λ d. is_closed d.state) e.role ≡ true)

silent_by : (id : SocketId) (xs : List Entry) → AllByRecursion (λ (e : Entry). e.id ≡ id → ⊥) xs → AllByRecursion (IsOther id) xs → AllByRecursion (λ (e : Entry). dues_of e.role ≡ []) xs → AllByRecursion IsSilent xs
silent_by id [] apart others none = tt
silent_by id (e ∷ xs) apart others none =
    (record { nothing = none.0; closed = elim others.0 [ inl same ↦ absurd (apart.0 same) | inr closed ↦ closed ] }, silent_by id xs apart.1 others.1 none.1)

found_role : (o : Option Entry) (role : Role) → option_map (λ (e : Entry). e.role) o ≡ Some role → (e : Entry) × (o ≡ Some e) × (e.role ≡ role)
found_role None role is = cc
found_role (Some e) role is = let same : e.role ≡ role = cc in (e, refl, same)

-- where nothing is due at a host, a socket has nothing to send
pub nothing_to_send : (h : HostView) (id : SocketId) (role : Role) → places h ≡ [] → role_of h.sockets id ≡ Some role → dues_of role ≡ []
nothing_to_send h id role none named =
    let found = found_role (find (is_socket id) h.sockets.entries) role named in
    let parts = splits (is_socket id) h.sockets.entries found.0 found.1 in
    let Due : Entry → Type 0 = λ e. dues_of e.role ≡ [] in
    let due = none_of_two (map ReplyOf h.interface.replies) (flat_map places_of h.sockets.entries) none in
    ap dues_of (sym found.2) ∙ (all_back Due parts.before (found.0 ∷ parts.behind) (subst (λ (l : List Entry). AllByRecursion Due l) parts.is (none_due h.sockets.entries due.1))).0

pub alone_there : (h : HostView) (id : SocketId) (c : View) (mac : Mac) → IsQuiet h id c mac → IsAlone h id c
alone_there h id c mac quiet =
    let found = found_role (find (is_socket id) h.sockets.entries) (Connected c None) quiet.socket in
    let x = found.0 in
    let parts = splits (is_socket id) h.sockets.entries x found.1 in
    let named : x.id.0 ≡ id.0 = eqb-true x.id.0 id.0 (and_left (x.id.0 == id.0) (has_socket x.role) parts.passes) in
    let same : x ≡ connected id c None =
    ap (λ (n : ℕ). let e : Entry = record { id = record { 0 = n }; role = x.role } in e) named ∙ ap (λ (r : Role). let e : Entry = record { id = id; role = r } in e) found.2 in
    let ids = subst (λ (l : List Entry). AreAscending 0 h.sockets.last_id l) parts.is (reached_ordered h.sockets quiet.kept.reached).ids in
    let due = none_of_two (map ReplyOf h.interface.replies) (flat_map places_of h.sockets.entries) quiet.nothing in
    let none = subst (λ (l : List Entry). AllByRecursion (λ (e : Entry). dues_of e.role ≡ []) l) parts.is (none_due h.sockets.entries due.1) in
    let others = subst (λ (l : List Entry). AllByRecursion (IsOther id) l) parts.is quiet.others in
    let Due : Entry → Type 0 = λ e. dues_of e.role ≡ [] in
    let apart_before = all_of (λ (e : Entry). e.id.0 < x.id.0) (λ (e : Entry). e.id ≡ id → ⊥) (λ e lower is. let n : e.id.0 ≡ id.0 = ap (λ (i : SocketId). i.0) is in absurd (omega (arith, n, named, lower))) parts.before (all_below 0 h.sockets.last_id parts.before x parts.behind ids) in
    let apart_behind = all_of (λ (e : Entry). x.id.0 < e.id.0) (λ (e : Entry). e.id ≡ id → ⊥) (λ e higher is. let n : e.id.0 ≡ id.0 = ap (λ (i : SocketId). i.0) is in absurd (omega (arith, n, named, higher))) parts.behind (all_above 0 h.sockets.last_id parts.before x parts.behind ids) in
    let socket : has_socket (Connected c None) ≡ true = subst (λ (r : Role). has_socket r ≡ true) found.2 (and_right (x.id.0 == id.0) (has_socket x.role) parts.passes) in
    record {
      before = parts.before;
      behind = parts.behind;
      entries = parts.is ∙ ap (λ (e : Entry). parts.before ++ e ∷ parts.behind) same;
      named = parts.fail;
      silent_before = silent_by id parts.before apart_before (all_front (IsOther id) parts.before (x ∷ parts.behind) others) (all_front Due parts.before (x ∷ parts.behind) none);
      silent_behind = silent_by id parts.behind apart_behind (all_back (IsOther id) parts.before (x ∷ parts.behind) others).1 (all_back Due parts.before (x ∷ parts.behind) none).1;
      lives = quiet.lives;
      called = left_not c.released socket;
    }
  where
    left_not : (b : Bool) → not b ≡ true → b ≡ false
    left_not true e = cc
    left_not false e = refl

pub none_waits : (h : HostView) (id : SocketId) (c : View) (mac : Mac) → IsQuiet h id c mac → h.interface.replies ≡ []
none_waits h id c mac quiet = none_mapped ReplyOf h.interface.replies (none_of_two (map ReplyOf h.interface.replies) (flat_map places_of h.sockets.entries) quiet.nothing).0

pub named_there : (h : HostView) (id : SocketId) (c : View) → IsAlone h id c → role_of h.sockets id ≡ Some (Connected c None)
named_there h id c alone =
    let socket : is_socket id (connected id c None) ≡ true = both (id.0 == id.0) (not c.released) (eq-eqb id.0 id.0 refl) (of_false c.released alone.called) in
    ap (λ (l : List Entry). option_map (λ (e : Entry). e.role) (find (is_socket id) l)) alone.entries
    ∙ ap (λ (o : Option Entry). option_map (λ (e : Entry). e.role) o) (found_behind (is_socket id) alone.before (connected id c None) alone.behind alone.named socket)
