-- A host's table by the ids of its entries, and the ends of connections that stand in it.
use Rattle.std.proofs.Common.{◌≡◌, ℕ, ◌<◌, ◌≤◌, ◌⊎◌, ◌==◌, Bool, true, false, cond, List, [], ◌∷◌, ◌++◌, Option, Some, None, option_map, refl, sym, ◌∙◌, ap, subst}
use Rattle.std.specs.List.{find}
use Rattle.std.proofs.lemmas.Bool.{eqb-true, eq-eqb}
use Rattle.ipv4.specs.declared.addr.Addr.{Addr}
use Rattle.ipv4.specs.declared.addr.Pair.{Pair}
use Rattle.ipv4.specs.Addresses.{pair_of}
use Rattle.tcp_state.specs.View.{View, is_closed}
use Rattle.sockets.specs.declared.entry.SocketId.{SocketId}
use Rattle.sockets.specs.declared.entry.Entry.{Entry}
use Rattle.sockets.specs.declared.role.Role.{Role}
use Rattle.sockets.specs.declared.role.Role.TheVariants.{Idle, Listener, Connected, Datagrams}
use Rattle.tcp_state.specs.declared.connection.Fate.{Fate}
use Rattle.sockets.specs.Entries.{is_kept, entries_after_step, entries_after_steps, with_role}
use Rattle.sockets.specs.Lists.{change_first, remove_first}
use Rattle.stream_law.specs.Pairing.{Presence, Present, Departed, End, nothing_yet}
use Rattle.sides.specs.declared.side.Side.{Side}
use Rattle.wire_sim.specs.declared.event.Opening.{Opening}
use Rattle.wire_sim.specs.Openings.{epoch_of}
use Rattle.wire_sim.specs.Tallies.{is_opening_of, is_opening_at}
use Rattle.wire_sim.proofs.lists.FoundAfterChange.{IsSole, found-sole, found-changed, found-other, find-added, find-added_none, removed-itself, removed-other, IsSole-found, IsSole-added, IsSole-added_other, IsSole-removed}

-- What the callers of sockets did, and were told.

pub record Account : Type 0 where
  pub gave : List ℕ
  pub closed : Bool
  pub got : List ℕ
  pub ended : Bool

abbrev pub untold : Account
untold = record { gave = []; closed = false; got = []; ended = false }

abbrev pub Told : Type 0
Told = SocketId → Account

-- Roles by the ids of their entries.

abbrev pub has_id : ℕ → Entry → Bool
has_id i e = e.id.0 == i

abbrev pub role_at : List Entry → ℕ → Option Role
role_at xs i = option_map (λ (e : Entry). e.role) (find (has_id i) xs)

-- no id is given twice
abbrev pub AreSole : List Entry → Type 0
AreSole xs = (i : ℕ) → IsSole (has_id i) xs

-- the role of one id became another, or is gone, and the others are as they were
pub record Becomes (xs ys : List Entry) (i : ℕ) (r : Option Role) : Type 0 where
  pub sole : AreSole ys
  pub here : role_at ys i ≡ r
  pub others : (j : ℕ) → (i == j) ≡ false → role_at ys j ≡ role_at xs j

pub eqb-same : (n : ℕ) → (n == n) ≡ true
eqb-same n = eq-eqb n n refl

-- an entry that a test finds has the role of its id
pub found-role : (test : Entry → Bool) (xs : List Entry) (x : Entry) → AreSole xs → find test xs ≡ Some x → role_at xs x.id.0 ≡ Some x.role
found-role test xs x sole found = ap (option_map (λ (e : Entry). e.role)) (found-sole test (has_id x.id.0) xs x found (eqb-same x.id.0) (sole x.id.0))

-- where a test of roles finds none, it passes of none
pub none-role : (test : Role → Bool) (xs : List Entry) (i : ℕ) (r : Role) → find (λ (e : Entry). test e.role) xs ≡ None → role_at xs i ≡ Some r → test r ≡ false
none-role test xs i r = go xs
  where
    step : (e : Entry) (o p : Option Entry) → (o ≡ None → option_map (λ (e : Entry). e.role) p ≡ Some r → test r ≡ false) → (b c : Bool) → test e.role ≡ b → cond b (Some e) o ≡ None → option_map (λ (e : Entry). e.role) (cond c (Some e) p) ≡ Some r
        → test r ≡ false
    step e o p more true c is none at = cc
    step e o p more false true is none at = let same : e.role ≡ r = cc in ap test (sym same) ∙ is
    step e o p more false false is none at = more none at

    go : (xs : List Entry) → find (λ (e : Entry). test e.role) xs ≡ None → role_at xs i ≡ Some r → test r ≡ false
    go [] none at = cc
    go (e ∷ xs) none at = step e (find (λ (e : Entry). test e.role) xs) (find (has_id i) xs) (go xs) (test e.role) (has_id i e) refl none at

pub becomes-changed : (test : Entry → Bool) (g : Role → Role) (xs : List Entry) (x : Entry) → AreSole xs → find test xs ≡ Some x → Becomes xs (change_first test (with_role g) xs) x.id.0 (Some (g x.role))
becomes-changed test g xs x sole found = record {
  sole = λ i. IsSole-found test (has_id i) (with_role g) xs x found refl (sole i);
  here = ap (option_map (λ (e : Entry). e.role)) (found-changed test (has_id x.id.0) (with_role g) xs x found (eqb-same x.id.0) (eqb-same x.id.0) (sole x.id.0));
  others = λ j apart. ap (option_map (λ (e : Entry). e.role)) (found-other test (has_id j) (with_role g) xs x found apart apart);
}

pub becomes-removed : (test : Entry → Bool) (xs : List Entry) (x : Entry) → AreSole xs → find test xs ≡ Some x → Becomes xs (remove_first test xs) x.id.0 None
becomes-removed test xs x sole found = record {
  sole = λ i. IsSole-removed test (has_id i) xs (sole i);
  here = ap (option_map (λ (e : Entry). e.role)) (removed-itself test (has_id x.id.0) xs x found (eqb-same x.id.0) (sole x.id.0));
  others = λ j apart. ap (option_map (λ (e : Entry). e.role)) (removed-other test (has_id j) xs x found apart);
}

pub becomes-added : (xs : List Entry) (x : Entry) → AreSole xs → find (has_id x.id.0) xs ≡ None → Becomes xs (xs ++ x ∷ []) x.id.0 (Some x.role)
becomes-added xs x sole none = record {
  sole = λ i. by_id i (x.id.0 == i) refl;
  here = ap (option_map (λ (e : Entry). e.role)) (find-added (has_id x.id.0) xs x none (eqb-same x.id.0));
  others = λ j apart. ap (option_map (λ (e : Entry). e.role)) (find-added_none (has_id j) xs x apart);
}
  where
    by_id : (i : ℕ) (b : Bool) → (x.id.0 == i) ≡ b → IsSole (has_id i) (xs ++ x ∷ [])
    by_id i true is = IsSole-added (has_id i) xs x (subst (λ n. find (has_id n) xs ≡ None) (eqb-true x.id.0 i is) none)
    by_id i false is = IsSole-added_other (has_id i) xs x is (sole i)

-- one entry took a step
abbrev pub settle : Fate → (Role → Role) → Role → Option Role
settle fate change r = cond (is_kept fate) (Some (change r)) None

pub becomes-settled : (fate : Fate) (test : Entry → Bool) (g : Role → Role) (xs : List Entry) (x : Entry) → AreSole xs → find test xs ≡ Some x → Becomes xs (entries_after_step fate test g xs) x.id.0 (settle fate g x.role)
becomes-settled fate test g xs x sole found = by_fate (is_kept fate)
  where
    by_fate : (b : Bool) → Becomes xs (cond b (change_first test (with_role g) xs) (remove_first test xs)) x.id.0 (cond b (Some (g x.role)) None)
    by_fate true = becomes-changed test g xs x sole found
    by_fate false = becomes-removed test xs x sole found

-- each entry took a step
abbrev pub settle_each : (Role → Fate) → (Role → Role) → Option Role → Option Role
settle_each fate change None = None
settle_each fate change (Some r) = settle (fate r) change r

none-settled : (fate : Role → Fate) (g : Role → Role) (i : ℕ) (xs : List Entry) → find (has_id i) xs ≡ None → find (has_id i) (entries_after_steps fate g xs) ≡ None
none-settled fate g i = go
  where
    step : (e : Entry) (xs : List Entry) → (find (has_id i) xs ≡ None → find (has_id i) (entries_after_steps fate g xs) ≡ None) → (b c : Bool) → has_id i e ≡ c → cond c (Some e) (find (has_id i) xs) ≡ None
        → find (has_id i) (cond b (with_role g e ∷ entries_after_steps fate g xs) (entries_after_steps fate g xs)) ≡ None
    step e xs more b true is n = cc
    step e xs more true false is n = ap (λ c. cond c (Some (with_role g e)) (find (has_id i) (entries_after_steps fate g xs))) is ∙ more n
    step e xs more false false is n = more n

    go : (xs : List Entry) → find (has_id i) xs ≡ None → find (has_id i) (entries_after_steps fate g xs) ≡ None
    go [] none = refl
    go (e ∷ xs) none = step e xs (go xs) (is_kept (fate e.role)) (has_id i e) refl none

pub role_at-settled : (fate : Role → Fate) (g : Role → Role) (xs : List Entry) (i : ℕ) → IsSole (has_id i) xs → role_at (entries_after_steps fate g xs) i ≡ settle_each fate g (role_at xs i)
role_at-settled fate g xs i = go xs
  where
    step : (e : Entry) (xs : List Entry) → role_at (entries_after_steps fate g xs) i ≡ settle_each fate g (role_at xs i) → (has_id i e ≡ true → find (has_id i) xs ≡ None) → (b c : Bool) → is_kept (fate e.role) ≡ b → has_id i e ≡ c
        → option_map (λ (x : Entry). x.role) (find (has_id i) (cond b (with_role g e ∷ entries_after_steps fate g xs) (entries_after_steps fate g xs))) ≡ settle_each fate g (option_map (λ (x : Entry). x.role) (cond c (Some e) (find (has_id i) xs)))
    step e xs more first true true kept is = ap (λ c. option_map (λ (x : Entry). x.role) (cond c (Some (with_role g e)) (find (has_id i) (entries_after_steps fate g xs)))) is ∙ sym (ap (λ b. cond b (Some (g e.role)) None) kept)
    step e xs more first false true kept is = ap (option_map (λ (x : Entry). x.role)) (none-settled fate g i xs (first is)) ∙ sym (ap (λ b. cond b (Some (g e.role)) None) kept)
    step e xs more first true false kept is = ap (λ c. option_map (λ (x : Entry). x.role) (cond c (Some (with_role g e)) (find (has_id i) (entries_after_steps fate g xs)))) is ∙ more
    step e xs more first false false kept is = more

    go : (xs : List Entry) → IsSole (has_id i) xs → role_at (entries_after_steps fate g xs) i ≡ settle_each fate g (role_at xs i)
    go [] sole = refl
    go (e ∷ xs) sole = step e xs (go xs sole.1) sole.0 (is_kept (fate e.role)) (has_id i e) refl refl

pub sole-settled : (fate : Role → Fate) (g : Role → Role) (xs : List Entry) → AreSole xs → AreSole (entries_after_steps fate g xs)
sole-settled fate g xs sole i = go xs (sole i)
  where
    step : (e : Entry) (xs : List Entry) → IsSole (has_id i) (entries_after_steps fate g xs) → (has_id i e ≡ true → find (has_id i) xs ≡ None) → (b : Bool) → IsSole (has_id i) (cond b (with_role g e ∷ entries_after_steps fate g xs) (entries_after_steps fate g xs))
    step e xs rest first true = (λ is. none-settled fate g i xs (first is), rest)
    step e xs rest first false = rest

    go : (xs : List Entry) → IsSole (has_id i) xs → IsSole (has_id i) (entries_after_steps fate g xs)
    go [] sole = tt
    go (e ∷ xs) sole = step e xs (go xs sole.1) sole.0 (is_kept (fate e.role))

-- What stands of the connection of an opening.

abbrev pub presence_in : Option Role → Presence
presence_in (Some (Connected c listener)) = Present c
presence_in _ = Departed

abbrev pub end_with : Presence → Account → End
end_with presence a = record { connection = presence; written = a.gave; closed = a.closed; read = a.got; ended = a.ended }

abbrev pub end_of : List Entry → Told → Option Opening → End
end_of xs told None = nothing_yet
end_of xs told (Some o) = end_with (presence_in (role_at xs o.id.0)) (told o.id)

-- the end at a side of a pair in an epoch
abbrev pub end_at : Side → List Opening → List Entry → Told → Pair → ℕ → End
end_at side os xs told pair epoch = end_of xs told (find (is_opening_of side pair epoch) os)

-- The openings and the table beside each other.

-- one opening for each id of a side, and for each epoch of a pair at a side; none of an epoch to come
pub record IsLedger (os : List Opening) : Type 0 where
  pub by_id : (side : Side) (id : SocketId) → IsSole (is_opening_at side id) os
  pub by_epoch : (side : Side) (pair : Pair) (epoch : ℕ) → IsSole (is_opening_of side pair epoch) os
  pub past : (side : Side) (pair : Pair) (epoch : ℕ) → epoch_of os pair < epoch → find (is_opening_of side pair epoch) os ≡ None

-- a connection from our address, whatever its peer's is, by an opening of its pair; where it is not CLOSED, in the pair's present epoch
pub record IsOpened (side : Side) (own : Addr) (os : List Opening) (id : SocketId) (c : View) : Type 0 where
  pub local : c.local.addr ≡ own
  pub opening : Opening
  pub at : find (is_opening_at side id) os ≡ Some opening
  pub pair : opening.pair ≡ pair_of c.local c.peer
  pub present : is_closed c.state ≡ false → opening.epoch ≡ epoch_of os opening.pair

-- an entry without a connection opened none
abbrev pub IsNoted : Side → Addr → List Opening → SocketId → Role → Type 0
IsNoted side own os id (Connected c listener) = IsOpened side own os id c
IsNoted side own os id (Listener local backlog) = find (is_opening_at side id) os ≡ None
IsNoted side own os id (Idle buffers bound) = find (is_opening_at side id) os ≡ None
IsNoted side own os id (Datagrams bound socket) = find (is_opening_at side id) os ≡ None

-- an id that is to come, or has an entry
abbrev pub MayOpen : ℕ → List Entry → SocketId → Type 0
MayOpen last xs id = (last < id.0) ⊎ ((r : Role) × (role_at xs id.0 ≡ Some r))

pub record IsTable (side : Side) (own : Addr) (last : ℕ) (xs : List Entry) (os : List Opening) (told : Told) : Type 0 where
  pub sole : AreSole xs
  pub bound : (id : SocketId) (r : Role) → role_at xs id.0 ≡ Some r → id.0 ≤ last
  pub noted : (id : SocketId) (r : Role) → role_at xs id.0 ≡ Some r → IsNoted side own os id r
  -- ids to come have no opening yet, and what has none, is to come or stands in the table, was told nothing
  pub later : (id : SocketId) → last < id.0 → find (is_opening_at side id) os ≡ None
  pub silent : (id : SocketId) → find (is_opening_at side id) os ≡ None → MayOpen last xs id → told id ≡ untold

-- an entry by its parts
pub entry_with : (e : Entry) (r : Role) → e.role ≡ r → ◌≡◌ {A = Entry} e (record { id = e.id; role = r })
entry_with e r same = ap (λ r. let x : Entry = record { id = e.id; role = r } in x) same

-- ids by their numbers
pub same_id : (a b : SocketId) → (a.0 == b.0) ≡ true → a ≡ b
same_id a b is = ap (λ n. let i : SocketId = record { 0 = n } in i) (eqb-true a.0 b.0 is)
