-- What a change of one id's entry makes of the ends of pairs, and of what a table and the openings say of each other.
use Rattle.std.proofs.Common.{◌≡◌, ℕ, ◌≤◌, inl, inr, ◌==◌, Bool, true, false, List, Option, Some, None, refl, sym, ◌∙◌, ap, subst}
use Rattle.std.specs.List.{find}
use Rattle.ipv4.specs.declared.addr.Addr.{Addr}
use Rattle.ipv4.specs.declared.addr.Endpoint.{Endpoint}
use Rattle.ipv4.specs.declared.addr.Pair.{Pair}
use Rattle.ipv4.specs.Addresses.{pair_of}
use Rattle.tcp_state.specs.View.{View}
use Rattle.sockets.specs.declared.entry.SocketId.{SocketId}
use Rattle.sockets.specs.declared.entry.Entry.{Entry}
use Rattle.sockets.specs.declared.role.Role.{Role}
use Rattle.stream_law.specs.Pairing.{End, Emission}
use Rattle.window_law.specs.Windows.{Talks}
use Rattle.sides.specs.declared.side.Side.{Side}
use Rattle.wire_sim.specs.declared.event.Opening.{Opening}
use Rattle.wire_sim.specs.Tallies.{is_opening_of, is_opening_at}
use Rattle.wire_sim.proofs.pairing.EndMoves.{pairing, EndGoes}
use Rattle.sockets.proofs.KeptEnds.{KeepsEnds}
use Rattle.wire_sim.proofs.tables.TableById.{untold, Told, role_at, Becomes, presence_in, end_with, end_of, end_at, IsOpened, IsNoted, MayOpen, IsTable, same_id}

-- a test decides
pub by_test : {P : Type 0} (b : Bool) → (b ≡ true → P) → (b ≡ false → P) → P
by_test true passes fails = passes refl
by_test false passes fails = fails refl

pub true_not_false : (b : Bool) → b ≡ true → b ≡ false → ⊥
true_not_false true e n = cc
true_not_false false e n = cc

-- nothing was told of any other socket
abbrev pub SameBut : SocketId → Told → Told → Type 0
SameBut id told told' = (j : SocketId) → (id.0 == j.0) ≡ false → told' j ≡ told j

-- the other entries are as they were
abbrev pub OthersStay : SocketId → List Entry → List Entry → Type 0
OthersStay id xs ys = (j : ℕ) → (id.0 == j) ≡ false → role_at ys j ≡ role_at xs j

-- A pair in an epoch was opened by this id's entry, or it was not.
pub data Whose (side : Side) (os : List Opening) (id : SocketId) (pair : Pair) (epoch : ℕ) : Type 0 where
  Its : (o : Opening) → find (is_opening_of side pair epoch) os ≡ Some o → o.id ≡ id → Whose side os id pair epoch
  Another : ((o : Opening) → find (is_opening_of side pair epoch) os ≡ Some o → (id.0 == o.id.0) ≡ false) → Whose side os id pair epoch

pub whose : (side : Side) (os : List Opening) (id : SocketId) (pair : Pair) (epoch : ℕ) → Whose side os id pair epoch
whose side os id pair epoch = by_found (find (is_opening_of side pair epoch) os) refl
  where
    by_found : (o : Option Opening) → find (is_opening_of side pair epoch) os ≡ o → Whose side os id pair epoch
    by_found None at = Another (λ o found. let bad : None ≡ Some o = sym at ∙ found in cc)
    by_found (Some o) at = by_test (id.0 == o.id.0)
        (λ is. Its o at (sym (same_id id o.id is)))
        (λ apart. Another (λ x found. let same : o ≡ x = cc in ap (λ (y : Opening). id.0 == y.id.0) (sym same) ∙ apart))

-- its end shows its entry
pub end-its : (side : Side) (os : List Opening) (id : SocketId) (pair : Pair) (epoch : ℕ) (xs : List Entry) (told : Told) (o : Opening) → find (is_opening_of side pair epoch) os ≡ Some o → o.id ≡ id
    → end_at side os xs told pair epoch ≡ end_with (presence_in (role_at xs id.0)) (told id)
end-its side os id pair epoch xs told o at same = ap (end_of xs told) at ∙ ap (λ (i : SocketId). end_with (presence_in (role_at xs i.0)) (told i)) same

-- another end is as it was
pub end-another : (side : Side) (os : List Opening) (id : SocketId) (pair : Pair) (epoch : ℕ) (xs ys : List Entry) (told told' : Told) → OthersStay id xs ys → SameBut id told told'
    → ((o : Opening) → find (is_opening_of side pair epoch) os ≡ Some o → (id.0 == o.id.0) ≡ false) → end_at side os ys told' pair epoch ≡ end_at side os xs told pair epoch
end-another side os id pair epoch xs ys told told' others same apart = by_found (find (is_opening_of side pair epoch) os) refl
  where
    by_found : (o : Option Opening) → find (is_opening_of side pair epoch) os ≡ o → end_of ys told' o ≡ end_of xs told o
    by_found None at = refl
    by_found (Some o) at =
        ap (λ r. end_with (presence_in r) (told' o.id)) (others o.id.0 (apart o at)) ∙ ap (end_with (presence_in (role_at xs o.id.0))) (same o.id (apart o at))

-- A move of one end is a move of the one pairing that it belongs to, or of none.
pub talks-moved : (limit : ℕ) (side : Side) (os : List Opening) (id : SocketId) (xs ys : List Entry) (told told' : Told) (other : Pair → ℕ → End) (out arrived : Pair → ℕ → List Emission) → OthersStay id xs ys → SameBut id told told'
    → EndGoes limit (end_with (presence_in (role_at xs id.0)) (told id)) (end_with (presence_in (role_at ys id.0)) (told' id))
    → ((pair : Pair) (epoch : ℕ) → Talks limit (pairing (end_at side os xs told pair epoch) (other pair epoch) (out pair epoch) (arrived pair epoch)))
    → (pair : Pair) (epoch : ℕ) → Talks limit (pairing (end_at side os ys told' pair epoch) (other pair epoch) (out pair epoch) (arrived pair epoch))
talks-moved limit side os id xs ys told told' other out arrived others same goes met pair epoch = of (whose side os id pair epoch)
  where
    of : Whose side os id pair epoch → Talks limit (pairing (end_at side os ys told' pair epoch) (other pair epoch) (out pair epoch) (arrived pair epoch))
    of (Its o found is) =
        subst (λ e. Talks limit (pairing e (other pair epoch) (out pair epoch) (arrived pair epoch))) (sym (end-its side os id pair epoch ys told' o found is))
        (goes (other pair epoch) (out pair epoch) (arrived pair epoch)
        (subst (λ e. Talks limit (pairing e (other pair epoch) (out pair epoch) (arrived pair epoch))) (end-its side os id pair epoch xs told o found is) (met pair epoch)))
    of (Another apart) =
        subst (λ e. Talks limit (pairing e (other pair epoch) (out pair epoch) (arrived pair epoch))) (sym (end-another side os id pair epoch xs ys told told' others same apart)) (met pair epoch)

-- The table and the openings.

-- a connection that keeps its ends was opened as before
pub opened-kept : (side : Side) (own : Addr) (os : List Opening) (id : SocketId) (c c' : View) → KeepsEnds c c' → IsOpened side own os id c → IsOpened side own os id c'
opened-kept side own os id c c' keeps k = record {
  local = ap (λ (e : Endpoint). e.addr) keeps.local ∙ k.local;
  opening = k.opening;
  at = k.at;
  pair = k.pair ∙ (ap (λ e. pair_of e c.peer) (sym keeps.local) ∙ ap (pair_of c'.local) (sym keeps.peer));
  present = λ live. k.present (keeps.live live);
}

-- one id's entry became another, or is gone
pub table-becomes : (side : Side) (own : Addr) (last : ℕ) (xs ys : List Entry) (os : List Opening) (told told' : Told) (id : SocketId) (r : Option Role)
    → Becomes xs ys id.0 r → ((role : Role) → r ≡ Some role → IsNoted side own os id role × (id.0 ≤ last)) → SameBut id told told' → (find (is_opening_at side id) os ≡ None → MayOpen last ys id → told' id ≡ untold)
    → IsTable side own last xs os told → IsTable side own last ys os told'
table-becomes side own last xs ys os told told' id r b new same quiet t = record {
  sole = b.sole;
  bound = λ j role at. by_test (id.0 == j.0)
      (λ is. subst (λ (i : SocketId). i.0 ≤ last) (same_id id j is) (new role (its j role is at)).1)
      (λ apart. t.bound j role (sym (b.others j.0 apart) ∙ at));
  noted = λ j role at. by_test (id.0 == j.0)
      (λ is. subst (λ i. IsNoted side own os i role) (same_id id j is) (new role (its j role is at)).0)
      (λ apart. t.noted j role (sym (b.others j.0 apart) ∙ at));
  later = t.later;
  silent = λ j none may. by_test (id.0 == j.0)
      (λ is.
      let one = same_id id j is in
      subst (λ i. told' i ≡ untold) one (quiet (subst (λ i. find (is_opening_at side i) os ≡ None) (sym one) none) (subst (MayOpen last ys) (sym one) may)))
      (λ apart. same j apart ∙ t.silent j none (before j apart may));
}
  where
    its : (j : SocketId) (role : Role) → (id.0 == j.0) ≡ true → role_at ys j.0 ≡ Some role → r ≡ Some role
    its j role is at = sym b.here ∙ (ap (λ (i : SocketId). role_at ys i.0) (same_id id j is) ∙ at)

    before : (j : SocketId) → (id.0 == j.0) ≡ false → MayOpen last ys j → MayOpen last xs j
    before j apart (inl later) = inl later
    before j apart (inr at) = inr (at.0, sym (b.others j.0 apart) ∙ at.1)

-- the same was told of every socket
abbrev pub SameTold : Told → Told → Type 0
SameTold told told' = (id : SocketId) → told' id ≡ told id

pub table-told : (side : Side) (own : Addr) (last : ℕ) (xs : List Entry) (os : List Opening) (told told' : Told) → SameTold told told' → IsTable side own last xs os told → IsTable side own last xs os told'
table-told side own last xs os told told' same t = record {
  sole = t.sole;
  bound = t.bound;
  noted = t.noted;
  later = t.later;
  silent = λ j none may. same j ∙ t.silent j none may;
}

pub end-told : (side : Side) (os : List Opening) (xs : List Entry) (told told' : Told) (pair : Pair) (epoch : ℕ) → SameTold told told' → end_at side os xs told' pair epoch ≡ end_at side os xs told pair epoch
end-told side os xs told told' pair epoch same = by_found (find (is_opening_of side pair epoch) os)
  where
    by_found : (o : Option Opening) → end_of xs told' o ≡ end_of xs told o
    by_found None = refl
    by_found (Some o) = ap (end_with (presence_in (role_at xs o.id.0))) (same o.id)
