-- The openings of the two hosts, beside their tables: which opening a pair in an epoch is of, and what one opening more makes of it.
use Rattle.std.proofs.Common.{◌≡◌, ℕ, ◌<◌, ◌≤◌, ◌==◌, ◌&&◌, ◌⊎◌, inl, inr, Bool, true, false, cond, List, [], ◌∷◌, ◌++◌, Option, Some, None, arith, refl, sym, ◌∙◌, ap, subst}
use Rattle.std.specs.List.{find, fold}
use Rattle.std.proofs.lemmas.Bool.{eqb-true, and_parts, and_from}
use Rattle.ipv4.specs.declared.addr.Addr.{Addr}
use Rattle.ipv4.specs.declared.addr.Pair.{Pair}
use Rattle.ipv4.specs.Addresses.{pair_of}
use Rattle.tcp_state.specs.View.{View, is_closed}
use Rattle.sockets.specs.declared.entry.SocketId.{SocketId}
use Rattle.sockets.specs.declared.entry.Entry.{Entry}
use Rattle.sockets.specs.declared.role.Role.{Role}
use Rattle.sockets.specs.declared.role.Role.TheVariants.{Idle, Listener, Connected, Datagrams}
use Rattle.sides.specs.declared.side.Side.{Side}
use Rattle.sides.specs.declared.side.Side.TheVariants.{A, B}
use Rattle.wire_sim.specs.declared.event.Opening.{Opening}
use Rattle.wire_sim.specs.Openings.{epoch_of}
use Rattle.sides.specs.Sides.{same_side, other_side}
use Rattle.wire_sim.specs.Tallies.{same_pair, is_opening_of, is_opening_at}
use Rattle.wire_sim.proofs.tables.EntryChanges.{by_test}
use Rattle.wire_sim.proofs.lists.FoundAfterChange.{IsSole, find-passes, found-sole, find-added_none, find-added_some, IsSole-added, IsSole-added_other}
use Rattle.wire_sim.proofs.tables.PairOfPorts.{same_pair-same, same_pair-true}
use Rattle.wire_sim.proofs.tables.TableById.{role_at, IsLedger, IsOpened, IsNoted, IsTable, eqb-same, same_id}

-- Sides.

pub other-twice : (s : Side) → s ≡ other_side (other_side s)
other-twice A = refl
other-twice B = refl

pub same_side-same : (s : Side) → same_side s s ≡ true
same_side-same A = refl
same_side-same B = refl

pub same_side-other : (s : Side) → same_side s (other_side s) ≡ false
same_side-other A = refl
same_side-other B = refl

pub same_side-true : (a b : Side) → same_side a b ≡ true → a ≡ b
same_side-true A A e = refl
same_side-true A B e = cc
same_side-true B A e = cc
same_side-true B B e = refl

-- The parts of an opening that is found.

pub opening-of_parts : (side : Side) (pair : Pair) (epoch : ℕ) (o : Opening) → is_opening_of side pair epoch o ≡ true → (o.side ≡ side) × (o.pair ≡ pair) × (o.epoch ≡ epoch)
opening-of_parts side pair epoch o e =
    let parts = and_parts (same_side o.side side && same_pair o.pair pair) (o.epoch == epoch) e in
    let first = and_parts (same_side o.side side) (same_pair o.pair pair) parts.0 in
    (same_side-true o.side side first.0, same_pair-true o.pair pair first.1, eqb-true o.epoch epoch parts.1)

pub opening-at_parts : (side : Side) (id : SocketId) (o : Opening) → is_opening_at side id o ≡ true → (o.side ≡ side) × (o.id ≡ id)
opening-at_parts side id o e =
    let parts = and_parts (same_side o.side side) (o.id.0 == id.0) e in
    (same_side-true o.side side parts.0, same_id o.id id parts.1)

opening-of_passes : (o : Opening) → is_opening_of o.side o.pair o.epoch o ≡ true
opening-of_passes o =
    and_from (same_side o.side o.side && same_pair o.pair o.pair) (o.epoch == o.epoch) (and_from (same_side o.side o.side) (same_pair o.pair o.pair) (same_side-same o.side) (same_pair-same o.pair)) (eqb-same o.epoch)

opening-at_passes : (o : Opening) → is_opening_at o.side o.id o ≡ true
opening-at_passes o = and_from (same_side o.side o.side) (o.id.0 == o.id.0) (same_side-same o.side) (eqb-same o.id.0)

-- the opening of an id is that of its pair and epoch
pub opening-found : (os : List Opening) (side : Side) (id : SocketId) (o : Opening) → IsLedger os → find (is_opening_at side id) os ≡ Some o → find (is_opening_of side o.pair o.epoch) os ≡ Some o
opening-found os side id o ledger at =
    let parts = opening-at_parts side id o (find-passes (is_opening_at side id) os o at) in
    found-sole (is_opening_at side id) (is_opening_of side o.pair o.epoch) os o at (subst (λ s. is_opening_of s o.pair o.epoch o ≡ true) parts.0 (opening-of_passes o)) (ledger.by_epoch side o.pair o.epoch)

-- .. and that of a pair in an epoch is of no other
pub opening-only : (os : List Opening) (side : Side) (id : SocketId) (x o : Opening) (pair : Pair) (epoch : ℕ) → IsLedger os → find (is_opening_at side id) os ≡ Some x → find (is_opening_of side pair epoch) os ≡ Some o → o.id ≡ id
    → (x.pair ≡ pair) × (x.epoch ≡ epoch)
opening-only os side id x o pair epoch ledger at found same =
    let parts = opening-of_parts side pair epoch o (find-passes (is_opening_of side pair epoch) os o found) in
    let passes : is_opening_at side id o ≡ true = subst (λ s. is_opening_at s id o ≡ true) parts.0 (subst (λ i. is_opening_at o.side i o ≡ true) same (opening-at_passes o)) in
    let one : Some o ≡ Some x = sym (found-sole (is_opening_of side pair epoch) (is_opening_at side id) os o found passes (ledger.by_id side id)) ∙ at in
    let is : o ≡ x = cc in
    (ap (λ (y : Opening). y.pair) (sym is) ∙ parts.1, ap (λ (y : Opening). y.epoch) (sym is) ∙ parts.2)

-- One opening more.

-- the epoch of a pair after it
pub epoch-added : (os : List Opening) (o : Opening) (pair : Pair) → epoch_of (os ++ o ∷ []) pair ≡ cond (same_pair o.pair pair) o.epoch (epoch_of os pair)
epoch-added os o pair = go os 0
  where
    from : ℕ → List Opening → ℕ
    from epoch os = fold (λ epoch x. cond (same_pair x.pair pair) x.epoch epoch) epoch os

    go : (os : List Opening) (epoch : ℕ) → from epoch (os ++ o ∷ []) ≡ cond (same_pair o.pair pair) o.epoch (from epoch os)
    go [] epoch = refl
    go (x ∷ os) epoch = go os (cond (same_pair x.pair pair) x.epoch epoch)

-- it is of the pair's present epoch or of the next, and the first of its id, and of its pair in that epoch
pub record IsNext (os : List Opening) (o : Opening) : Type 0 where
  pub by_id : find (is_opening_at o.side o.id) os ≡ None
  pub by_epoch : find (is_opening_of o.side o.pair o.epoch) os ≡ None
  pub epoch : epoch_of os o.pair ≤ o.epoch

pub ledger-added : (os : List Opening) (o : Opening) → IsNext os o → IsLedger os → IsLedger (os ++ o ∷ [])
ledger-added os o n ledger = record {
  by_id = λ side id. by_test (is_opening_at side id o)
      (λ is.
      let parts = opening-at_parts side id o is in
      subst (λ s. IsSole (is_opening_at s id) (os ++ o ∷ [])) parts.0 (subst (λ i. IsSole (is_opening_at o.side i) (os ++ o ∷ [])) parts.1 (IsSole-added (is_opening_at o.side o.id) os o n.by_id)))
      (λ apart. IsSole-added_other (is_opening_at side id) os o apart (ledger.by_id side id));
  by_epoch = λ side pair epoch. by_test (is_opening_of side pair epoch o)
      (λ is.
      let parts = opening-of_parts side pair epoch o is in
      subst (λ s. IsSole (is_opening_of s pair epoch) (os ++ o ∷ [])) parts.0
      (subst (λ p. IsSole (is_opening_of o.side p epoch) (os ++ o ∷ [])) parts.1
      (subst (λ e. IsSole (is_opening_of o.side o.pair e) (os ++ o ∷ [])) parts.2 (IsSole-added (is_opening_of o.side o.pair o.epoch) os o n.by_epoch))))
      (λ apart. IsSole-added_other (is_opening_of side pair epoch) os o apart (ledger.by_epoch side pair epoch));
  past = λ side pair epoch later. by_pair side pair epoch (same_pair o.pair pair) refl (subst (λ e. e < epoch) (epoch-added os o pair) later);
}
  where
    none : (side : Side) (pair : Pair) (epoch : ℕ) → is_opening_of side pair epoch o ≡ false → find (is_opening_of side pair epoch) os ≡ None → find (is_opening_of side pair epoch) (os ++ o ∷ []) ≡ None
    none side pair epoch fails before = find-added_none (is_opening_of side pair epoch) os o fails ∙ before

    fails : (side : Side) (pair : Pair) (epoch : ℕ) → ((o.pair ≡ pair) → (o.epoch ≡ epoch) → ⊥) → is_opening_of side pair epoch o ≡ false
    fails side pair epoch never = by_test (is_opening_of side pair epoch o) (λ is. let parts = opening-of_parts side pair epoch o is in absurd (never parts.1 parts.2)) (λ apart. apart)

    by_pair : (side : Side) (pair : Pair) (epoch : ℕ) (b : Bool) → same_pair o.pair pair ≡ b → cond b o.epoch (epoch_of os pair) < epoch → find (is_opening_of side pair epoch) (os ++ o ∷ []) ≡ None
    by_pair side pair epoch true is later =
        let same : o.pair ≡ pair = same_pair-true o.pair pair is in
        let before : epoch_of os pair < epoch = let le = subst (λ p. epoch_of os p ≤ o.epoch) same n.epoch in omega (arith, le, later) in
        none side pair epoch (fails side pair epoch (λ p e. omega (arith, e, later))) (ledger.past side pair epoch before)
    by_pair side pair epoch false is later =
        none side pair epoch (fails side pair epoch (λ p e. let bad : false ≡ true = sym is ∙ (ap (same_pair o.pair) (sym p) ∙ same_pair-same o.pair) in cc)) (ledger.past side pair epoch later)

-- what a table notes stays, where the pair's epoch stays, or each of its connections of the pair is CLOSED
abbrev pub MayRise : List Opening → Opening → List Entry → Type 0
MayRise os o xs = (o.epoch ≡ epoch_of os o.pair) ⊎ ((i : ℕ) (c : View) (l : Option SocketId) → role_at xs i ≡ Some (Connected c l) → pair_of c.local c.peer ≡ o.pair → is_closed c.state ≡ true)

pub opened-added : (side : Side) (own : Addr) (os : List Opening) (o : Opening) (xs : List Entry) (id : SocketId) (c : View) (l : Option SocketId) → MayRise os o xs → role_at xs id.0 ≡ Some (Connected c l)
    → IsOpened side own os id c → IsOpened side own (os ++ o ∷ []) id c
opened-added side own os o xs id c l rises at k = record {
  local = k.local;
  opening = k.opening;
  at = find-added_some (is_opening_at side id) os o k.opening k.at;
  pair = k.pair;
  present = λ live. k.present live ∙ (stays live (same_pair o.pair k.opening.pair) refl ∙ sym (epoch-added os o k.opening.pair));
}
  where
    stays : is_closed c.state ≡ false → (b : Bool) → same_pair o.pair k.opening.pair ≡ b → epoch_of os k.opening.pair ≡ cond b o.epoch (epoch_of os k.opening.pair)
    stays live true is =
        let same : o.pair ≡ k.opening.pair = same_pair-true o.pair k.opening.pair is in
        elim rises [
          | inl e ↦ ap (epoch_of os) (sym same) ∙ sym e
          | inr closed ↦ let bad : true ≡ false = sym (closed id.0 c l at (sym k.pair ∙ sym same)) ∙ live in cc
        ]
    stays live false is = refl

-- the table of the other side
pub table-other : (side : Side) (own : Addr) (last : ℕ) (xs : List Entry) (os : List Opening) (o : Opening) (told : Rattle.wire_sim.proofs.tables.TableById.Told) → same_side o.side side ≡ false → MayRise os o xs → IsTable side own last xs os told → IsTable side own last xs (os ++ o ∷ []) told
table-other side own last xs os o told apart rises t = record {
  sole = t.sole;
  bound = t.bound;
  noted = λ id r at. noted id r at (t.noted id r at);
  later = λ id above. same id ∙ t.later id above;
  silent = λ id none. t.silent id (sym (same id) ∙ none);
}
  where
    same : (id : SocketId) → find (is_opening_at side id) (os ++ o ∷ []) ≡ find (is_opening_at side id) os
    same id = find-added_none (is_opening_at side id) os o (ap (λ b. b && (o.id.0 == id.0)) apart)

    noted : (id : SocketId) (r : Role) → role_at xs id.0 ≡ Some r → IsNoted side own os id r → IsNoted side own (os ++ o ∷ []) id r
    noted id (Connected c l) at k = opened-added side own os o xs id c l rises at k
    noted id (Listener local backlog) at k = same id ∙ k
    noted id (Idle buffers bound) at k = same id ∙ k
    noted id (Datagrams bound socket) at k = same id ∙ k
