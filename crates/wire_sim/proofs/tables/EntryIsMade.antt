-- What a new connection or a new socket makes of the ends of pairs, and of what a table and the openings say of each other.
use Rattle.std.proofs.Common.{◌≡◌, ℕ, ◌+◌, ◌<◌, ◌≤◌, inl, inr, ◌==◌, ◌&&◌, Bool, true, false, cond, List, [], ◌∷◌, ◌++◌, Option, Some, None, option_map, arith, refl, sym, ◌∙◌, ap, subst}
use Rattle.std.specs.List.{find}
use Rattle.std.proofs.lemmas.Bool.{and_from}
use Rattle.ipv4.specs.declared.addr.Addr.{Addr}
use Rattle.ipv4.specs.declared.addr.Pair.{Pair}
use Rattle.ipv4.specs.Addresses.{pair_of}
use Rattle.tcp_state.specs.View.{View}
use Rattle.sockets.specs.declared.entry.SocketId.{SocketId}
use Rattle.sockets.specs.declared.entry.Entry.{Entry}
use Rattle.sockets.specs.declared.role.Role.{Role}
use Rattle.sockets.specs.declared.role.Role.TheVariants.{Idle, Listener, Connected, Datagrams}
use Rattle.stream_law.specs.Pairing.{Present, nothing_yet}
use Rattle.sides.specs.declared.side.Side.{Side}
use Rattle.wire_sim.specs.declared.event.Opening.{Opening}
use Rattle.wire_sim.specs.Openings.{epoch_of}
use Rattle.sides.specs.Sides.{same_side}
use Rattle.wire_sim.specs.Tallies.{is_opening_of, is_opening_at, same_pair}
use Rattle.wire_sim.proofs.tables.EntryChanges.{by_test, OthersStay, end-another, table-becomes}
use Rattle.wire_sim.proofs.lists.FoundAfterChange.{find-passes, find-added, find-added_none, find-missed}
use Rattle.wire_sim.proofs.openings.OpeningIsFound.{IsNext, MayRise, opened-added, epoch-added, opening-of_parts, same_side-same}
use Rattle.wire_sim.proofs.tables.PairOfPorts.{same_pair-same}
use Rattle.wire_sim.proofs.tables.TableById.{Told, untold, has_id, role_at, Becomes, becomes-added, presence_in, end_with, end_of, end_at, IsOpened, IsNoted, MayOpen, IsTable, eqb-same, same_id}

-- A connection came to stand in a table, and its opening was noted.
pub record Makes (side : Side) (own : Addr) (os : List Opening) (o : Opening) (xs ys : List Entry) (c : View) (l : Option SocketId) : Type 0 where
  pub becomes : Becomes xs ys o.id.0 (Some (Connected c l))
  pub at_side : o.side ≡ side
  pub pair : o.pair ≡ pair_of c.local c.peer
  pub local : c.local.addr ≡ own
  pub next : IsNext os o
  pub rises : MayRise os o xs

-- its opening passes the tests of its id ..
pub its_id : (side : Side) (o : Opening) → o.side ≡ side → is_opening_at side o.id o ≡ true
its_id side o same = and_from (same_side o.side side) (o.id.0 == o.id.0) (ap (same_side o.side) (sym same) ∙ same_side-same o.side) (eqb-same o.id.0)

-- .. and of its pair in its epoch
its_epoch : (side : Side) (o : Opening) → o.side ≡ side → is_opening_of side o.pair o.epoch o ≡ true
its_epoch side o same =
    and_from (same_side o.side side && same_pair o.pair o.pair) (o.epoch == o.epoch) (and_from (same_side o.side side) (same_pair o.pair o.pair) (ap (same_side o.side) (sym same) ∙ same_side-same o.side) (same_pair-same o.pair)) (eqb-same o.epoch)

pub table-made : (side : Side) (own : Addr) (last last' : ℕ) (os : List Opening) (o : Opening) (xs ys : List Entry) (told : Told) (c : View) (l : Option SocketId) → Makes side own os o xs ys c l → last ≤ last' → o.id.0 ≤ last'
    → IsTable side own last xs os told → IsTable side own last' ys (os ++ o ∷ []) told
table-made side own last last' os o xs ys told c l m grows within t = record {
  sole = m.becomes.sole;
  bound = λ j r at. by_test (o.id.0 == j.0)
      (λ is. subst (λ (i : SocketId). i.0 ≤ last') (same_id o.id j is) within)
      (λ apart. let before = t.bound j r (sym (m.becomes.others j.0 apart) ∙ at) in omega (arith, before, grows));
  noted = λ j r at. by_test (o.id.0 == j.0)
      (λ is.
      let one = same_id o.id j is in
      let role : Some (Connected c l) ≡ Some r = sym m.becomes.here ∙ (ap (λ (i : SocketId). role_at ys i.0) one ∙ at) in
      let same : Connected c l ≡ r = cc in
      subst (λ r. IsNoted side own (os ++ o ∷ []) j r) same (subst (λ i. IsNoted side own (os ++ o ∷ []) i (Connected c l)) one itself))
      (λ apart. let before = sym (m.becomes.others j.0 apart) ∙ at in noted j r apart before (t.noted j r before));
  later = λ j above. unopened j (let bound : last < j.0 = omega (arith, above, grows) in t.later j bound) (by_test (o.id.0 == j.0) (λ is. let same = ap (λ (i : SocketId). i.0) (same_id o.id j is) in absurd (omega (arith, same, within, above))) (λ apart. apart));
  silent = λ j none may. by_test (o.id.0 == j.0)
      (λ is.
      let found = subst (λ i. find (is_opening_at side i) (os ++ o ∷ []) ≡ Some o) (same_id o.id j is) at in
      let bad : None ≡ Some o = sym none ∙ found in
      cc)
      (λ apart. t.silent j (sym (others j apart) ∙ none) (may_before j apart may));
}
  where
    may_before : (j : SocketId) → (o.id.0 == j.0) ≡ false → MayOpen last' ys j → MayOpen last xs j
    may_before j apart (inl above) = inl (omega (arith, above, grows))
    may_before j apart (inr at) = inr (at.0, sym (m.becomes.others j.0 apart) ∙ at.1)

    none_before : find (is_opening_at side o.id) os ≡ None
    none_before = subst (λ s. find (is_opening_at s o.id) os ≡ None) m.at_side m.next.by_id

    at : find (is_opening_at side o.id) (os ++ o ∷ []) ≡ Some o
    at = find-added (is_opening_at side o.id) os o none_before (its_id side o m.at_side)

    others : (j : SocketId) → (o.id.0 == j.0) ≡ false → find (is_opening_at side j) (os ++ o ∷ []) ≡ find (is_opening_at side j) os
    others j apart = find-added_none (is_opening_at side j) os o (ap (λ b. same_side o.side side && b) apart ∙ none (same_side o.side side))
      where
        none : (b : Bool) → (b && false) ≡ false
        none true = refl
        none false = refl

    unopened : (j : SocketId) → find (is_opening_at side j) os ≡ None → (o.id.0 == j.0) ≡ false → find (is_opening_at side j) (os ++ o ∷ []) ≡ None
    unopened j before apart = others j apart ∙ before

    itself : IsOpened side own (os ++ o ∷ []) o.id c
    itself = record {
      local = m.local;
      opening = o;
      at = at;
      pair = m.pair;
      present = λ live. sym (epoch-added os o o.pair ∙ ap (λ b. cond b o.epoch (epoch_of os o.pair)) (same_pair-same o.pair));
    }

    noted : (j : SocketId) (r : Role) → (o.id.0 == j.0) ≡ false → role_at xs j.0 ≡ Some r → IsNoted side own os j r → IsNoted side own (os ++ o ∷ []) j r
    noted j (Connected d k) apart before n = opened-added side own os o xs j d k m.rises before n
    noted j (Listener local backlog) apart before n = others j apart ∙ n
    noted j (Idle buffers bound) apart before n = others j apart ∙ n
    noted j (Datagrams bound socket) apart before n = others j apart ∙ n

-- its end was nothing yet ..
pub end-unmade : (side : Side) (os : List Opening) (o : Opening) (xs : List Entry) (told : Told) → o.side ≡ side → IsNext os o → end_at side os xs told o.pair o.epoch ≡ nothing_yet
end-unmade side os o xs told same next = ap (end_of xs told) (subst (λ s. find (is_opening_of s o.pair o.epoch) os ≡ None) same next.by_epoch)

-- .. and is that of the connection now
pub end-made : (side : Side) (own : Addr) (last : ℕ) (os : List Opening) (o : Opening) (xs ys : List Entry) (told : Told) (c : View) (l : Option SocketId) → Makes side own os o xs ys c l → MayOpen last xs o.id → IsTable side own last xs os told
    → end_at side (os ++ o ∷ []) ys told o.pair o.epoch ≡ end_with (Present c) untold
end-made side own last os o xs ys told c l m may t =
    let none = subst (λ s. find (is_opening_of s o.pair o.epoch) os ≡ None) m.at_side m.next.by_epoch in
    let quiet = t.silent o.id (subst (λ s. find (is_opening_at s o.id) os ≡ None) m.at_side m.next.by_id) may in
    ap (end_of ys told) (find-added (is_opening_of side o.pair o.epoch) os o none (its_epoch side o m.at_side))
    ∙ (ap (λ r. end_with (presence_in r) (told o.id)) m.becomes.here ∙ ap (end_with (Present c)) quiet)

-- other ends are as they were
pub end-elsewhere : (side : Side) (os : List Opening) (o : Opening) (xs ys : List Entry) (told : Told) (pair : Pair) (epoch : ℕ) → o.side ≡ side → IsNext os o → OthersStay o.id xs ys → is_opening_of side pair epoch o ≡ false
    → end_at side (os ++ o ∷ []) ys told pair epoch ≡ end_at side os xs told pair epoch
end-elsewhere side os o xs ys told pair epoch same next others apart =
    ap (end_of ys told) (find-added_none (is_opening_of side pair epoch) os o apart)
    ∙ end-another side os o.id pair epoch xs ys told told others (λ i apart. refl)
    (λ x found. by_test (o.id.0 == x.id.0)
    (λ is.
    let parts = opening-of_parts side pair epoch x (find-passes (is_opening_of side pair epoch) os x found) in
    absurd (never x (sym (same_id o.id x.id is)) parts.0 found))
    (λ is. is))
  where
    never : (x : Opening) → x.id ≡ o.id → x.side ≡ side → find (is_opening_of side pair epoch) os ≡ Some x → ⊥
    never x is at_side found =
        let passes : is_opening_at side o.id x ≡ true = subst (λ i. is_opening_at side i x ≡ true) is (its_id side x at_side) in
        let none : find (is_opening_at side o.id) os ≡ None = subst (λ s. find (is_opening_at s o.id) os ≡ None) same next.by_id in
        find-missed (is_opening_of side pair epoch) (is_opening_at side o.id) os x found passes none

-- ends of the other side too
pub end-other : (side : Side) (os : List Opening) (o : Opening) (xs : List Entry) (told : Told) (pair : Pair) (epoch : ℕ) → same_side o.side side ≡ false → end_at side (os ++ o ∷ []) xs told pair epoch ≡ end_at side os xs told pair epoch
end-other side os o xs told pair epoch apart = ap (end_of xs told) (find-added_none (is_opening_of side pair epoch) os o (ap (λ b. b && same_pair o.pair pair && (o.epoch == epoch)) apart))

-- no entry has an id to come
pub free-later : (side : Side) (own : Addr) (last : ℕ) (os : List Opening) (xs : List Entry) (told : Told) (id : SocketId) → last < id.0 → IsTable side own last xs os told → find (has_id id.0) xs ≡ None
free-later side own last os xs told id above t = decide (find (has_id id.0) xs) refl
  where
    decide : (o : Option Entry) → find (has_id id.0) xs ≡ o → o ≡ None
    decide None at = refl
    decide (Some e) at = let before = t.bound id e.role (ap (option_map (λ (e : Entry). e.role)) at) in absurd (omega (arith, before, above))

-- a socket that opened nothing joins the table
pub table-socket : (side : Side) (own : Addr) (last : ℕ) (os : List Opening) (xs : List Entry) (told : Told) (id : SocketId) (r : Role) → id.0 ≡ last + 1 → (find (is_opening_at side id) os ≡ None → IsNoted side own os id r) → IsTable side own last xs os told
    → IsTable side own (last + 1) (xs ++ record { id = id; role = r } ∷ []) os told
table-socket side own last os xs told id r next unseen t =
    table-becomes side own (last + 1) xs (xs ++ x ∷ []) os told told id (Some r) (becomes-added xs x t.sole free)
    (λ role is. let same : r ≡ role = cc in (subst (λ r. IsNoted side own os id r) same (unseen unopened), omega (arith, next)))
    (λ j apart. refl) (λ none may. t.silent id none (inl (omega (arith, next)))) (record {
      sole = t.sole;
      bound = λ j r at. let before = t.bound j r at in omega (arith, before);
      noted = t.noted;
      later = λ j above. t.later j (omega (arith, above));
      silent = λ j none may. t.silent j none (sooner j may);
    })
  where
    x : Entry
    x = record { id = id; role = r }

    sooner : (j : SocketId) → MayOpen (last + 1) xs j → MayOpen last xs j
    sooner j (inl above) = inl (omega (arith, above))
    sooner j (inr at) = inr at

    unopened : find (is_opening_at side id) os ≡ None
    unopened = t.later id (omega (arith, next))

    free : find (has_id id.0) xs ≡ None
    free = free-later side own last os xs told id (omega (arith, next)) t
