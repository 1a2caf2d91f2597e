-- What waits in a UDP socket came for it, in order, behind what `recvfrom` gave.
use Rattle.std.proofs.Common.{◌≡◌, inl, inr, ℕ, ◌-◌, ◌<◌, ◌≤◌, ◌==◌, min, Bool, true, false, List, [], ◌∷◌, ◌++◌, append_assoc, drop, length, length-take, replicate, reverse, take, Option, Some, None, Ok, Err, is_ok, refl, sym, ◌∙◌, ap, subst, arith}
use Rattle.std.specs.List.{find}
use Rattle.std.proofs.lemmas.Bool.{eqb-true}
use Rattle.std.proofs.lemmas.List.{length-replicate, reverse-append, take_all}
use Rattle.ipv4.specs.declared.addr.Endpoint.{Endpoint}
use Rattle.udp.proofs.Copying.{take_of_two}
use Rattle.udp.specs.Waiting.{Waiting}
use Rattle.udp_socket.specs.SocketView.{SocketView as Queues}
use Rattle.sockets.specs.declared.entry.SocketId.{SocketId}
use Rattle.sockets.specs.declared.entry.Entry.{Entry}
use Rattle.sockets.specs.declared.refusal.Refusal.{Refusal}
use Rattle.sockets.specs.declared.refusal.Refusal.TheVariants.{EAGAIN, EBADF, EINVAL, EOPNOTSUPP}
use Rattle.sockets.specs.declared.role.Role.{Role}
use Rattle.sockets.specs.declared.role.Role.TheVariants.{Idle, Listener, Connected, Datagrams}
use Rattle.sockets.specs.Datagrams.{recvfrom_answer, recvfrom_front}
use Rattle.sockets.specs.Entries.{is_socket, with_role}
use Rattle.sockets.specs.Ids.{AreAscending}
use Rattle.sockets.specs.Lists.{change_first}
use Rattle.sockets.specs.SocketsView.{SocketsView}
use Rattle.sockets.proofs.ByIds.{found_above, found_behind, found_first}
use Rattle.sockets.proofs.Followed.{by_test}
use Rattle.host.specs.ConfigView.{ConfigView}
use Rattle.host_law.specs.Datagrams.{CameFor, CameInOrder, Given, given_at, given_on, AreFrontsOf, GivesWhatCame}
use Rattle.host_law.specs.History.{Step}
use Rattle.host_law.proofs.DatagramsInboxes.{Holds, AllHold}

-- what waits here, the first in first, came behind what was given
pub record Waits (c : ConfigView) (steps : List Step) (id : SocketId) (inbox : List Waiting) : Type 0 where
  pub past : List Waiting
  pub came : CameInOrder c id (reverse inbox ++ past) steps
  pub fronts : AreFrontsOf past (given_on id steps)

-- Datagrams that came.

came-later : (c : ConfigView) (id : SocketId) (ws : List Waiting) (step : Step) (steps : List Step) → CameInOrder c id ws steps → CameInOrder c id ws (step ∷ steps)
came-later c id [] step steps came = tt
came-later c id (w ∷ ws) step steps came = inr came

came-rest : (c : ConfigView) (id : SocketId) (w : Waiting) (ws : List Waiting) (steps : List Step) → CameInOrder c id (w ∷ ws) steps → CameInOrder c id ws steps
came-rest c id w ws [] came = absurd came
came-rest c id w ws (step ∷ earlier) (inl came) = came-later c id ws step earlier came.1
came-rest c id w ws (step ∷ earlier) (inr came) = came-later c id ws step earlier (came-rest c id w ws earlier came)

came-behind : (c : ConfigView) (id : SocketId) (front ws : List Waiting) (steps : List Step) → CameInOrder c id (front ++ ws) steps → CameInOrder c id ws steps
came-behind c id [] ws steps came = came
came-behind c id (w ∷ front) ws steps came = came-behind c id front ws steps (came-rest c id w (front ++ ws) steps came)

-- so was all that was given
pub given-came : (c : ConfigView) (steps : List Step) (id : SocketId) (inbox : List Waiting) → Waits c steps id inbox → GivesWhatCame c id steps
given-came c steps id inbox waits = record { came = waits.past; in_order = came-behind c id (reverse inbox) waits.past steps waits.came; fronts = waits.fronts }

pub nothing-waits : (c : ConfigView) (steps : List Step) (id : SocketId) → GivesWhatCame c id steps → Waits c steps id []
nothing-waits c steps id gives = record { past = gives.came; came = gives.in_order; fronts = gives.fronts }

module _ (c : ConfigView) (step : Step) (steps : List Step) where
  -- a step that gives nothing of this socket
  abbrev pub GivesNone : SocketId → Type 0
  GivesNone id = given_at id step.before step.event ≡ []

  fronts-on : (id : SocketId) → GivesNone id → (ws : List Waiting) → AreFrontsOf ws (given_on id steps) → AreFrontsOf ws (given_on id (step ∷ steps))
  fronts-on id none ws fronts = subst (λ (gs : List Given). AreFrontsOf ws (gs ++ given_on id steps)) (sym none) fronts

  pub gives-on : (id : SocketId) → GivesNone id → GivesWhatCame c id steps → GivesWhatCame c id (step ∷ steps)
  gives-on id none gives = record { came = gives.came; in_order = came-later c id gives.came step steps gives.in_order; fronts = fronts-on id none gives.came gives.fronts }

  pub waits-on : (id : SocketId) (inbox : List Waiting) → GivesNone id → Waits c steps id inbox → Waits c (step ∷ steps) id inbox
  waits-on id inbox none waits = record { past = waits.past; came = came-later c id (reverse inbox ++ waits.past) step steps waits.came; fronts = fronts-on id none waits.past waits.fronts }

  -- a datagram comes for it
  pub waits-queued : (id : SocketId) (inbox : List Waiting) (w : Waiting) → GivesNone id → CameFor c id w step steps → Waits c steps id inbox → Waits c (step ∷ steps) id (inbox ++ w ∷ [])
  waits-queued id inbox w none comes waits = record {
    past = waits.past;
    came = subst (λ (ws : List Waiting). CameInOrder c id (ws ++ waits.past) (step ∷ steps)) (sym (reverse-append inbox (w ∷ []))) (inl (comes, waits.came));
    fronts = fronts-on id none waits.past waits.fronts;
  }

  -- the first is given
  pub waits-read : (id : SocketId) (w : Waiting) (rest : List Waiting) (g : Given) → given_at id step.before step.event ≡ g ∷ [] → g.endpoint ≡ w.endpoint → g.octets ≡ take g.room w.octets → Waits c steps id (w ∷ rest) → Waits c (step ∷ steps) id rest
  waits-read id w rest g gives endpoint octets waits =
      let turned : reverse (w ∷ rest) ++ waits.past ≡ reverse rest ++ (w ∷ waits.past) = ap (λ (ws : List Waiting). ws ++ waits.past) (reverse-append (w ∷ []) rest) ∙ append_assoc (reverse rest) (w ∷ []) waits.past in
      let shorter : CameInOrder c id (reverse rest ++ (w ∷ waits.past)) steps = subst (λ (ws : List Waiting). CameInOrder c id ws steps) turned waits.came in
      record {
        past = w ∷ waits.past;
        came = came-later c id (reverse rest ++ (w ∷ waits.past)) step steps shorter;
        fronts = subst (λ (gs : List Given). AreFrontsOf (w ∷ waits.past) (gs ++ given_on id steps)) (sym gives) (endpoint, octets, waits.fronts);
      }

-- What `recvfrom` answers.

pub record IsRead (h : SocketsView) (id : SocketId) (len : ℕ) : Type 0 where
  pub e : Entry
  pub bound : Option Endpoint
  pub s : Queues
  pub first : Waiting
  pub rest : List Waiting
  pub found : find (is_socket id) h.entries ≡ Some e
  pub role : e.role ≡ Datagrams bound s
  pub waits : s.inbox ≡ first ∷ rest
  pub answer : recvfrom_answer h id len ≡ Ok (min (length first.octets) len, first.endpoint)
  pub front : take (min (length first.octets) len) (recvfrom_front h id (replicate len 0)) ≡ take len first.octets

-- the octets of a datagram at the front of a buffer
fronted : (octets back : List ℕ) (len : ℕ) → take (min (length octets) len) (take len octets ++ back) ≡ take len octets
fronted octets back len =
    let n : ℕ = min (length octets) len in
    let short : n - length (take len octets) ≡ 0 = omega (arith, length-take len octets) in
    take_of_two n (take len octets) back
    ∙ ap (λ (k : ℕ). take n (take len octets) ++ take k back) short
    ∙ ap (λ (xs : List ℕ). xs ++ []) (take_all n (take len octets) (omega (arith, length-take len octets)))
    ∙ ends (take len octets)
  where
    ends : (xs : List ℕ) → xs ++ [] ≡ xs
    ends [] = refl
    ends (x ∷ xs) = ap (λ (ys : List ℕ). x ∷ ys) (ends xs)

pub reads : (h : SocketsView) (id : SocketId) (len : ℕ) → is_ok (recvfrom_answer h id len) ≡ true → IsRead h id len
reads h id len answered = by_entry (find (is_socket id) h.entries) refl
  where
    refused : (refusal : Refusal) → recvfrom_answer h id len ≡ Err refusal → ⊥
    refused refusal is = let bad : false ≡ true = ap is_ok (sym is) ∙ answered in cc

    by_inbox : (e : Entry) (bound : Option Endpoint) (s : Queues) → find (is_socket id) h.entries ≡ Some e → e.role ≡ Datagrams bound s → (b : Bool) → (len == 0) ≡ b
        → (inbox : List Waiting) → s.inbox ≡ inbox → IsRead h id len
    by_inbox e bound s at is true none inbox waits = absurd (refused EINVAL (rw (at, is, none) refl))
    by_inbox e bound s at is false some [] waits = absurd (refused EAGAIN (rw (at, is, some, waits) refl))
    by_inbox e bound s at is false some (first ∷ rest) waits =
        let buffer : List ℕ = replicate len 0 in
        let size : length buffer ≡ len = length-replicate len 0 in
        let some_room : (length buffer == 0) ≡ false = ap (λ (k : ℕ). k == 0) size ∙ some in
        let left : recvfrom_front h id buffer ≡ take (length buffer) first.octets ++ drop (length first.octets) buffer = rw (at, is, some_room, waits) refl in
        let len_left : take (length buffer) first.octets ++ drop (length first.octets) buffer ≡ take len first.octets ++ drop (length first.octets) buffer =
        ap (λ (k : ℕ). take k first.octets ++ drop (length first.octets) buffer) size in
        record {
          e = e;
          bound = bound;
          s = s;
          first = first;
          rest = rest;
          found = at;
          role = is;
          waits = waits;
          answer = rw (at, is, some, waits) refl;
          front = ap (take (min (length first.octets) len)) (left ∙ len_left) ∙ fronted first.octets (drop (length first.octets) buffer) len;
        }

    by_role : (e : Entry) → find (is_socket id) h.entries ≡ Some e → (r : Role) → e.role ≡ r → IsRead h id len
    by_role e at (Idle buffers bound) is = absurd (refused EOPNOTSUPP (rw (at, is) refl))
    by_role e at (Listener l b) is = absurd (refused EOPNOTSUPP (rw (at, is) refl))
    by_role e at (Connected c l) is = absurd (refused EOPNOTSUPP (rw (at, is) refl))
    by_role e at (Datagrams bound s) is = by_inbox e bound s at is (len == 0) refl s.inbox refl

    by_entry : (o : Option Entry) → find (is_socket id) h.entries ≡ o → IsRead h id len
    by_entry None at = absurd (refused EBADF (rw at refl))
    by_entry (Some e) at = by_role e at e.role refl

-- Entries.

-- what is found under its id is the socket itself
pub itself-found : (test : Entry → Bool) (before last : ℕ) (xs : List Entry) (x : Entry) → AreAscending before last xs → find test xs ≡ Some x → is_socket x.id x ≡ true → find (is_socket x.id) xs ≡ Some x
itself-found test before last [] x ids found named = cc
itself-found test before last (y ∷ ys) x ids found named =
    by_test (test y)
    (λ here.
    let same : y ≡ x = found_first test y x ys here found in
    let so : is_socket x.id y ≡ true = ap (λ (e : Entry). is_socket x.id e) same ∙ named in
    let first : find (is_socket x.id) (y ∷ ys) ≡ Some y = rw so refl in first ∙ ap (λ (e : Entry). Some e) same)
    (λ there.
    let later : find test ys ≡ Some x = found_behind test y ys (Some x) there found in
    let above : y.id.0 < x.id.0 = found_above test y.id.0 last ys x ids.1 later in
    let other : (y.id.0 == x.id.0) ≡ false = by_test (y.id.0 == x.id.0) (λ yes. absurd (omega (arith, eqb-true y.id.0 x.id.0 yes, above))) (λ no. no) in
    let behind : find (is_socket x.id) (y ∷ ys) ≡ find (is_socket x.id) ys = rw other refl in behind ∙ itself-found test y.id.0 last ys x ids.1 later named)

-- one entry changes, and the others hold more
pub found-hold : (V W : SocketId → List Waiting → Type 0) (test : Entry → Bool) (change : Role → Role) (before last : ℕ) (xs : List Entry) (first : Entry) → AreAscending before last xs → find test xs ≡ Some first
    → ((e : Entry) → (e.id.0 ≡ first.id.0 → ⊥) → Holds V e.id e.role → Holds W e.id e.role) → (Holds V first.id first.role → Holds W first.id (change first.role)) → AllHold V xs → AllHold W (change_first test (with_role change) xs)
found-hold V W test change before last [] first ids found others own all = tt
found-hold V W test change before last (x ∷ xs) first ids found others own all =
    by_test (test x)
    (λ passes.
    let same : first ≡ x = sym (found_first test x first xs passes found) in
    let so : Holds V x.id x.role → Holds W x.id (change x.role) = subst (λ (e : Entry). Holds V e.id e.role → Holds W e.id (change e.role)) same own in
    let far : x.id.0 ≡ first.id.0 = ap (λ (e : Entry). e.id.0) (sym same) in
    rw passes (so all.0, rest-hold x.id.0 last xs (omega (arith, far)) ids.1 all.1))
    (λ fails.
    let later : find test xs ≡ Some first = found_behind test x xs (Some first) fails found in
    let above : x.id.0 < first.id.0 = found_above test x.id.0 last xs first ids.1 later in
    rw fails (others x (λ same. absurd (omega (arith, same, above))) all.0, found-hold V W test change x.id.0 last xs first ids.1 later others own all.1))
  where
    rest-hold : (low top : ℕ) (ys : List Entry) → first.id.0 ≤ low → AreAscending low top ys → AllHold V ys → AllHold W ys
    rest-hold low top [] below ids all = tt
    rest-hold low top (y ∷ ys) below ids all = (others y (λ same. absurd (omega (arith, same, below, ids.0))) all.0, rest-hold y.id.0 top ys (omega (arith, below, ids.0)) ids.1 all.1)
