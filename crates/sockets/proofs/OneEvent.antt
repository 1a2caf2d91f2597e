-- Why each connection of the table takes exactly the one event that an event of the table is to it.
use Rattle.std.proofs.Common.{◌≡◌, inl, inr, ℕ, ◌≤◌, Bool, true, false, cond, List, [], ◌∷◌, ◌++◌, count_by, Option, Some, None, refl, sym, ◌∙◌, ap, subst, arith}
use Rattle.std.proofs.lemmas.Bool.{eqb-true}
use Rattle.std.specs.List.{find}
use Rattle.tcp_state.specs.declared.connection.Fate.{Fate}
use Rattle.tcp_state.specs.declared.connection.Fate.TheVariants.{Stays}
use Rattle.tcp_state.specs.View.{View}
use Rattle.tcp_state.specs.Edges as edge
use Rattle.tcp_state.proofs.Edges.{and_left}
use Rattle.sockets.specs.declared.entry.SocketId.{SocketId}
use Rattle.sockets.specs.declared.entry.Entry.{Entry}
use Rattle.sockets.specs.declared.role.Role.{Role}
use Rattle.sockets.specs.declared.role.Role.TheVariants.{Idle, Listener, Connected, Datagrams}
use Rattle.sockets.specs.Ids.{AreAscending}
use Rattle.sockets.specs.Lists.{change_first, remove_first}
use Rattle.sockets.specs.Entries.{on_connection, in_connection, is_socket, is_kept, entries_after_step, with_role}
use Rattle.sockets.specs.SocketsView.{SocketsView, with_socket}
use Rattle.sockets.specs.Causes.{Event, Follows}
use Rattle.sockets.specs.Steps.{event_of, listener_left, is_let_go, connected, connection_left, closes_socket, remains, IsLeft, IsOneEvent}
use Rattle.sockets.specs.Order.{IsOrdered}
use Rattle.sockets.proofs.Opened.{found_passes}
use Rattle.sockets.proofs.OfferCounts.{one-true, one-false, count-cons, count-found}
use Rattle.sockets.proofs.Steps.{entry}
use Rattle.sockets.proofs.Followed.{IsNothing, by_test, as_it_was, first_changed}

-- Lists of which one entry alone passes a test.

module _ (Step : Entry → Option Entry → Type 0) (only : Entry → Bool) (same : (x : Entry) → only x ≡ false → Step x (Some x)) where
  none_passes : (x : Entry) (xs : List Entry) → count_by only (x ∷ xs) ≡ 0 → (only x ≡ false) × (count_by only xs ≡ 0)
  none_passes x xs none = (
    by_test (only x) (λ yes. absurd (omega (arith, count-cons only x xs, one-true (only x) yes, none))) (λ no. no),
    omega (arith, count-cons only x xs, none),
  )

  -- none passes: nothing happens ..
  pub untouched : (xs : List Entry) → count_by only xs ≡ 0 → Follows Step IsNothing xs xs
  untouched [] none = refl
  untouched (x ∷ xs) none = let apart = none_passes x xs none in inl (same x apart.0, untouched xs apart.1)

  -- .. and another joins
  pub joined_apart : (Added : List Entry → Type 0) (xs ys : List Entry) → Added ys → count_by only xs ≡ 0 → Follows Step Added xs (xs ++ ys)
  joined_apart Added [] ys added none = added
  joined_apart Added (x ∷ xs) ys added none = let apart = none_passes x xs none in inl (same x apart.0, joined_apart Added xs ys added apart.1)

  -- the one that passes changes
  pub once_changed : (change : Entry → Entry) → ((x : Entry) → only x ≡ true → Step x (Some (change x))) → (xs : List Entry) → count_by only xs ≤ 1 → Follows Step IsNothing xs (change_first only change xs)
  once_changed change changed [] few = refl
  once_changed change changed (x ∷ xs) few =
      by_test (only x)
      (λ here. rw here (inl (changed x here, untouched xs (omega (arith, count-cons only x xs, one-true (only x) here, few)))))
      (λ there. rw there (inl (same x there, once_changed change changed xs (omega (arith, count-cons only x xs, one-false (only x) there, few)))))

  -- the first that passes another test is the one, and takes a step
  module _ (test : Entry → Bool) (first : Entry) (is : only first ≡ true) where
    found_here : (x : Entry) (xs : List Entry) → find test (x ∷ xs) ≡ Some first → test x ≡ true → x ≡ first
    found_here x xs found here = let one_found : Some x ≡ Some first = ap (λ b. cond b (Some x) (find test xs)) (sym here) ∙ found in cc

    found_there : (x : Entry) (xs : List Entry) → find test (x ∷ xs) ≡ Some first → test x ≡ false → find test xs ≡ Some first
    found_there x xs found there = ap (λ b. cond b (Some x) (find test xs)) (sym there) ∙ found

    rest_none : (x : Entry) (xs : List Entry) → x ≡ first → count_by only (x ∷ xs) ≤ 1 → count_by only xs ≡ 0
    rest_none x xs one_found few = omega (arith, count-cons only x xs, one-true (only x) (ap only one_found ∙ is), few)

    not_yet : (x : Entry) (xs : List Entry) → find test xs ≡ Some first → count_by only (x ∷ xs) ≤ 1 → (only x ≡ false) × (count_by only xs ≤ 1)
    not_yet x xs found few = (
      by_test (only x) (λ yes. absurd (omega (arith, count-cons only x xs, one-true (only x) yes, few, count-found test only xs first found is))) (λ no. no),
      omega (arith, count-cons only x xs, few),
    )

    pub changed_first : (change : Entry → Entry) → Step first (Some (change first)) → (xs : List Entry) → find test xs ≡ Some first → count_by only xs ≤ 1 → Follows Step IsNothing xs (change_first test change xs)
    changed_first change step [] found few = cc
    changed_first change step (x ∷ xs) found few =
        by_test (test x)
        (λ here. let one_found = found_here x xs found here in rw here (inl (subst (λ y. Step y (Some (change y))) (sym one_found) step, untouched xs (rest_none x xs one_found few))))
        (λ there. let later = found_there x xs found there in let apart = not_yet x xs later few in rw there (inl (same x apart.0, changed_first change step xs later apart.1)))

    removed_first : Step first None → (xs : List Entry) → find test xs ≡ Some first → count_by only xs ≤ 1 → Follows Step IsNothing xs (remove_first test xs)
    removed_first step [] found few = cc
    removed_first step (x ∷ xs) found few =
        by_test (test x)
        (λ here. let one_found = found_here x xs found here in rw here (gone x xs (subst (λ y. Step y None) (sym one_found) step) (untouched xs (rest_none x xs one_found few))))
        (λ there. let later = found_there x xs found there in let apart = not_yet x xs later few in rw there (inl (same x apart.0, removed_first step xs later apart.1)))
      where
        gone : (x : Entry) (xs : List Entry) → Step x None → Follows Step IsNothing xs xs → Follows Step IsNothing (x ∷ xs) xs
        gone x [] step rest = (step, rest)
        gone x (y ∷ ys) step rest = inr (step, rest)

    pub once_settled : (r : Fate) (change : Role → Role) → (is_kept r ≡ true → Step first (Some (with_role change first))) → (is_kept r ≡ false → Step first None)
        → (xs : List Entry) → find test xs ≡ Some first → count_by only xs ≤ 1 → Follows Step IsNothing xs (entries_after_step r test change xs)
    once_settled r change kept gone xs found few =
        by_test (is_kept r) (λ stays. rw stays (changed_first (with_role change) (kept stays) xs found few)) (λ goes. rw goes (removed_first (gone goes) xs found few))

-- Ids.

above_none : (n : ℕ) (only : Entry → Bool) → ((x : Entry) → only x ≡ true → x.id.0 ≡ n) → (before last : ℕ) (xs : List Entry) → n ≤ before → AreAscending before last xs → count_by only xs ≡ 0
above_none n only says before last [] below ids = refl
above_none n only says before last (x ∷ xs) below ids =
    let rest : count_by only xs ≡ 0 = above_none n only says x.id.0 last xs (omega (arith, below, ids.0)) ids.1 in
    let other : only x ≡ false = by_test (only x) (λ yes. absurd (omega (arith, says x yes, below, ids.0))) (λ no. no) in
    omega (arith, count-cons only x xs, one-false (only x) other, rest)

-- a test that passes one id alone passes one entry at most
pub ids_once : (n : ℕ) (only : Entry → Bool) → ((x : Entry) → only x ≡ true → x.id.0 ≡ n) → (before last : ℕ) (xs : List Entry) → AreAscending before last xs → count_by only xs ≤ 1
ids_once n only says before last [] ids = omega arith
ids_once n only says before last (x ∷ xs) ids =
    by_test (only x)
    (λ yes. let rest : count_by only xs ≡ 0 = above_none n only says x.id.0 last xs (omega (arith, says x yes)) ids.1 in omega (arith, count-cons only x xs, one-true (only x) yes, rest))
    (λ no. let rest : count_by only xs ≤ 1 = ids_once n only says x.id.0 last xs ids.1 in omega (arith, count-cons only x xs, one-false (only x) no, rest))

pub socket_once : (h : SocketsView) (id : SocketId) → IsOrdered h → count_by (is_socket id) h.entries ≤ 1
socket_once h id o = ids_once id.0 (is_socket id) (λ x named. eqb-true x.id.0 id.0 (and_left _ _ named)) 0 h.last_id h.entries o.ids

-- nothing is added
pub readded : (Step : Entry → Option Entry → Type 0) (Added : List Entry → Type 0) → Added [] → (xs ys : List Entry) → Follows Step IsNothing xs ys → Follows Step Added xs ys
readded Step Added none [] ys f = subst Added (sym f) none
readded Step Added none (x ∷ xs) [] f = (f.0, readded Step Added none xs [] f.1)
readded Step Added none (x ∷ xs) (y ∷ ys) (inl f) = inl (f.0, readded Step Added none xs ys f.1)
readded Step Added none (x ∷ xs) (y ∷ ys) (inr f) = inr (f.0, readded Step Added none xs (y ∷ ys) f.1)

-- Entries.

-- an event by which no reset is given up and nothing is accepted
abbrev pub IsPlain : SocketsView → Event → Type 0
IsPlain h e = (x : Entry) (l : Option SocketId) → (is_let_go h e x ≡ false) × (listener_left h e x l ≡ l)

module _ (h : SocketsView) (e : Event) where
  module _ (plain : IsPlain h e) where
    pub apart : (id : SocketId) (c : View) (l : Option SocketId) → event_of h e (connected id c l) ≡ None → Some (connected id c l) ≡ connection_left h e id c l
    apart id c l none =
        let f = plain (connected id c l) l in
        let left : connection_left h e id c l ≡ Some (connected id c (listener_left h e (connected id c l) l)) = rw (f.0, none) refl in
        ap (λ k. Some (connected id c k)) (sym f.1) ∙ sym left

    -- an event that is none of the connection's own leaves the entry
    pub passed : (x : Entry) → event_of h e x ≡ None → closes_socket e x ≡ false → IsOneEvent h e x (Some x)
    passed x none stays = by_role x.role none stays
      where
        by_role : (r : Role) → event_of h e (entry x.id r) ≡ None → closes_socket e (entry x.id r) ≡ false → IsLeft h e x.id r (Some (entry x.id r))
        by_role (Connected c l) is stays = apart x.id c l is
        by_role (Idle buffers bound) is stays = remains stays
        by_role (Listener local backlog) is stays = remains stays
        by_role (Datagrams bound queues) is stays = remains stays

    module _ (ev : edge.Event) where
      -- one that is leaves what that event leaves of the connection ..
      pub took : (change : View → View) → ((c : View) → change c ≡ edge.after_event c ev) → (x : Entry) → event_of h e x ≡ Some ev → is_kept (in_connection Stays (λ (c : View). edge.fate_by c ev) x.role) ≡ true → closes_socket e x ≡ false
          → IsOneEvent h e x (Some (with_role (on_connection change) x))
      took change says x is kept stays = by_role x.role is kept stays
        where
          by_role : (r : Role) → event_of h e (entry x.id r) ≡ Some ev → is_kept (in_connection Stays (λ (c : View). edge.fate_by c ev) r) ≡ true → closes_socket e (entry x.id r) ≡ false → IsLeft h e x.id r (Some (entry x.id (on_connection change r)))
          by_role (Connected c l) is kept stays =
              let f = plain (connected x.id c l) l in
              let left : connection_left h e x.id c l ≡ Some (connected x.id (edge.after_event c ev) (listener_left h e (connected x.id c l) l)) = rw (f.0, is, kept) refl in
              ap (λ d. Some (connected x.id d l)) (says c) ∙ ap (λ k. Some (connected x.id (edge.after_event c ev) k)) (sym f.1) ∙ sym left
          by_role (Idle buffers bound) is kept stays = remains stays
          by_role (Listener local backlog) is kept stays = remains stays
          by_role (Datagrams bound queues) is kept stays = remains stays

      -- .. or takes it out
      pub taken_out : (x : Entry) → event_of h e x ≡ Some ev → is_kept (in_connection Stays (λ (c : View). edge.fate_by c ev) x.role) ≡ false → IsOneEvent h e x None
      taken_out x is gone = by_role x.role is gone
        where
          by_role : (r : Role) → event_of h e (entry x.id r) ≡ Some ev → is_kept (in_connection Stays (λ (c : View). edge.fate_by c ev) r) ≡ false → IsLeft h e x.id r None
          by_role (Connected c l) is gone = let f = plain (connected x.id c l) l in rw (f.0, is, gone) refl
          by_role (Idle buffers bound) is gone = cc
          by_role (Listener local backlog) is gone = cc
          by_role (Datagrams bound queues) is gone = cc

    -- where the event closes no socket that has no connection
    module _ (stays : (x : Entry) → closes_socket e x ≡ false) where
      pub passed_over : (only : Entry → Bool) → ((x : Entry) → only x ≡ false → event_of h e x ≡ None) → (x : Entry) → only x ≡ false → IsOneEvent h e x (Some x)
      passed_over only none x fails = passed x (none x fails) (stays x)

      module _ (ev : edge.Event) where
        -- the connection of two ends, and of no other entry
        pub settles_once : (test : Entry → Bool) → ((x : Entry) → test x ≡ false → event_of h e x ≡ None) → ((x : Entry) → test x ≡ true → event_of h e x ≡ Some ev) → (first : Entry) → find test h.entries ≡ Some first → count_by test h.entries ≤ 1
            → Follows (IsOneEvent h e) IsNothing h.entries (entries_after_step (in_connection Stays (λ (c : View). edge.fate_by c ev) first.role) test (on_connection (λ (c : View). edge.after_event c ev)) h.entries)
        settles_once test none is first found few =
            let here : test first ≡ true = found_passes test h.entries first found in
            once_settled (IsOneEvent h e) test (passed_over test none) test first here (in_connection Stays (λ (c : View). edge.fate_by c ev) first.role) (on_connection (λ (c : View). edge.after_event c ev))
            (λ kept. took ev (λ c. edge.after_event c ev) (λ c. refl) first (is first here) kept (stays first)) (taken_out ev first (is first here)) h.entries found few

        -- a call that the socket of an id takes
        pub calls_once : (id : SocketId) (change : View → View) → ((c : View) → change c ≡ edge.after_event c ev) → ((c : View) → is_kept (edge.fate_by c ev) ≡ true) → ((x : Entry) → is_socket id x ≡ false → event_of h e x ≡ None) → ((x : Entry) → is_socket id x ≡ true → event_of h e x ≡ Some ev)
            → IsOrdered h → Follows (IsOneEvent h e) IsNothing h.entries (let w = with_socket h id (on_connection change) in w.entries)
        calls_once id change says kept none is o =
            once_changed (IsOneEvent h e) (is_socket id) (passed_over (is_socket id) none) (with_role (on_connection change)) (λ x named. took ev change says x (is x named) (staying x.role) (stays x)) h.entries (socket_once h id o)
          where
            staying : (r : Role) → is_kept (in_connection Stays (λ (c : View). edge.fate_by c ev) r) ≡ true
            staying (Connected c l) = kept c
            staying (Idle buffers bound) = refl
            staying (Listener local backlog) = refl
            staying (Datagrams bound queues) = refl

      -- no connection takes it
      pub unchanged : ((x : Entry) → event_of h e x ≡ None) → Follows (IsOneEvent h e) IsNothing h.entries h.entries
      unchanged none = as_it_was (IsOneEvent h e) IsNothing refl (λ x. passed x (none x) (stays x)) h.entries

      pub sockets_change : ((x : Entry) → event_of h e x ≡ None) → (test : Entry → Bool) (change : Role → Role) → ((id : SocketId) (r : Role) → test (entry id r) ≡ true → IsLeft h e id r (Some (entry id (change r)))) → Follows (IsOneEvent h e) IsNothing h.entries (change_first test (with_role change) h.entries)
      sockets_change none test change step = first_changed (IsOneEvent h e) IsNothing refl test (with_role change) h.entries (λ x. passed x (none x) (stays x)) (λ x passes found. step x.id x.role passes)
