-- What was sent goes out whole once, is given up or waits; and to one address in the order in which it was sent.
use Rattle.std.proofs.Common.{◌≡◌, ℕ, zero, suc, ◌+◌, ◌<◌, inl, inr, Bool, true, false, List, [], ◌∷◌, ◌++◌, length, filter, cond, Some, refl, sym, ◌∙◌, ap, subst, arith}
use Rattle.std.specs.List.Sorted.{IsPermutation}
use Rattle.std.proofs.lemmas.Bool.Decides.{nat_tests}
use Rattle.std.proofs.lemmas.List.{append_assoc, append-nil}
use Rattle.std.proofs.lemmas.List.Elements.{filter-append}
use Rattle.std.proofs.lemmas.List.Sorted.{IsPermutation-refl, IsPermutation-trans, IsPermutation-middle, IsPermutation-append_comm, IsPermutation-append_left, IsPermutation-append_right, IsPermutation-filter_both}
use Rattle.ipv4.specs.declared.addr.Addr.{Addr}
use Rattle.udp.specs.Waiting.{Waiting, brought_forward}
use Rattle.udp.proofs.Forward.{IsSplit, brought_split}
use Rattle.udp_socket.specs.SocketView.{Outgoing, SocketView, has_room_in, has_room_out, with_received, with_sent}
use Rattle.udp_socket.specs.Emission.{waits_at, first_that, brought, fragment_of, after_part}
use Rattle.udp_socket.specs.Waits.{is_given_up}
use Rattle.udp_socket.specs.Events.{Event, Sends, Receives, Reads, Emits, GivesUp, after_event, after_events, gathered, sent, last_due, finished, dropped, TakesFirst, EachTakesFirst, is_to, IsWithout}
use Rattle.udp_socket.proofs.GivingUp.{stays}
use Rattle.udp_socket.proofs.FirstThat.{found, one_address}
use Rattle.udp_socket.proofs.Histories.{without_none, without_both, without_behind, without_before, without_filtered, same_without}

-- what waits, and what is gone out of it whole, is what waited
part_outbox : (s : SocketView) → last_due s ++ (after_part s).outbox ≡ s.outbox
part_outbox s = of_outbox s.inbox s.outbox s.parts
  where
    of_outbox : (inbox : List Waiting) (os : List Outgoing) (parts : ℕ)
        → let t : SocketView = record { inbox = inbox; outbox = os; parts = parts } in last_due t ++ (after_part t).outbox ≡ os
    of_outbox inbox [] parts = refl
    of_outbox inbox (o ∷ rest) parts = by_test (fragment_of o parts).more_fragments
      where
        by_test : (b : Bool) → cond b [] (o ∷ []) ++ (cond b (let t : SocketView = record { inbox = inbox; outbox = o ∷ rest; parts = parts + 1 } in t) (record { inbox = inbox; outbox = rest; parts = 0 })).outbox ≡ o ∷ rest
        by_test true = refl
        by_test false = refl

-- the datagram in a place
pub record IsAt (os : List Outgoing) (place : ℕ) : Type 0 where
  pub item : Outgoing
  pub parts : IsSplit os place item

at_place : (os : List Outgoing) (place : ℕ) → place < length os → IsAt os place
at_place [] place below = absurd (omega (arith, below))
at_place (o ∷ os) zero below = record { item = o; parts = record { front = []; back = os; is = refl; len = refl } }
at_place (o ∷ os) (suc place) below =
    let rest = at_place os place (omega (arith, below)) in
    record { item = rest.item; parts = record { front = o ∷ rest.parts.front; back = rest.parts.back; is = ap (λ (xs : List Outgoing). o ∷ xs) rest.parts.is; len = ap suc rest.parts.len } }

brought_is : (os : List Outgoing) (place : ℕ) (o : Outgoing) (parts : IsSplit os place o) → brought_forward place os ≡ o ∷ (parts.front ++ parts.back)
brought_is os place o parts =
    ap (λ (xs : List Outgoing). brought_forward place xs) parts.is ∙ ap (λ (n : ℕ). brought_forward n (parts.front ++ o ∷ parts.back)) (sym parts.len)
    ∙ brought_split parts.front parts.back o

brought_outbox : (s : SocketView) (place : ℕ) (o : Outgoing) (parts : IsSplit s.outbox place o) → (brought place s).outbox ≡ o ∷ (parts.front ++ parts.back)
brought_outbox s zero o parts =
    let none : parts.front ≡ [] = empty parts.front parts.len in
    parts.is ∙ ap (λ (xs : List Outgoing). xs ++ o ∷ parts.back) none ∙ ap (λ (xs : List Outgoing). o ∷ (xs ++ parts.back)) (sym none)
  where
    empty : (xs : List Outgoing) → length xs ≡ 0 → xs ≡ []
    empty [] is = refl
    empty (x ∷ xs) is = absurd (omega (arith, is))
brought_outbox s (suc place) o parts = brought_is s.outbox (suc place) o parts

same_permuted : (xs ys : List Outgoing) → xs ≡ ys → IsPermutation xs ys
same_permuted xs ys same = subst (IsPermutation xs) same (IsPermutation-refl xs)

-- none is lost, and none doubled
brought_permuted : (s : SocketView) (place : ℕ) → place < length s.outbox → IsPermutation s.outbox (brought place s).outbox
brought_permuted s place below =
    let here = at_place s.outbox place below in
    subst (λ (xs : List Outgoing). IsPermutation xs (brought place s).outbox) (sym here.parts.is)
    (subst (IsPermutation (here.parts.front ++ here.item ∷ here.parts.back)) (sym (brought_outbox s place here.item here.parts))
    (IsPermutation-middle here.parts.front here.item here.parts.back))

once_step : (s : SocketView) (e : Event) → IsPermutation (s.outbox ++ sent s e) (finished s e ++ (dropped s e ++ (after_event s e).outbox))
once_step s (Sends now peer identification octets) = by_test (has_room_out s (length octets))
  where
    by_test : (b : Bool) → IsPermutation (s.outbox ++ cond b (record { peer = peer; identification = identification; since = now; octets = octets } ∷ []) [])
        (cond b (with_sent s now peer identification octets) s).outbox
    by_test true = IsPermutation-refl _
    by_test false = same_permuted _ _ (append-nil s.outbox)
once_step s (Receives from octets) = by_test (has_room_in s (length octets))
  where
    by_test : (b : Bool) → IsPermutation (s.outbox ++ []) (cond b (with_received s from octets) s).outbox
    by_test true = same_permuted _ _ (append-nil s.outbox)
    by_test false = same_permuted _ _ (append-nil s.outbox)
once_step s (Reads room) = same_permuted _ _ (append-nil s.outbox)
once_step s (Emits place source) = by_test (waits_at place s) refl
  where
    t : SocketView
    t = brought place s

    by_test : (b : Bool) → waits_at place s ≡ b → IsPermutation (s.outbox ++ []) (cond b (last_due t) [] ++ (cond b (after_part t) s).outbox)
    by_test true is =
        let below : place < length s.outbox = grind (arith, nat_tests, is) in
        IsPermutation-trans _ _ _ (same_permuted _ _ (append-nil s.outbox))
        (subst (IsPermutation s.outbox) (sym (part_outbox t)) (brought_permuted s place below))
    by_test false is = same_permuted _ _ (append-nil s.outbox)
once_step s (GivesUp lost now) =
    IsPermutation-trans _ _ _ (same_permuted _ _ (append-nil s.outbox)) (IsPermutation-filter_both (is_given_up lost now) (stays lost now) (λ o. refl) s.outbox)

-- over events
module _ {X : Type 0} where
  exchanged : (us vs ws : List X) → IsPermutation (us ++ (vs ++ ws)) (vs ++ (us ++ ws))
  exchanged us vs ws =
      subst (λ (xs : List X). IsPermutation xs (vs ++ (us ++ ws))) (append_assoc us vs ws)
      (subst (IsPermutation ((us ++ vs) ++ ws)) (append_assoc vs us ws) (IsPermutation-append_left ws (us ++ vs) (vs ++ us) (IsPermutation-append_comm us vs)))

  joined : (fs ds gs es ws : List X) → IsPermutation (fs ++ (ds ++ (gs ++ (es ++ ws)))) ((fs ++ gs) ++ ((ds ++ es) ++ ws))
  joined fs ds gs es ws =
      subst (IsPermutation (fs ++ (ds ++ (gs ++ (es ++ ws))))) (sym (append_assoc fs gs ((ds ++ es) ++ ws)))
      (IsPermutation-append_right fs (ds ++ (gs ++ (es ++ ws))) (gs ++ ((ds ++ es) ++ ws))
      (subst (λ (xs : List X). IsPermutation (ds ++ (gs ++ (es ++ ws))) (gs ++ xs)) (sym (append_assoc ds es ws)) (exchanged ds gs (es ++ ws))))

pub sent_once : (s : SocketView) (events : List Event)
    → IsPermutation (s.outbox ++ gathered sent s events) (gathered finished s events ++ (gathered dropped s events ++ (after_events s events).outbox))
sent_once s [] = same_permuted _ _ (append-nil s.outbox)
sent_once s (e ∷ events) =
    let next : SocketView = after_event s e in
    let more : List Outgoing = gathered sent next events in
    let fs : List Outgoing = finished s e in
    let ds : List Outgoing = dropped s e in
    let gs : List Outgoing = gathered finished next events in
    let es : List Outgoing = gathered dropped next events in
    let ws : List Outgoing = (after_events next events).outbox in
    let first : IsPermutation (s.outbox ++ (sent s e ++ more)) ((fs ++ (ds ++ next.outbox)) ++ more) =
    subst (λ (xs : List Outgoing). IsPermutation xs ((fs ++ (ds ++ next.outbox)) ++ more)) (append_assoc s.outbox (sent s e) more)
    (IsPermutation-append_left more (s.outbox ++ sent s e) (fs ++ (ds ++ next.outbox)) (once_step s e)) in
    let moved : (fs ++ (ds ++ next.outbox)) ++ more ≡ fs ++ (ds ++ (next.outbox ++ more)) =
    append_assoc fs (ds ++ next.outbox) more ∙ ap (λ (xs : List Outgoing). fs ++ xs) (append_assoc ds next.outbox more) in
    let rest : IsPermutation (fs ++ (ds ++ (next.outbox ++ more))) (fs ++ (ds ++ (gs ++ (es ++ ws)))) =
    IsPermutation-append_right fs _ _ (IsPermutation-append_right ds _ _ (sent_once next events)) in
    IsPermutation-trans _ _ _ first
    (subst (λ (xs : List Outgoing). IsPermutation xs ((fs ++ gs) ++ ((ds ++ es) ++ ws))) (sym moved)
    (IsPermutation-trans _ _ _ rest (joined fs ds gs es ws)))

-- in order, to one address: what goes out stands before those to the same address already
pub brought_in_order : (addr : Addr) (s : SocketView) (place : ℕ) (test : Addr → Bool) → first_that test s.outbox ≡ Some place
    → filter (is_to addr) (brought place s).outbox ≡ filter (is_to addr) s.outbox
brought_in_order addr s place test is =
    let first = found test s.outbox place is in
    let parts = first.parts in
    ap (λ (xs : List Outgoing). filter (is_to addr) xs) (brought_outbox s place first.item parts)
    ∙ one_address test addr parts.front parts.back first.item first.passes first.before
    ∙ ap (λ (xs : List Outgoing). filter (is_to addr) xs) (sym parts.is)

-- left out of both
without_first : (xs ys : List Outgoing) (y : Outgoing) → IsWithout xs ys → IsWithout xs (y ∷ ys)
without_first [] ys y p = tt
without_first (x ∷ xs) ys y p = inr p

pub without_in_both : (keep : Outgoing → Bool) (xs ys : List Outgoing) → IsWithout xs ys → IsWithout (filter keep xs) (filter keep ys)
without_in_both keep [] ys p = tt
without_in_both keep (x ∷ xs) [] p = absurd p
without_in_both keep (x ∷ xs) (y ∷ ys) (inl p) =
    subst (λ (z : Outgoing). IsWithout (filter keep (x ∷ xs)) (filter keep (z ∷ ys))) p.0 (by_test (keep x) (without_in_both keep xs ys p.1) refl)
  where
    by_test : (b : Bool) → IsWithout (filter keep xs) (filter keep ys) → keep x ≡ b → IsWithout (filter keep (x ∷ xs)) (filter keep (x ∷ ys))
    by_test true q is = rw is (inl (refl, q))
    by_test false q is = rw is q
without_in_both keep (x ∷ xs) (y ∷ ys) (inr p) = by_test (keep y) (without_in_both keep (x ∷ xs) ys p) refl
  where
    by_test : (b : Bool) → IsWithout (filter keep (x ∷ xs)) (filter keep ys) → keep y ≡ b → IsWithout (filter keep (x ∷ xs)) (filter keep (y ∷ ys))
    by_test true q is = subst (λ (c : Bool). IsWithout (filter keep (x ∷ xs)) (cond c (y ∷ filter keep ys) (filter keep ys))) (sym is) (without_first (filter keep (x ∷ xs)) (filter keep ys) y q)
    by_test false q is = subst (λ (c : Bool). IsWithout (filter keep (x ∷ xs)) (cond c (y ∷ filter keep ys) (filter keep ys))) (sym is) q

out_step : (addr : Addr) (s : SocketView) (e : Event) → TakesFirst s e
    → IsWithout (filter (is_to addr) (finished s e ++ (after_event s e).outbox)) (filter (is_to addr) (s.outbox ++ sent s e))
out_step addr s (Sends now peer identification octets) takes = without_in_both (is_to addr) _ _ (by_test (has_room_out s (length octets)))
  where
    by_test : (b : Bool) → IsWithout (cond b (with_sent s now peer identification octets) s).outbox
        (s.outbox ++ cond b (record { peer = peer; identification = identification; since = now; octets = octets } ∷ []) [])
    by_test true = without_none _
    by_test false = same_without _ _ (sym (append-nil s.outbox))
out_step addr s (Receives from octets) takes = without_in_both (is_to addr) _ _ (by_test (has_room_in s (length octets)))
  where
    by_test : (b : Bool) → IsWithout (cond b (with_received s from octets) s).outbox (s.outbox ++ [])
    by_test true = same_without _ _ (sym (append-nil s.outbox))
    by_test false = same_without _ _ (sym (append-nil s.outbox))
out_step addr s (Reads room) takes = without_in_both (is_to addr) _ _ (same_without _ _ (sym (append-nil s.outbox)))
out_step addr s (Emits place source) takes = same_without _ _ (by_test (waits_at place s))
  where
    t : SocketView
    t = brought place s

    by_test : (b : Bool) → filter (is_to addr) (cond b (last_due t) [] ++ (cond b (after_part t) s).outbox) ≡ filter (is_to addr) (s.outbox ++ [])
    by_test true =
        ap (λ (xs : List Outgoing). filter (is_to addr) xs) (part_outbox t) ∙ brought_in_order addr s place takes.0 takes.1
        ∙ ap (λ (xs : List Outgoing). filter (is_to addr) xs) (sym (append-nil s.outbox))
    by_test false = ap (λ (xs : List Outgoing). filter (is_to addr) xs) (sym (append-nil s.outbox))
out_step addr s (GivesUp lost now) takes =
    without_in_both (is_to addr) _ _ (subst (IsWithout (filter (stays lost now) s.outbox)) (sym (append-nil s.outbox)) (without_filtered (stays lost now) s.outbox))

-- over events
pub sent_in_order : (addr : Addr) (s : SocketView) (events : List Event) → EachTakesFirst s events
    → IsWithout (filter (is_to addr) (gathered finished s events ++ (after_events s events).outbox)) (filter (is_to addr) (s.outbox ++ gathered sent s events))
sent_in_order addr s [] takes = without_in_both (is_to addr) _ _ (same_without _ _ (sym (append-nil s.outbox)))
sent_in_order addr s (e ∷ events) takes =
    let next : SocketView = after_event s e in
    let more : List Outgoing = gathered sent next events in
    let fs : List Outgoing = finished s e in
    let gs : List Outgoing = gathered finished next events in
    let ws : List Outgoing = (after_events next events).outbox in
    let p : Outgoing → Bool = is_to addr in
    without_both _ _ _
    (same_without (filter p ((fs ++ gs) ++ ws)) (filter p fs ++ filter p (gs ++ ws)) (ap (filter p) (append_assoc fs gs ws) ∙ filter-append p fs (gs ++ ws)))
    (without_both _ _ _
    (without_behind (filter p fs) (filter p (gs ++ ws)) (filter p (next.outbox ++ more)) (sent_in_order addr next events takes.1))
    (without_both _ _ _
    (same_without (filter p fs ++ filter p (next.outbox ++ more)) (filter p (fs ++ next.outbox) ++ filter p more)
    (sym (filter-append p fs (next.outbox ++ more)) ∙ ap (filter p) (sym (append_assoc fs next.outbox more)) ∙ filter-append p (fs ++ next.outbox) more))
    (without_both _ _ _
    (without_before (filter p (fs ++ next.outbox)) (filter p (s.outbox ++ sent s e)) (filter p more) (out_step addr s e takes.0))
    (same_without (filter p (s.outbox ++ sent s e) ++ filter p more) (filter p (s.outbox ++ (sent s e ++ more)))
    (sym (filter-append p (s.outbox ++ sent s e) more) ∙ ap (filter p) (append_assoc s.outbox (sent s e) more))))))
