-- What was received and is not read waits, in order; and lists of which some are left out, in order.
use Rattle.std.proofs.Common.{◌≡◌, ℕ, zero, suc, inl, inr, ◌+◌, Bool, true, false, List, [], ◌∷◌, ◌++◌, length, filter, cond, refl, sym, ◌∙◌, ap, subst}
use Rattle.std.proofs.lemmas.List.{append_assoc, append-nil, take-append-drop}
use Rattle.udp.specs.Waiting.{Waiting}
use Rattle.udp_socket.specs.SocketView.{Outgoing, SocketView, has_room_in, has_room_out, with_received, with_sent}
use Rattle.udp_socket.specs.Emission.{waits_at, brought, fragment_of, after_part}
use Rattle.udp_socket.specs.Events.{Event, Sends, Receives, Reads, Emits, GivesUp, after_event, after_events, gathered, received, read, IsWithout}

-- what goes out changes nothing of what came
part_inbox : (s : SocketView) → (after_part s).inbox ≡ s.inbox
part_inbox s = of_outbox s.outbox refl
  where
    of_outbox : (os : List Outgoing) → s.outbox ≡ os → (after_part s).inbox ≡ s.inbox
    of_outbox [] is = rw is refl
    of_outbox (o ∷ rest) is = rw is (by_test (fragment_of o s.parts).more_fragments)
      where
        by_test : (b : Bool) → (cond b (record s { outbox = o ∷ rest; parts = s.parts + 1 }) (record s { outbox = rest; parts = 0 })).inbox ≡ s.inbox
        by_test true = refl
        by_test false = refl

brought_inbox : (place : ℕ) (s : SocketView) → (brought place s).inbox ≡ s.inbox
brought_inbox zero s = refl
brought_inbox (suc place) s = refl

-- what is received stands behind what waits, and what is read stood first
in_step : (s : SocketView) (e : Event) → read s e ++ (after_event s e).inbox ≡ s.inbox ++ received s e
in_step s (Sends now peer identification octets) = by_test (has_room_out s (length octets))
  where
    by_test : (b : Bool) → (cond b (with_sent s now peer identification octets) s).inbox ≡ s.inbox ++ []
    by_test true = sym (append-nil s.inbox)
    by_test false = sym (append-nil s.inbox)
in_step s (Receives from octets) = by_test (has_room_in s (length octets))
  where
    by_test : (b : Bool) → (cond b (with_received s from octets) s).inbox ≡ s.inbox ++ cond b (record { endpoint = from; octets = octets } ∷ []) []
    by_test true = refl
    by_test false = sym (append-nil s.inbox)
in_step s (Reads room) = take-append-drop 1 s.inbox ∙ sym (append-nil s.inbox)
in_step s (Emits place source) = by_test (waits_at place s)
  where
    by_test : (b : Bool) → (cond b (after_part (brought place s)) s).inbox ≡ s.inbox ++ []
    by_test true = part_inbox (brought place s) ∙ brought_inbox place s ∙ sym (append-nil s.inbox)
    by_test false = sym (append-nil s.inbox)
in_step s (GivesUp lost now) = sym (append-nil s.inbox)

-- over events
pub read_in_order : (s : SocketView) (events : List Event) → gathered read s events ++ (after_events s events).inbox ≡ s.inbox ++ gathered received s events
read_in_order s [] = sym (append-nil s.inbox)
read_in_order s (e ∷ events) =
    let next : SocketView = after_event s e in
    append_assoc (read s e) (gathered read next events) (after_events next events).inbox
    ∙ ap (λ (ws : List Waiting). read s e ++ ws) (read_in_order next events)
    ∙ sym (append_assoc (read s e) next.inbox (gathered received next events))
    ∙ ap (λ (ws : List Waiting). ws ++ gathered received next events) (in_step s e)
    ∙ append_assoc s.inbox (received s e) (gathered received next events)

-- lists with some left out
pub without_none : (xs : List Outgoing) → IsWithout xs xs
without_none [] = tt
without_none (x ∷ xs) = inl (refl, without_none xs)

pub without_both : (xs ys zs : List Outgoing) → IsWithout xs ys → IsWithout ys zs → IsWithout xs zs
without_both [] ys zs p q = tt
without_both (x ∷ xs) [] zs p q = absurd p
without_both (x ∷ xs) (y ∷ ys) [] p q = absurd q
without_both (x ∷ xs) (y ∷ ys) (z ∷ zs) p (inr q) = inr (without_both (x ∷ xs) (y ∷ ys) zs p q)
without_both (x ∷ xs) (y ∷ ys) (z ∷ zs) (inl p) (inl q) = inl (p.0 ∙ q.0, without_both xs ys zs p.1 q.1)
without_both (x ∷ xs) (y ∷ ys) (z ∷ zs) (inr p) (inl q) = inr (without_both (x ∷ xs) ys zs p q.1)

pub without_behind : (front xs ys : List Outgoing) → IsWithout xs ys → IsWithout (front ++ xs) (front ++ ys)
without_behind [] xs ys p = p
without_behind (f ∷ front) xs ys p = inl (refl, without_behind front xs ys p)

fewer : (ys more : List Outgoing) → IsWithout more (ys ++ more)
fewer [] more = without_none more
fewer (y ∷ ys) [] = tt
fewer (y ∷ ys) (m ∷ more) = inr (fewer ys (m ∷ more))

pub without_before : (xs ys more : List Outgoing) → IsWithout xs ys → IsWithout (xs ++ more) (ys ++ more)
without_before [] ys more p = fewer ys more
without_before (x ∷ xs) [] more p = absurd p
without_before (x ∷ xs) (y ∷ ys) more (inl p) = inl (p.0, without_before xs ys more p.1)
without_before (x ∷ xs) (y ∷ ys) more (inr p) = inr (without_before (x ∷ xs) ys more p)

pub without_filtered : (keep : Outgoing → Bool) (xs : List Outgoing) → IsWithout (filter keep xs) xs
without_filtered keep [] = tt
without_filtered keep (x ∷ xs) = by_test (keep x) (without_filtered keep xs) refl
  where
    skipped : (ys : List Outgoing) → IsWithout ys xs → IsWithout ys (x ∷ xs)
    skipped [] p = tt
    skipped (y ∷ ys) p = inr p

    by_test : (b : Bool) → IsWithout (filter keep xs) xs → keep x ≡ b → IsWithout (filter keep (x ∷ xs)) (x ∷ xs)
    by_test true p is = rw is (inl (refl, p))
    by_test false p is = rw is (skipped (filter keep xs) p)

pub same_without : (xs ys : List Outgoing) → xs ≡ ys → IsWithout xs ys
same_without xs ys same = subst (IsWithout xs) same (without_none xs)
