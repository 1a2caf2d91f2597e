-- What befalls a socket leaves it with what was accepted.
use Rattle.std.proofs.Common.{◌≡◌, ℕ, zero, suc, ◌+◌, ◌*◌, ◌<◌, min, Bool, true, false, not, nat_lt, cond, List, [], ◌∷◌, ◌++◌, length, take, drop, filter, Option, Some, refl, sym, ◌∙◌, ap, subst, arith, All, Contains}
use Rattle.std.proofs.lemmas.Bool.Decides.{nat_tests}
use Rattle.std.proofs.lemmas.List.{length-take, take_at}
use Rattle.std.proofs.lemmas.List.Elements.{All-nil, All-push, All-tail, All-head, All-weaker, All-append, All-drop, All-filter, All-take, Contains-append_left, Contains-append_right}
use Rattle.clock.specs.declared.moment.Moment.{Moment}
use Rattle.ipv4.specs.declared.addr.Addr.{Addr}
use Rattle.ipv4.specs.declared.addr.Endpoint.{Endpoint}
use Rattle.ipv4.specs.Datagram.{Datagram}
use Rattle.udp.specs.Fragments.{count_of}
use Rattle.udp.specs.declared.cutting.Part.{Part}
use Rattle.udp.specs.Waiting.{Waiting, brought_forward}
use Rattle.udp_socket.specs.Emission.{after_part, brought, due_octets, due_part, due_peer, fragment_of, octets_of, peer_at}
use Rattle.udp_socket.specs.SocketView.{Outgoing, SocketView, after_read, new_socket, read_answer, read_buffer, with_received, with_sent}
use Rattle.udp_socket.specs.Waits.{after_giving_up, is_given_up, parts_left}
use Rattle.udp_socket.proofs.Places.{due_brought}
use Rattle.datagram_law.specs.Accepted.{Accepted, CameFrom}
use Rattle.datagram_law.specs.Carried.{Carries, IsOfOne, accepted_of}
use Rattle.datagram_law.specs.Sockets.{HasPartsLeft, IsSocketOf}
use Rattle.datagram_law.proofs.InTurn.{still}
use Rattle.datagram_law.proofs.Parting.{numbered}

-- what a socket has of outgoing and of incoming datagrams
abbrev WasAccepted : List Accepted → Endpoint → Outgoing → Type 0
WasAccepted own local o = Contains own (accepted_of local o)

abbrev Came : List Accepted → Endpoint → Waiting → Type 0
Came other local w = CameFrom other w.endpoint local w.octets

pub new : (own other : List Accepted) (local : Endpoint) → IsSocketOf own other local new_socket
new own other local = record { outgoing = All-nil (WasAccepted own local); parts = refl; incoming = All-nil (Came other local) }

outgoing_still : (own more : List Accepted) (local : Endpoint) (outbox : List Outgoing) → All (WasAccepted own local) outbox → All (WasAccepted (own ++ more) local) outbox
outgoing_still own more local outbox are =
    All-weaker (WasAccepted own local) (WasAccepted (own ++ more) local) (λ o h. Contains-append_left own more (accepted_of local o) h) outbox are

incoming_still : (other further : List Accepted) (local : Endpoint) (inbox : List Waiting) → All (Came other local) inbox → All (Came (other ++ further) local) inbox
incoming_still other further local inbox are =
    All-weaker (Came other local) (Came (other ++ further) local) (λ w h. still _ other further h) inbox are

pub more_accepted : (own other more further : List Accepted) (local : Endpoint) (s : SocketView) → IsSocketOf own other local s
    → IsSocketOf (own ++ more) (other ++ further) local s
more_accepted own other more further local s h = record {
  outgoing = outgoing_still own more local s.outbox h.outgoing;
  parts = h.parts;
  incoming = incoming_still other further local s.inbox h.incoming;
}

one : (a : Accepted) → Contains (a ∷ []) a
one a = (0, omega arith, refl)

some_parts : (len : ℕ) → 0 < count_of len
some_parts len = omega arith

parts_pushed : (outbox : List Outgoing) (o : Outgoing) (parts : ℕ) → HasPartsLeft outbox parts → HasPartsLeft (outbox ++ o ∷ []) parts
parts_pushed [] o parts none = subst (λ (n : ℕ). n < count_of (8 + length o.octets)) (sym none) (some_parts (8 + length o.octets))
parts_pushed (x ∷ outbox) o parts left = left

pub sends : (own other : List Accepted) (local peer : Endpoint) (s : SocketView) (now : Moment) (identification : ℕ) (octets : List ℕ) → IsSocketOf own other local s
    → IsSocketOf (own ++ record { source = local; peer = peer; identification = identification; octets = octets } ∷ []) other local
    (with_sent s now peer identification octets)
sends own other local peer s now identification octets h =
    let o : Outgoing = record { peer = peer; identification = identification; since = now; octets = octets } in
    let a : Accepted = accepted_of local o in
    record {
      outgoing =
          All-push (WasAccepted (own ++ a ∷ []) local) s.outbox o (outgoing_still own (a ∷ []) local s.outbox h.outgoing)
          (Contains-append_right own (a ∷ []) a (one a));
      parts = parts_pushed s.outbox o s.parts h.parts;
      incoming = h.incoming;
    }

pub receives : (own other : List Accepted) (local source : Endpoint) (s : SocketView) (octets : List ℕ) → IsSocketOf own other local s
    → CameFrom other source local octets → IsSocketOf own other local (with_received s source octets)
receives own other local source s octets h came = record {
  outgoing = h.outgoing;
  parts = h.parts;
  incoming = All-push (Came other local) s.inbox (record { endpoint = source; octets = octets }) h.incoming came;
}

pub reads : (own other : List Accepted) (local : Endpoint) (s : SocketView) → IsSocketOf own other local s → IsSocketOf own other local (after_read s)
reads own other local s h = record { outgoing = h.outgoing; parts = h.parts; incoming = All-drop (Came other local) 1 s.inbox h.incoming }

-- one fragment further, or the next datagram
first_left : (outbox : List Outgoing) → HasPartsLeft outbox 0
first_left [] = refl
first_left (o ∷ outbox) = some_parts (8 + length o.octets)

further : (len parts : ℕ) → nat_lt (1480 * (parts + 1)) len ≡ true → parts + 1 < count_of len
further len parts more = let below : 1480 * (parts + 1) < len = grind (arith, nat_tests, more) in omega (arith, below)

-- whatever place it is of
pub is_brought : (own other : List Accepted) (local : Endpoint) (s : SocketView) (place : ℕ) → IsSocketOf own other local s → IsSocketOf own other local (brought place s)
is_brought own other local s zero h = h
is_brought own other local s (suc place) h =
    let at : ℕ = suc place in
    record {
      outgoing =
          All-append (WasAccepted own local) (take 1 (drop at s.outbox)) (take at s.outbox ++ drop (suc at) s.outbox)
          (All-take (WasAccepted own local) 1 (drop at s.outbox) (All-drop (WasAccepted own local) at s.outbox h.outgoing))
          (All-append (WasAccepted own local) (take at s.outbox) (drop (suc at) s.outbox) (All-take (WasAccepted own local) at s.outbox h.outgoing) (All-drop (WasAccepted own local) (suc at) s.outbox h.outgoing));
      parts = first_left (brought_forward at s.outbox);
      incoming = h.incoming;
    }

first_emits : (own other : List Accepted) (local : Endpoint) (s : SocketView) → IsSocketOf own other local s → IsSocketOf own other local (after_part s)
first_emits own other local s h = of_outbox s.outbox refl
  where
    shown : (outbox : List Outgoing) → s.outbox ≡ outbox → s ≡ record s { outbox = outbox }
    shown outbox e = ap (λ (os : List Outgoing). record s { outbox = os }) e

    by_more : (o : Outgoing) (rest : List Outgoing) (b : Bool) → s.outbox ≡ o ∷ rest → nat_lt (1480 * (s.parts + 1)) (8 + length o.octets) ≡ b
        → IsSocketOf own other local (cond b (record s { outbox = o ∷ rest; parts = s.parts + 1 }) (record s { outbox = rest; parts = 0 }))
    by_more o rest true e more = record {
      outgoing = subst (All (WasAccepted own local)) e h.outgoing;
      parts = further (8 + length o.octets) s.parts more;
      incoming = h.incoming;
    }
    by_more o rest false e more = record {
      outgoing = All-tail (WasAccepted own local) o rest (subst (All (WasAccepted own local)) e h.outgoing);
      parts = first_left rest;
      incoming = h.incoming;
    }

    of_outbox : (outbox : List Outgoing) → s.outbox ≡ outbox → IsSocketOf own other local (after_part s)
    of_outbox [] e = subst (IsSocketOf own other local) (shown [] e ∙ sym (ap after_part (shown [] e))) h
    of_outbox (o ∷ rest) e =
        subst (IsSocketOf own other local) (sym (ap after_part (shown (o ∷ rest) e)))
        (by_more o rest (nat_lt (1480 * (s.parts + 1)) (8 + length o.octets)) e refl)

pub emits : (own other : List Accepted) (local : Endpoint) (s : SocketView) (place : ℕ) → IsSocketOf own other local s → IsSocketOf own other local (after_part (brought place s))
emits own other local s place h = first_emits own other local (brought place s) (is_brought own other local s place h)

-- some of them gone
parts_given_up : (lost : Addr → Bool) (now : Moment) (outbox : List Outgoing) (parts : ℕ) → HasPartsLeft outbox parts
    → HasPartsLeft (filter (λ o. not (is_given_up lost now o)) outbox) (parts_left lost now outbox parts)
parts_given_up lost now [] parts left = cc
parts_given_up lost now (o ∷ rest) parts left = by_test (is_given_up lost now o)
  where
    kept : List Outgoing
    kept = filter (λ o. not (is_given_up lost now o)) rest

    by_test : (b : Bool) → HasPartsLeft (cond (not b) (o ∷ kept) kept) (cond b 0 parts)
    by_test true = first_left kept
    by_test false = left

pub gives_up : (own other : List Accepted) (local : Endpoint) (s : SocketView) (lost : Addr → Bool) (now : Moment) → IsSocketOf own other local s
    → IsSocketOf own other local (after_giving_up s lost now)
gives_up own other local s lost now h = record {
  outgoing = All-filter (λ o. not (is_given_up lost now o)) (WasAccepted own local) s.outbox h.outgoing;
  parts = parts_given_up lost now s.outbox s.parts h.parts;
  incoming = h.incoming;
}

-- what is due
first_is_of_one : (own other : List Accepted) (local peer : Endpoint) (s : SocketView) (part : Part) (d : Datagram) → IsSocketOf own other local s
    → due_peer s.outbox ≡ Some peer → due_part s ≡ Some part → Carries local.addr peer.addr part (due_octets local s) d → IsOfOne own d
first_is_of_one own other local peer s part d h for is carries = of_outbox s.outbox s refl h for is carries
  where
    of_outbox : (outbox : List Outgoing) (s : SocketView) → s.outbox ≡ outbox → IsSocketOf own other local s → due_peer s.outbox ≡ Some peer
        → due_part s ≡ Some part → Carries local.addr peer.addr part (due_octets local s) d → IsOfOne own d
    of_outbox [] s e h for is carries =
        let none : due_peer [] ≡ Some peer = ap due_peer (sym e) ∙ for in cc
    of_outbox (o ∷ rest) s e h for is carries =
        let shown : SocketView = record s { outbox = o ∷ rest } in
        let same : s ≡ shown = ap (λ (os : List Outgoing). record s { outbox = os }) e in
        let p : Part = record { identification = o.identification; fragment = fragment_of o s.parts } in
        let told : Some part ≡ Some p = sym is ∙ ap due_part same in
        let to : Some o.peer ≡ Some peer = ap due_peer (sym e) ∙ for in
        let peer_is : peer ≡ o.peer = cc in
        let octets : due_octets local s ≡ octets_of local o s.parts = ap (λ (x : SocketView). due_octets local x) same in
        let here : IsSocketOf own other local shown = subst (IsSocketOf own other local) same h in
        numbered own local o s.parts part d (All-head (WasAccepted own local) o rest here.outgoing) here.parts (cc)
        (subst (λ (x : Endpoint). Carries local.addr x.addr part (octets_of local o s.parts) d) peer_is
        (subst (λ (xs : List ℕ). Carries local.addr peer.addr part xs d) octets carries))

pub due_is_of_one : (own other : List Accepted) (local peer : Endpoint) (s : SocketView) (place : ℕ) (part : Part) (d : Datagram) → IsSocketOf own other local s
    → peer_at place s.outbox ≡ Some peer → due_part (brought place s) ≡ Some part → Carries local.addr peer.addr part (due_octets local (brought place s)) d → IsOfOne own d
due_is_of_one own other local peer s place part d h for is carries =
    first_is_of_one own other local peer (brought place s) part d (is_brought own other local s place h) (due_brought s place peer for) is carries

-- what is read
front_read : (octets buffer : List ℕ)
    → take (min (length octets) (length buffer)) (take (length buffer) octets ++ drop (length octets) buffer) ≡ take (length buffer) octets
front_read octets buffer =
    take_at (take (length buffer) octets) (drop (length octets) buffer) (min (length octets) (length buffer)) (omega (arith, length-take (length buffer) octets))

pub reads_are_of_one : (own other : List Accepted) (local source : Endpoint) (s : SocketView) (buffer : List ℕ) (len : ℕ) → IsSocketOf own other local s
    → read_answer s.inbox (length buffer) ≡ Some (len, source)
    → (octets : List ℕ) × CameFrom other source local octets × (take len (read_buffer s.inbox buffer) ≡ take (length buffer) octets)
reads_are_of_one own other local source s buffer len h answer = of_inbox s.inbox h.incoming answer
  where
    told : ℕ × Endpoint → Option (ℕ × Endpoint)
    told p = Some p

    same_pair : (p q : ℕ × Endpoint) → told p ≡ told q → p ≡ q
    same_pair p q e = cc

    of_inbox : (inbox : List Waiting) → All (Came other local) inbox → read_answer inbox (length buffer) ≡ Some (len, source)
        → (octets : List ℕ) × CameFrom other source local octets × (take len (read_buffer inbox buffer) ≡ take (length buffer) octets)
    of_inbox [] are e = cc
    of_inbox (w ∷ rest) are e =
        let both : (min (length w.octets) (length buffer), w.endpoint) ≡ (len, source) = same_pair (min (length w.octets) (length buffer), w.endpoint) (len, source) e in
        let is_len : min (length w.octets) (length buffer) ≡ len = ap (λ (p : ℕ × Endpoint). p.0) both in
        let is_source : w.endpoint ≡ source = ap (λ (p : ℕ × Endpoint). p.1) both in
        (w.octets, subst (λ (from : Endpoint). CameFrom other from local w.octets) is_source (All-head (Came other local) w rest are), subst (λ (n : ℕ). take n (take (length buffer) w.octets ++ drop (length w.octets) buffer) ≡ take (length buffer) w.octets) is_len (front_read w.octets buffer))
