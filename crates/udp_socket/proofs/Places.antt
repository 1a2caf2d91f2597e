-- The outgoing datagrams by their places.
use Rattle.std.proofs.Common.{◌≡◌, ℕ, zero, suc, ◌<◌, List, [], ◌∷◌, ◌++◌, length, take, drop, Some, refl, sym, ◌∙◌, ap, subst, length-append, arith}
use Rattle.std.specs.List.{slice_get}
use Rattle.std.specs.Option.{option_map}
use Rattle.std.proofs.lemmas.List.{length-take, length-drop}
use Rattle.circular_buffer.specs.Buffer.{Buffer, buffer}
use Rattle.ipv4.specs.declared.addr.Endpoint.{Endpoint}
use Rattle.udp.specs.Waiting.{Waiting, Line, brought_forward}
use Rattle.udp.proofs.Forward.{ranged, ranged_one, brought_split}
use Rattle.udp_socket.specs.declared.tag.Tag.{Tag}
use Rattle.udp_socket.specs.SocketView.{Outgoing, SocketView}
use Rattle.udp_socket.specs.Stored.{outgoing, outgoing_of, AreBeside, IsStored}
use Rattle.udp_socket.specs.Emission.{peer_at, due_peer, brought}
use Rattle.udp_socket.proofs.Due.{shown}
use Rattle.udp_socket.proofs.Lost.{no_parts}

-- the peer in a place
pub peer_stored : (tags : List Tag) (items : List Waiting) (place : ℕ) → AreBeside tags items
    → option_map (λ (tag : Tag). tag.peer) (slice_get tags place) ≡ peer_at place (outgoing_of tags items)
peer_stored [] items place beside = refl
peer_stored (tag ∷ tags) [] place beside = absurd beside
peer_stored (tag ∷ tags) (item ∷ items) zero beside = refl
peer_stored (tag ∷ tags) (item ∷ items) (suc place) beside = peer_stored tags items place beside.2

-- parts of what stands beside one another
beside_take : (tags : List Tag) (items : List Waiting) (n : ℕ) → AreBeside tags items → AreBeside (take n tags) (take n items)
beside_take tags items zero beside = tt
beside_take [] [] (suc n) beside = tt
beside_take [] (item ∷ items) (suc n) beside = absurd beside
beside_take (tag ∷ tags) [] (suc n) beside = absurd beside
beside_take (tag ∷ tags) (item ∷ items) (suc n) beside = (beside.0, beside.1, beside_take tags items n beside.2)

beside_drop : (tags : List Tag) (items : List Waiting) (n : ℕ) → AreBeside tags items → AreBeside (drop n tags) (drop n items)
beside_drop tags items zero beside = beside
beside_drop [] [] (suc n) beside = tt
beside_drop [] (item ∷ items) (suc n) beside = absurd beside
beside_drop (tag ∷ tags) [] (suc n) beside = absurd beside
beside_drop (tag ∷ tags) (item ∷ items) (suc n) beside = beside_drop tags items n beside.2

beside_append : (tags more : List Tag) (items others : List Waiting) → AreBeside tags items → AreBeside more others → AreBeside (tags ++ more) (items ++ others)
beside_append [] more [] others beside behind = behind
beside_append [] more (item ∷ items) others beside behind = absurd beside
beside_append (tag ∷ tags) more [] others beside behind = absurd beside
beside_append (tag ∷ tags) more (item ∷ items) others beside behind = (beside.0, beside.1, beside_append tags more items others beside.2 behind)

outgoing_take : (tags : List Tag) (items : List Waiting) (n : ℕ) → AreBeside tags items → outgoing_of (take n tags) (take n items) ≡ take n (outgoing_of tags items)
outgoing_take tags items zero beside = refl
outgoing_take [] items (suc n) beside = refl
outgoing_take (tag ∷ tags) [] (suc n) beside = absurd beside
outgoing_take (tag ∷ tags) (item ∷ items) (suc n) beside = ap (λ (os : List Outgoing). outgoing tag item ∷ os) (outgoing_take tags items n beside.2)

outgoing_drop : (tags : List Tag) (items : List Waiting) (n : ℕ) → AreBeside tags items → outgoing_of (drop n tags) (drop n items) ≡ drop n (outgoing_of tags items)
outgoing_drop tags items zero beside = refl
outgoing_drop [] items (suc n) beside = refl
outgoing_drop (tag ∷ tags) [] (suc n) beside = absurd beside
outgoing_drop (tag ∷ tags) (item ∷ items) (suc n) beside = outgoing_drop tags items n beside.2

outgoing_append : (tags more : List Tag) (items others : List Waiting) → AreBeside tags items
    → outgoing_of (tags ++ more) (items ++ others) ≡ outgoing_of tags items ++ outgoing_of more others
outgoing_append [] more [] others beside = refl
outgoing_append [] more (item ∷ items) others beside = absurd beside
outgoing_append (tag ∷ tags) more [] others beside = absurd beside
outgoing_append (tag ∷ tags) more (item ∷ items) others beside = ap (λ (os : List Outgoing). outgoing tag item ∷ os) (outgoing_append tags more items others beside.2)

-- the one in a place before the others
beside_brought : (tags : List Tag) (items : List Waiting) (place : ℕ) → AreBeside tags items → AreBeside (brought_forward place tags) (brought_forward place items)
beside_brought tags items place beside =
    beside_append (take 1 (drop place tags)) (take place tags ++ drop (suc place) tags) (take 1 (drop place items)) (take place items ++ drop (suc place) items)
    (beside_take (drop place tags) (drop place items) 1 (beside_drop tags items place beside))
    (beside_append (take place tags) (drop (suc place) tags) (take place items) (drop (suc place) items)
    (beside_take tags items place beside) (beside_drop tags items (suc place) beside))

outgoing_brought : (tags : List Tag) (items : List Waiting) (place : ℕ) → AreBeside tags items
    → outgoing_of (brought_forward place tags) (brought_forward place items) ≡ brought_forward place (outgoing_of tags items)
outgoing_brought tags items place beside =
    let os : List Outgoing = outgoing_of tags items in
    let here = beside_drop tags items place beside in
    outgoing_append (take 1 (drop place tags)) (take place tags ++ drop (suc place) tags) (take 1 (drop place items)) (take place items ++ drop (suc place) items)
    (beside_take (drop place tags) (drop place items) 1 here)
    ∙ ap (λ (xs : List Outgoing). xs ++ outgoing_of (take place tags ++ drop (suc place) tags) (take place items ++ drop (suc place) items))
    (outgoing_take (drop place tags) (drop place items) 1 here ∙ ap (λ (xs : List Outgoing). take 1 xs) (outgoing_drop tags items place beside))
    ∙ ap (λ (xs : List Outgoing). take 1 (drop place os) ++ xs)
    (outgoing_append (take place tags) (drop (suc place) tags) (take place items) (drop (suc place) items) (beside_take tags items place beside)
    ∙ ap (λ (xs : List Outgoing). xs ++ outgoing_of (drop (suc place) tags) (drop (suc place) items)) (outgoing_take tags items place beside)
    ∙ ap (λ (xs : List Outgoing). take place os ++ xs) (outgoing_drop tags items (suc place) beside))

pub length-brought : {X : Type 0} (xs : List X) (place : ℕ) → length (brought_forward place xs) ≡ length xs
length-brought xs place =
    omega (
      arith,
      length-append (take 1 (drop place xs)) (take place xs ++ drop (suc place) xs),
      length-append (take place xs) (drop (suc place) xs),
      length-take 1 (drop place xs),
      length-take place xs,
      length-drop place xs,
      length-drop (suc place) xs,
    )

-- the socket then
pub stored_brought : (inbox line after : Line) (tags turned : Buffer Tag) (parts place : ℕ) → IsStored inbox line tags parts
    → after ≡ record line { items = brought_forward place line.items } → turned ≡ buffer (ranged place 1 tags.items) tags.capacity
    → IsStored inbox after turned 0
stored_brought inbox line after tags turned parts place stored is_after is_turned =
    let brought_line : Line = record line { items = brought_forward place line.items } in
    subst (λ (l : Line). IsStored inbox l turned 0) (sym is_after)
    (subst (λ (ts : Buffer Tag). IsStored inbox brought_line ts 0) (sym (is_turned ∙ ap (λ (ts : List Tag). buffer ts tags.capacity) (ranged_one tags.items place)))
    (record {
      inbox = stored.inbox;
      outbox = stored.outbox;
      places = stored.places;
      few = omega (arith, length-brought tags.items place, stored.few);
      beside = beside_brought tags.items line.items place stored.beside;
      parts = no_parts (brought_forward place line.items);
    }))

pub brought_later : (s : SocketView) (place : ℕ) → (place ≡ 0 → ⊥) → brought place s ≡ record s { outbox = brought_forward place s.outbox; parts = 0 }
brought_later s zero some = absurd (some refl)
brought_later s (suc place) some = refl

pub brought_first : (s : SocketView) (place : ℕ) → place ≡ 0 → s ≡ brought place s
brought_first s place is = ap (λ (n : ℕ). brought n s) (sym is)

pub shown_brought : (inbox : List Waiting) (line after : Line) (tags turned : Buffer Tag) (parts place : ℕ) (s : SocketView) → (place ≡ 0 → ⊥) → AreBeside tags.items line.items
    → after ≡ record line { items = brought_forward place line.items } → turned ≡ buffer (ranged place 1 tags.items) tags.capacity
    → shown inbox (outgoing_of tags.items line.items) parts ≡ s
    → shown inbox (outgoing_of turned.items after.items) 0 ≡ brought place s
shown_brought inbox line after tags turned parts place s some beside is_after is_turned seen =
    ap (λ (ts : Buffer Tag). shown inbox (outgoing_of ts.items after.items) 0) is_turned
    ∙ ap (λ (ts : List Tag). shown inbox (outgoing_of ts after.items) 0) (ranged_one tags.items place)
    ∙ ap (λ (l : Line). shown inbox (outgoing_of (brought_forward place tags.items) l.items) 0) is_after
    ∙ ap (λ (os : List Outgoing). shown inbox os 0) (outgoing_brought tags.items line.items place beside)
    ∙ ap (λ (x : SocketView). let y : SocketView = record x { outbox = brought_forward place x.outbox; parts = 0 } in y) seen
    ∙ sym (brought_later s place some)

pub brought_between : (s : SocketView) (front back : List Outgoing) (o : Outgoing) → 0 < length front → s.outbox ≡ front ++ o ∷ back
    → brought (length front) s ≡ record s { outbox = o ∷ (front ++ back); parts = 0 }
brought_between s front back o some is =
    brought_later s (length front) (λ none. omega (arith, some, none))
    ∙ ap (λ (os : List Outgoing). let y : SocketView = record s { outbox = os; parts = 0 } in y)
    (ap (λ (os : List Outgoing). brought_forward (length front) os) is ∙ brought_split front back o)

-- the peer of the first then
front_peer : (os zs : List Outgoing) (place : ℕ) (peer : Endpoint) → peer_at place os ≡ Some peer → due_peer (take 1 (drop place os) ++ zs) ≡ Some peer
front_peer [] zs place peer is = cc
front_peer (o ∷ os) zs zero peer is = is
front_peer (o ∷ os) zs (suc place) peer is = front_peer os zs place peer is

first_peer : (os : List Outgoing) → peer_at 0 os ≡ due_peer os
first_peer [] = refl
first_peer (o ∷ os) = refl

pub due_brought : (s : SocketView) (place : ℕ) (peer : Endpoint) → peer_at place s.outbox ≡ Some peer → due_peer (brought place s).outbox ≡ Some peer
due_brought s zero peer is = sym (first_peer s.outbox) ∙ is
due_brought s (suc place) peer is = front_peer s.outbox (take (suc place) s.outbox ++ drop (suc (suc place)) s.outbox) (suc place) peer is
