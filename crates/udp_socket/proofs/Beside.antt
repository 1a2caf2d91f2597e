-- How the outgoing datagrams are stored.
use Rattle.std.proofs.Common.{◌≡◌, ℕ, ◌+◌, ◌-◌, ◌*◌, ◌<◌, ◌≤◌, true, nat_lt, List, [], ◌∷◌, ◌++◌, length, map, drop, Some, None, Result, Ok, Err, IsOk, IsErr, refl, sym, ◌∙◌, ap, length-append, arith}
use Rattle.std.specs.List.{slice_get}
use Rattle.std.proofs.lemmas.Bool.Decides.{nat_tests}
use Rattle.circular_buffer.specs.Buffer.{Buffer, buffer, keep_last}
use Rattle.ipv4.specs.declared.addr.Endpoint.{Endpoint}
use Rattle.udp.specs.Waiting.{Waiting, Line, HasRoom, first_entry, first_octets}
use Rattle.udp_socket.specs.declared.tag.Tag.{Tag}
use Rattle.udp_socket.specs.SocketView.{Outgoing, SocketView, line_of, waiting_of}
use Rattle.udp_socket.specs.Stored.{outgoing, outgoing_of, AreBeside, ArePartsOf, IsStored}
use Rattle.udp_socket.specs.Emission.{has_more}

pub not_ok : {A B : Type 0} (r : Result A B) → IsErr r → IsOk r → ⊥
not_ok (Ok x) err ok = cc
not_ok (Err e) err ok = cc

pub beside_len : (tags : List Tag) (items : List Waiting) → AreBeside tags items → length tags ≡ length items
beside_len [] [] beside = refl
beside_len [] (item ∷ items) beside = absurd beside
beside_len (tag ∷ tags) [] beside = absurd beside
beside_len (tag ∷ tags) (item ∷ items) beside = omega (arith, beside_len tags items beside.2)

-- the queue holds the datagrams that the socket shows
pub waiting_beside : (tags : List Tag) (items : List Waiting) → AreBeside tags items → map waiting_of (outgoing_of tags items) ≡ items
waiting_beside [] [] beside = refl
waiting_beside [] (item ∷ items) beside = absurd beside
waiting_beside (tag ∷ tags) [] beside = absurd beside
waiting_beside (tag ∷ tags) (item ∷ items) beside =
    ap (λ (p : Endpoint). let w : Waiting = record { endpoint = p; octets = item.octets } in w ∷ map waiting_of (outgoing_of tags items)) (sym beside.0)
    ∙ ap (λ (ws : List Waiting). item ∷ ws) (waiting_beside tags items beside.2)

pub line_stored : (tags : List Tag) (line : Line) → AreBeside tags line.items → line.capacity ≡ 65535 → line_of (map waiting_of (outgoing_of tags line.items)) ≡ line
line_stored tags line beside capacity =
    ap (λ (ws : List Waiting). line_of ws) (waiting_beside tags line.items beside)
    ∙ ap (λ (n : ℕ). let l : Line = record { items = line.items; capacity = n } in l) (sym capacity)

-- a datagram behind the others
pub beside_push : (tags : List Tag) (items : List Waiting) (tag : Tag) (item : Waiting) → AreBeside tags items → item.endpoint ≡ tag.peer → length item.octets ≤ 65507
    → AreBeside (tags ++ tag ∷ []) (items ++ item ∷ [])
beside_push [] [] tag item beside same most = (same, most, tt)
beside_push [] (w ∷ ws) tag item beside same most = absurd beside
beside_push (t ∷ ts) [] tag item beside same most = absurd beside
beside_push (t ∷ ts) (w ∷ ws) tag item beside same most = (beside.0, beside.1, beside_push ts ws tag item beside.2 same most)

pub outgoing_push : (tags : List Tag) (items : List Waiting) (tag : Tag) (item : Waiting) → AreBeside tags items
    → outgoing_of (tags ++ tag ∷ []) (items ++ item ∷ []) ≡ outgoing_of tags items ++ outgoing tag item ∷ []
outgoing_push [] [] tag item beside = refl
outgoing_push [] (w ∷ ws) tag item beside = absurd beside
outgoing_push (t ∷ ts) [] tag item beside = absurd beside
outgoing_push (t ∷ ts) (w ∷ ws) tag item beside = ap (λ (os : List Outgoing). outgoing t w ∷ os) (outgoing_push ts ws tag item beside.2)

parts_push : (items : List Waiting) (item : Waiting) (parts : ℕ) → ArePartsOf items parts → ArePartsOf (items ++ item ∷ []) parts
parts_push [] item parts are = omega (arith, are)
parts_push (w ∷ ws) item parts are = are

pub tags_after : (tags after : Buffer Tag) (line : Line) (tag : Tag) (len : ℕ) → tags.capacity ≡ 64 → AreBeside tags.items line.items → HasRoom line len
    → after ≡ buffer (keep_last tags.capacity (tags.items ++ tag ∷ [])) tags.capacity → after ≡ buffer (tags.items ++ tag ∷ []) tags.capacity
tags_after tags after line tag len places beside room is =
    let all : length (tags.items ++ tag ∷ []) - tags.capacity ≡ 0 =
    omega (arith, length-append tags.items (tag ∷ []), beside_len tags.items line.items beside, room.datagrams, places) in
    is ∙ ap (λ (n : ℕ). buffer (drop n (tags.items ++ tag ∷ [])) tags.capacity) all

pub stored_push : (inbox line : Line) (tags : Buffer Tag) (parts : ℕ) (tag : Tag) (item : Waiting) → IsStored inbox line tags parts → item.endpoint ≡ tag.peer
    → length item.octets ≤ 65507 → length line.items < 64
    → IsStored inbox (record line { items = line.items ++ item ∷ [] }) (buffer (tags.items ++ tag ∷ []) tags.capacity) parts
stored_push inbox line tags parts tag item stored same most room = record {
  inbox = stored.inbox;
  outbox = stored.outbox;
  places = stored.places;
  few = omega (arith, length-append tags.items (tag ∷ []), beside_len tags.items line.items stored.beside, room);
  beside = beside_push tags.items line.items tag item stored.beside same most;
  parts = parts_push line.items item parts stored.parts;
}

-- the first datagram, beside what is known of it
pub first_out : (tags : List Tag) (items : List Waiting) (tag : Tag) → AreBeside tags items → slice_get tags 0 ≡ Some tag
    → outgoing_of tags items ≡ outgoing tag (record { endpoint = tag.peer; octets = first_octets items }) ∷ outgoing_of (drop 1 tags) (drop 1 items)
first_out [] items tag beside is = cc
first_out (t ∷ ts) [] tag beside is = absurd beside
first_out (t ∷ ts) (w ∷ ws) tag beside is =
    let same : t ≡ tag = cc in
    ap (λ (x : Tag). outgoing x (record { endpoint = x.peer; octets = w.octets }) ∷ outgoing_of ts ws) same

pub no_tag : (inbox : List Waiting) (tags : List Tag) (items : List Waiting) (parts : ℕ) (s : SocketView) → slice_get tags 0 ≡ None
    → record { inbox = inbox; outbox = outgoing_of tags items; parts = parts } ≡ s → 0 < length s.outbox → ⊥
no_tag inbox [] items parts s none is due =
    let empty : 0 ≡ length s.outbox = ap (λ (x : SocketView). length x.outbox) is in omega (arith, due, empty)
no_tag inbox (tag ∷ tags) items parts s none is due = cc

pub no_first : (tags : List Tag) (items : List Waiting) (tag : Tag) → AreBeside tags items → slice_get tags 0 ≡ Some tag → first_entry items ≡ None → ⊥
no_first [] items tag beside is none = cc
no_first (t ∷ ts) [] tag beside is none = beside
no_first (t ∷ ts) (w ∷ ws) tag beside is none = cc

-- at most 45 fragments, so their number has room
pub few_parts : (tags : List Tag) (items : List Waiting) (parts : ℕ) → AreBeside tags items → ArePartsOf items parts → parts < 46
few_parts [] [] parts beside are = omega (arith, are)
few_parts [] (item ∷ items) parts beside are = absurd beside
few_parts (tag ∷ tags) [] parts beside are = absurd beside
few_parts (tag ∷ tags) (item ∷ items) parts beside are = omega (arith, are, beside.1)

-- one more of the first has gone out
pub further : (inbox : List Waiting) (tags : List Tag) (items : List Waiting) (parts : ℕ) (s : SocketView) → AreBeside tags items
    → record { inbox = inbox; outbox = outgoing_of tags items; parts = parts } ≡ s → has_more s ≡ true → ArePartsOf items (parts + 1)
further inbox [] items parts s beside is more =
    let no = ap has_more is in absurd (cc)
further inbox (tag ∷ tags) [] parts s beside is more = absurd beside
further inbox (tag ∷ tags) (item ∷ items) parts s beside is more =
    let told : nat_lt (1480 * (parts + 1)) (8 + length item.octets) ≡ true = ap has_more is ∙ more in
    let below : 1480 * (parts + 1) < 8 + length item.octets = grind (arith, nat_tests, told) in
    omega (arith, below)
