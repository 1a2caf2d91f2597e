-- How datagrams that wait are stored.
use Rattle.std.proofs.Common.{◌≡◌, ℕ, ◌+◌, ◌-◌, ◌*◌, ◌<◌, ◌≤◌, ◌↔◌, true, false, ◌==◌, subst, min, List, [], ◌∷◌, ◌++◌, length, take, drop, slice_range, Option, Some, None, refl, sym, ◌∙◌, ap, length-append, arith}
use Rattle.std.specs.List.{sum_by, slice_get}
use Rattle.std.specs.Option.{SomeIff, IfSome, IfNone}
use Rattle.std.proofs.lemmas.Bool.Decides.{nat_tests}
use Rattle.std.proofs.lemmas.List.{length-take, length-drop, take-append-le, drop-append-le, take_all, drop-take, take-take}
use Rattle.std.proofs.lemmas.List.Sums.{sum_by-cons, sum_by-append}
use Rattle.circular_buffer.specs.Buffer.{Buffer, buffer, keep_last}
use Rattle.ipv4.specs.declared.addr.Endpoint.{Endpoint}
use Rattle.udp.specs.declared.waiting.Entry.{Entry}
use Rattle.udp.specs.Waiting.{Waiting, counted, IsWithin, HasRoom, entry_of, first_entry, first_octets}
use Rattle.udp.specs.Stored.{items_of, IsStored}

-- what the entries count as the lengths of their octets
abbrev pub lens_of : List Entry → ℕ
lens_of entries = sum_by (λ entry. entry.len) entries

lens_of-cons : (entry : Entry) (entries : List Entry) → lens_of (entry ∷ entries) ≡ entry.len + lens_of entries
lens_of-cons entry entries = sum_by-cons (λ (e : Entry). e.len) entry entries

pub length-items_of : (entries : List Entry) (octets : List ℕ) → length (items_of entries octets) ≡ length entries
length-items_of [] octets = refl
length-items_of (entry ∷ entries) octets = omega (arith, length-items_of entries (drop entry.len octets))

-- what waits counts 8 for each datagram beside all octets
pub load-items_of : (entries : List Entry) (octets : List ℕ) → lens_of entries ≡ length octets
    → sum_by counted (items_of entries octets) ≡ 8 * length entries + length octets
load-items_of [] octets lens = omega (arith, lens)
load-items_of (entry ∷ entries) octets lens =
    let behind : length (drop entry.len octets) ≡ length octets - entry.len = length-drop entry.len octets in
    let taken : length (take entry.len octets) ≡ min entry.len (length octets) = length-take entry.len octets in
    let cons = lens_of-cons entry entries in
    let all = sum_by-cons counted (record { endpoint = entry.endpoint; octets = take entry.len octets }) (items_of entries (drop entry.len octets)) in
    omega (arith, lens, cons, all, behind, taken, load-items_of entries (drop entry.len octets) (omega (arith, lens, cons, behind)))

-- a datagram behind the others
pub items_of-push : (entries : List Entry) (octets new : List ℕ) (endpoint : Endpoint) → lens_of entries ≡ length octets
    → items_of (entries ++ record { endpoint = endpoint; len = length new } ∷ []) (octets ++ new)
    ≡ items_of entries octets ++ record { endpoint = endpoint; octets = new } ∷ []
items_of-push [] [] new endpoint lens = ap (λ (xs : List ℕ). record { endpoint = endpoint; octets = xs } ∷ []) (take_all (length new) new (omega arith))
items_of-push [] (octet ∷ octets) new endpoint lens = absurd (omega (arith, lens))
items_of-push (entry ∷ entries) octets new endpoint lens =
    let cons = lens_of-cons entry entries in
    let within : entry.len ≤ length octets = omega (arith, lens, cons) in
    let behind : lens_of entries ≡ length (drop entry.len octets) = omega (arith, lens, cons, length-drop entry.len octets) in
    ap (λ (xs : List ℕ). record { endpoint = entry.endpoint; octets = xs } ∷ items_of (entries ++ record { endpoint = endpoint; len = length new } ∷ []) (drop entry.len (octets ++ new)))
    (take-append-le entry.len octets new within)
    ∙ ap (λ (xs : List ℕ). record { endpoint = entry.endpoint; octets = take entry.len octets } ∷ items_of (entries ++ record { endpoint = endpoint; len = length new } ∷ []) xs)
    (drop-append-le entry.len octets new within)
    ∙ ap (λ (items : List Waiting). record { endpoint = entry.endpoint; octets = take entry.len octets } ∷ items)
    (items_of-push entries (drop entry.len octets) new endpoint behind)

-- what is known of the first datagram
pub first_stored : (entries : List Entry) (octets : List ℕ) → lens_of entries ≡ length octets
    → slice_get entries 0 ≡ first_entry (items_of entries octets)
first_stored [] octets lens = refl
first_stored (entry ∷ entries) octets lens =
    let taken : entry.len ≡ length (take entry.len octets) = omega (arith, lens, lens_of-cons entry entries, length-take entry.len octets) in
    ap (λ (n : ℕ). Some (record { endpoint = entry.endpoint; len = n })) taken

-- a range of a list and of its beginning, and one that is empty
inside : (octets : List ℕ) (at n len : ℕ) → at + n ≤ len → slice_range (take len octets) at (at + n) ≡ slice_range octets at (at + n)
inside octets at n len below =
    let split : len ≡ at + (len - at) = omega arith in
    let parts : drop at (take len octets) ≡ take (len - at) (drop at octets) =
    ap (λ (m : ℕ). drop at (take m octets)) split ∙ drop-take at (len - at) octets in
    ap (λ (xs : List ℕ). take (at + n - at) xs) parts ∙ take-take (at + n - at) (len - at) (drop at octets) (omega arith)

nothing : (octets : List ℕ) (at n : ℕ) → at + n ≤ 0 → slice_range [] at (at + n) ≡ slice_range octets at (at + n)
nothing octets at n none =
    let count : at + n - at ≡ 0 = omega arith in
    ap (λ (m : ℕ). take m (drop at [])) count ∙ sym (ap (λ (m : ℕ). take m (drop at octets)) count)

-- the octets of the first datagram stand first
pub first_octets_stored : (entries : List Entry) (octets : List ℕ) (at n : ℕ) → lens_of entries ≡ length octets
    → at + n ≤ length (first_octets (items_of entries octets))
    → (at + n ≤ length octets) × (slice_range (first_octets (items_of entries octets)) at (at + n) ≡ slice_range octets at (at + n))
first_octets_stored [] octets at n lens within = (omega (arith, within), nothing octets at n (omega (arith, within)))
first_octets_stored (entry ∷ entries) octets at n lens within =
    let taken : length (take entry.len octets) ≡ min entry.len (length octets) = length-take entry.len octets in
    let below : at + n ≤ entry.len = omega (arith, within, taken) in
    (omega (arith, within, taken), inside octets at n entry.len below)

-- so they are the first of all, as many as they are
pub first_octets_are : (entries : List Entry) (octets : List ℕ) → lens_of entries ≡ length octets
    → (length (first_octets (items_of entries octets)) ≤ length octets)
    × (first_octets (items_of entries octets) ≡ take (length (first_octets (items_of entries octets))) octets)
first_octets_are entries octets lens =
    let first : List ℕ = first_octets (items_of entries octets) in
    let stored = first_octets_stored entries octets 0 (length first) lens (omega arith) in
    let count : 0 + length first - 0 ≡ length first = omega arith in (
      omega (arith, stored.0),
      sym (take_all (length first) first (omega arith)) ∙ ap (λ (n : ℕ). take n first) (sym count) ∙ stored.1 ∙ ap (λ (n : ℕ). take n octets) count,
    )

-- what is known of the first datagram tells how many octets it has
pub first_len : (items : List Waiting) (entry : Entry) → first_entry items ≡ Some entry → entry.len ≡ length (first_octets items)
first_len [] entry is = cc
first_len (item ∷ items) entry is =
    let same : entry_of item ≡ entry = cc in
    ap (λ (e : Entry). e.len) (sym same)

-- where nothing waits there is no octet
pub none_first : (items : List Waiting) → first_entry items ≡ None → first_octets items ≡ []
none_first [] is = refl
none_first (item ∷ items) is = cc

-- what waits keeps the limits
pub within_stored : (entries : Buffer Entry) (octets : Buffer ℕ) → IsStored entries octets
    → IsWithin (record { items = items_of entries.items octets.items; capacity = octets.capacity })
within_stored entries octets stored = record {
  datagrams = omega (arith, stored.datagrams, length-items_of entries.items octets.items);
  octets = omega (arith, stored.within, load-items_of entries.items octets.items stored.lens);
}

-- room for a further datagram, by the lengths of what is stored
pub room_stored : (entries : Buffer Entry) (octets : Buffer ℕ) (len : ℕ) → IsStored entries octets
    → HasRoom (record { items = items_of entries.items octets.items; capacity = octets.capacity }) len
    ↔ ((length entries.items < 64) × (8 * length entries.items + length octets.items + (8 + len) ≤ octets.capacity))
room_stored entries octets len stored =
    let count = length-items_of entries.items octets.items in
    let all = load-items_of entries.items octets.items stored.lens in (
      λ room. (omega (arith, count, room.datagrams), omega (arith, all, room.octets)),
      λ fits. record { datagrams = omega (arith, count, fits.0); octets = omega (arith, all, fits.1) },
    )

-- fewer wait than may
pub not_full : (entries : Buffer Entry) (octets : Buffer ℕ) → IsStored entries octets → (length entries.items == entries.capacity) ≡ false → length entries.items < 64
not_full entries octets stored test = grind (arith, nat_tests, test, stored.places, stored.datagrams)

pub no_place : (entries : Buffer Entry) (octets : Buffer ℕ) (len : ℕ) → IsStored entries octets → (length entries.items == entries.capacity) ≡ true
    → HasRoom (record { items = items_of entries.items octets.items; capacity = octets.capacity }) len → ⊥
no_place entries octets len stored test room =
    let fits = (room_stored entries octets len stored).0 room in
    grind (arith, nat_tests, test, stored.places, fits.0)

-- the most octets of a further datagram
pub most_stored : (entries : Buffer Entry) (octets : Buffer ℕ) (capacity count held : ℕ) (most : Option ℕ) → IsStored entries octets
    → length entries.items < 64 → capacity ≡ octets.capacity → count ≡ length entries.items → held ≡ length octets.items
    → SomeIff most (8 ≤ capacity - (8 * count + held)) (capacity - (8 * count + held) - 8)
    → IfSome most (λ most. (len : ℕ) → HasRoom (record { items = items_of entries.items octets.items; capacity = octets.capacity }) len ↔ (len ≤ most))
most_stored entries octets capacity count held None stored few is_capacity is_count is_held told = tt
most_stored entries octets capacity count held (Some most) stored few is_capacity is_count is_held told = λ len.
    let room = room_stored entries octets len stored in (
      λ has. let fits = room.0 has in omega (arith, fits.1, told.0, told.1, is_capacity, is_count, is_held),
      λ below. room.1 (few, omega (arith, below, told.0, told.1, is_capacity, is_count, is_held)),
    )

pub none_stored : (entries : Buffer Entry) (octets : Buffer ℕ) (capacity count held : ℕ) (most : Option ℕ) → IsStored entries octets
    → capacity ≡ octets.capacity → count ≡ length entries.items → held ≡ length octets.items
    → SomeIff most (8 ≤ capacity - (8 * count + held)) (capacity - (8 * count + held) - 8)
    → IfNone most ((len : ℕ) → HasRoom (record { items = items_of entries.items octets.items; capacity = octets.capacity }) len → ⊥)
none_stored entries octets capacity count held (Some most) stored is_capacity is_count is_held told = tt
none_stored entries octets capacity count held None stored is_capacity is_count is_held told = λ len has.
    let fits = (room_stored entries octets len stored).0 has in
    told (omega (arith, fits.1, is_capacity, is_count, is_held))

-- what is stored behind a datagram that has room
pub grown : (entries : Buffer Entry) (octets : Buffer ℕ) (endpoint : Endpoint) (new : List ℕ) → IsStored entries octets
    → HasRoom (record { items = items_of entries.items octets.items; capacity = octets.capacity }) (length new)
    → IsStored (buffer (entries.items ++ record { endpoint = endpoint; len = length new } ∷ []) entries.capacity) (buffer (octets.items ++ new) octets.capacity)
grown entries octets endpoint new stored room =
    let fits = (room_stored entries octets (length new) stored).0 room in
    let e : Entry = record { endpoint = endpoint; len = length new } in
    let count : length (entries.items ++ e ∷ []) ≡ length entries.items + 1 = length-append entries.items (e ∷ []) in
    let held : length (octets.items ++ new) ≡ length octets.items + length new = length-append octets.items new in
    let lens : lens_of (entries.items ++ e ∷ []) ≡ lens_of entries.items + lens_of (e ∷ []) = sum_by-append (λ (x : Entry). x.len) entries.items (e ∷ []) in
    let none : lens_of [] ≡ 0 = refl in
    let one : lens_of (e ∷ []) ≡ length new = omega (arith, lens_of-cons e [], none) in
    record {
      places = stored.places;
      datagrams = omega (arith, count, fits.0);
      lens = omega (arith, lens, one, held, stored.lens);
      within = omega (arith, count, held, fits.1);
    }

-- what the two rings hold after a datagram that has room
pub entries_after : (entries after : Buffer Entry) (octets : Buffer ℕ) (e : Entry) (len : ℕ) → IsStored entries octets
    → HasRoom (record { items = items_of entries.items octets.items; capacity = octets.capacity }) len
    → after ≡ buffer (keep_last entries.capacity (entries.items ++ e ∷ [])) entries.capacity → after ≡ buffer (entries.items ++ e ∷ []) entries.capacity
entries_after entries after octets e len stored room is =
    let fits = (room_stored entries octets len stored).0 room in
    let all : length (entries.items ++ e ∷ []) - entries.capacity ≡ 0 = omega (arith, length-append entries.items (e ∷ []), fits.0, stored.places) in
    is ∙ ap (λ (n : ℕ). buffer (drop n (entries.items ++ e ∷ [])) entries.capacity) all

pub octets_after : (entries : Buffer Entry) (octets after : Buffer ℕ) (new : List ℕ) (count : ℕ) → IsStored entries octets
    → HasRoom (record { items = items_of entries.items octets.items; capacity = octets.capacity }) (length new)
    → count ≡ min (length new) (octets.capacity - length octets.items) → after ≡ buffer (octets.items ++ take count new) octets.capacity
    → after ≡ buffer (octets.items ++ new) octets.capacity
octets_after entries octets after new count stored room is_count is =
    let fits = (room_stored entries octets (length new) stored).0 room in
    is ∙ ap (λ (xs : List ℕ). buffer (octets.items ++ xs) octets.capacity) (take_all count new (omega (arith, is_count, fits.1)))

-- the first datagram counts no more than there may be
pub first_fits : (entries : Buffer Entry) (octets : Buffer ℕ) (first : Option Entry) → IsStored entries octets → first ≡ slice_get entries.items 0
    → IfSome first (λ entry. 8 + entry.len ≤ octets.capacity)
first_fits entries octets first stored is =
    subst (λ (o : Option Entry). IfSome o (λ entry. 8 + entry.len ≤ octets.capacity)) (sym is)
    (of_list entries.items (length octets.items) octets.capacity stored.lens stored.within)
  where
    of_list : (es : List Entry) (held capacity : ℕ) → lens_of es ≡ held → 8 * length es + held ≤ capacity → IfSome (slice_get es 0) (λ entry. 8 + entry.len ≤ capacity)
    of_list [] held capacity lens within = tt
    of_list (e ∷ es) held capacity lens within = omega (arith, lens, within, lens_of-cons e es)
