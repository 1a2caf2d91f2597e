-- What is stored once the first datagram stands behind the others.
use Rattle.std.proofs.Common.{◌≡◌, ℕ, ◌+◌, ◌-◌, ◌<◌, ◌≤◌, List, [], ◌∷◌, ◌++◌, length, take, drop, Some, refl, sym, ◌∙◌, ap, length-append, arith}
use Rattle.std.specs.List.{slice_get}
use Rattle.std.proofs.lemmas.List.{length-take, length-drop}
use Rattle.std.proofs.lemmas.List.Sums.{sum_by-cons, sum_by-append}
use Rattle.circular_buffer.specs.Buffer.{Buffer, buffer, keep_last}
use Rattle.udp.specs.declared.waiting.Entry.{Entry}
use Rattle.udp.specs.Stored.{items_of, IsStored}
use Rattle.udp.proofs.Storing.{lens_of, items_of-push}
use Rattle.udp.proofs.Turning.{turned, length-turned, length-rest, pushed_whole}

-- the first entry is there, and counts no more octets than there are
pub first_lens : (entries : List Entry) (e : Entry) (held : ℕ) → slice_get entries 0 ≡ Some e → lens_of entries ≡ held
    → (0 < length entries) × (e.len ≤ held) × (lens_of (drop 1 entries) ≡ held - e.len)
first_lens [] e held is lens = cc
first_lens (f ∷ entries) e held is lens =
    let same : f ≡ e = cc in
    let count : f.len ≡ e.len = ap (λ (x : Entry). x.len) same in
    let cons = sum_by-cons (λ (x : Entry). x.len) f entries in
    (omega arith, omega (arith, lens, cons, count), omega (arith, lens, cons, count))

-- the entries then
pub entries_turned : (entries popped after : Buffer Entry) (e : Entry) (octets : Buffer ℕ) → IsStored entries octets → slice_get entries.items 0 ≡ Some e
    → popped ≡ buffer (drop 1 entries.items) entries.capacity → after ≡ buffer (keep_last popped.capacity (popped.items ++ e ∷ [])) popped.capacity
    → after ≡ buffer (drop 1 entries.items ++ e ∷ []) entries.capacity
entries_turned entries popped after e octets stored first is_popped is =
    let some = (first_lens entries.items e (length octets.items) first stored.lens).0 in
    let few : length (drop 1 entries.items) < entries.capacity = omega (arith, stored.datagrams, stored.places, length-rest entries.items some) in
    is ∙ ap (λ (b : Buffer Entry). buffer (keep_last b.capacity (b.items ++ e ∷ [])) b.capacity) is_popped
    ∙ ap (λ (es : List Entry). buffer es entries.capacity) (pushed_whole (drop 1 entries.items) e entries.capacity few)

pub stored_turned : (entries : Buffer Entry) (octets : Buffer ℕ) (e : Entry) → IsStored entries octets → slice_get entries.items 0 ≡ Some e
    → IsStored (buffer (drop 1 entries.items ++ e ∷ []) entries.capacity) (buffer (turned e.len octets.items) octets.capacity)
stored_turned entries octets e stored is =
    let first = first_lens entries.items e (length octets.items) is stored.lens in
    let rest : List Entry = drop 1 entries.items in
    let count : length (rest ++ e ∷ []) ≡ length entries.items = omega (arith, length-append rest (e ∷ []), length-rest entries.items first.0) in
    let lens : lens_of (rest ++ e ∷ []) ≡ lens_of rest + lens_of (e ∷ []) = sum_by-append (λ (x : Entry). x.len) rest (e ∷ []) in
    let none : lens_of [] ≡ 0 = refl in
    let one : lens_of (e ∷ []) ≡ e.len = omega (arith, sum_by-cons (λ (x : Entry). x.len) e [], none) in
    let held = length-turned e.len octets.items in
    record {
      places = stored.places;
      datagrams = omega (arith, count, stored.datagrams);
      lens = omega (arith, lens, one, first.1, first.2, held);
      within = omega (arith, count, held, stored.within);
    }

pub items_turned : (entries : List Entry) (octets : List ℕ) (e : Entry) → lens_of entries ≡ length octets → slice_get entries 0 ≡ Some e
    → items_of (drop 1 entries ++ e ∷ []) (turned e.len octets) ≡ drop 1 (items_of entries octets) ++ take 1 (items_of entries octets)
items_turned [] octets e lens is = cc
items_turned (f ∷ entries) octets e lens is =
    let same : f ≡ e = cc in
    let cons = sum_by-cons (λ (x : Entry). x.len) f entries in
    let moved : List ℕ = take f.len octets in
    let size : length moved ≡ f.len = omega (arith, lens, cons, length-take f.len octets) in
    let behind : lens_of entries ≡ length (drop f.len octets) = omega (arith, lens, cons, length-drop f.len octets) in
    ap (λ (x : Entry). items_of (entries ++ x ∷ []) (turned x.len octets)) (sym same)
    ∙ ap (λ (n : ℕ). items_of (entries ++ record { endpoint = f.endpoint; len = n } ∷ []) (drop f.len octets ++ moved)) (sym size)
    ∙ items_of-push entries (drop f.len octets) moved f.endpoint behind
