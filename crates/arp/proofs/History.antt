-- What holds of a cache whatever happens to it.
use Rattle.std.proofs.Common.{◌≡◌, ℕ, zero, suc, ◌+◌, ◌<◌, ◌≤◌, Bool, true, false, nat_eq, nat_lt, List, [], ◌∷◌, ◌++◌, length, filter, fold, cond, refl, sym, ◌∙◌, ap, subst, arith, length-append}
use Rattle.std.specs.Cmp.Lexicographic.{pointwise}
use Rattle.std.specs.List.{list_any, remove}
use Rattle.std.proofs.lemmas.Bool.Decides.{nat_tests}
use Rattle.std.proofs.lemmas.List.{get_or_default, length-map}
use Rattle.std.proofs.lemmas.List.Edits.{length-remove}
use Rattle.std.proofs.lemmas.Slice.Eq.{bytes_eq-Decides}
use Rattle.ipv4.specs.declared.addr.Addr.{Addr}
use Rattle.arp.specs.declared.entry.Asked.{Asked}
use Rattle.arp.specs.declared.entry.Neighbour.{Neighbour}
use Rattle.clock.specs.declared.moment.Moment.{Moment}
use Rattle.arp.specs.Cache.{Cache, empty, is_pair_of, is_live_pair, is_live_note, after_sender, updated, longest_unheard, added, pairs_after, sender_of, live_notes, has_place_for, asked_after}
use Rattle.ipv4.specs.Addresses.{same_addr}
use Rattle.arp.specs.Events.{Event, after_event, cache_after}
use Rattle.arp.specs.Events.Event.{Hear, Ask, Age}
use Rattle.arp.proofs.Asking.{has_place}
use Rattle.arp.proofs.Counts.{one_if, passing, passing-append, passing-filter, passing-remove, passing-map, passing-none, passing-cons}
use Rattle.arp.proofs.Unheard.{heard_at, IsFirstUnheard, takes, keeps, is_longest_unheard_place}

-- Addresses are the same where their octets are.

pub same_octets : (a b : Addr) → same_addr a b ≡ true → a.0 ≡ b.0
same_octets a b = (bytes_eq-Decides a.0 b.0).0

pub same_addr-refl : (a : Addr) → same_addr a a ≡ true
same_addr-refl a = (bytes_eq-Decides a.0 a.0).1 refl

-- One pair an address.

abbrev pub IsOnePairEach : List Neighbour → Type 0
IsOnePairEach pairs = (addr : Addr) → passing (is_pair_of addr) pairs ≤ 1

same_after_sender : (addr : Addr) (sender pair : Neighbour) → is_pair_of addr (after_sender sender pair) ≡ is_pair_of addr pair
same_after_sender addr sender pair = either (is_pair_of sender.addr pair) refl
  where
    either : (b : Bool) → is_pair_of sender.addr pair ≡ b → is_pair_of addr (cond b sender pair) ≡ is_pair_of addr pair
    either true e = ap (λ l. pointwise nat_eq l addr.0) (sym (same_octets pair.addr sender.addr e))
    either false e = refl

-- a pair of an address that no pair has
one_more : (pairs base : List Neighbour) (sender : Neighbour) → list_any (is_pair_of sender.addr) pairs ≡ false → IsOnePairEach pairs
    → ((p : Neighbour → Bool) → passing p base ≤ passing p pairs) → IsOnePairEach (base ++ sender ∷ [])
one_more pairs base sender unknown each fewer addr = either (is_pair_of addr sender) refl
  where
    either : (b : Bool) → is_pair_of addr sender ≡ b → passing (is_pair_of addr) (base ++ sender ∷ []) ≤ 1
    either true e =
        let octets : sender.addr.0 ≡ addr.0 = same_octets sender.addr addr e in
        let none : passing (is_pair_of addr) pairs ≡ 0 = ap (λ l. passing (λ pair. pointwise nat_eq pair.addr.0 l) pairs) (sym octets) ∙ passing-none (is_pair_of sender.addr) pairs unknown in
        omega (arith, passing-append (is_pair_of addr) base (sender ∷ []), passing-cons (is_pair_of addr) sender [], ap one_if e, none, fewer (is_pair_of addr))
    either false e =
        omega (arith, passing-append (is_pair_of addr) base (sender ∷ []), passing-cons (is_pair_of addr) sender [], ap one_if e, fewer (is_pair_of addr), each addr)

hearing_keeps_one : (most : ℕ) (sender : Neighbour) (is_for_us : Bool) (pairs : List Neighbour) → IsOnePairEach pairs → IsOnePairEach (pairs_after most sender is_for_us pairs)
unfolding pairs_after
hearing_keeps_one most sender is_for_us pairs each = known (list_any (is_pair_of sender.addr) pairs) refl
  where
    room : (b : Bool) → (p : Neighbour → Bool) → passing p (cond b pairs (remove pairs (longest_unheard pairs))) ≤ passing p pairs
    room true p = omega arith
    room false p = passing-remove p pairs (longest_unheard pairs)

    for_us : (b : Bool) → list_any (is_pair_of sender.addr) pairs ≡ false → IsOnePairEach (cond b (added most sender pairs) pairs)
    for_us true unknown = one_more pairs (cond (nat_lt (length pairs) most) pairs (remove pairs (longest_unheard pairs))) sender unknown each (room (nat_lt (length pairs) most))
    for_us false unknown = each

    known : (b : Bool) → list_any (is_pair_of sender.addr) pairs ≡ b → IsOnePairEach (cond b (updated sender pairs) (cond is_for_us (added most sender pairs) pairs))
    known true e = λ addr. omega (arith, passing-map (is_pair_of addr) (after_sender sender) (same_after_sender addr sender) pairs, each addr)
    known false e = for_us is_for_us e

-- The longest unheard pair has a place in a table that isn't empty.

none : Neighbour
none = record { addr = record { 0 = [] }; mac = record { 0 = [] }; heard = record { 0 = 0 } }

pub some_first : (pairs : List Neighbour) (count : ℕ) → 0 < length pairs → count ≤ length pairs → (place : ℕ) × IsFirstUnheard pairs count place
some_first pairs zero some within = (0, record { within = some; passed = omega arith; least = λ k d below. absurd (omega arith); first = λ k d below. absurd (omega arith) })
some_first pairs (suc count) some within =
    let so_far = some_first pairs count some (omega arith) in
    either so_far.0 so_far.1 (nat_lt (heard_at pairs count none) (heard_at pairs so_far.0 none)) refl
  where
    default : (i : ℕ) (d : Neighbour) → i < length pairs → heard_at pairs i d ≡ heard_at pairs i none
    default i d inside = ap (λ (pair : Neighbour). pair.heard.0) (get_or_default pairs i d none inside)

    either : (place : ℕ) → IsFirstUnheard pairs count place → (b : Bool) → nat_lt (heard_at pairs count none) (heard_at pairs place none) ≡ b
        → (place : ℕ) × IsFirstUnheard pairs (suc count) place
    either place found true e =
        let before : heard_at pairs count none < heard_at pairs place none = grind (arith, nat_tests, e) in
        (count, subst_count (takes pairs count place found (omega arith) (λ d. omega (arith, before, default count d (omega arith), default place d found.within))))
      where
        subst_count : IsFirstUnheard pairs (count + 1) count → IsFirstUnheard pairs (suc count) count
        subst_count f = record { within = f.within; passed = omega (arith, f.passed); least = λ k d below. f.least k d (omega arith); first = f.first }
    either place found false e =
        let after : heard_at pairs place none ≤ heard_at pairs count none = grind (arith, nat_tests, e) in
        (place, subst_count (keeps pairs count place found (λ d. omega (arith, after, default count d (omega arith), default place d found.within))))
      where
        subst_count : IsFirstUnheard pairs (count + 1) place → IsFirstUnheard pairs (suc count) place
        subst_count f = record { within = f.within; passed = omega (arith, f.passed); least = λ k d below. f.least k d (omega arith); first = f.first }

longest_unheard-within : (pairs : List Neighbour) → 0 < length pairs → longest_unheard pairs < length pairs
longest_unheard-within pairs some =
    let found = some_first pairs (length pairs) some (omega arith) in
    omega (arith, is_longest_unheard_place pairs found.0 found.1, found.1.within)

-- At most as many pairs as may be kept, and at most 64 notes.

hearing_keeps_few : (most : ℕ) (sender : Neighbour) (is_for_us : Bool) (pairs : List Neighbour) → 0 < most → length pairs ≤ most → length (pairs_after most sender is_for_us pairs) ≤ most
unfolding pairs_after
hearing_keeps_few most sender is_for_us pairs some few = known (list_any (is_pair_of sender.addr) pairs)
  where
    room : (b : Bool) → nat_lt (length pairs) most ≡ b → length (cond b pairs (remove pairs (longest_unheard pairs))) < most
    room true e = grind (arith, nat_tests, e)
    room false e =
        let full : most ≤ length pairs = grind (arith, nat_tests, e) in
        omega (arith, few, full, length-remove pairs (longest_unheard pairs) (longest_unheard-within pairs (omega (arith, some, full))))

    for_us : (b : Bool) → length (cond b (added most sender pairs) pairs) ≤ most
    for_us true = omega (arith, room (nat_lt (length pairs) most) refl, length-append (cond (nat_lt (length pairs) most) pairs (remove pairs (longest_unheard pairs))) (sender ∷ []))
    for_us false = few

    known : (b : Bool) → length (cond b (updated sender pairs) (cond is_for_us (added most sender pairs) pairs)) ≤ most
    known true = omega (arith, few, length-map pairs (after_sender sender))
    known false = for_us is_for_us

pub length-filter-le : {X : Type 0} (p : X → Bool) (xs : List X) → length (filter p xs) ≤ length xs
length-filter-le p [] = omega arith
length-filter-le p (x ∷ xs) = omega (arith, passing-cons p x xs, at_most_one (p x), length-filter-le p xs)
  where
    at_most_one : (b : Bool) → one_if b ≤ 1
    at_most_one true = omega arith
    at_most_one false = omega arith

asking_keeps_few : (now : Moment) (addr : Addr) (asked : List Asked) → length asked ≤ 64 → length (asked_after now addr asked) ≤ 64
unfolding asked_after
asking_keeps_few now addr asked few = either (has_place_for addr (live_notes now asked)) refl
  where
    live : length (live_notes now asked) ≤ 64
    live = omega (arith, few, length-filter-le (is_live_note now) asked)

    either : (b : Bool) → has_place_for addr (live_notes now asked) ≡ b → length (cond b (live_notes now asked ++ record { addr = addr; at = now } ∷ []) (live_notes now asked)) ≤ 64
    either true e = omega (arith, has_place addr (live_notes now asked) e, length-append (live_notes now asked) (record { addr = addr; at = now } ∷ []))
    either false e = live

-- Over every list of events.

record IsLawful (most : ℕ) (cache : Cache) : Type 0 where
  most_is : cache.most ≡ most
  one_pair_each : IsOnePairEach cache.pairs
  few_pairs : 0 < cache.most → length cache.pairs ≤ cache.most
  few_notes : length cache.asked ≤ 64

event_keeps : (most : ℕ) (cache : Cache) (event : Event) → IsLawful most cache → IsLawful most (after_event cache event)
event_keeps most cache (Hear now packet ours) lawful = record {
  most_is = lawful.most_is;
  one_pair_each = hearing_keeps_one cache.most (sender_of now packet) (same_addr packet.target_addr ours) cache.pairs lawful.one_pair_each;
  few_pairs = λ some. hearing_keeps_few cache.most (sender_of now packet) (same_addr packet.target_addr ours) cache.pairs some (lawful.few_pairs some);
  few_notes = lawful.few_notes;
}
event_keeps most cache (Ask now addr) lawful = record {
  most_is = lawful.most_is;
  one_pair_each = lawful.one_pair_each;
  few_pairs = lawful.few_pairs;
  few_notes = asking_keeps_few now addr cache.asked lawful.few_notes;
}
event_keeps most cache (Age now) lawful = record {
  most_is = lawful.most_is;
  one_pair_each = λ addr. omega (arith, passing-filter (is_pair_of addr) (is_live_pair now) cache.pairs, lawful.one_pair_each addr);
  few_pairs = λ some. omega (arith, length-filter-le (is_live_pair now) cache.pairs, lawful.few_pairs some);
  few_notes = lawful.few_notes;
}

events_keep : (most : ℕ) (events : List Event) (cache : Cache) → IsLawful most cache → IsLawful most (fold after_event cache events)
events_keep most [] cache lawful = lawful
events_keep most (event ∷ events) cache lawful = events_keep most events (after_event cache event) (event_keeps most cache event lawful)

lawful : (most : ℕ) (events : List Event) → IsLawful most (cache_after most events)
lawful most events = events_keep most events (empty most) (record { most_is = refl; one_pair_each = λ addr. omega arith; few_pairs = λ some. omega arith; few_notes = omega arith })

pub one_pair_each : (most : ℕ) (events : List Event) (addr : Addr) → length (filter (is_pair_of addr) (cache_after most events).pairs) ≤ 1
one_pair_each most events = (lawful most events).one_pair_each

pub most_stays : (most : ℕ) (events : List Event) → (cache_after most events).most ≡ most
most_stays most events = (lawful most events).most_is

pub few_pairs : (most : ℕ) (events : List Event) → 0 < most → length (cache_after most events).pairs ≤ most
few_pairs most events some =
    let is : (cache_after most events).most ≡ most = most_stays most events in
    subst (λ (n : ℕ). length (cache_after most events).pairs ≤ n) is ((lawful most events).few_pairs (subst (λ (n : ℕ). 0 < n) (sym is) some))

pub few_notes : (most : ℕ) (events : List Event) → length (cache_after most events).asked ≤ 64
few_notes most events = (lawful most events).few_notes
