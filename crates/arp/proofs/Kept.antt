-- What stays as it was: other addresses, what is live, and notes.
use Rattle.std.proofs.Common.{◌≡◌, ◌≢◌, ℕ, suc, ◌+◌, ◌<◌, ◌≤◌, Bool, true, false, not, ◌&&◌, ◌||◌, nat_eq, nat_lt, List, [], ◌∷◌, ◌++◌, length, filter, fold, find, cond, All, Some, None, option_map, refl, sym, ◌∙◌, ap, arith}
use Rattle.std.specs.Cmp.Lexicographic.{pointwise}
use Rattle.std.specs.List.{list_any, remove}
use Rattle.std.proofs.lemmas.Bool.Decides.{nat_tests}
use Rattle.std.proofs.lemmas.List.{length-append}
use Rattle.std.proofs.lemmas.List.Elements.{filter_passes, filter-append}
use Rattle.ipv4.specs.declared.addr.Addr.{Addr}
use Rattle.arp.specs.declared.entry.Asked.{Asked}
use Rattle.arp.specs.declared.entry.Neighbour.{Neighbour}
use Rattle.clock.specs.declared.moment.Moment.{Moment}
use Rattle.arp.specs.declared.packet.ArpPacket.{ArpPacket}
use Rattle.arp.specs.Cache.{Cache, is_live, is_pair_of, is_note_of, is_live_pair, is_live_note, updated, longest_unheard, added, pairs_after, sender_of, after_hear, after_age, look, live_notes, has_place_for, may_ask, asked_after, after_ask, requests_left}
use Rattle.ipv4.specs.Addresses.{same_addr}
use Rattle.arp.specs.Events.{Event, moment_of, after_event}
use Rattle.arp.specs.Events.Event.{Hear, Ask, Age}
use Rattle.arp.proofs.Found.{is_found, refused_where_noted, live_at_once, live_a_second}
use Rattle.arp.proofs.History.{same_octets, same_addr-refl, length-filter-le}

-- Addresses that are not the same.

pub other_addr : (a b : Addr) → a ≢ b → same_addr a b ≡ false
other_addr a b other = either (same_addr a b) refl
  where
    either : (c : Bool) → same_addr a b ≡ c → same_addr a b ≡ false
    either true e = absurd (other (ap made (same_octets a b e)))
      where
        made : List ℕ → Addr
        made octets = record { 0 = octets }
    either false e = e

-- Other addresses.

stays_updated : (later : Moment) (addr : Addr) (sender : Neighbour) → is_pair_of addr sender ≡ false → (pairs : List Neighbour)
    → find (is_found later addr) (updated sender pairs) ≡ find (is_found later addr) pairs
stays_updated later addr sender other [] = refl
stays_updated later addr sender other (pair ∷ pairs) = either (stays_updated later addr sender other pairs) (is_pair_of sender.addr pair) refl
  where
    either : find (is_found later addr) (updated sender pairs) ≡ find (is_found later addr) pairs → (b : Bool) → is_pair_of sender.addr pair ≡ b
        → find (is_found later addr) (cond b sender pair ∷ updated sender pairs) ≡ find (is_found later addr) (pair ∷ pairs)
    either rest true e =
        let same : is_pair_of addr pair ≡ false = ap (λ l. pointwise nat_eq l addr.0) (same_octets pair.addr sender.addr e) ∙ other in
        ap (λ b. cond (b && is_live_pair later sender) (Some sender) (find (is_found later addr) (updated sender pairs))) other
        ∙ (rest ∙ sym (ap (λ b. cond (b && is_live_pair later pair) (Some pair) (find (is_found later addr) pairs)) same))
    either rest false e = ap (λ o. cond (is_found later addr pair) (Some pair) o) rest

stays_pushed : (later : Moment) (addr : Addr) (sender : Neighbour) → is_pair_of addr sender ≡ false → (pairs : List Neighbour)
    → find (is_found later addr) (pairs ++ sender ∷ []) ≡ find (is_found later addr) pairs
stays_pushed later addr sender other [] = ap (λ b. cond (b && is_live_pair later sender) (Some sender) None) other
stays_pushed later addr sender other (pair ∷ pairs) = ap (λ o. cond (is_found later addr pair) (Some pair) o) (stays_pushed later addr sender other pairs)

stays_added : (most : ℕ) (later : Moment) (addr : Addr) (sender : Neighbour) → is_pair_of addr sender ≡ false → (pairs : List Neighbour) → length pairs < most
    → find (is_found later addr) (added most sender pairs) ≡ find (is_found later addr) pairs
stays_added most later addr sender other pairs room =
    let has_room : nat_lt (length pairs) most ≡ true = grind (arith, nat_tests, room) in
    ap (λ b. find (is_found later addr) (cond b pairs (remove pairs (longest_unheard pairs)) ++ sender ∷ [])) has_room ∙ stays_pushed later addr sender other pairs

stays_after : (most : ℕ) (later : Moment) (addr : Addr) (sender : Neighbour) (is_for_us : Bool) (pairs : List Neighbour) → is_pair_of addr sender ≡ false
    → (is_for_us ≡ true → length pairs < most) → find (is_found later addr) (pairs_after most sender is_for_us pairs) ≡ find (is_found later addr) pairs
unfolding pairs_after
stays_after most later addr sender is_for_us pairs other room = known (list_any (is_pair_of sender.addr) pairs)
  where
    for_us : (b : Bool) → (b ≡ true → length pairs < most) → find (is_found later addr) (cond b (added most sender pairs) pairs) ≡ find (is_found later addr) pairs
    for_us true room = stays_added most later addr sender other pairs (room refl)
    for_us false room = refl

    known : (b : Bool) → find (is_found later addr) (cond b (updated sender pairs) (cond is_for_us (added most sender pairs) pairs)) ≡ find (is_found later addr) pairs
    known true = stays_updated later addr sender other pairs
    known false = for_us is_for_us room

pub others_stay : (cache : Cache) (now later : Moment) (packet : ArpPacket) (ours addr : Addr) → addr ≢ packet.sender_addr → length cache.pairs < cache.most
    → look later addr (after_hear now packet ours cache) ≡ look later addr cache
others_stay cache now later packet ours addr other room =
    let apart : is_pair_of addr (sender_of now packet) ≡ false = other_addr packet.sender_addr addr (λ same. other (sym same)) in
    ap (λ o. option_map (λ (pair : Neighbour). pair.mac) o) (stays_after cache.most later addr (sender_of now packet) (same_addr packet.target_addr ours) cache.pairs apart (λ _. room))

pub others_stay_not_ours : (cache : Cache) (now later : Moment) (packet : ArpPacket) (ours addr : Addr) → addr ≢ packet.sender_addr → packet.target_addr ≢ ours
    → look later addr (after_hear now packet ours cache) ≡ look later addr cache
others_stay_not_ours cache now later packet ours addr other not_ours =
    let apart : is_pair_of addr (sender_of now packet) ≡ false = other_addr packet.sender_addr addr (λ same. other (sym same)) in
    let no : same_addr packet.target_addr ours ≡ false = other_addr packet.target_addr ours not_ours in
    ap (λ o. option_map (λ (pair : Neighbour). pair.mac) o)
    (stays_after cache.most later addr (sender_of now packet) (same_addr packet.target_addr ours) cache.pairs apart (λ yes. absurd cc))

-- What is live.

-- what passes a test later is found among what passes another now
find_filter : {X : Type 0} (p q : X → Bool) → ((x : X) → p x ≡ true → q x ≡ true) → (xs : List X) → find p (filter q xs) ≡ find p xs
find_filter p q passes [] = refl
find_filter p q passes (x ∷ xs) = either (find_filter p q passes xs) (p x) (q x) refl refl
  where
    either : find p (filter q xs) ≡ find p xs → (b c : Bool) → p x ≡ b → q x ≡ c → find p (cond c (x ∷ filter q xs) (filter q xs)) ≡ cond b (Some x) (find p xs)
    either rest b true is_b is_c = ap (λ d. cond d (Some x) (find p (filter q xs))) is_b ∙ ap (λ o. cond b (Some x) o) rest
    either rest true false is_b is_c = let yes : q x ≡ true = passes x is_b in absurd cc
    either rest false false is_b is_c = rest

both_right : (a b : Bool) → (a && b) ≡ true → b ≡ true
both_right true b e = e
both_right false b e = absurd cc

pub live_before : (milliseconds : ℕ) (now later t : Moment) → now.0 ≤ later.0 → is_live milliseconds later t ≡ true → is_live milliseconds now t ≡ true
live_before milliseconds now later t order live = grind (arith, nat_tests, order, live)

note_before : (now later : Moment) (note : Asked) → now.0 ≤ later.0 → is_live_note later note ≡ true → is_live_note now note ≡ true
note_before now later note order live = grind (arith, nat_tests, order, live)

pub aging_hides_nothing : (cache : Cache) (now later : Moment) (addr : Addr) → now.0 ≤ later.0
    → look later addr (after_age now cache) ≡ look later addr cache
aging_hides_nothing cache now later addr order =
    ap (λ o. option_map (λ (pair : Neighbour). pair.mac) o)
    (find_filter (is_found later addr) (is_live_pair now) (λ pair found. live_before 1200000 now later pair.heard order (both_right (is_pair_of addr pair) (is_live_pair later pair) found)) cache.pairs)

pub aging_forgets : (cache : Cache) (now : Moment) → All (λ pair. is_live 1200000 now pair.heard ≡ true) (after_age now cache).pairs
aging_forgets cache now = filter_passes (is_live_pair now) cache.pairs

-- Notes.

-- a note of the address that is live later
abbrev is_held : Moment → Addr → Asked → Bool
is_held later addr note = is_note_of addr note && is_live_note later note

any_filter : {X : Type 0} (p q : X → Bool) → ((x : X) → p x ≡ true → q x ≡ true) → (xs : List X) → list_any p xs ≡ true → list_any p (filter q xs) ≡ true
any_filter p q passes [] any = any
any_filter p q passes (x ∷ xs) any = either (any_filter p q passes xs) (p x) (q x) refl refl any
  where
    either : (list_any p xs ≡ true → list_any p (filter q xs) ≡ true) → (b c : Bool) → p x ≡ b → q x ≡ c → (b || list_any p xs) ≡ true
        → list_any p (cond c (x ∷ filter q xs) (filter q xs)) ≡ true
    either rest true true is_b is_c some = ap (λ d. d || list_any p (filter q xs)) is_b
    either rest false true is_b is_c some = ap (λ d. d || list_any p (filter q xs)) is_b ∙ rest some
    either rest true false is_b is_c some = let yes : q x ≡ true = passes x is_b in absurd cc
    either rest false false is_b is_c some = rest some

any_front : {X : Type 0} (p : X → Bool) (xs ys : List X) → list_any p xs ≡ true → list_any p (xs ++ ys) ≡ true
any_front p [] ys any = absurd cc
any_front p (x ∷ xs) ys any = either (any_front p xs ys) (p x) any
  where
    either : (list_any p xs ≡ true → list_any p (xs ++ ys) ≡ true) → (b : Bool) → (b || list_any p xs) ≡ true → (b || list_any p (xs ++ ys)) ≡ true
    either rest true some = refl
    either rest false some = rest some

any_last : {X : Type 0} (p : X → Bool) (x : X) → p x ≡ true → (xs : List X) → list_any p (xs ++ x ∷ []) ≡ true
any_last p x passes [] = ap (λ b. b || false) passes
any_last p x passes (y ∷ ys) = either (any_last p x passes ys) (p y)
  where
    either : list_any p (ys ++ x ∷ []) ≡ true → (b : Bool) → (b || list_any p (ys ++ x ∷ [])) ≡ true
    either rest true = refl
    either rest false = rest

-- what passes two tests passes the one where the other was passed
any_both : {X : Type 0} (p q : X → Bool) (xs : List X) → list_any (λ x. p x && q x) xs ≡ true → list_any p (filter q xs) ≡ true
any_both p q [] any = any
any_both p q (x ∷ xs) any = either (any_both p q xs) (p x) (q x) refl any
  where
    either : (list_any (λ x. p x && q x) xs ≡ true → list_any p (filter q xs) ≡ true) → (b c : Bool) → p x ≡ b
        → ((b && c) || list_any (λ x. p x && q x) xs) ≡ true → list_any p (cond c (x ∷ filter q xs) (filter q xs)) ≡ true
    either rest true true is_b some = ap (λ d. d || list_any p (filter q xs)) is_b
    either rest false true is_b some = ap (λ d. d || list_any p (filter q xs)) is_b ∙ rest some
    either rest true false is_b some = rest some
    either rest false false is_b some = rest some

held_asked : (now later : Moment) (addr asks : Addr) (notes : List Asked) → now.0 ≤ later.0 → list_any (is_held later addr) notes ≡ true
    → list_any (is_held later addr) (asked_after now asks notes) ≡ true
unfolding asked_after
held_asked now later addr asks notes order held = either (has_place_for asks (live_notes now notes))
  where
    live : list_any (is_held later addr) (live_notes now notes) ≡ true
    live = any_filter (is_held later addr) (is_live_note now) (λ note both. note_before now later note order (both_right (is_note_of addr note) (is_live_note later note) both)) notes held

    either : (b : Bool) → list_any (is_held later addr) (cond b (live_notes now notes ++ record { addr = asks; at = now } ∷ []) (live_notes now notes)) ≡ true
    either true = any_front (is_held later addr) (live_notes now notes) (record { addr = asks; at = now } ∷ []) live
    either false = live

held_event : (later : Moment) (addr : Addr) (cache : Cache) (event : Event) → (moment_of event).0 ≤ later.0 → list_any (is_held later addr) cache.asked ≡ true
    → list_any (is_held later addr) (after_event cache event).asked ≡ true
held_event later addr cache (Hear now packet ours) order held = held
held_event later addr cache (Ask now asks) order held = held_asked now later addr asks cache.asked order held
held_event later addr cache (Age now) order held = held

held_events : (later : Moment) (addr : Addr) (cache : Cache) (between : List Event) → All (λ event. (moment_of event).0 ≤ later.0) between
    → list_any (is_held later addr) cache.asked ≡ true → list_any (is_held later addr) (fold after_event cache between).asked ≡ true
held_events later addr cache [] order held = held
held_events later addr cache (event ∷ between) order held =
    held_events later addr (after_event cache event) between (λ i d within. order (suc i) d (omega (arith, within))) (held_event later addr cache event (order 0 event (omega arith)) held)

held_first : (now later : Moment) (addr : Addr) (notes : List Asked) → may_ask now addr notes ≡ true → is_live_note later (record { addr = addr; at = now }) ≡ true
    → list_any (is_held later addr) (asked_after now addr notes) ≡ true
unfolding may_ask asked_after
held_first now later addr notes may live =
    let note : Asked = record { addr = addr; at = now } in
    let own : is_held later addr note ≡ true = ap (λ b. b && is_live_note later note) (same_addr-refl addr) ∙ live in
    ap (λ b. list_any (is_held later addr) (cond b (live_notes now notes ++ note ∷ []) (live_notes now notes))) may
    ∙ any_last (is_held later addr) note own (live_notes now notes)

held_refused : (later : Moment) (addr : Addr) (notes : List Asked) → list_any (is_held later addr) notes ≡ true → may_ask later addr notes ≡ false
unfolding may_ask
held_refused later addr notes held = refused_where_noted addr (live_notes later notes) (any_both (is_note_of addr) (is_live_note later) notes held)

noted_till : (cache : Cache) (now later : Moment) (addr : Addr) (between : List Event) → may_ask now addr cache.asked ≡ true → is_live_note later (record { addr = addr; at = now }) ≡ true
    → All (λ event. (moment_of event).0 ≤ later.0) between → may_ask later addr (fold after_event (after_ask now addr cache) between).asked ≡ false
noted_till cache now later addr between may live order =
    held_refused later addr (fold after_event (after_ask now addr cache) between).asked
    (held_events later addr (after_ask now addr cache) between order (held_first now later addr cache.asked may live))

pub noted_while_live : (cache : Cache) (now later : Moment) (addr : Addr) (between : List Event) → may_ask now addr cache.asked ≡ true → is_live 1000 later now ≡ true
    → All (λ event. (moment_of event).0 ≤ later.0) between → may_ask later addr (fold after_event (after_ask now addr cache) between).asked ≡ false
noted_while_live cache now later addr between may live = noted_till cache now later addr between may (live_a_second now later addr live)

pub noted_at_once : (cache : Cache) (now : Moment) (addr : Addr) (between : List Event) → may_ask now addr cache.asked ≡ true
    → All (λ event. (moment_of event).0 ≤ now.0) between → may_ask now addr (fold after_event (after_ask now addr cache) between).asked ≡ false
noted_at_once cache now addr between may = noted_till cache now now addr between may (live_at_once now addr)

-- a note that is past, and whose second is over, is live no longer
not_live : (now : Moment) (note : Asked) → note.at.0 < now.0 → is_live 1000 now note.at ≡ false → is_live_note now note ≡ false
not_live now note past over = grind (arith, nat_tests, past, over)

none_live : (now : Moment) (addr : Addr) (notes : List Asked) → All (λ note. note.addr ≡ addr → (note.at.0 < now.0) × (is_live 1000 now note.at ≡ false)) notes
    → list_any (is_note_of addr) (live_notes now notes) ≡ false
none_live now addr [] old = refl
none_live now addr (note ∷ notes) old =
    either (none_live now addr notes (λ i d within. old (suc i) d (omega (arith, within)))) (is_note_of addr note) (is_live_note now note) refl refl
  where
    made : List ℕ → Addr
    made octets = record { 0 = octets }

    either : list_any (is_note_of addr) (live_notes now notes) ≡ false → (b c : Bool) → is_note_of addr note ≡ b → is_live_note now note ≡ c
        → list_any (is_note_of addr) (cond c (note ∷ live_notes now notes) (live_notes now notes)) ≡ false
    either rest b false is_b is_c = rest
    either rest false true is_b is_c = ap (λ d. d || list_any (is_note_of addr) (live_notes now notes)) is_b ∙ rest
    either rest true true is_b is_c =
        let same : note.addr ≡ addr = ap made (same_octets note.addr addr is_b) in
        let over = old 0 note (omega arith) same in
        let no : is_live_note now note ≡ false = not_live now note over.0 over.1 in
        absurd cc

pub asked_where_there_is_room : (now : Moment) (addr : Addr) (asked : List Asked) → length asked < 64
    → All (λ note. note.addr ≡ addr → (note.at.0 < now.0) × (is_live 1000 now note.at ≡ false)) asked → may_ask now addr asked ≡ true
unfolding may_ask
asked_where_there_is_room now addr asked few old =
    let few_live : length (live_notes now asked) < 64 = omega (arith, few, length-filter-le (is_live_note now) asked) in
    let room : nat_lt (length (live_notes now asked)) 64 ≡ true = grind (arith, nat_tests, few_live) in
    ap (λ b. b && not (list_any (is_note_of addr) (live_notes now asked))) room ∙ ap (λ b. not b) (none_live now addr asked old)

-- Each request takes a place.

filtered_twice : (p : Asked → Bool) (notes : List Asked) → filter p (filter p notes) ≡ filter p notes
filtered_twice p [] = refl
filtered_twice p (note ∷ notes) = by_test (filtered_twice p notes) (p note) refl
  where
    by_test : filter p (filter p notes) ≡ filter p notes → (b : Bool) → p note ≡ b → filter p (cond b (note ∷ filter p notes) (filter p notes)) ≡ cond b (note ∷ filter p notes) (filter p notes)
    by_test same true e = ap (λ b. cond b (note ∷ filter p (filter p notes)) (filter p (filter p notes))) e ∙ ap (λ rest. note ∷ rest) same
    by_test same false e = same

one_live : (now : Moment) (addr : Addr) → live_notes now (record { addr = addr; at = now } ∷ []) ≡ record { addr = addr; at = now } ∷ []
one_live now addr = ap (λ b. cond b (record { addr = addr; at = now } ∷ []) []) (live_at_once now addr)

room_for : (addr : Addr) (notes : List Asked) → has_place_for addr notes ≡ true → length notes < 64
room_for addr notes = by_test (nat_lt (length notes) 64) refl
  where
    by_test : (b : Bool) → nat_lt (length notes) 64 ≡ b → (b && not (list_any (is_note_of addr) notes)) ≡ true → length notes < 64
    by_test true e may = grind (arith, nat_tests, e)
    by_test false e may = cc

pub one_fewer : (now : Moment) (addr : Addr) (asked : List Asked) → may_ask now addr asked ≡ true
    → requests_left now (asked_after now addr asked) + 1 ≡ requests_left now asked
unfolding may_ask asked_after
one_fewer now addr asked may =
    let live : List Asked = live_notes now asked in
    let note : Asked = record { addr = addr; at = now } in
    let after_is : asked_after now addr asked ≡ live ++ note ∷ [] = ap (λ b. cond b (live ++ note ∷ []) live) may in
    let all_live : live_notes now (live ++ note ∷ []) ≡ live ++ note ∷ [] =
    filter-append (is_live_note now) live (note ∷ []) ∙ ap (λ l. l ++ live_notes now (note ∷ [])) (filtered_twice (is_live_note now) asked) ∙ ap (λ l. live ++ l) (one_live now addr) in
    let counted : length (live_notes now (asked_after now addr asked)) ≡ length live + 1 = ap (λ notes. length (live_notes now notes)) after_is ∙ ap (λ (l : List Asked). length l) all_live ∙ length-append live (note ∷ []) in
    let few : length live < 64 = room_for addr live may in
    omega (arith, counted, few)

pub none_left : (now : Moment) (addr : Addr) (asked : List Asked) → requests_left now asked ≡ 0 → may_ask now addr asked ≡ false
unfolding may_ask
none_left now addr asked none =
    let full : nat_lt (length (live_notes now asked)) 64 ≡ false = grind (arith, nat_tests, none) in ap (λ b. b && not (list_any (is_note_of addr) (live_notes now asked))) full
