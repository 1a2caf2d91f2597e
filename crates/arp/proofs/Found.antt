-- What was heard is found, and what was asked for isn't asked for again.
use Rattle.std.proofs.Common.{◌≡◌, ℕ, zero, suc, Bool, true, false, not, ◌&&◌, ◌||◌, nat_lt, nat_le, List, [], ◌∷◌, ◌++◌, length, filter, find, cond, Some, None, option_map, refl, ◌∙◌, ap, arith}
use Rattle.std.specs.List.{list_any, remove}
use Rattle.std.proofs.lemmas.Bool.Decides.{nat_tests}
use Rattle.ipv4.specs.declared.addr.Addr.{Addr}
use Rattle.arp.specs.declared.entry.Asked.{Asked}
use Rattle.arp.specs.declared.entry.Neighbour.{Neighbour}
use Rattle.clock.specs.declared.moment.Moment.{Moment}
use Rattle.arp.specs.declared.packet.ArpPacket.{ArpPacket}
use Rattle.arp.specs.Cache.{Cache, is_live, is_pair_of, is_note_of, is_live_pair, is_live_note, updated, longest_unheard, added, pairs_after, sender_of, after_hear, look, live_notes, has_place_for, may_ask, asked_after}
use Rattle.ipv4.specs.Addresses.{same_addr}
use Rattle.arp.proofs.History.{same_addr-refl}

-- the pair of an address that is live
abbrev pub is_found : Moment → Addr → Neighbour → Bool
is_found later addr pair = is_pair_of addr pair && is_live_pair later pair

found_itself : (later : Moment) (sender : Neighbour) → is_live_pair later sender ≡ true → is_found later sender.addr sender ≡ true
found_itself later sender live = rw (same_addr-refl sender.addr) live

-- among the pairs that were updated it is the first of its address
found_updated : (later : Moment) (sender : Neighbour) → is_live_pair later sender ≡ true → (pairs : List Neighbour)
    → list_any (is_pair_of sender.addr) pairs ≡ true → find (is_found later sender.addr) (updated sender pairs) ≡ Some sender
found_updated later sender live [] known = cc
found_updated later sender live (pair ∷ pairs) known = either (found_updated later sender live pairs) (is_pair_of sender.addr pair) refl known
  where
    either : (list_any (is_pair_of sender.addr) pairs ≡ true → find (is_found later sender.addr) (updated sender pairs) ≡ Some sender)
        → (b : Bool) → is_pair_of sender.addr pair ≡ b → (b || list_any (is_pair_of sender.addr) pairs) ≡ true
        → find (is_found later sender.addr) (cond b sender pair ∷ updated sender pairs) ≡ Some sender
    either rest true e is = ap (λ b. cond b (Some sender) (find (is_found later sender.addr) (updated sender pairs))) (found_itself later sender live)
    either rest false e is = ap (λ b. cond (b && is_live_pair later pair) (Some pair) (find (is_found later sender.addr) (updated sender pairs))) e ∙ rest is

-- behind pairs of other addresses it is found
found_last : (later : Moment) (sender : Neighbour) → is_live_pair later sender ≡ true → (pairs : List Neighbour)
    → list_any (is_pair_of sender.addr) pairs ≡ false → find (is_found later sender.addr) (pairs ++ sender ∷ []) ≡ Some sender
found_last later sender live [] unknown = ap (λ b. cond b (Some sender) None) (found_itself later sender live)
found_last later sender live (pair ∷ pairs) unknown = either (found_last later sender live pairs) (is_pair_of sender.addr pair) refl unknown
  where
    either : (list_any (is_pair_of sender.addr) pairs ≡ false → find (is_found later sender.addr) (pairs ++ sender ∷ []) ≡ Some sender)
        → (b : Bool) → is_pair_of sender.addr pair ≡ b → (b || list_any (is_pair_of sender.addr) pairs) ≡ false
        → find (is_found later sender.addr) (pair ∷ (pairs ++ sender ∷ [])) ≡ Some sender
    either rest true e is = cc
    either rest false e is = ap (λ b. cond (b && is_live_pair later pair) (Some pair) (find (is_found later sender.addr) (pairs ++ sender ∷ []))) e ∙ rest is

none_removed : {X : Type 0} (p : X → Bool) (xs : List X) (i : ℕ) → list_any p xs ≡ false → list_any p (remove xs i) ≡ false
none_removed p [] zero none = refl
none_removed p [] (suc i) none = refl
none_removed p (x ∷ xs) zero none = either (p x) none
  where
    either : (b : Bool) → (b || list_any p xs) ≡ false → list_any p xs ≡ false
    either true is = cc
    either false is = is
none_removed p (x ∷ xs) (suc i) none = either (none_removed p xs i) (p x) none
  where
    either : (list_any p xs ≡ false → list_any p (remove xs i) ≡ false) → (b : Bool) → (b || list_any p xs) ≡ false → (b || list_any p (remove xs i)) ≡ false
    either rest true is = cc
    either rest false is = rest is

found_after : (most : ℕ) (later : Moment) (sender : Neighbour) → is_live_pair later sender ≡ true → (pairs : List Neighbour)
    → find (is_found later sender.addr) (pairs_after most sender true pairs) ≡ Some sender
unfolding pairs_after
found_after most later sender live pairs = known (list_any (is_pair_of sender.addr) pairs) refl
  where
    room : (b : Bool) → list_any (is_pair_of sender.addr) pairs ≡ false → list_any (is_pair_of sender.addr) (cond b pairs (remove pairs (longest_unheard pairs))) ≡ false
    room true e = e
    room false e = none_removed (is_pair_of sender.addr) pairs (longest_unheard pairs) e

    known : (b : Bool) → list_any (is_pair_of sender.addr) pairs ≡ b → find (is_found later sender.addr) (cond b (updated sender pairs) (added most sender pairs)) ≡ Some sender
    known true e = found_updated later sender live pairs e
    known false e = found_last later sender live (cond (nat_lt (length pairs) most) pairs (remove pairs (longest_unheard pairs))) (room (nat_lt (length pairs) most) e)

pub heard_is_found : (cache : Cache) (now later : Moment) (packet : ArpPacket) (ours : Addr) → same_addr packet.target_addr ours ≡ true → is_live 1200000 later now ≡ true
    → look later packet.sender_addr (after_hear now packet ours cache) ≡ Some packet.sender_mac
heard_is_found cache now later packet ours for_us live =
    let sender : Neighbour = sender_of now packet in
    ap (λ b. option_map (λ (pair : Neighbour). pair.mac) (find (is_found later sender.addr) (pairs_after cache.most sender b cache.pairs))) for_us
    ∙ ap (λ o. option_map (λ (pair : Neighbour). pair.mac) o) (found_after cache.most later sender live cache.pairs)

-- a note that is still live is among the live ones
still_noted : (later : Moment) (note : Asked) → is_live_note later note ≡ true → (notes : List Asked)
    → list_any (is_note_of note.addr) (filter (is_live_note later) (notes ++ note ∷ [])) ≡ true
still_noted later note live [] =
    ap (λ b. list_any (is_note_of note.addr) (cond b (note ∷ []) [])) live ∙ ap (λ b. b || false) (same_addr-refl note.addr)
still_noted later note live (first ∷ notes) = either (still_noted later note live notes) (is_live_note later first)
  where
    behind : (b c : Bool) → c ≡ true → (b || c) ≡ true
    behind true c e = refl
    behind false c e = e

    either : list_any (is_note_of note.addr) (filter (is_live_note later) (notes ++ note ∷ [])) ≡ true
        → (b : Bool) → list_any (is_note_of note.addr) (cond b (first ∷ filter (is_live_note later) (notes ++ note ∷ [])) (filter (is_live_note later) (notes ++ note ∷ []))) ≡ true
    either rest true = behind (is_note_of note.addr first) _ rest
    either rest false = rest

pub refused_where_noted : (addr : Addr) (notes : List Asked) → list_any (is_note_of addr) notes ≡ true → has_place_for addr notes ≡ false
refused_where_noted addr notes e = ap (λ b. nat_lt (length notes) 64 && not b) e ∙ never (nat_lt (length notes) 64)
  where
    never : (b : Bool) → (b && false) ≡ false
    never true = refl
    never false = refl

-- a note is live at its own moment, and for a second
pub live_at_once : (now : Moment) (addr : Addr) → is_live_note now (record { addr = addr; at = now }) ≡ true
live_at_once now addr = grind (arith, nat_tests)

pub live_a_second : (now later : Moment) (addr : Addr) → is_live 1000 later now ≡ true → is_live_note later (record { addr = addr; at = now }) ≡ true
live_a_second now later addr live = either (nat_le later.0 now.0)
  where
    either : (b : Bool) → (b || is_live 1000 later now) ≡ true
    either true = refl
    either false = live

asked_noted : (now later : Moment) (addr : Addr) (asked : List Asked) → may_ask now addr asked ≡ true → is_live_note later (record { addr = addr; at = now }) ≡ true
    → may_ask later addr (asked_after now addr asked) ≡ false
unfolding may_ask asked_after
asked_noted now later addr asked may live =
    let note : Asked = record { addr = addr; at = now } in
    ap (λ b. has_place_for addr (filter (is_live_note later) (cond b (live_notes now asked ++ note ∷ []) (live_notes now asked)))) may
    ∙ refused_where_noted addr (filter (is_live_note later) (live_notes now asked ++ note ∷ [])) (still_noted later note live (live_notes now asked))

pub asked_once : (now later : Moment) (addr : Addr) (asked : List Asked) → may_ask now addr asked ≡ true → is_live 1000 later now ≡ true
    → may_ask later addr (asked_after now addr asked) ≡ false
asked_once now later addr asked may live = asked_noted now later addr asked may (live_a_second now later addr live)

pub asked_once_now : (now : Moment) (addr : Addr) (asked : List Asked) → may_ask now addr asked ≡ true → may_ask now addr (asked_after now addr asked) ≡ false
asked_once_now now addr asked may = asked_noted now now addr asked may (live_at_once now addr)
