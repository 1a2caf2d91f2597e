-- Each pair of a cache is the sender of the last packet that was heard from its address.
use Rattle.std.proofs.Common.{◌≡◌, ℕ, zero, suc, Bool, true, false, ◌&&◌, ◌||◌, nat_lt, List, [], ◌∷◌, ◌++◌, length, get_or, fold, find, cond, All, Option, Some, None, option_map, refl, sym, ◌∙◌, ap, subst, arith, append_assoc}
use Rattle.std.specs.List.{list_any, remove}
use Rattle.std.proofs.lemmas.List.{append-nil}
use Rattle.std.proofs.lemmas.List.Elements.{All-nil, All-cons, All-push, All-filter, All-map}
use Rattle.ether.specs.declared.mac.Mac.{Mac}
use Rattle.ipv4.specs.declared.addr.Addr.{Addr}
use Rattle.arp.specs.declared.entry.Neighbour.{Neighbour}
use Rattle.clock.specs.declared.moment.Moment.{Moment}
use Rattle.arp.specs.declared.packet.ArpPacket.{ArpPacket}
use Rattle.arp.specs.Cache.{Cache, empty, is_live, is_pair_of, is_live_pair, after_sender, updated, longest_unheard, added, pairs_after, sender_of, look}
use Rattle.ipv4.specs.Addresses.{same_addr}
use Rattle.arp.specs.Events.{Event, after_event, cache_after, IsFrom, IsLastFrom}
use Rattle.arp.specs.Events.Event.{Hear, Ask, Age}
use Rattle.arp.proofs.Found.{is_found}
use Rattle.arp.proofs.History.{same_octets, same_addr-refl}

-- Lists.

none_passes : {X : Type 0} (p : X → Bool) (xs : List X) → list_any p xs ≡ false → All (λ x. p x ≡ false) xs
none_passes p [] none = All-nil (λ x. p x ≡ false)
none_passes p (x ∷ xs) none = either (none_passes p xs) (p x) refl none
  where
    either : (list_any p xs ≡ false → All (λ x. p x ≡ false) xs) → (b : Bool) → p x ≡ b → (b || list_any p xs) ≡ false → All (λ x. p x ≡ false) (x ∷ xs)
    either rest true e is = absurd cc
    either rest false e is = All-cons (λ x. p x ≡ false) x xs e (rest is)

all_removed : {X : Type 0} (P : X → Type 0) (xs : List X) (i : ℕ) → All P xs → All P (remove xs i)
all_removed P [] zero all = all
all_removed P [] (suc i) all = all
all_removed P (x ∷ xs) zero all = λ k d within. all (suc k) d (omega (arith, within))
all_removed P (x ∷ xs) (suc i) all =
    All-cons P x (remove xs i) (all 0 x (omega arith)) (all_removed P xs i (λ k d within. all (suc k) d (omega (arith, within))))

-- what is found is one of the list, and passes the test
found_is : {X : Type 0} (P : X → Type 0) (p : X → Bool) (xs : List X) (x : X) → find p xs ≡ Some x → All P xs → P x × (p x ≡ true)
found_is P p [] x is all = absurd cc
found_is P p (y ∷ ys) x is all = either (found_is P p ys x) (p y) refl is
  where
    either : (find p ys ≡ Some x → All P ys → P x × (p x ≡ true)) → (b : Bool) → p y ≡ b → cond b (Some y) (find p ys) ≡ Some x → P x × (p x ≡ true)
    either rest true e is =
        let same : y ≡ x = cc in
        (subst P same (all 0 y (omega arith)), subst (λ z. p z ≡ true) same e)
    either rest false e is = rest is (λ k d within. all (suc k) d (omega (arith, within)))

-- One event more.

-- the pair is the sender of the last packet from its address
abbrev IsHeard : List Event → Neighbour → Type 0
IsHeard past pair = IsLastFrom past pair.addr pair.mac pair.heard

still_heard : (past : List Event) (event : Event) (pair : Neighbour) → (IsFrom pair.addr event → ⊥) → IsHeard past pair → IsHeard (past ++ event ∷ []) pair
still_heard past event pair other last = record {
  before = last.before;
  packet = last.packet;
  ours = last.ours;
  after = last.after ++ event ∷ [];
  events_are = ap (λ l. l ++ event ∷ []) last.events_are ∙ append_assoc last.before (Hear pair.heard last.packet last.ours ∷ last.after) (event ∷ []);
  sender_addr = last.sender_addr;
  sender_mac = last.sender_mac;
  none_after = All-push (λ e. IsFrom pair.addr e → ⊥) last.after event last.none_after other;
}

now_heard : (past : List Event) (now : Moment) (packet : ArpPacket) (ours : Addr) → IsHeard (past ++ Hear now packet ours ∷ []) (sender_of now packet)
now_heard past now packet ours = record {
  before = past;
  packet = packet;
  ours = ours;
  after = [];
  events_are = refl;
  sender_addr = refl;
  sender_mac = refl;
  none_after = All-nil (λ e. IsFrom packet.sender_addr e → ⊥);
}

-- a packet of another address than the pair's
from_another : (now : Moment) (packet : ArpPacket) (ours : Addr) (pair : Neighbour) → is_pair_of packet.sender_addr pair ≡ false
    → IsFrom pair.addr (Hear now packet ours) → ⊥
from_another now packet ours pair other from =
    let yes : same_addr pair.addr packet.sender_addr ≡ true = ap (λ a. same_addr pair.addr a) from ∙ same_addr-refl pair.addr in
    absurd cc

heard_after : (most : ℕ) (past : List Event) (now : Moment) (packet : ArpPacket) (ours : Addr) (is_for_us : Bool) (pairs : List Neighbour) → All (λ pair. IsHeard past pair) pairs
    → All (λ pair. IsHeard (past ++ Hear now packet ours ∷ []) pair) (pairs_after most (sender_of now packet) is_for_us pairs)
unfolding pairs_after
heard_after most past now packet ours is_for_us pairs all = known (list_any (is_pair_of sender.addr) pairs) refl
  where
    sender : Neighbour
    sender = sender_of now packet

    IsNext : Neighbour → Type 0
    IsNext pair = IsHeard (past ++ Hear now packet ours ∷ []) pair

    each : (pair : Neighbour) → IsHeard past pair → IsNext (after_sender sender pair)
    each pair last = either (is_pair_of sender.addr pair) refl
      where
        either : (b : Bool) → is_pair_of sender.addr pair ≡ b → IsNext (cond b sender pair)
        either true e = now_heard past now packet ours
        either false e = still_heard past (Hear now packet ours) pair (from_another now packet ours pair e) last

    others : list_any (is_pair_of sender.addr) pairs ≡ false → All IsNext pairs
    others e = λ i d within.
        still_heard past (Hear now packet ours) (get_or pairs i d) (from_another now packet ours (get_or pairs i d) (none_passes (is_pair_of sender.addr) pairs e i d within)) (all i d within)

    room : (b : Bool) → All IsNext pairs → All IsNext (cond b pairs (remove pairs (longest_unheard pairs)))
    room true next = next
    room false next = all_removed IsNext pairs (longest_unheard pairs) next

    for_us : (b : Bool) → All IsNext pairs → All IsNext (cond b (added most sender pairs) pairs)
    for_us true next =
        All-push IsNext (cond (nat_lt (length pairs) most) pairs (remove pairs (longest_unheard pairs))) sender (room (nat_lt (length pairs) most) next) (now_heard past now packet ours)
    for_us false next = next

    known : (b : Bool) → list_any (is_pair_of sender.addr) pairs ≡ b → All IsNext (cond b (updated sender pairs) (cond is_for_us (added most sender pairs) pairs))
    known true e = All-map IsNext (after_sender sender) pairs (λ i d within. each (get_or pairs i d) (all i d within))
    known false e = for_us is_for_us (others e)

heard_event : (past : List Event) (cache : Cache) (event : Event) → All (λ pair. IsHeard past pair) cache.pairs
    → All (λ pair. IsHeard (past ++ event ∷ []) pair) (after_event cache event).pairs
heard_event past cache (Hear now packet ours) all = heard_after cache.most past now packet ours (same_addr packet.target_addr ours) cache.pairs all
heard_event past cache (Ask now addr) all = λ i d within. still_heard past (Ask now addr) (get_or cache.pairs i d) (λ from. from) (all i d within)
heard_event past cache (Age now) all =
    All-filter (is_live_pair now) (λ pair. IsHeard (past ++ Age now ∷ []) pair) cache.pairs
    (λ i d within. still_heard past (Age now) (get_or cache.pairs i d) (λ from. from) (all i d within))

-- Over every list of events.

heard_events : (past events : List Event) (cache : Cache) → All (λ pair. IsHeard past pair) cache.pairs
    → All (λ pair. IsHeard (past ++ events) pair) (fold after_event cache events).pairs
heard_events past [] cache all = subst (λ (l : List Event). All (λ pair. IsHeard l pair) cache.pairs) (sym (append-nil past)) all
heard_events past (event ∷ events) cache all =
    subst (λ (l : List Event). All (λ pair. IsHeard l pair) (fold after_event (after_event cache event) events).pairs) (append_assoc past (event ∷ []) events)
    (heard_events (past ++ event ∷ []) events (after_event cache event) (heard_event past cache event all))

all_heard : (most : ℕ) (events : List Event) → All (λ pair. IsHeard events pair) (cache_after most events).pairs
all_heard most events = heard_events [] events (empty most) (All-nil (λ pair. IsHeard [] pair))

both_are : (a b : Bool) → (a && b) ≡ true → (a ≡ true) × (b ≡ true)
both_are true b e = (refl, e)
both_are false b e = absurd cc

-- what is looked up is the MAC of a pair
mapped : (o : Option Neighbour) (mac : Mac) → option_map (λ (pair : Neighbour). pair.mac) o ≡ Some mac → (pair : Neighbour) × (o ≡ Some pair) × (pair.mac ≡ mac)
mapped None mac is = absurd cc
mapped (Some pair) mac is = let same : pair.mac ≡ mac = cc in (pair, refl, same)

pub found_was_heard : (most : ℕ) (events : List Event) (now : Moment) (addr : Addr) (mac : Mac) → look now addr (cache_after most events) ≡ Some mac
    → (heard : Moment) × IsLastFrom events addr mac heard × (is_live 1200000 now heard ≡ true)
found_was_heard most events now addr mac is =
    let pairs : List Neighbour = (cache_after most events).pairs in
    let one = mapped (find (is_found now addr) pairs) mac is in
    let pair : Neighbour = one.0 in
    let found = found_is (λ p. IsHeard events p) (is_found now addr) pairs pair one.1 (all_heard most events) in
    let both = both_are (is_pair_of addr pair) (is_live_pair now pair) found.1 in
    let same : pair.addr ≡ addr = ap made (same_octets pair.addr addr both.0) in
    (pair.heard, subst (λ (m : Mac). IsLastFrom events addr m pair.heard) one.2 (subst (λ (a : Addr). IsLastFrom events a pair.mac pair.heard) same found.0), both.1)
  where
    made : List ℕ → Addr
    made octets = record { 0 = octets }
