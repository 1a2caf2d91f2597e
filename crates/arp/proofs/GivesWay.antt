-- Which pair gives way.
use Rattle.std.proofs.Common.{◌≡◌, ℕ, suc, ◌-◌, ◌<◌, ◌≤◌, Bool, true, false, nat_lt, List, [], ◌∷◌, ◌++◌, length, take, drop, get_or, cond, All, sym, ◌∙◌, ap, arith}
use Rattle.std.specs.List.{list_any, remove}
use Rattle.std.proofs.lemmas.Bool.Decides.{nat_tests}
use Rattle.std.proofs.lemmas.List.{get_or_default, length-take, take-append-drop}
use Rattle.std.proofs.lemmas.List.Edits.{remove-append_right}
use Rattle.std.proofs.Math.Seq.{drop-cons}
use Rattle.ipv4.specs.declared.addr.Addr.{Addr}
use Rattle.ipv4.specs.Addresses.{same_addr}
use Rattle.arp.specs.declared.entry.Neighbour.{Neighbour}
use Rattle.clock.specs.declared.moment.Moment.{Moment}
use Rattle.arp.specs.declared.packet.ArpPacket.{ArpPacket}
use Rattle.arp.specs.Cache.{Cache, is_pair_of, longest_unheard, added, updated, pairs_after, sender_of, after_hear}
use Rattle.arp.proofs.History.{some_first}
use Rattle.arp.proofs.Unheard.{is_longest_unheard_place}

-- a pair that was heard no later than any other, and what stands before and behind it
record FirstOf (pairs : List Neighbour) : Type 0 where
  before : List Neighbour
  gone : Neighbour
  after : List Neighbour
  parts : pairs ≡ before ++ gone ∷ after
  least : All (λ pair. gone.heard.0 ≤ pair.heard.0) pairs
  rest : remove pairs (longest_unheard pairs) ≡ before ++ after

first_of : (pairs : List Neighbour) → 0 < length pairs → FirstOf pairs
first_of pairs some =
    let none : Neighbour = record { addr = record { 0 = [] }; mac = record { 0 = [] }; heard = record { 0 = 0 } } in
    let found = some_first pairs (length pairs) some (omega arith) in
    let place : ℕ = found.0 in
    let gone : Neighbour = get_or pairs place none in
    let before : List Neighbour = take place pairs in
    let after : List Neighbour = drop (suc place) pairs in
    let parts : pairs ≡ before ++ gone ∷ after = sym (take-append-drop place pairs) ∙ ap (λ ys. before ++ ys) (drop-cons pairs place none found.1.within) in
    let len : length before ≡ place = omega (arith, length-take place pairs, found.1.within) in
    let nothing : place - place ≡ 0 = omega arith in
    let is : longest_unheard pairs ≡ place = sym (is_longest_unheard_place pairs place found.1) in
    record {
      before = before;
      gone = gone;
      after = after;
      parts = parts;
      least = λ k d within. omega (arith, found.1.least k d within, ap (λ (pair : Neighbour). pair.heard.0) (get_or_default pairs place d none found.1.within));
      rest = ap (remove pairs) is ∙ ap (λ xs. remove xs place) parts ∙ remove-append_right before (gone ∷ after) place place len (omega arith)
          ∙ ap (λ n. before ++ remove (gone ∷ after) n) nothing;
    }

hears : (most : ℕ) (sender : Neighbour) (for_us : Bool) (pairs : List Neighbour) (left : List Neighbour) → for_us ≡ true → list_any (is_pair_of sender.addr) pairs ≡ false
    → length pairs ≡ most → remove pairs (longest_unheard pairs) ≡ left → pairs_after most sender for_us pairs ≡ left ++ sender ∷ []
unfolding pairs_after
hears most sender for_us pairs left ours unknown full is =
    let few : nat_lt (length pairs) most ≡ false = grind (arith, nat_tests, full) in
    ap (λ b. cond b (updated sender pairs) (cond for_us (added most sender pairs) pairs)) unknown
    ∙ ap (λ b. cond b (added most sender pairs) pairs) ours
    ∙ ap (λ b. cond b pairs (remove pairs (longest_unheard pairs)) ++ sender ∷ []) few
    ∙ ap (λ xs. xs ++ sender ∷ []) is

pub longest_unheard_gives_way : (cache : Cache) (now : Moment) (packet : ArpPacket) (ours : Addr) → same_addr packet.target_addr ours ≡ true
    → list_any (is_pair_of packet.sender_addr) cache.pairs ≡ false → 0 < cache.most → length cache.pairs ≡ cache.most
    → (before : List Neighbour) × (gone : Neighbour) × (after : List Neighbour) × (cache.pairs ≡ before ++ gone ∷ after)
    × All (λ pair. gone.heard.0 ≤ pair.heard.0) cache.pairs × ((after_hear now packet ours cache).pairs ≡ (before ++ after) ++ sender_of now packet ∷ [])
longest_unheard_gives_way cache now packet ours is_ours unknown some full =
    let first = first_of cache.pairs (omega (arith, some, full)) in (
      first.before,
      first.gone,
      first.after,
      first.parts,
      first.least,
      hears cache.most (sender_of now packet) (same_addr packet.target_addr ours) cache.pairs (first.before ++ first.after) is_ours unknown full first.rest,
    )
