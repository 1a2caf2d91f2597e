-- What a host keeps of the packets that it heard, and of the requests that it sent. Who is learnt is RFC 826; that old pairs
-- are flushed, and one request a second for an address, are RFC 1122 section 2.3.2.1. The twenty minutes, that few pairs are kept and
-- which of them gives way, and the 64 notes are this stack's own.
use Rattle.std.specs.Prelude.{◌≡◌, ◌<◌, ◌-◌, ◌^◌, ℕ, Bool, true, false, not, ◌&&◌, ◌||◌, nat_lt, nat_le, if◌then◌else◌, List, [], ◌∷◌, ◌++◌, length, map, filter, find, remove, Option, Some, None, option_map}
use Rattle.std.specs.List.{list_any, list_all, position_or_len, AllByRecursion}
use Rattle.ether.specs.declared.mac.Mac.{Mac}
use Rattle.ipv4.specs.declared.addr.Addr.{Addr}
use Rattle.ipv4.specs.Addresses.{same_addr}
use Rattle.arp.specs.declared.entry.Asked.{Asked}
use Rattle.arp.specs.declared.entry.Neighbour.{Neighbour}
use Rattle.clock.specs.declared.moment.Moment.{Moment}
use Rattle.clock.specs.Moments.{after}
use Rattle.arp.specs.declared.packet.ArpPacket.{ArpPacket}
use Rattle.arp.specs.declared.packet.Operation.{Operation}
use Rattle.arp.specs.declared.packet.Operation.TheVariants.{Request, Reply}

-- how many pairs are kept at most, the pairs of an address and a MAC, in the order in which they were added, and the addresses that were asked for
pub record Cache : Type 0 where
  pub most : ℕ
  pub pairs : List Neighbour
  pub asked : List Asked

-- each MAC that is kept has the width of one
abbrev pub HasWholeMacs : Cache → Type 0
HasWholeMacs cache = AllByRecursion (λ (pair : Neighbour). length pair.mac.0 ≡ 6) cache.pairs

-- nothing was heard, and nothing was asked
abbrev pub empty : ℕ → Cache
empty most = record { most = most; pairs = []; asked = [] }

-- a moment is live for so many milliseconds: until their sum, which the end of the clock bounds, is reached
abbrev pub is_live : ℕ → Moment → Moment → Bool
is_live milliseconds now t = let end = after t milliseconds in nat_lt now.0 end.0

-- a pair is live for twenty minutes after it was heard
abbrev pub is_live_pair : Moment → Neighbour → Bool
is_live_pair now pair = is_live 1200000 now pair.heard

-- A note is live for a second after the request, and until the very moment of the request is over in any case: at the last moment of the clock
-- no second is left.
abbrev pub is_live_note : Moment → Asked → Bool
is_live_note now note = nat_le now.0 note.at.0 || is_live 1000 now note.at

abbrev pub is_pair_of : Addr → Neighbour → Bool
is_pair_of addr pair = same_addr pair.addr addr

abbrev pub is_note_of : Addr → Asked → Bool
is_note_of addr note = same_addr note.addr addr

-- Hearing a packet.

abbrev pub is_request : Operation → Bool
is_request Request = true
is_request Reply = false

abbrev pub is_request_for : Addr → ArpPacket → Bool
is_request_for ours p = same_addr p.target_addr ours && is_request p.operation

-- the sender's pair, heard now
abbrev pub sender_of : Moment → ArpPacket → Neighbour
sender_of now p = record { addr = p.sender_addr; mac = p.sender_mac; heard = now }

-- the pair of the sender's address becomes the one that was heard now; every other pair stays
abbrev pub after_sender : Neighbour → Neighbour → Neighbour
after_sender sender pair = if is_pair_of sender.addr pair then sender else pair

abbrev pub updated : Neighbour → List Neighbour → List Neighbour
updated sender pairs = map (after_sender sender) pairs

-- no pair was heard before this one
abbrev pub is_longest_unheard : List Neighbour → Neighbour → Bool
is_longest_unheard pairs pair = list_all (λ other. nat_le pair.heard.0 other.heard.0) pairs

-- the place of the longest unheard pair; of equals, of the one that was added first
abbrev pub longest_unheard : List Neighbour → ℕ
longest_unheard pairs = position_or_len (is_longest_unheard pairs) pairs

-- the last place is the new pair's; where as many are kept as may be, the longest unheard gives way
abbrev pub added : ℕ → Neighbour → List Neighbour → List Neighbour
added most sender pairs = (if nat_lt (length pairs) most then pairs else remove pairs (longest_unheard pairs)) ++ sender ∷ []

-- A known address is updated, whomever the packet is for; another is added where the packet is for us. A pair is known
-- until it is aged or gives way, also where it is no longer live.
unfoldable pub pairs_after : ℕ → Neighbour → Bool → List Neighbour → List Neighbour
pairs_after most sender is_for_us pairs =
    if list_any (is_pair_of sender.addr) pairs then updated sender pairs else if is_for_us then added most sender pairs else pairs

abbrev pub after_hear : Moment → ArpPacket → Addr → Cache → Cache
after_hear now p ours cache = record cache { pairs = pairs_after cache.most (sender_of now p) (same_addr p.target_addr ours) cache.pairs }

-- Looking an address up, and forgetting what is no longer live.

abbrev pub look : Moment → Addr → Cache → Option Mac
look now addr cache = option_map (λ pair. pair.mac) (find (λ pair. is_pair_of addr pair && is_live_pair now pair) cache.pairs)

abbrev pub after_age : Moment → Cache → Cache
after_age now cache = record cache { pairs = filter (is_live_pair now) cache.pairs }

-- Asking for an address.

-- the notes that are still live
abbrev pub live_notes : Moment → List Asked → List Asked
live_notes now asked = filter (is_live_note now) asked

-- fewer than 64 requests are noted, and none for this address
abbrev pub has_place_for : Addr → List Asked → Bool
has_place_for addr notes = nat_lt (length notes) 64 && not (list_any (is_note_of addr) notes)

unfoldable pub may_ask : Moment → Addr → List Asked → Bool
may_ask now addr asked = has_place_for addr (live_notes now asked)

-- the notes that are no longer live are dropped, and a request that may go out is noted
unfoldable pub asked_after : Moment → Addr → List Asked → List Asked
asked_after now addr asked =
    let live = live_notes now asked in if has_place_for addr live then live ++ record { addr = addr; at = now } ∷ [] else live

abbrev pub after_ask : Moment → Addr → Cache → Cache
after_ask now addr cache = record cache { asked = asked_after now addr cache.asked }

-- how many requests may still go out at a moment
abbrev pub requests_left : Moment → List Asked → ℕ
requests_left now asked = 64 - length (live_notes now asked)

-- From when on a request for an address may go out, as long as none goes out for any: at no moment before, and at each from then on. None where
-- that is so of no moment of the clock: one may go out at each of them, or at none, since a note of the last one stands in its way.
abbrev pub IsNextAsk : Addr → List Asked → Option Moment → Type 0
IsNextAsk addr asked None = (now later : Moment) → now.0 < 2 ^ 64 → later.0 < 2 ^ 64 → may_ask now addr asked ≡ may_ask later addr asked
IsNextAsk addr asked (Some next) = (0 < next.0) × (next.0 < 2 ^ 64) × ((now : Moment) → may_ask now addr asked ≡ nat_le next.0 now.0)
