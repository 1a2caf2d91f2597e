-- What a fragment says, and what all fragments of one datagram say together (RFC 791 section 3.2). A list of fragments is in
-- the order of their arrival.
use Rattle.std.specs.Prelude.{◌≡◌, ℕ, ◌+◌, ◌*◌, ◌-◌, ◌<◌, ◌==◌, Bool, not, ◌&&◌, ◌||◌, nat_lt, nat_le, List, ◌++◌, length, take, reverse, find, slice_index, Option, Some, option_map}
use Rattle.std.specs.List.{list_any}
use Rattle.ipv4.specs.Datagram.{Datagram, header_octets}
use Rattle.reassembly.specs.declared.key.Key.{Key}

-- what the fragments of one datagram have in common
abbrev pub key_of : Datagram → Key
key_of d = record { source = d.source; destination = d.destination; protocol = record { 0 = d.protocol }; identification = d.identification }

-- the places of a fragment's octets in the payload of the whole datagram: from here, up to there
abbrev pub begin_of : Datagram → ℕ
begin_of d = 8 * d.offset

abbrev pub end_of : Datagram → ℕ
end_of d = begin_of d + length d.payload

-- it ends within so many octets of that payload
abbrev pub ends_within : ℕ → Datagram → Bool
ends_within octets d = nat_le (end_of d) octets

-- the last fragment of a datagram tells where its payload ends
abbrev pub is_last : Datagram → Bool
is_last d = not d.more_fragments

-- what an error message quotes of a datagram: its header and the first eight octets of its data (RFC 792)
abbrev pub quote_of : Datagram → List ℕ
quote_of d = header_octets d ++ take 8 d.payload

-- the fragment has an octet for a place, and which one
abbrev pub covers : ℕ → Datagram → Bool
covers i d = nat_le (begin_of d) i && nat_lt i (end_of d)

abbrev pub octet_for : ℕ → Datagram → ℕ
octet_for i d = slice_index d.payload (i - begin_of d)

-- the octet of a place is that of the last fragment to arrive which covers it
abbrev pub latest : List Datagram → ℕ → Option ℕ
latest fragments i = option_map (octet_for i) (find (covers i) (reverse fragments))

-- what is quoted of them: that of the fragment zero, which stands at the beginning, that arrived last
abbrev pub latest_quote : List Datagram → Option (List ℕ)
latest_quote fragments = option_map quote_of (find (λ d. d.offset == 0) (reverse fragments))

-- the end of the payload, where a last fragment is among them
abbrev pub end_shown_by : List Datagram → Option ℕ
end_shown_by fragments = option_map end_of (find is_last fragments)

-- a fragment contradicts a last one: it has an octet past that one's end, or it is a last one with another end
abbrev pub contradicts : Datagram → Datagram → Bool
contradicts last d = is_last last && (nat_lt (end_of last) (end_of d) || (is_last d && not (end_of d == end_of last)))

-- two of them contradict each other
abbrev pub is_contradictory : List Datagram → Bool
is_contradictory fragments = list_any (λ last. list_any (contradicts last) fragments) fragments

-- These octets are the payload: the end is known, and each octet below it is the latest that came for its place.
pub record IsPayload (fragments : List Datagram) (payload : List ℕ) : Type 0 where
  pub ends : end_shown_by fragments ≡ Some (length payload)
  pub latest_octets : (i : ℕ) → i < length payload → latest fragments i ≡ Some (slice_index payload i)
