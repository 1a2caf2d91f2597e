-- The octets of a datagram's payload by their places, as far as fragments have come (RFC 791 section 3.2): at a place stands
-- the octet that came for it last, and None where none came.
use Rattle.std.specs.Prelude.{ℕ, ◌+◌, ◌-◌, Bool, ◌&&◌, nat_le, if◌then◌else◌, List, ◌++◌, length, take, drop, map, replicate, Option, Some, None, is_some, unwrap_or}
use Rattle.std.specs.List.{list_all}

-- the places up to here at least
unfoldable pub reaching : ℕ → List (Option ℕ) → List (Option ℕ)
reaching end octets = octets ++ replicate (end - length octets) None

-- these octets stand from a place on, whatever stood there
unfoldable pub put : ℕ → List ℕ → List (Option ℕ) → List (Option ℕ)
put at new octets = take at octets ++ map Some new ++ drop (at + length new) octets

-- a fragment's octets are laid over those that came before
unfoldable pub laid : ℕ → List ℕ → List (Option ℕ) → List (Option ℕ)
laid at new octets = put at new (reaching (at + length new) octets)

-- every place has its octet
abbrev pub is_covered : List (Option ℕ) → Bool
is_covered octets = list_all is_some octets

-- the octets, where every place has one
abbrev pub filled : List (Option ℕ) → List ℕ
filled octets = map (λ octet. unwrap_or octet 0) octets

-- the octets below the end of a payload, where the end is known and each of them came
unfoldable pub whole_of : Option ℕ → List (Option ℕ) → Option (List ℕ)
whole_of None octets = None
whole_of (Some end) octets = if nat_le end (length octets) && is_covered (take end octets) then Some (filled (take end octets)) else None
