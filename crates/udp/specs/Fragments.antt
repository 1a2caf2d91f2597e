-- The fragments of a payload of IPv4 that is too long for one frame (RFC 791 section 3.2): 1,480 octets each, and one rest.
use Rattle.std.specs.Prelude.{ℕ, zero, suc, ◌+◌, ◌-◌, ◌*◌, ◌/◌, max, min, nat_lt, List, [], ◌∷◌}
use Rattle.std.specs.List.{slice_range}
use Rattle.udp.specs.declared.cutting.Fragment.{Fragment}

-- the fragment with this number, counted from 0, of a payload of so many octets: 1,480 octets are 185 units of eight
abbrev pub fragment : ℕ → ℕ → Fragment
fragment len number = record {
  offset = 185 * number;
  len = min 1480 (len - 1480 * number);
  more_fragments = nat_lt (1480 * (number + 1)) len;
}

-- so many fragments, from this number on
abbrev pub fragments_from : ℕ → ℕ → ℕ → List Fragment
fragments_from len number zero = []
fragments_from len number (suc rest) = fragment len number ∷ fragments_from len (number + 1) rest

-- how many a payload has: one for each 1,480 octets that are begun, and one where it is empty
abbrev pub count_of : ℕ → ℕ
count_of len = max 1 ((len + 1479) / 1480)

-- the fragments of a payload of so many octets
abbrev pub fragments_of : ℕ → List Fragment
fragments_of len = fragments_from len 0 (count_of len)

-- the part of a payload that goes out in a fragment
abbrev pub part_of : List ℕ → Fragment → List ℕ
part_of payload f = slice_range payload (8 * f.offset) (8 * f.offset + f.len)
