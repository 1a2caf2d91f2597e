-- A payload that was cut, and fragments that are parts of it (RFC 791 section 3.2).
use Rattle.std.specs.Prelude.{◌≡◌, ℕ, ◌≤◌, ◌<◌, true, List, All, length, slice_range}
use Rattle.std.specs.List.{list_any}
use Rattle.ipv4.specs.Datagram.{Datagram}
use Rattle.reassembly.specs.Fragments.{begin_of, end_of, is_last, covers}

-- The fragment is a part of the payload: its octets are the payload's at its places, and a last fragment ends where the payload
-- ends.
pub record IsPartOf (payload : List ℕ) (d : Datagram) : Type 0 where
  pub within : end_of d ≤ length payload
  pub octets : d.payload ≡ slice_range payload (begin_of d) (end_of d)
  pub ends : is_last d ≡ true → end_of d ≡ length payload

-- They are parts of it, in any order, some of them repeated or missing.
abbrev pub ArePartsOf : List ℕ → List Datagram → Type 0
ArePartsOf payload fragments = All (IsPartOf payload) fragments

-- No part of it is missing: a last fragment is among them, and for each place of the payload one that covers it.
pub record CoverAll (payload : List ℕ) (fragments : List Datagram) : Type 0 where
  pub last : list_any is_last fragments ≡ true
  pub each : (i : ℕ) → i < length payload → list_any (covers i) fragments ≡ true
