-- How large a host is. The ranges are this stack's own, but for the longest payload of a datagram (RFC 791 section 3.1).
use Rattle.std.specs.Prelude.{◌≤◌, ℕ}
use Rattle.host.specs.declared.sizes.Sizes.{Sizes}

-- a number lies between two others, or is one of them
abbrev pub IsFrom : ℕ → ℕ → ℕ → Type 0
IsFrom least most n = (least ≤ n) × (n ≤ most)

-- entries of the table, octets of a connection's buffers, datagrams that are put together and the octets of each, control replies, and neighbours
pub record IsSizes (sizes : Sizes) : Type 0 where
  pub entries : IsFrom 1 16384 sizes.entries
  pub buffer : IsFrom 2048 1048576 sizes.buffer
  pub reassemblies : IsFrom 0 16 sizes.reassemblies
  pub reassembly_octets : IsFrom 1480 65515 sizes.reassembly_octets
  pub replies : IsFrom 1 64 sizes.replies
  pub neighbours : IsFrom 8 4096 sizes.neighbours
