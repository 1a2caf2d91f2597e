-- Prefixes: the addresses that begin with the same bits (RFC 4632 section 3.1).
use Rattle.std.specs.Prelude.{◌≡◌, ◌-◌, ◌<◌, ◌≤◌, ℕ, All, length as count}
use Rattle.std.specs.Int.{w32, bit_at, from_be_bytes}
use Rattle.ipv4.specs.declared.addr.Addr.{Addr}

-- an address as a number of 32 bits, its first octet the highest
abbrev pub number : Addr → ℕ
number addr = from_be_bytes w32 addr.0

-- bit k of an address, where bit 0 is the first one, the highest of its first octet
abbrev pub bit : Addr → ℕ → ℕ
bit addr k = bit_at (number addr) (31 - k)

-- the first `length` bits of the two addresses agree
abbrev pub StartAlike : ℕ → Addr → Addr → Type 0
StartAlike length a b = (k : ℕ) → k < length → bit a k ≡ bit b k

-- The address and the number of bits make a prefix, as 10.0.0.0/8: it has at most the 32 bits of an address, which is four
-- octets, and no bit of the address is set past them.
pub record IsPrefix (addr : Addr) (length : ℕ) : Type 0 where
  pub octets : count addr.0 ≡ 4
  pub in_range : All (λ octet. octet < 256) addr.0
  pub at_most : length ≤ 32
  pub no_bit_past : (k : ℕ) → length ≤ k → k < 32 → bit addr k ≡ 0
