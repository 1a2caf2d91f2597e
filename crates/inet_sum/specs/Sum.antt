-- The one's complement sum of the Internet protocols (RFC 791 section 3.1, RFC 1071 sections 1 and 2).
use Rattle.std.specs.Prelude.{Bool, ℕ, ◌+◌, ◌-◌, ◌*◌, ◌/◌, ◌%◌, ◌==◌, if◌then◌else◌, List, [], ◌∷◌, ◌++◌}
use Rattle.inet_sum.specs.declared.Pseudo.{Pseudo}
use Rattle.byteorder.specs.Endian.{big_bytes}

-- the whole-number sum of the 16-bit words in network order, an odd last octet padded with zero
abbrev pub word_sum : List ℕ → ℕ
word_sum [] = 0
word_sum (high ∷ []) = 256 * high
word_sum (high ∷ low ∷ rest) = 256 * high + low + word_sum rest

-- a whole number as a one's complement number of 16 bits: 0 stands for 0 alone
abbrev pub ones_complement : ℕ → ℕ
ones_complement total = if total == 0 then 0 else 1 + (total - 1) % 65535

-- the one's complement sum of octets
abbrev pub sum_of : List ℕ → ℕ
sum_of octets = ones_complement (word_sum octets)

-- What octets with this sum add behind others: behind an odd number of octets each stands in the other half of its word,
-- which exchanges the two octets of the sum (RFC 1071 section 2, byte order independence).
abbrev pub sum_behind : Bool → ℕ → ℕ
sum_behind odd sum = if odd then 256 * (sum % 256) + sum / 256 else sum

-- The whole-number sum of the words where each is read with its first octet low, as a processor reads them whose numbers begin with
-- their lowest octet. In one's complement it is the sum with its octets exchanged, whatever the order (RFC 1071 section 2).
abbrev pub low_word_sum : List ℕ → ℕ
low_word_sum [] = 0
low_word_sum (low ∷ []) = low
low_word_sum (low ∷ high ∷ rest) = low + 256 * high + low_word_sum rest

-- the checksum that is sent: the one's complement of the sum
abbrev pub checksum_of : List ℕ → ℕ
checksum_of octets = 65535 - sum_of octets

-- the octets of the pseudo header (RFC 9293 section 3.1, RFC 768): source, destination, zero, protocol, length
abbrev pub pseudo_octets : Pseudo → List ℕ
pseudo_octets pseudo = pseudo.src ++ pseudo.dst ++ 0 ∷ pseudo.protocol ∷ [] ++ big_bytes 2 pseudo.length
