use Rattle.std.proofs.Common.{◌≡◌, ℕ, zero, suc, ◌+◌, ◌*◌, ◌/◌, ◌%◌, ◌<◌, nat_eq, List, [], ◌∷◌, ◌++◌, length, Ok, refl, sym, ap, ◌∙◌, arith}
use Rattle.std.proofs.lemmas.Nat.{from_be_bytes-to_be_bytes_4}
use Rattle.byteorder.specs.Endian.{big_bytes}
use Rattle.inet_sum.specs.Sum.{sum_of}
use Rattle.inet_sum.proofs.Complements.{sum_right}
use Rattle.ipv4.specs.Datagram.{Datagram, flag, header_octets}
use Rattle.codecc.specs.declared.types.CodecIpv4.{CodecIpv4}
use Rattle.codecc.specs.Calls.{addr_of, number_of}
use Rattle.codecc.specs.Network.{datagram_len, datagram_of, fixed_header, header_checksum, is_set}
use Rattle.codecc.proofs.laws.datagrams_read_back.Goals as goal

-- the worth of a bit that is tested
bit_worth : (n p : ℕ) → n < 2 → flag (nat_eq n 1) p ≡ n * p
bit_worth zero p h = omega arith
bit_worth (suc zero) p h = omega arith
bit_worth (suc (suc n)) p h = absurd (omega arith)

-- the flags, one by one, are their number
flags_are : (f : ℕ) → f < 8 → flag (is_set f 4) 4 + flag (is_set f 2) 2 + flag (is_set f 1) 1 ≡ f
flags_are f few = omega (arith, bit_worth (f / 4 % 2) 4 (omega arith), bit_worth (f / 2 % 2) 2 (omega arith), bit_worth (f / 1 % 2) 1 (omega arith))

field_is : (f o : ℕ) → f < 8 → flag (is_set f 4) 32768 + flag (is_set f 2) 16384 + flag (is_set f 1) 8192 + o ≡ 8192 * f + o
field_is f o few = omega (arith, bit_worth (f / 4 % 2) 32768 (omega arith), bit_worth (f / 2 % 2) 16384 (omega arith), bit_worth (f / 1 % 2) 8192 (omega arith))

-- a header before its options, by the number of its flags and offset
abbrev with_field : CodecIpv4 → ℕ → List ℕ
with_field c field =
    (64 + c.header_len / 4) ∷ c.service ∷ [] ++ big_bytes 2 (datagram_len c)
    ++ big_bytes 2 c.identification ++ big_bytes 2 field
    ++ c.ttl ∷ c.protocol ∷ [] ++ big_bytes 2 c.checksum
    ++ (addr_of c.source).0 ++ (addr_of c.destination).0

-- a header has a right checksum
summed : (c : CodecIpv4) (options : List ℕ) → sum_of (fixed_header c (header_checksum c options) ++ options) ≡ 65535
summed c options = sum_right
    ((64 + c.header_len / 4) ∷ c.service ∷ [] ++ big_bytes 2 (datagram_len c) ++ big_bytes 2 c.identification ++ big_bytes 2 (8192 * c.flags + c.offset) ++ c.ttl ∷ c.protocol ∷ [])
    ((addr_of c.source).0 ++ (addr_of c.destination).0 ++ options) 5 refl

-- what is told, by what is not told as it stands
abbrev telling : CodecIpv4 → ℕ → ℕ → ℕ → CodecIpv4
telling c source destination flags = record c { source = source; destination = destination; flags = flags }

pub returns : goal.returns
returns c = λ h old options payload padding source destination few fields.
    let sized : CodecIpv4 = record h { header_len = 20 + length options; payload_len = length payload } in
    let head : CodecIpv4 = record sized { checksum = header_checksum sized options } in
    let d : Datagram = datagram_of head options payload in
    let same : header_octets d ≡ fixed_header head head.checksum ++ options = ap (λ (n : ℕ). with_field head n ++ options) (field_is h.flags h.offset few) in
    let told = ap (λ (n : ℕ). telling head n h.destination h.flags) (sym (from_be_bytes-to_be_bytes_4 h.source source))
    ∙ (ap (λ (n : ℕ). telling head (number_of (addr_of h.source)) n h.flags) (sym (from_be_bytes-to_be_bytes_4 h.destination destination))
    ∙ ap (λ (n : ℕ). telling head (number_of (addr_of h.source)) (number_of (addr_of h.destination)) n) (sym (flags_are h.flags few))) in (
      Ok d,
      record {
        form = record { padding = padding; fields = fields; spelled = ap (λ xs. (xs ++ payload) ++ padding) (sym same) };
        sum = ap sum_of same ∙ summed sized options;
      },
      refl,
      told,
    )
