use Rattle.std.proofs.Common.{◌∙◌, Ok, true, slice_index, ◌^◌, ◌≡◌, ℕ, zero, suc, ◌+◌, ◌*◌, ◌/◌, ◌%◌, ◌<◌, nat_eq, List, [], ◌∷◌, ◌++◌, length, length-append, refl, ap, arith}
use Rattle.byteorder.specs.Endian.{big_bytes}
use Rattle.inet_sum.specs.Sum.{sum_of, checksum_of}
use Rattle.inet_sum.proofs.Complements.{sum_right}
use Rattle.tcp_segment.specs.Options.{joined}
use Rattle.tcp_segment.specs.Reading.{flags_in, header_len, checksum_in}
use Rattle.tcp_segment.specs.Segment.{Segment, bit, control_bits}
use Rattle.std.proofs.lemmas.Bool.Decides.{nat_tests}
use Rattle.codecc.specs.declared.types.CodecTcp.{CodecTcp}
use Rattle.codecc.specs.Network.{is_header_len}
use Rattle.codecc.specs.Transport.{segment_checksum, segment_header, segment_of, told_segment, with_options_told}
use Rattle.codecc.proofs.laws.segments_read_back.Goals as goal

-- the worth of a bit that is tested
bit_worth : (n p : ℕ) → n < 2 → bit (nat_eq n 1) p ≡ n * p
bit_worth zero p h = omega arith
bit_worth (suc zero) p h = omega arith
bit_worth (suc (suc n)) p h = absurd (omega arith)

-- the control bits that are read are the low six bits
control_bits-flags_in : (n : ℕ) → control_bits (flags_in n) ≡ n % 64
control_bits-flags_in n =
    let fin = bit_worth (n % 2) 1 (omega arith) in
    let syn = bit_worth (n / 2 % 2) 2 (omega arith) in
    let rst = bit_worth (n / 4 % 2) 4 (omega arith) in
    let psh = bit_worth (n / 8 % 2) 8 (omega arith) in
    let ack = bit_worth (n / 16 % 2) 16 (omega arith) in
    let urg = bit_worth (n / 32 % 2) 32 (omega arith) in
    omega (arith, fin, syn, rst, psh, ack, urg)

-- a header up to its window, by the number of its length and control bits
abbrev front : CodecTcp → ℕ → List ℕ
front c control =
    big_bytes 2 c.source ++ big_bytes 2 c.destination ++ big_bytes 4 c.number ++ big_bytes 4 c.acknowledgement ++ big_bytes 2 control ++ big_bytes 2 c.window

abbrev control_of : CodecTcp → ℕ
control_of c = 4096 * (c.header_len / 4) + c.flags

-- what a segment is summed with
abbrev pseudo : List ℕ → List ℕ → ℕ → List ℕ
pseudo src dst len = src ++ dst ++ 0 ∷ 6 ∷ [] ++ big_bytes 2 len

-- a segment has a right checksum
summed : (src dst : List ℕ) (len : ℕ) (c : CodecTcp) (behind : List ℕ) → length src ≡ 4 → length dst ≡ 4
    → sum_of (pseudo src dst len ++ (segment_header c (checksum_of (pseudo src dst len ++ (segment_header c 0 ++ behind))) ++ behind)) ≡ 65535
summed (a0 ∷ a1 ∷ a2 ∷ a3 ∷ []) (b0 ∷ b1 ∷ b2 ∷ b3 ∷ []) len c behind s t = sum_right
    (a0 ∷ a1 ∷ a2 ∷ a3 ∷ b0 ∷ b1 ∷ b2 ∷ b3 ∷ 0 ∷ 6 ∷ [] ++ big_bytes 2 len ++ front c (control_of c)) (big_bytes 2 c.urgent ++ behind) 14 refl
summed _ _ len c behind s t = absurd (omega arith)

-- a length of a header is of whole words
is_words : (n : ℕ) → is_header_len n ≡ true → (n ≡ 4 * (n / 4)) × (n < 64)
is_words n e = (grind (arith, nat_tests, e), grind (arith, nat_tests, e))

-- what is told, by what is read of the octets
abbrev telling : CodecTcp → ℕ → ℕ → ℕ → CodecTcp
telling c header_len checksum flags = record c { header_len = header_len; checksum = checksum; flags = flags }

pub returns : goal.returns
returns c = λ src dst h old options padding octets s t fields flags are is_header header_fits len.
    let behind : List ℕ = (joined options ++ padding) ++ octets in
    let checksum : ℕ = segment_checksum src dst h behind in
    let written : List ℕ = segment_header h checksum ++ behind in
    let segment : Segment = segment_of h options octets in
    let head : CodecTcp = with_options_told h checksum segment in
    let words = is_words h.header_len header_fits in
    let bound : checksum < 2 ^ 16 = omega arith in
    let control : control_of h ≡ 4096 * (h.header_len / 4) + 64 * (h.flags / 64) + control_bits (flags_in h.flags) = omega (arith, control_bits-flags_in h.flags) in
    let at_header : h.header_len ≡ header_len written = omega (arith, words.0, words.1, flags) in
    let at_checksum : checksum ≡ checksum_in written = omega (arith, bound) in
    let at_flags : h.flags ≡ slice_index written 13 = omega (arith, flags) in
    let told : head ≡ told_segment written segment = ap (λ (n : ℕ). telling head n checksum h.flags) at_header
    ∙ (ap (λ (n : ℕ). telling head (header_len written) n h.flags) at_checksum ∙ ap (λ (n : ℕ). telling head (header_len written) (checksum_in written) n) at_flags) in (
      Ok segment,
      record {
        form = record {
          offset = h.header_len / 4;
          reserved = h.flags / 64;
          checksum = checksum;
          padding = padding;
          fields = fields;
          options = are;
          offset_fits = omega (arith, words.1);
          reserved_fits = omega (arith, flags);
          checksum_fits = bound;
          header = omega (arith, words.0, is_header);
          len = omega (arith, length-append (joined options ++ padding) octets, is_header, len);
          spelled = ap (λ (n : ℕ). front h n ++ big_bytes 2 checksum ++ big_bytes 2 h.urgent ++ behind) control;
        };
        sum = summed src.0 dst.0 (length (segment_header h 0 ++ behind)) h behind s t;
      },
      refl,
      told,
    )
