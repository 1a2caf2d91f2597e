-- How a header is written.
use Rattle.std.proofs.Common.{◌≡◌, ℕ, ◌+◌, ◌-◌, ◌≤◌, List, [], ◌∷◌, ◌++◌, length, length-append, drop, arith, sym, ◌∙◌, ap, append_assoc}
use Rattle.std.specs.List.{slice_range}
use Rattle.std.proofs.lemmas.List.{length-take, length-drop, take-append-drop, drop-drop}
use Rattle.byteorder.specs.Endian.{big_bytes}
use Rattle.inet_sum.specs.Sum.{sum_of, pseudo_octets}
use Rattle.ipv4.specs.declared.addr.Addr.{Addr}
use Rattle.udp.specs.declared.head.Head.{Head}
use Rattle.udp.specs.Datagram.{header_octets, spelling, summed}
use Rattle.udp.specs.Sent.{sent, sent_with, checksum_field}

-- the length of the payload that stands behind a header
pub payload-length : (out : List ℕ) (n : ℕ) → 8 + n ≤ length out → length (slice_range out 8 (8 + n)) ≡ n
payload-length out n room = omega (arith, length-take (8 + n - 8) (drop 8 out), length-drop 8 out)

-- a header and what it is written before
pub before : (head : Head) (out : List ℕ) (n checksum : ℕ)
    → header_octets (sent_with head (slice_range out 8 (8 + n)) checksum) ++ drop 8 out
    ≡ spelling (sent_with head (slice_range out 8 (8 + n)) checksum) ++ drop (8 + n) out
before head out n checksum =
    let payload : List ℕ = slice_range out 8 (8 + n) in
    let count : 8 + (8 + n - 8) ≡ 8 + n = omega arith in
    let parts : drop 8 out ≡ payload ++ drop (8 + n) out =
    sym (take-append-drop (8 + n - 8) (drop 8 out)) ∙ ap (λ (xs : List ℕ). payload ++ xs) (drop-drop (8 + n - 8) 8 out ∙ ap (λ (m : ℕ). drop m out) count) in
    ap (λ (xs : List ℕ). header_octets (sent_with head payload checksum) ++ xs) parts
    ∙ sym (append_assoc (header_octets (sent_with head payload checksum)) payload (drop (8 + n) out))

-- The sum is of a header with a checksum of zero; what is written has the checksum of that.
pub emitted : (src dst : Addr) (head : Head) (payload : List ℕ) (sum told : ℕ) (out first last : List ℕ)
    → first ≡ header_octets (sent_with head payload 0)
    → sum ≡ sum_of (summed src dst (first ++ payload))
    → told ≡ checksum_field (65535 - sum)
    → last ≡ header_octets (sent_with head payload told)
    → last ++ drop 8 out ≡ header_octets (sent src dst head payload) ++ drop 8 out
emitted src dst head payload sum told out first last is_first is_sum is_told is_last =
    let sum_is : sum ≡ sum_of (summed src dst (spelling (sent_with head payload 0))) = is_sum ∙ ap (λ (xs : List ℕ). sum_of (summed src dst (xs ++ payload))) is_first in
    ap (λ (xs : List ℕ). xs ++ drop 8 out) is_last
    ∙ ap (λ (m : ℕ). header_octets (sent_with head payload m) ++ drop 8 out) (is_told ∙ ap (λ (m : ℕ). checksum_field (65535 - m)) sum_is)

-- a sum of a header and of the payload behind it
pub summed_in_parts : (src dst : Addr) (header payload : List ℕ) (len result : ℕ) → len ≡ length (header ++ payload)
    → result ≡ sum_of ((pseudo_octets (record { src = src.0; dst = dst.0; protocol = 17; length = len }) ++ header) ++ payload)
    → result ≡ sum_of (summed src dst (header ++ payload))
summed_in_parts src dst header payload len result is_len is =
    is ∙ ap sum_of (append_assoc (pseudo_octets (record { src = src.0; dst = dst.0; protocol = 17; length = len })) header payload)
    ∙ ap (λ (n : ℕ). sum_of (pseudo_octets (record { src = src.0; dst = dst.0; protocol = 17; length = n }) ++ (header ++ payload))) is_len

-- how many octets stand before the payload
pub before_payload : (src dst : Addr) (header : List ℕ) (len : ℕ) → length src.0 ≡ 4 → length dst.0 ≡ 4 → length header ≡ 8
    → length (pseudo_octets (record { src = src.0; dst = dst.0; protocol = 17; length = len }) ++ header) ≡ 20
before_payload src dst header len is_src is_dst is_header =
    let addresses = length-append src.0 dst.0 in
    let known = length-append (src.0 ++ dst.0) (0 ∷ 17 ∷ []) in
    let pseudo = length-append (src.0 ++ dst.0 ++ 0 ∷ 17 ∷ []) (big_bytes 2 len) in
    omega (arith, length-append (pseudo_octets (record { src = src.0; dst = dst.0; protocol = 17; length = len })) header, pseudo, known, addresses, is_src, is_dst, is_header)
