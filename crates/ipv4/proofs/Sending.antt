-- How a header is written.
use Rattle.std.proofs.Common.{◌≡◌, ℕ, ◌+◌, ◌-◌, ◌*◌, ◌<◌, ◌≤◌, ◌^◌, List, [], ◌∷◌, ◌++◌, length, drop, get_or, arith, refl, sym, ◌∙◌, ap, append_assoc, length-append}
use Rattle.std.specs.Int.{from_be_bytes, w32}
use Rattle.std.specs.List.{slice_range}
use Rattle.std.proofs.lemmas.List.{length-take, length-drop, take-append-drop, drop-drop}
use Rattle.inet_sum.specs.Sum.{word_sum, ones_complement, sum_of}
use Rattle.inet_sum.proofs.Exchanging.{few_turns}
use Rattle.inet_sum.proofs.Words.{word_sum-append}
use Rattle.ipv4.specs.declared.head.Head.{Head}
use Rattle.ipv4.specs.Datagram.{fragment_field, header_octets, spelling}
use Rattle.ipv4.specs.Sent.{sent, sent_with}

-- four octets, one by one
pub four : (xs : List ℕ) → length xs ≡ 4 → xs ≡ get_or xs 0 0 ∷ get_or xs 1 0 ∷ get_or xs 2 0 ∷ get_or xs 3 0 ∷ []
four [] n = absurd (omega arith)
four (a ∷ []) n = absurd (omega arith)
four (a ∷ b ∷ []) n = absurd (omega arith)
four (a ∷ b ∷ c ∷ []) n = absurd (omega arith)
four (a ∷ b ∷ c ∷ d ∷ []) n = refl
four (a ∷ b ∷ c ∷ d ∷ e ∷ rest) n = absurd (omega arith)

-- the length of the payload that stands behind a header
pub payload-length : (out : List ℕ) (n : ℕ) → 20 + n ≤ length out → length (slice_range out 20 (20 + n)) ≡ n
payload-length out n room = omega (arith, length-take (20 + n - 20) (drop 20 out), length-drop 20 out)

-- an address is two words, in one's complement
address : (xs : List ℕ) → length xs ≡ 4 → (turns : ℕ) × (from_be_bytes w32 xs ≡ word_sum xs + 65535 * turns) × (turns ≤ word_sum xs)
address (a ∷ b ∷ c ∷ d ∷ []) n = (256 * a + b, omega arith, omega arith)
address [] n = absurd (omega (arith, n))
address (a ∷ []) n = absurd (omega (arith, n))
address (a ∷ b ∷ []) n = absurd (omega (arith, n))
address (a ∷ b ∷ c ∷ []) n = absurd (omega (arith, n))
address (a ∷ b ∷ c ∷ d ∷ e ∷ rest) n = absurd (omega (arith, n))

-- what the words of a header with a checksum of zero come to, from its fields
pub words_are : (head : Head) (payload : List ℕ) (total result : ℕ) → length head.source.0 ≡ 4 → length head.destination.0 ≡ 4 → 20 + length payload ≡ total → total < 2 ^ 16
    → head.identification < 2 ^ 16 → fragment_field (sent_with head payload 0) < 2 ^ 16
    → result ≡ from_be_bytes w32 head.source.0 + from_be_bytes w32 head.destination.0 + (17664 + total) + (head.identification + fragment_field (sent_with head payload 0)) + (16384 + head.protocol.0)
    → ones_complement result ≡ sum_of (header_octets (sent_with head payload 0))
words_are head payload total result s d is_total total_fits identification field is =
    let source : List ℕ = head.source.0 in
    let destination : List ℕ = head.destination.0 in
    let from = address source s in
    let to = address destination d in
    let words : ℕ = word_sum (header_octets (sent_with head payload 0)) in
    let addresses : word_sum ((source ++ destination) ++ []) ≡ word_sum source + word_sum destination =
    omega (arith, word_sum-append (source ++ destination) 4 [] (omega (arith, length-append source destination, s, d)), word_sum-append source 2 destination s) in
    let words_are : words ≡ word_sum source + word_sum destination + 17664 + total + head.identification + fragment_field (sent_with head payload 0) + 16384 + head.protocol.0 =
    omega (arith, addresses, is_total, total_fits, identification, field) in
    let split : result ≡ words + 65535 * (from.0 + to.0) = omega (arith, is, words_are, from.1, to.1) in
    ap ones_complement split ∙ few_turns words (from.0 + to.0) (omega (arith, words_are, from.2, to.2))

-- the header is written with the complement of the sum of the header that has a checksum of zero
pub emitted : (head : Head) (header out : List ℕ) (sum n : ℕ)
    → sum ≡ sum_of (header_octets (sent_with head (slice_range out 20 (20 + n)) 0))
    → header ≡ header_octets (sent_with head (slice_range out 20 (20 + n)) (65535 - sum))
    → header ++ drop 20 out ≡ spelling (sent head (slice_range out 20 (20 + n))) ++ drop (20 + n) out
emitted head header out sum n is_sum is_header =
    let payload : List ℕ = slice_range out 20 (20 + n) in
    let count : 20 + (20 + n - 20) ≡ 20 + n = omega arith in
    let parts : drop 20 out ≡ payload ++ drop (20 + n) out =
    sym (take-append-drop (20 + n - 20) (drop 20 out))
    ∙ ap (λ (xs : List ℕ). payload ++ xs) (drop-drop (20 + n - 20) 20 out ∙ ap (λ (m : ℕ). drop m out) count) in
    let same : header ≡ header_octets (sent head payload) =
    is_header ∙ ap (λ (m : ℕ). header_octets (sent_with head payload (65535 - m))) is_sum in
    ap (λ (xs : List ℕ). xs ++ drop 20 out) same
    ∙ ap (λ (xs : List ℕ). header_octets (sent head payload) ++ xs) parts
    ∙ sym (append_assoc (header_octets (sent head payload)) payload (drop (20 + n) out))
