-- How a message is written.
use Rattle.std.proofs.Common.{◌≡◌, ℕ, ◌+◌, ◌-◌, ◌≤◌, min, List, [], ◌++◌, length, take, drop, arith, sym, ◌∙◌, ap, append_assoc}
use Rattle.std.specs.List.{slice_range}
use Rattle.std.proofs.lemmas.List.{length-take, length-drop, take_at, drop_at, take-append-drop, drop-drop, take_min}
use Rattle.std.proofs.lemmas.Slice.{between_is, between-put_mid, drop-put_mid, take-put_mid}
use borrow.Rule.Slice.PartMut.{put_mid, same_len_mid}
use Rattle.inet_sum.specs.Sum.{checksum_of}
use Rattle.icmp.specs.declared.error.Reason.{Reason}
use Rattle.icmp.specs.declared.head.Head.{Head}
use Rattle.icmp.specs.Errors.{kind_of, code_of}
use Rattle.icmp.specs.Message.{Message, spelling}
use Rattle.icmp.specs.Sent.{sent, with_fields, reply_to, error_for}

-- What is written first has a checksum of zero; what is written then has the checksum of that.
pub emitted : (head : Head) (checksum len : ℕ) (out first second : List ℕ)
    → first ≡ spelling (with_fields head 0 []) ++ drop 8 out
    → checksum ≡ checksum_of (take len first)
    → second ≡ spelling (with_fields head checksum []) ++ drop 8 first
    → 8 ≤ len → len ≤ length out
    → second ≡ spelling (sent head (slice_range out 8 len)) ++ drop len out
emitted head checksum len out first second is_first is_checksum is_second long room =
    let payload : List ℕ = slice_range out 8 len in
    let end : 8 + (len - 8) ≡ len = omega arith in
    let parts : drop 8 out ≡ payload ++ drop len out =
    sym (take-append-drop (len - 8) (drop 8 out))
    ∙ ap (λ (xs : List ℕ). payload ++ xs) (drop-drop (len - 8) 8 out ∙ ap (λ (n : ℕ). drop n out) end) in
    let payload_len : length payload ≡ len - 8 = omega (arith, length-take (len - 8) (drop 8 out), length-drop 8 out) in
    let len_is : length (spelling (with_fields head 0 payload)) ≡ len = omega (arith, payload_len) in
    let whole : first ≡ spelling (with_fields head 0 payload) ++ drop len out =
    is_first ∙ ap (λ (xs : List ℕ). spelling (with_fields head 0 []) ++ xs) parts in
    let taken : take len first ≡ spelling (with_fields head 0 payload) =
    ap (λ (xs : List ℕ). take len xs) whole ∙ take_at (spelling (with_fields head 0 payload)) (drop len out) len len_is in
    let behind : drop 8 first ≡ payload ++ drop len out = ap (λ (xs : List ℕ). drop 8 xs) is_first ∙ parts in
    is_second ∙ ap (λ (xs : List ℕ). spelling (with_fields head checksum []) ++ xs) behind
    ∙ ap (λ (n : ℕ). spelling (with_fields head n payload) ++ drop len out) (is_checksum ∙ ap checksum_of taken)

-- what stands between the head and the end of what was put behind the head
pub one_put : (out body part : List ℕ) (n len : ℕ) → 8 + length body ≤ length out → part ≡ body → n ≡ length body → len ≡ 8 + length body
    → (slice_range (put_mid 8 n out part) 8 len ≡ body) × (drop len (put_mid 8 n out part) ≡ drop len out)
one_put out body part n len room is is_n is_len =
    let part_len : length part ≡ n = ap length is ∙ sym is_n in (
      between-put_mid 8 n out part len (omega arith) (omega (arith, part_len)) ∙ is,
      drop-put_mid 8 n out part len (omega arith) (omega arith) part_len,
    )

-- the same of two parts, one behind the other
pub two_put : (out first second : List ℕ) (n k len : ℕ) → 8 + length first + length second ≤ length out
    → n ≡ length first → k ≡ length second → len ≡ 8 + length first + length second
    → (slice_range (put_mid (8 + length first) k (put_mid 8 n out first) second) 8 len ≡ first ++ second)
    × (drop len (put_mid (8 + length first) k (put_mid 8 n out first) second) ≡ drop len out)
two_put out first second n k len room is_n is_k is_len =
    let once : List ℕ = put_mid 8 n out first in
    let twice : List ℕ = put_mid (8 + length first) k once second in
    let once_len : length once ≡ length out = same_len_mid 8 n out first (omega (arith, length-take n (drop 8 out), length-drop 8 out)) in
    let front_len : length (take 8 out) ≡ 8 = omega (arith, length-take 8 out) in
    let front : take len twice ≡ take 8 out ++ (first ++ second) =
    take-put_mid (8 + length first) k once second len (omega arith) (omega (arith, once_len))
    ∙ ap (λ (xs : List ℕ). xs ++ second) (take-put_mid 8 n out first (8 + length first) (omega arith) (omega arith))
    ∙ append_assoc (take 8 out) first second in (
      between_is twice 8 len ∙ ap (λ (xs : List ℕ). drop 8 xs) front ∙ drop_at (take 8 out) (first ++ second) 8 front_len,
      drop-put_mid (8 + length first) k once second len (omega arith) (omega (arith, once_len)) (sym is_k)
          ∙ drop-put_mid 8 n out first len (omega arith) (omega arith) (sym is_n),
    )

same_rest : (head : Head) (xs body out : List ℕ) (len : ℕ) → (slice_range xs 8 len ≡ body) × (drop len xs ≡ drop len out)
    → spelling (sent head (slice_range xs 8 len)) ++ drop len xs ≡ spelling (sent head body) ++ drop len out
same_rest head xs body out len parts =
    ap (λ (ys : List ℕ). spelling (sent head ys) ++ drop len xs) parts.0 ∙ ap (λ (ys : List ℕ). spelling (sent head body) ++ ys) parts.1

-- a reply whose data were put behind its head
pub reply_written : (request : Message) (out part : List ℕ) (identifier number n len : ℕ) → 8 + length request.payload ≤ length out
    → part ≡ request.payload → identifier ≡ request.identifier → number ≡ request.number → n ≡ length request.payload → len ≡ 8 + length request.payload
    → spelling (sent (record { kind = 0; code = 0; identifier = identifier; number = number }) (slice_range (put_mid 8 n out part) 8 len)) ++ drop len (put_mid 8 n out part)
    ≡ spelling (reply_to request) ++ drop len out
reply_written request out part identifier number n len room is is_identifier is_number is_n is_len =
    let head : Head = record { kind = 0; code = 0; identifier = identifier; number = number } in
    let same : head ≡ record { kind = 0; code = 0; identifier = request.identifier; number = request.number } = cc in
    same_rest head (put_mid 8 n out part) request.payload out len (one_put out request.payload part n len room is is_n is_len)
    ∙ ap (λ (h : Head). spelling (sent h request.payload) ++ drop len out) same

-- an error whose quote was put behind its head
pub error_written : (reason : Reason) (header payload out first second : List ℕ) (m n k kind code len : ℕ)
    → 8 + length header + min 8 (length payload) ≤ length out → m ≡ min 8 (length payload) → first ≡ header → second ≡ take m payload
    → kind ≡ kind_of reason → code ≡ code_of reason → n ≡ length header → k ≡ length (take m payload) → len ≡ 8 + length header + min 8 (length payload)
    → spelling (sent (record { kind = kind; code = code; identifier = 0; number = 0 }) (slice_range (put_mid (8 + length header) k (put_mid 8 n out first) second) 8 len))
    ++ drop len (put_mid (8 + length header) k (put_mid 8 n out first) second)
    ≡ spelling (error_for reason header payload) ++ drop len out
error_written reason header payload out first second m n k kind code len room is_m is_first is_second is_kind is_code is_n is_k is_len =
    let head : Head = record { kind = kind; code = code; identifier = 0; number = 0 } in
    let same : head ≡ record { kind = kind_of reason; code = code_of reason; identifier = 0; number = 0 } = cc in
    let quoted : second ≡ take 8 payload = is_second ∙ ap (λ (i : ℕ). take i payload) is_m ∙ take_min 8 payload in
    let second_len : length second ≡ min 8 (length payload) = ap length quoted ∙ length-take 8 payload in
    let first_len : length header ≡ length first = ap length (sym is_first) in
    let k_len : k ≡ length second = is_k ∙ ap length (sym is_second) in
    let parts = two_put out first second n k len (omega (arith, first_len, second_len)) (omega (arith, first_len)) k_len (omega (arith, first_len, second_len)) in
    let body : first ++ second ≡ header ++ take 8 payload = cc in
    ap (λ (i : ℕ). spelling (sent head (slice_range (put_mid (8 + i) k (put_mid 8 n out first) second) 8 len)) ++ drop len (put_mid (8 + i) k (put_mid 8 n out first) second)) first_len
    ∙ same_rest head (put_mid (8 + length first) k (put_mid 8 n out first) second) (first ++ second) out len parts
    ∙ ap (λ (ys : List ℕ). spelling (sent head ys) ++ drop len out) body
    ∙ ap (λ (h : Head). spelling (sent h (header ++ take 8 payload)) ++ drop len out) same
