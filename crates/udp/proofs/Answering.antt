-- The laws of parsing and sending.
use Rattle.std.proofs.Common.{◌≡◌, ◌≢◌, ℕ, ◌+◌, ◌-◌, ◌^◌, ◌<◌, Bool, true, false, nat_eq, inr, List, [], ◌∷◌, ◌++◌, length, take, cond, Result, Ok, Err, refl, ◌∙◌, ap, subst, arith}
use Rattle.std.proofs.lemmas.Bool.{eqb-true}
use Rattle.std.proofs.lemmas.Bool.Decides.{nat_tests}
use Rattle.byteorder.specs.Endian.{big_bytes}
use Rattle.inet_sum.specs.Sum.{word_sum, ones_complement, sum_of, checksum_of}
use Rattle.inet_sum.proofs.Complements.{with_complement, with_full, sum_fits}
use Rattle.ipv4.specs.declared.addr.Addr.{Addr}
use Rattle.udp.specs.declared.fault.UdpFault.{UdpFault}
use Rattle.udp.specs.declared.fault.UdpFault.TheVariants.{UpperHeader, UpperSum}
use Rattle.udp.specs.declared.head.Head.{Head}
use Rattle.udp.specs.Datagram.{UserDatagram, IsParsed, HasForm, SumIsRight, Spells, datagram_len, spelling, summed}
use Rattle.udp.specs.Sent.{CanBeSent, sent, sent_with, checksum_field}
use Rattle.udp.proofs.Form.{form_read, one_form}

-- the sum of the one form is right or not
other_sum : (src dst : Addr) (s t : UserDatagram) (octets : List ℕ) → HasForm s octets → HasForm t octets
    → SumIsRight src dst s → (SumIsRight src dst t → ⊥) → ⊥
other_sum src dst s t octets f g right wrong = wrong (subst (SumIsRight src dst) (one_form s t octets f g) right)

-- octets have one answer
pub one_answer : (src dst : Addr) (octets : List ℕ) (first second : Result UserDatagram UdpFault)
    → IsParsed src dst octets first → IsParsed src dst octets second → first ≡ second
one_answer src dst octets (Ok s) (Ok t) p q = ap Ok (one_form s t octets p.form q.form)
one_answer src dst octets (Ok s) (Err UpperHeader) p q = absurd (q s p.form)
one_answer src dst octets (Ok s) (Err UpperSum) p q = absurd (other_sum src dst s q.0 octets p.form q.1 p.sum q.2)
one_answer src dst octets (Err UpperHeader) (Ok t) p q = absurd (p t q.form)
one_answer src dst octets (Err UpperHeader) (Err UpperHeader) p q = refl
one_answer src dst octets (Err UpperHeader) (Err UpperSum) p q = absurd (p q.0 q.1)
one_answer src dst octets (Err UpperSum) (Ok t) p q = absurd (other_sum src dst t p.0 octets q.form p.1 q.sum p.2)
one_answer src dst octets (Err UpperSum) (Err UpperHeader) p q = absurd (q p.0 p.1)
one_answer src dst octets (Err UpperSum) (Err UpperSum) p q = refl

-- a UDP datagram has one spelling
pub one_spelling : (src dst : Addr) (d : UserDatagram) (octets : List ℕ) → Spells src dst d octets → take (datagram_len d) octets ≡ spelling d
one_spelling src dst d octets spells = (form_read d octets spells.form).spelled

-- a sum and its complement, where 0xFFFF goes out for 0
told_complement : (total : ℕ) → 0 < total → ones_complement (total + checksum_field (65535 - ones_complement total)) ≡ 65535
told_complement total some = by_test (nat_eq (65535 - ones_complement total) 0) refl
  where
    by_test : (b : Bool) → nat_eq (65535 - ones_complement total) 0 ≡ b → ones_complement (total + cond b 65535 (65535 - ones_complement total)) ≡ 65535
    by_test false test = with_complement total
    by_test true test = let full : 65535 - ones_complement total ≡ 0 = eqb-true (65535 - ones_complement total) 0 test in with_full total some ∙ omega (arith, full, sum_fits total)

-- what the checksum adds to the sum of the words
abbrev pseudo_before : List ℕ → List ℕ → ℕ → List ℕ → List ℕ
pseudo_before src dst len octets = (src ++ dst ++ 0 ∷ 17 ∷ [] ++ big_bytes 2 len) ++ octets

words : (src dst : List ℕ) (len : ℕ) (head : Head) (payload : List ℕ) (checksum : ℕ) → length src ≡ 4 → length dst ≡ 4 → checksum < 2 ^ 16
    → (word_sum (pseudo_before src dst len (spelling (sent_with head payload checksum))) ≡ word_sum (pseudo_before src dst len (spelling (sent_with head payload 0))) + checksum)
    × (0 < word_sum (pseudo_before src dst len (spelling (sent_with head payload 0))))
words (a ∷ b ∷ c ∷ d ∷ []) (e ∷ f ∷ g ∷ h ∷ []) len head payload checksum s t fits = (omega arith, omega arith)
words _ _ len head payload checksum s t fits = absurd (omega arith)

-- what is summed, by its length
summed_is : (src dst : Addr) (head : Head) (payload : List ℕ) (checksum : ℕ)
    → summed src dst (spelling (sent_with head payload checksum)) ≡ pseudo_before src.0 dst.0 (8 + length payload) (spelling (sent_with head payload checksum))
summed_is src dst head payload checksum =
    let len : length (spelling (sent_with head payload checksum)) ≡ 8 + length payload = omega arith in
    ap (λ (n : ℕ). pseudo_before src.0 dst.0 n (spelling (sent_with head payload checksum))) len

told_fits : (c : ℕ) → c < 2 ^ 16 → checksum_field c < 2 ^ 16
told_fits c fits = by_test (nat_eq c 0) c fits
  where
    by_test : (b : Bool) (c : ℕ) → c < 2 ^ 16 → cond b 65535 c < 2 ^ 16
    by_test true c fits = omega arith
    by_test false c fits = fits

-- a checksum always goes out
pub sum_told : (src dst : Addr) (head : Head) (payload : List ℕ) → (sent src dst head payload).checksum ≢ 0
sum_told src dst head payload = told_some (checksum_of (summed src dst (spelling (sent_with head payload 0))))
  where
    by_test : (b : Bool) (c : ℕ) → nat_eq c 0 ≡ b → cond b 65535 c ≢ 0
    by_test true c test none = absurd (omega (arith, none))
    by_test false c test none = absurd (grind (arith, nat_tests, test, none))

    told_some : (c : ℕ) → checksum_field c ≢ 0
    told_some c = by_test (nat_eq c 0) c refl

pub sum_right : (src dst : Addr) (head : Head) (payload : List ℕ) → CanBeSent src dst head payload
    → sum_of (summed src dst (spelling (sent src dst head payload))) ≡ 65535
sum_right src dst head payload can =
    let len : ℕ = 8 + length payload in
    let before : ℕ = word_sum (pseudo_before src.0 dst.0 len (spelling (sent_with head payload 0))) in
    let told : ℕ = checksum_field (65535 - ones_complement before) in
    let are = words src.0 dst.0 len head payload told can.src_octets can.dst_octets (told_fits (65535 - ones_complement before) (omega arith)) in
    let is_told : checksum_field (checksum_of (summed src dst (spelling (sent_with head payload 0)))) ≡ told =
    ap (λ (octets : List ℕ). checksum_field (checksum_of octets)) (summed_is src dst head payload 0) in
    ap (λ (c : ℕ). sum_of (summed src dst (spelling (sent_with head payload c)))) is_told
    ∙ ap sum_of (summed_is src dst head payload told) ∙ ap ones_complement are.0 ∙ told_complement before are.1

-- what is sent spells the UDP datagram that is meant
pub sent_spelled : (src dst : Addr) (head : Head) (payload padding : List ℕ) → CanBeSent src dst head payload
    → Spells src dst (sent src dst head payload) (spelling (sent src dst head payload) ++ padding)
sent_spelled src dst head payload padding can = record {
  form = record { padding = padding; fields = can.fields; spelled = refl };
  sum = inr (sum_right src dst head payload can);
}

-- its length
pub sent_len : (src dst : Addr) (head : Head) (payload : List ℕ) → length (spelling (sent src dst head payload)) ≡ 8 + length payload
sent_len src dst head payload = omega arith
