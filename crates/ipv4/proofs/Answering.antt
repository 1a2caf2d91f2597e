-- The laws of parsing and sending.
use Rattle.std.proofs.Common.{◌≡◌, ℕ, ◌+◌, ◌^◌, ◌<◌, List, [], ◌++◌, length, take, Result, Ok, Err, refl, ◌∙◌, ap, subst, length-append, arith}
use Rattle.inet_sum.specs.Sum.{word_sum, ones_complement, checksum_of}
use Rattle.inet_sum.proofs.Complements.{with_complement}
use Rattle.ipv4.specs.declared.fault.Ipv4Fault.{Ipv4Fault}
use Rattle.ipv4.specs.declared.fault.Ipv4Fault.TheVariants.{IpHeader, IpSum}
use Rattle.ipv4.specs.declared.head.Head.{Head}
use Rattle.ipv4.specs.Datagram.{Datagram, IsDatagram, IsParsed, HasForm, SumIsRight, Spells, header_octets, spelling, total_len}
use Rattle.ipv4.specs.Sent.{sent, sent_with}
use Rattle.ipv4.proofs.Form.{form_read, one_form}

-- the sum of the one form is right or not
other_sum : (s t : Datagram) (octets : List ℕ) → HasForm s octets → HasForm t octets → SumIsRight s → (SumIsRight t → ⊥) → ⊥
other_sum s t octets f g right wrong = wrong (subst SumIsRight (one_form s t octets f g) right)

-- octets have one answer
pub one_answer : (octets : List ℕ) (first second : Result Datagram Ipv4Fault) → IsParsed octets first → IsParsed octets second → first ≡ second
one_answer octets (Ok s) (Ok t) p q = ap Ok (one_form s t octets p.form q.form)
one_answer octets (Ok s) (Err IpHeader) p q = absurd (q s p.form)
one_answer octets (Ok s) (Err IpSum) p q = absurd (other_sum s q.0 octets p.form q.1 p.sum q.2)
one_answer octets (Err IpHeader) (Ok t) p q = absurd (p t q.form)
one_answer octets (Err IpHeader) (Err IpHeader) p q = refl
one_answer octets (Err IpHeader) (Err IpSum) p q = absurd (p q.0 q.1)
one_answer octets (Err IpSum) (Ok t) p q = absurd (other_sum t p.0 octets q.form p.1 q.sum p.2)
one_answer octets (Err IpSum) (Err IpHeader) p q = absurd (q p.0 p.1)
one_answer octets (Err IpSum) (Err IpSum) p q = refl

-- a datagram has one spelling
pub one_spelling : (d : Datagram) (octets : List ℕ) → Spells d octets → take (total_len d) octets ≡ spelling d
one_spelling d octets spells = (form_read d octets spells.form).spelled

-- what the checksum adds to the sum of the words
words : (head : Head) (payload : List ℕ) (checksum : ℕ) → checksum < 2 ^ 16
    → word_sum (header_octets (sent_with head payload checksum)) ≡ word_sum (header_octets (sent_with head payload 0)) + checksum
words head payload checksum fits = omega (arith, fits)

sum_right : (head : Head) (payload : List ℕ) → SumIsRight (sent head payload)
sum_right head payload =
    let before : ℕ = word_sum (header_octets (sent_with head payload 0)) in
    let checksum : ℕ = checksum_of (header_octets (sent_with head payload 0)) in
    let fits : checksum < 2 ^ 16 = omega arith in
    ap ones_complement (words head payload checksum fits) ∙ with_complement before

-- what is sent spells the datagram that is meant
pub sent_spelled : (head : Head) (payload padding : List ℕ) → IsDatagram (sent head payload)
    → Spells (sent head payload) (spelling (sent head payload) ++ padding)
sent_spelled head payload padding fields = record {
  form = record { padding = padding; fields = fields; spelled = refl };
  sum = sum_right head payload;
}

-- its length
pub sent_len : (head : Head) (payload : List ℕ) → IsDatagram (sent head payload) → length (spelling (sent head payload)) ≡ 20 + length payload
sent_len head payload fields =
    omega (arith, length-append (header_octets (sent head payload)) payload, length-append (head.source.0 ++ head.destination.0) [], length-append head.source.0 head.destination.0, fields.source, fields.destination)
