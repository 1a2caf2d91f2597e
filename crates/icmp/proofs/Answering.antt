-- The laws of parsing and sending.
use Rattle.std.proofs.Common.{◌≡◌, ◌↔◌, ℕ, ◌+◌, ◌^◌, ◌<◌, ◌≤◌, ◌==◌, nat_lt, List, ◌++◌, length, take, All, Bool, true, false, cond, Some, Result, Ok, Err, refl, sym, ◌∙◌, ap, subst, inl, inr, ⊎_elim, arith}
use Rattle.std.proofs.lemmas.Bool.{cases_lt, eqb-true, eq-eqb}
use Rattle.std.proofs.lemmas.Bool.Decides.{nat_tests}
use Rattle.inet_sum.specs.Sum.{sum_of, word_sum, ones_complement, checksum_of}
use Rattle.inet_sum.proofs.Complements.{with_complement}
use Rattle.ipv4.specs.Datagram.{Datagram, IsDatagram, header_octets}
use Rattle.icmp.specs.declared.error.Reason.{Reason}
use Rattle.icmp.specs.declared.error.Reason.TheVariants.{NetUnreachable, HostUnreachable, ProtocolUnreachable, PortUnreachable, FragmentationNeeded, SourceRouteFailed, TransitTimeExceeded, ReassemblyTimeExceeded}
use Rattle.icmp.specs.declared.fault.IcmpFault.{IcmpFault}
use Rattle.icmp.specs.declared.fault.IcmpFault.TheVariants.{UpperHeader, UpperSum}
use Rattle.icmp.specs.declared.head.Head.{Head}
use Rattle.icmp.specs.declared.quote.Quote.{Quote}
use Rattle.icmp.specs.Errors.{IsErrorKind, kind_of, code_of}
use Rattle.icmp.specs.MayAnswer.{MayAnswer, BeginsAsError}
use Rattle.icmp.specs.Message.{Message, IsMessage, HasForm, SumIsRight, Spells, IsParsed, spelling}
use Rattle.icmp.specs.Quotes.{Quotes, quote_of}
use Rattle.icmp.specs.Reading.{message_of, message_or_fault, quote_in}
use Rattle.icmp.specs.Sent.{with_fields, sent, echo_reply, reply_to, error_for}
use Rattle.ipv4.proofs.Octets.{each_octet}
use Rattle.icmp.proofs.Form.{are_read, form_least, form_read, one_form}
use Rattle.icmp.proofs.Quoting.{cause_quoted, quote_is_read}

-- the sum of the one form is right or not
other_sum : (m n : Message) (octets : List ℕ) → HasForm m octets → HasForm n octets → SumIsRight m → (SumIsRight n → ⊥) → ⊥
other_sum m n octets f g right wrong = wrong (subst SumIsRight (one_form m n octets f g) right)

-- octets have one answer
pub one_answer : (octets : List ℕ) (first second : Result Message IcmpFault) → IsParsed octets first → IsParsed octets second → first ≡ second
one_answer octets (Ok m) (Ok n) p q = ap Ok (one_form m n octets p.form q.form)
one_answer octets (Ok m) (Err UpperHeader) p q = absurd (q m p.form)
one_answer octets (Ok m) (Err UpperSum) p q = absurd (other_sum m q.0 octets p.form q.1 p.sum q.2)
one_answer octets (Err UpperHeader) (Ok n) p q = absurd (p n q.form)
one_answer octets (Err UpperHeader) (Err UpperHeader) p q = refl
one_answer octets (Err UpperHeader) (Err UpperSum) p q = absurd (p q.0 q.1)
one_answer octets (Err UpperSum) (Ok n) p q = absurd (other_sum n p.0 octets q.form p.1 q.sum p.2)
one_answer octets (Err UpperSum) (Err UpperHeader) p q = absurd (q p.0 p.1)
one_answer octets (Err UpperSum) (Err UpperSum) p q = refl

-- octets are refused as short exactly where there are fewer than eight
pub short : (octets : List ℕ) → All (λ octet. octet < 256) octets → (IsParsed octets (Err UpperHeader) ↔ (length octets < 8))
short octets each = (forth, λ few m form. absurd (omega (arith, form_least m octets form, few)))
  where
    forth : ((m : Message) → HasForm m octets → ⊥) → length octets < 8
    forth none =
        ⊎_elim (λ few. few) (λ enough. absurd (none (message_of octets) (are_read octets (each_octet octets each) enough).form)) (cases_lt (length octets) 8)

-- the plain reading finds what is parsed
tested : (octets : List ℕ) → 8 ≤ length octets → message_or_fault octets ≡ cond (sum_of octets == 65535) (Ok (message_of octets)) (Err UpperSum)
tested octets least =
    let is : nat_lt (length octets) 8 ≡ false = grind (arith, nat_tests, least) in
    ap (λ b. cond b (Err UpperHeader) (cond (sum_of octets == 65535) (Ok (message_of octets)) (Err UpperSum))) is

right : (octets : List ℕ) (m : Message) → HasForm m octets → SumIsRight m → (sum_of octets == 65535) ≡ true
right octets m form sum = eq-eqb (sum_of octets) 65535 (ap sum_of form.spelled ∙ sum)

wrong : (octets : List ℕ) (m : Message) → HasForm m octets → (SumIsRight m → ⊥) → (sum_of octets == 65535) ≡ false
wrong octets m form none = by_sum (sum_of octets == 65535) refl
  where
    by_sum : (b : Bool) → (sum_of octets == 65535) ≡ b → b ≡ false
    by_sum true is = absurd (none (ap sum_of (sym form.spelled) ∙ eqb-true (sum_of octets) 65535 is))
    by_sum false is = refl

pub read_ok : (octets : List ℕ) (m : Message) → IsParsed octets (Ok m) → message_or_fault octets ≡ Ok m
read_ok octets m parsed =
    tested octets (form_least m octets parsed.form)
    ∙ ap (λ b. cond b (Ok (message_of octets)) (Err UpperSum)) (right octets m parsed.form parsed.sum)
    ∙ ap Ok (form_read m octets parsed.form)

-- what is read is what is parsed
pub read_parsed : (octets : List ℕ) → All (λ octet. octet < 256) octets → IsParsed octets (message_or_fault octets)
read_parsed octets each = ⊎_elim few enough (cases_lt (length octets) 8)
  where
    few : length octets < 8 → IsParsed octets (message_or_fault octets)
    few less =
        let is : nat_lt (length octets) 8 ≡ true = grind (arith, nat_tests, less) in
        let read : message_or_fault octets ≡ Err UpperHeader = ap (λ b. cond b (Err UpperHeader) (cond (sum_of octets == 65535) (Ok (message_of octets)) (Err UpperSum))) is in
        subst (IsParsed octets) (sym read) (λ m form. absurd (omega (arith, form_least m octets form, less)))

    by_sum : HasForm (message_of octets) octets → (b : Bool) → (sum_of octets == 65535) ≡ b → IsParsed octets (cond b (Ok (message_of octets)) (Err UpperSum))
    by_sum form true is = record { form = form; sum = ap sum_of (sym form.spelled) ∙ eqb-true (sum_of octets) 65535 is }
    by_sum form false is = (message_of octets, form, λ sum. let no : true ≡ false = sym (right octets (message_of octets) form sum) ∙ is in cc)

    enough : 8 ≤ length octets → IsParsed octets (message_or_fault octets)
    enough least =
        subst (IsParsed octets) (sym (tested octets least))
        (by_sum (are_read octets (each_octet octets each) least).form (sum_of octets == 65535) refl)

pub parsed_is_read : (octets : List ℕ) (answer : Result Message IcmpFault) → All (λ octet. octet < 256) octets → (IsParsed octets answer ↔ (message_or_fault octets ≡ answer))
parsed_is_read octets answer each = (
  λ parsed. one_answer octets (message_or_fault octets) answer (read_parsed octets each) parsed,
  λ is. subst (IsParsed octets) is (read_parsed octets each),
)

-- .. a fault too
pub read_err : (octets : List ℕ) (fault : IcmpFault) → All (λ octet. octet < 256) octets → IsParsed octets (Err fault) → message_or_fault octets ≡ Err fault
read_err octets fault each = (parsed_is_read octets (Err fault) each).0

-- what the checksum adds to the sum of the words
words : (head : Head) (payload : List ℕ) (checksum : ℕ) → checksum < 2 ^ 16
    → word_sum (spelling (with_fields head checksum payload)) ≡ word_sum (spelling (with_fields head 0 payload)) + checksum
words head payload checksum fits = omega (arith, fits)

sum_is_right : (head : Head) (payload : List ℕ) → SumIsRight (sent head payload)
sum_is_right head payload =
    let before : ℕ = word_sum (spelling (with_fields head 0 payload)) in
    let checksum : ℕ = checksum_of (spelling (with_fields head 0 payload)) in
    let fits : checksum < 2 ^ 16 = omega arith in
    ap ones_complement (words head payload checksum fits) ∙ with_complement before

-- what is sent spells the message that is meant
sent_spelled : (head : Head) (payload : List ℕ) → head.kind < 2 ^ 8 → head.code < 2 ^ 8 → head.identifier < 2 ^ 16 → head.number < 2 ^ 16
    → Spells (sent head payload) (spelling (sent head payload))
sent_spelled head payload kind code identifier number = record {
  form = record {
    fields = record {
      kind = kind;
      code = code;
      checksum = omega arith;
      identifier = identifier;
      number = number;
    };
    spelled = refl;
  };
  sum = sum_is_right head payload;
}

pub echo_spelled : (identifier number : ℕ) (octets : List ℕ) → identifier < 2 ^ 16 → number < 2 ^ 16
    → Spells (echo_reply identifier number octets) (spelling (echo_reply identifier number octets))
echo_spelled identifier number octets identifier_fits number_fits =
    sent_spelled (record { kind = 0; code = 0; identifier = identifier; number = number }) octets (omega arith) (omega arith) identifier_fits number_fits

pub reply_spelled : (request : Message) → IsMessage request → Spells (reply_to request) (spelling (reply_to request))
reply_spelled request fits = echo_spelled request.identifier request.number request.payload fits.identifier fits.number

-- the numbers of a reason are octets, and those of an error
pub numbers : (reason : Reason) → (kind_of reason < 2 ^ 8) × (code_of reason < 2 ^ 8) × IsErrorKind (kind_of reason)
numbers NetUnreachable = (omega arith, omega arith, inl refl)
numbers HostUnreachable = (omega arith, omega arith, inl refl)
numbers ProtocolUnreachable = (omega arith, omega arith, inl refl)
numbers PortUnreachable = (omega arith, omega arith, inl refl)
numbers FragmentationNeeded = (omega arith, omega arith, inl refl)
numbers SourceRouteFailed = (omega arith, omega arith, inl refl)
numbers TransitTimeExceeded = (omega arith, omega arith, inr (inr (inr (inl refl))))
numbers ReassemblyTimeExceeded = (omega arith, omega arith, inr (inr (inr (inl refl))))

pub error_spelled : (reason : Reason) (header payload : List ℕ) → Spells (error_for reason header payload) (spelling (error_for reason header payload))
error_spelled reason header payload =
    let are = numbers reason in
    sent_spelled (record { kind = kind_of reason; code = code_of reason; identifier = 0; number = 0 }) (header ++ take 8 payload) are.0 are.1 (omega arith) (omega arith)

-- the quote that octets begin with is the one that is read
pub quotes_are_read : (quote : Quote) (octets : List ℕ) → All (λ octet. octet < 256) octets → (Quotes quote octets ↔ (quote_in octets ≡ Some quote))
quotes_are_read quote octets each = quote_is_read quote octets (each_octet octets each)

-- what an error about a datagram carries begins with the quote of that datagram
pub cause : (reason : Reason) (d : Datagram) → IsDatagram d → All (λ octet. octet < 256) d.payload → 8 ≤ length d.payload
    → Quotes (quote_of d) (error_for reason (header_octets d) d.payload).payload
cause reason d fields each least = cause_quoted d fields (each_octet d.payload each) least

-- a datagram that carries an error of this stack may not be answered by another
pub unanswered : (reason : Reason) (header payload : List ℕ) (d : Datagram) (link_broadcast : Bool) → d.protocol ≡ 1
    → d.payload ≡ spelling (error_for reason header payload) → MayAnswer d link_broadcast → ⊥
unanswered reason header payload d link_broadcast protocol is may =
    may.no_error (record { protocol = protocol; kind = subst BeginsAsError (sym is) (numbers reason).2 })
