-- The plain reading of octets finds what their spelling says.
use Rattle.std.proofs.Common.{◌≡◌, ℕ, ◌==◌, ◌||◌, ◌⊎◌, inl, inr, Bool, true, false, List, take, cond, Option, Some, None, Result, Ok, Err, refl, sym, ◌∙◌, ap, subst, arith}
use Rattle.std.proofs.lemmas.Bool.Decides.{nat_tests}
use Rattle.inet_sum.specs.Sum.{sum_of}
use Rattle.ipv4.specs.declared.addr.Addr.{Addr}
use Rattle.udp.specs.declared.fault.UdpFault.{UdpFault}
use Rattle.udp.specs.declared.fault.UdpFault.TheVariants.{UpperHeader, UpperSum}
use Rattle.udp.specs.Datagram.{UserDatagram, HasForm, IsParsed, SumIsRight, spelling, summed}
use Rattle.udp.specs.Reading.{word_at, datagram_of, len_in, summed_datagram, read_at, datagram_or_fault}
use Rattle.ipv4.proofs.Octets.{AreOctets}
use Rattle.udp.proofs.Form.{are_read, has_form, form_read}

-- what is made of octets of this form
abbrev pub made_of : Addr → Addr → UserDatagram → Result UserDatagram UdpFault
made_of src dst d = cond (d.checksum == 0 || sum_of (summed src dst (spelling d)) == 65535) (Ok d) (Err UpperSum)

form_made : (src dst : Addr) (d : UserDatagram) (xs : List ℕ) → HasForm d xs → datagram_or_fault src dst xs ≡ made_of src dst d
form_made src dst d xs form =
    let read = form_read d xs form in
    let whole : datagram_of (spelling d) ≡ d = ap datagram_of (sym read.spelled) ∙ read.whole in
    ap (λ (o : Option ℕ). read_at src dst xs o) read.len
    ∙ ap (λ (ys : List ℕ). summed_datagram src dst ys) read.spelled
    ∙ ap (λ (e : UserDatagram). cond (e.checksum == 0 || sum_of (summed src dst (spelling d)) == 65535) (Ok e) (Err UpperSum)) whole

is_right : (checksum sum : ℕ) → (checksum ≡ 0) ⊎ (sum ≡ 65535) → (checksum == 0 || sum == 65535) ≡ true
is_right checksum sum (inl none) = grind (arith, nat_tests, none)
is_right checksum sum (inr right) = grind (arith, nat_tests, right)

is_wrong : (checksum sum : ℕ) → ((checksum ≡ 0) ⊎ (sum ≡ 65535) → ⊥) → (checksum == 0 || sum == 65535) ≡ false
is_wrong checksum sum wrong =
    let some : checksum ≡ 0 → ⊥ = λ none. wrong (inl none) in
    let other : sum ≡ 65535 → ⊥ = λ right. wrong (inr right) in
    grind (arith, nat_tests, some, other)

either_holds : (checksum sum : ℕ) → (checksum == 0 || sum == 65535) ≡ true → (checksum ≡ 0) ⊎ (sum ≡ 65535)
either_holds checksum sum test = by_first (checksum == 0) refl
  where
    by_first : (b : Bool) → (checksum == 0) ≡ b → (checksum ≡ 0) ⊎ (sum ≡ 65535)
    by_first true is = inl (grind (arith, nat_tests, is))
    by_first false is = inr (grind (arith, nat_tests, test, is))

pub form_right : (src dst : Addr) (d : UserDatagram) (xs : List ℕ) → HasForm d xs → SumIsRight src dst d → Ok d ≡ datagram_or_fault src dst xs
form_right src dst d xs form right =
    sym (form_made src dst d xs form ∙ ap (λ (b : Bool). cond b (Ok d) (Err UpperSum)) (is_right d.checksum (sum_of (summed src dst (spelling d))) right))

pub form_wrong : (src dst : Addr) (d : UserDatagram) (xs : List ℕ) → HasForm d xs → (SumIsRight src dst d → ⊥) → Err UpperSum ≡ datagram_or_fault src dst xs
form_wrong src dst d xs form wrong =
    sym (form_made src dst d xs form ∙ ap (λ (b : Bool). cond b (Ok d) (Err UpperSum)) (is_wrong d.checksum (sum_of (summed src dst (spelling d))) wrong))

pub no_form : (src dst : Addr) (xs : List ℕ) → AreOctets xs → ((d : UserDatagram) → HasForm d xs → ⊥) → Err UpperHeader ≡ datagram_or_fault src dst xs
no_form src dst xs octets none = by_len (len_in xs) refl
  where
    by_len : (o : Option ℕ) → len_in xs ≡ o → Err UpperHeader ≡ read_at src dst xs o
    by_len None is = refl
    by_len (Some n) is = absurd (none (datagram_of (take n xs)) (has_form xs n (are_read xs n octets is)))

-- what octets are read as, a UDP datagram or a fault
pub fault_ok : (src dst : Addr) (octets : List ℕ) (d : UserDatagram) → IsParsed src dst octets (Ok d) → datagram_or_fault src dst octets ≡ Ok d
fault_ok src dst octets d spells = sym (form_right src dst d octets spells.form spells.sum)

pub fault_err : (src dst : Addr) (octets : List ℕ) (fault : UdpFault) → AreOctets octets → IsParsed src dst octets (Err fault) → datagram_or_fault src dst octets ≡ Err fault
fault_err src dst octets UpperHeader are none = sym (no_form src dst octets are none)
fault_err src dst octets UpperSum are wrong = sym (form_wrong src dst wrong.0 octets wrong.1 wrong.2)

-- what is read where they tell this length
at_len : (src dst : Addr) (octets : List ℕ) (n : ℕ) → AreOctets octets → len_in octets ≡ Some n → (b : Bool)
    → (word_at (take n octets) 6 == 0 || sum_of (summed src dst (take n octets)) == 65535) ≡ b
    → IsParsed src dst octets (cond b (Ok (datagram_of (take n octets))) (Err UpperSum))
at_len src dst octets n are is true test =
    let whole = are_read octets n are is in
    let checksum : ℕ = word_at (take n octets) 6 in
    record {
      form = has_form octets n whole;
      sum = subst (λ (ys : List ℕ). (checksum ≡ 0) ⊎ (sum_of (summed src dst ys) ≡ 65535)) whole.spelled (either_holds checksum _ test);
    }
at_len src dst octets n are is false test =
    let whole = are_read octets n are is in
    let checksum : ℕ = word_at (take n octets) 6 in (
      datagram_of (take n octets),
      has_form octets n whole,
      λ right. let other = is_right checksum _ (subst (λ (ys : List ℕ). (checksum ≡ 0) ⊎ (sum_of (summed src dst ys) ≡ 65535)) (sym whole.spelled) right) in cc,
    )

pub fault_parsed : (src dst : Addr) (octets : List ℕ) → AreOctets octets → IsParsed src dst octets (datagram_or_fault src dst octets)
fault_parsed src dst octets are = by_len (len_in octets) refl
  where
    none : (d : UserDatagram) → len_in octets ≡ None → HasForm d octets → ⊥
    none d is form = let read = (form_read d octets form).len in cc

    by_len : (o : Option ℕ) → len_in octets ≡ o → IsParsed src dst octets (read_at src dst octets o)
    by_len None is = λ d. none d is
    by_len (Some n) is = at_len src dst octets n are is _ refl
