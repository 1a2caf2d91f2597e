-- The laws of parsing and sending.
use Rattle.std.proofs.Common.{◌≡◌, ◌↔◌, ℕ, ◌-◌, ◌*◌, ◌==◌, Bool, true, false, cond, List, take, drop, Option, Some, None, Result, Ok, Err, refl, sym, ◌∙◌, ap, subst}
use Rattle.std.proofs.lemmas.Bool.{eqb-true, eq-eqb}
use Rattle.inet_sum.specs.Sum.{sum_of}
use Rattle.ipv4.specs.declared.addr.Addr.{Addr}
use Rattle.tcp_segment.specs.declared.fault.SegmentFault.{SegmentFault}
use Rattle.tcp_segment.specs.declared.fault.SegmentFault.TheVariants.{UpperHeader, UpperSum}
use Rattle.tcp_segment.specs.Options.{HeaderOption}
use Rattle.tcp_segment.specs.Reading.{checked, options_behind, with_options, in_header, header_in, segment_in, segment_or_fault, segment_with}
use Rattle.tcp_segment.specs.Segment.{Segment, HasForm, IsParsed, SumIsRight, summed_octets}
use Rattle.tcp_segment.proofs.Form.{form_read, has_form, one_form}
use Rattle.ipv4.proofs.Octets.{AreOctets}

-- octets have one answer
pub one_answer : (src dst : Addr) (octets : List ℕ) (first second : Result Segment SegmentFault)
    → IsParsed src dst octets first → IsParsed src dst octets second → first ≡ second
one_answer src dst octets (Ok s) (Ok t) p q = ap Ok (one_form s t octets p.form q.form)
one_answer src dst octets (Ok s) (Err UpperHeader) p q = absurd (q s p.form)
one_answer src dst octets (Ok s) (Err UpperSum) p q = absurd (q.2 p.sum)
one_answer src dst octets (Err UpperHeader) (Ok t) p q = absurd (p t q.form)
one_answer src dst octets (Err UpperHeader) (Err UpperHeader) p q = refl
one_answer src dst octets (Err UpperHeader) (Err UpperSum) p q = absurd (p q.0 q.1)
one_answer src dst octets (Err UpperSum) (Ok t) p q = absurd (p.2 q.sum)
one_answer src dst octets (Err UpperSum) (Err UpperHeader) p q = absurd (q p.0 p.1)
one_answer src dst octets (Err UpperSum) (Err UpperSum) p q = refl

-- octets with a form are read as its segment
form_in : (segment : Segment) (octets : List ℕ) → HasForm segment octets → in_header octets (header_in octets) ≡ Some segment
form_in segment octets form =
    let read = form_read segment octets form in
    ap (in_header octets) read.header ∙ (ap (with_options octets (4 * form.offset)) read.options ∙ ap Some read.whole)

-- octets that are read have the form of what is read
in_form : (octets : List ℕ) → AreOctets octets → (segment : Segment) → in_header octets (header_in octets) ≡ Some segment → HasForm segment octets
in_form octets are segment e = by_header (header_in octets) refl e
  where
    by_options : (header : ℕ) → header_in octets ≡ Some header → (o : Option (List HeaderOption)) → options_behind (take (header - 20) (drop 20 octets)) 0 ≡ o → with_options octets header o ≡ Some segment → HasForm segment octets
    by_options header is None found e = cc
    by_options header is (Some os) found e = let same : segment_with octets header os ≡ segment = cc in subst (λ s. HasForm s octets) same (has_form octets header os are is found)

    by_header : (o : Option ℕ) → header_in octets ≡ o → in_header octets o ≡ Some segment → HasForm segment octets
    by_header None is e = cc
    by_header (Some header) is e = by_options header is (options_behind (take (header - 20) (drop 20 octets)) 0) refl e

nothing_else : (o : Option Segment) → ((segment : Segment) → o ≡ Some segment → ⊥) → o ≡ None
nothing_else None never = refl
nothing_else (Some segment) never = absurd (never segment refl)

-- octets with a right checksum, and those with another
summed_right : (src dst : Addr) (octets : List ℕ) → SumIsRight src dst octets → segment_in src dst octets ≡ in_header octets (header_in octets)
summed_right src dst octets right = ap (λ b. cond b (in_header octets (header_in octets)) None) (eq-eqb (sum_of (summed_octets src dst octets)) 65535 right)

summed_wrong : (src dst : Addr) (octets : List ℕ) → (SumIsRight src dst octets → ⊥) → segment_in src dst octets ≡ None
summed_wrong src dst octets wrong = by_sum (sum_of (summed_octets src dst octets) == 65535) refl
  where
    by_sum : (b : Bool) → (sum_of (summed_octets src dst octets) == 65535) ≡ b → cond b (in_header octets (header_in octets)) None ≡ None
    by_sum true is = absurd (wrong (eqb-true (sum_of (summed_octets src dst octets)) 65535 is))
    by_sum false is = refl

-- the sum of octets, tested
tested_right : (src dst : Addr) (octets : List ℕ) → SumIsRight src dst octets → (sum_of (summed_octets src dst octets) == 65535) ≡ true
tested_right src dst octets right = eq-eqb (sum_of (summed_octets src dst octets)) 65535 right

tested_wrong : (src dst : Addr) (octets : List ℕ) → (SumIsRight src dst octets → ⊥) → (sum_of (summed_octets src dst octets) == 65535) ≡ false
tested_wrong src dst octets wrong = by_sum (sum_of (summed_octets src dst octets) == 65535) refl
  where
    by_sum : (b : Bool) → (sum_of (summed_octets src dst octets) == 65535) ≡ b → b ≡ false
    by_sum true is = absurd (wrong (eqb-true (sum_of (summed_octets src dst octets)) 65535 is))
    by_sum false is = refl

-- the reading that tells a fault too
pub fault_ok : (src dst : Addr) (octets : List ℕ) (segment : Segment) → IsParsed src dst octets (Ok segment) → segment_or_fault src dst octets ≡ Ok segment
fault_ok src dst octets segment parsed =
    ap (checked (sum_of (summed_octets src dst octets) == 65535)) (form_in segment octets parsed.form)
    ∙ ap (λ b. checked b (Some segment)) (tested_right src dst octets parsed.sum)

pub fault_err : (src dst : Addr) (octets : List ℕ) (fault : SegmentFault) → AreOctets octets → IsParsed src dst octets (Err fault) → segment_or_fault src dst octets ≡ Err fault
fault_err src dst octets UpperHeader are none =
    ap (checked (sum_of (summed_octets src dst octets) == 65535)) (nothing_else (in_header octets (header_in octets)) (λ segment found. none segment (in_form octets are segment found)))
fault_err src dst octets UpperSum are wrong =
    ap (checked (sum_of (summed_octets src dst octets) == 65535)) (form_in wrong.0 octets wrong.1)
    ∙ ap (λ b. checked b (Some wrong.0)) (tested_wrong src dst octets wrong.2)

pub fault_parsed : (src dst : Addr) (octets : List ℕ) → AreOctets octets → IsParsed src dst octets (segment_or_fault src dst octets)
fault_parsed src dst octets are = by_tests (in_header octets (header_in octets)) refl (sum_of (summed_octets src dst octets) == 65535) refl
  where
    by_tests : (o : Option Segment) → in_header octets (header_in octets) ≡ o → (b : Bool) → (sum_of (summed_octets src dst octets) == 65535) ≡ b → IsParsed src dst octets (checked b o)
    by_tests None found b is = λ segment form. let no : None ≡ Some segment = sym found ∙ form_in segment octets form in cc
    by_tests (Some segment) found true is = record { form = in_form octets are segment found; sum = eqb-true (sum_of (summed_octets src dst octets)) 65535 is }
    by_tests (Some segment) found false is = (segment, in_form octets are segment found, λ right. let no : true ≡ false = sym (tested_right src dst octets right) ∙ is in cc)

-- both readings find one segment
pub alike : (src dst : Addr) (octets : List ℕ) (segment : Segment) → (segment_or_fault src dst octets ≡ Ok segment) ↔ (segment_in src dst octets ≡ Some segment)
alike src dst octets segment = by_tests (sum_of (summed_octets src dst octets) == 65535) (in_header octets (header_in octets))
  where
    by_tests : (right : Bool) (read : Option Segment) → (checked right read ≡ Ok segment) ↔ (cond right read None ≡ Some segment)
    by_tests true None = (λ e. cc, λ e. cc)
    by_tests false None = (λ e. cc, λ e. cc)
    by_tests true (Some other) = (λ e. cc, λ e. cc)
    by_tests false (Some other) = (λ e. cc, λ e. cc)

-- the plain reading finds what is parsed ..
pub read_ok : (src dst : Addr) (octets : List ℕ) (segment : Segment) → IsParsed src dst octets (Ok segment) → segment_in src dst octets ≡ Some segment
read_ok src dst octets segment parsed = summed_right src dst octets parsed.sum ∙ form_in segment octets parsed.form

-- .. and nothing where a fault is
pub read_err : (src dst : Addr) (octets : List ℕ) (fault : SegmentFault) → AreOctets octets → IsParsed src dst octets (Err fault) → segment_in src dst octets ≡ None
read_err src dst octets UpperHeader are none = nothing_else (segment_in src dst octets) by_sum
  where
    by_sum : (segment : Segment) → segment_in src dst octets ≡ Some segment → ⊥
    by_sum segment found = go (sum_of (summed_octets src dst octets) == 65535) found
      where
        go : (b : Bool) → cond b (in_header octets (header_in octets)) None ≡ Some segment → ⊥
        go true e = none segment (in_form octets are segment e)
        go false e = cc
read_err src dst octets UpperSum are wrong = summed_wrong src dst octets wrong.2
