-- The plain reading of octets finds the datagram that they spell.
use Rattle.std.proofs.Common.{◌≡◌, ℕ, ◌-◌, ◌+◌, ◌*◌, ◌/◌, ◌%◌, ◌^◌, ◌<◌, ◌==◌, ◌&&◌, ◌||◌, not, Bool, true, false, nat_lt, nat_le, IsTrue, cond, List, length, take, drop, All, Option, Some, None, Ok, Err, arith, refl, sym, ◌∙◌, ap, subst}
use Rattle.std.proofs.lemmas.Bool.{eqb-true, eq-eqb}
use Rattle.std.proofs.lemmas.Bool.Decides.{nat_tests}
use Rattle.std.proofs.lemmas.List.{length-take, length-drop, take-append-drop}
use Rattle.inet_sum.specs.Sum.{sum_of}
use Rattle.ipv4.specs.declared.fault.Ipv4Fault.{Ipv4Fault}
use Rattle.ipv4.specs.declared.fault.Ipv4Fault.TheVariants.{IpHeader, IpSum}
use Rattle.ipv4.specs.Datagram.{Datagram, HasForm, HasPlace, IsParsed, SumIsRight, header_octets}
use Rattle.ipv4.specs.Reading.{checked, datagram_in, datagram_of, datagram_with, has_place, lengths_in, placed, word_at}
use Rattle.ipv4.proofs.Form.{are_read, form_read, has_form, lengths_facts, same_start}
use Rattle.ipv4.proofs.Octets.{each_octet}

-- the test of a place is right
units_true : (more : Bool) (len : ℕ) → (IsTrue more → (0 < len) × (len % 8 ≡ 0)) → (not more || (nat_lt 0 len && len % 8 == 0)) ≡ true
units_true false len units = refl
units_true true len units = let both = units refl in grind (arith, nat_tests, both.0, both.1)

units_read : (more : Bool) (len : ℕ) → (not more || (nat_lt 0 len && len % 8 == 0)) ≡ true → IsTrue more → (0 < len) × (len % 8 ≡ 0)
units_read false len e more = cc
units_read true len e more = (grind (arith, nat_tests), grind (arith, nat_tests))

place_true : (more : Bool) (offset len : ℕ) → HasPlace more offset len → has_place more offset len ≡ true
place_true more offset len place =
    let reach : nat_le (8 * offset + len) 65515 ≡ true = grind (arith, nat_tests, place.reach) in
    rw (units_true more len place.units, reach) refl

both_true : (a b : Bool) → (a && b) ≡ true → (a ≡ true) × (b ≡ true)
both_true true b e = (refl, e)
both_true false b e = cc

place_read : (more : Bool) (offset len : ℕ) → has_place more offset len ≡ true → HasPlace more offset len
place_read more offset len e =
    let both = both_true _ _ e in
    record { units = units_read more len both.0; reach = grind (arith, nat_tests, both.1) }

-- octets with a form are read as its datagram
form_in : (d : Datagram) (octets : List ℕ) → HasForm d octets → datagram_with octets (lengths_in octets) ≡ Some d
form_in d octets form =
    let read = form_read d octets form in
    ap (datagram_with octets) read.lengths ∙ ap placed read.whole
    ∙ ap (λ b. cond b (Some d) None) (place_true d.more_fragments d.offset (length d.payload) form.fields.place)

-- the tests on the octets themselves, from those on what is read
place_of : (xs : List ℕ) (header total : ℕ) → lengths_in xs ≡ Some (header, total)
    → HasPlace (word_at (take header xs) 6 / 2 ^ 13 % 2 == 1) (word_at (take header xs) 6 % 2 ^ 13) (length (take (total - header) (drop header xs)))
    → HasPlace (word_at xs 6 / 2 ^ 13 % 2 == 1) (word_at xs 6 % 2 ^ 13) (total - header)
place_of xs header total e place =
    let facts = lengths_facts xs header total e in
    let front : List ℕ = take header xs in
    let front_len : length front ≡ header = omega (arith, length-take header xs, facts.within, facts.given) in
    let payload_len : length (take (total - header) (drop header xs)) ≡ total - header = omega (arith, length-take (total - header) (drop header xs), length-drop header xs, facts.within, facts.given) in
    let starts = same_start front (drop header xs) (omega (arith, front_len, facts.least)) in
    let third : word_at xs 6 ≡ word_at front 6 = ap (λ (ys : List ℕ). word_at ys 6) (sym (take-append-drop header xs)) ∙ starts.2 in
    subst (λ (n : ℕ). HasPlace (n / 2 ^ 13 % 2 == 1) (n % 2 ^ 13) (total - header)) (sym third)
    (subst (λ (n : ℕ). HasPlace (word_at front 6 / 2 ^ 13 % 2 == 1) (word_at front 6 % 2 ^ 13) n) payload_len place)

granted : (b : Bool) (x y : Datagram) → cond b (Some x) None ≡ Some y → (b ≡ true) × (x ≡ y)
granted true x y e = (refl, cc)
granted false x y e = cc

-- octets that are read have the form of what is read
in_form : (octets : List ℕ) → All (λ octet. octet < 256) octets → (d : Datagram) → datagram_with octets (lengths_in octets) ≡ Some d → HasForm d octets
in_form octets each d found = by_lengths (lengths_in octets) refl found
  where
    by_lengths : (o : Option (ℕ × ℕ)) → lengths_in octets ≡ o → datagram_with octets o ≡ Some d → HasForm d octets
    by_lengths None is e = cc
    by_lengths (Some (header, total)) is e =
        let own : Datagram = datagram_of (take header octets) (take (total - header) (drop header octets)) in
        let both = granted (has_place own.more_fragments own.offset (length own.payload)) own d e in
        let place = place_of octets header total is (place_read own.more_fragments own.offset (length own.payload) both.0) in
        subst (λ other. HasForm other octets) both.1 (has_form octets header total (are_read octets header total (each_octet octets each) is place))

-- a right checksum, and a wrong one
sum_right : (d : Datagram) → SumIsRight d → checked (Some d) ≡ Ok d
sum_right d right = ap (λ b. cond b (Ok d) (Err IpSum)) (eq-eqb (sum_of (header_octets d)) 65535 right)

sum_wrong : (d : Datagram) → (SumIsRight d → ⊥) → checked (Some d) ≡ Err IpSum
sum_wrong d wrong = by_sum (sum_of (header_octets d) == 65535) refl
  where
    by_sum : (b : Bool) → (sum_of (header_octets d) == 65535) ≡ b → cond b (Ok d) (Err IpSum) ≡ Err IpSum
    by_sum true is = absurd (wrong (eqb-true (sum_of (header_octets d)) 65535 is))
    by_sum false is = refl

nothing_else : (o : Option Datagram) → ((d : Datagram) → o ≡ Some d → ⊥) → o ≡ None
nothing_else None never = refl
nothing_else (Some d) never = absurd (never d refl)

-- what is read is what is parsed
pub is_parsed : (octets : List ℕ) → All (λ octet. octet < 256) octets → IsParsed octets (datagram_in octets)
is_parsed octets each = by_form (datagram_with octets (lengths_in octets)) refl
  where
    by_sum : (d : Datagram) → HasForm d octets → (b : Bool) → (sum_of (header_octets d) == 65535) ≡ b → IsParsed octets (cond b (Ok d) (Err IpSum))
    by_sum d form true is = record { form = form; sum = eqb-true (sum_of (header_octets d)) 65535 is }
    by_sum d form false is = (d, form, λ right. let no : true ≡ false = sym (eq-eqb (sum_of (header_octets d)) 65535 right) ∙ is in cc)

    by_form : (o : Option Datagram) → datagram_with octets (lengths_in octets) ≡ o → IsParsed octets (checked o)
    by_form None is = λ d form. let no : None ≡ Some d = sym is ∙ form_in d octets form in cc
    by_form (Some d) is = by_sum d (in_form octets each d is) (sum_of (header_octets d) == 65535) refl

-- the plain reading finds what is parsed ..
pub read_ok : (octets : List ℕ) (d : Datagram) → IsParsed octets (Ok d) → datagram_in octets ≡ Ok d
read_ok octets d spells = ap checked (form_in d octets spells.form) ∙ sum_right d spells.sum

-- .. and the fault where there is one
pub read_err : (octets : List ℕ) (fault : Ipv4Fault) → All (λ octet. octet < 256) octets → IsParsed octets (Err fault) → datagram_in octets ≡ Err fault
read_err octets IpHeader each none = ap checked (nothing_else (datagram_with octets (lengths_in octets)) (λ d found. none d (in_form octets each d found)))
read_err octets IpSum each wrong = ap checked (form_in wrong.0 octets wrong.1) ∙ sum_wrong wrong.0 wrong.2
