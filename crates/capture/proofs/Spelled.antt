-- What is read is spelled so.
use Rattle.std.proofs.Common.{◌≡◌, ℕ, ◌+◌, ◌-◌, ◌<◌, ◌≤◌, ◌==◌, Bool, true, false, nat_lt, cond, List, ◌∷◌, ◌++◌, length, take, drop, All, Option, Some, None, Result, Ok, Err, arith, refl, sym, ◌∙◌, ap, ⊎_elim, append_assoc, length-drop}
use Rattle.std.proofs.lemmas.Bool.Decides.{nat_tests}
use Rattle.std.proofs.lemmas.List.{drop-drop, get_or-drop, get_or_past, length-take, take-append-drop}
use Rattle.std.proofs.lemmas.Bool.{cases_lt}
use Rattle.std.proofs.lemmas.List.Elements.{All-get_or}
use Rattle.std.specs.Int.{byte_at}
use Rattle.capture.specs.declared.fault.RecordFault.{RecordFault}
use Rattle.capture.specs.declared.fault.RecordFault.TheVariants.{CutHead, CutOctets, TooLong}
use Rattle.capture.specs.declared.format.Order.{Order}
use Rattle.capture.specs.declared.format.Order.TheVariants.{Big, Little}
use Rattle.capture.specs.declared.header.Header.{Header}
use Rattle.capture.specs.Capture.{Entry, IsEntry, entry_octets, number_in, number_octets}
use Rattle.capture.specs.Reading.{Record, answer_in, entry_in, included_in, number_at, read_as, rest_behind, rest_in}
use Rattle.capture.proofs.Numbers.{AreOctets, number_fits}

-- four octets are those of the number in them
little_cells : (x0 x1 x2 x3 : ℕ) (rest : List ℕ) → x0 < 256 → x1 < 256 → x2 < 256 → x3 < 256
    → x0 ∷ x1 ∷ x2 ∷ x3 ∷ rest ≡ number_octets Little 4 (number_in Little 4 (x0 ∷ x1 ∷ x2 ∷ x3 ∷ rest)) ++ rest
little_cells x0 x1 x2 x3 rest b0 b1 b2 b3 =
    let octets : List ℕ = x0 ∷ x1 ∷ x2 ∷ x3 ∷ rest in
    let e0 : x0 ≡ byte_at 0 (number_in Little 4 octets) = omega arith in
    let e1 : x1 ≡ byte_at 1 (number_in Little 4 octets) = omega arith in
    let e2 : x2 ≡ byte_at 2 (number_in Little 4 octets) = omega arith in
    let e3 : x3 ≡ byte_at 3 (number_in Little 4 octets) = omega arith in
    cc

big_cells : (x0 x1 x2 x3 : ℕ) (rest : List ℕ) → x0 < 256 → x1 < 256 → x2 < 256 → x3 < 256
    → x0 ∷ x1 ∷ x2 ∷ x3 ∷ rest ≡ number_octets Big 4 (number_in Big 4 (x0 ∷ x1 ∷ x2 ∷ x3 ∷ rest)) ++ rest
big_cells x0 x1 x2 x3 rest b0 b1 b2 b3 =
    let octets : List ℕ = x0 ∷ x1 ∷ x2 ∷ x3 ∷ rest in
    let e0 : x0 ≡ byte_at 3 (number_in Big 4 octets) = omega arith in
    let e1 : x1 ≡ byte_at 2 (number_in Big 4 octets) = omega arith in
    let e2 : x2 ≡ byte_at 1 (number_in Big 4 octets) = omega arith in
    let e3 : x3 ≡ byte_at 0 (number_in Big 4 octets) = omega arith in
    cc

pub number_spelled : (o : Order) (xs : List ℕ) → AreOctets xs → 4 ≤ length xs → xs ≡ number_octets o 4 (number_in o 4 xs) ++ drop 4 xs
number_spelled Little (x0 ∷ x1 ∷ x2 ∷ x3 ∷ rest) each least = little_cells x0 x1 x2 x3 rest (each 0) (each 1) (each 2) (each 3)
number_spelled Big (x0 ∷ x1 ∷ x2 ∷ x3 ∷ rest) each least = big_cells x0 x1 x2 x3 rest (each 0) (each 1) (each 2) (each 3)
number_spelled o xs each least = absurd (omega (arith, least))

-- octets behind octets
pub octets_behind : (n : ℕ) (xs : List ℕ) → AreOctets xs → AreOctets (drop n xs)
octets_behind n xs each i = omega (arith, get_or-drop n xs i 0, each (n + i))

-- the number at a place
pub number_at_place : (o : Order) (n : ℕ) (xs : List ℕ) → AreOctets xs → n + 4 ≤ length xs → drop n xs ≡ number_octets o 4 (number_at o 4 n xs) ++ drop (n + 4) xs
number_at_place o n xs each least =
    number_spelled o (drop n xs) (octets_behind n xs each) (omega (arith, length-drop n xs, least))
    ∙ ap (λ ys. number_octets o 4 (number_at o 4 n xs) ++ ys) (drop-drop 4 n xs)

-- what is known of a record that is read
record IsWhole (h : Header) (r : Record) (octets : List ℕ) : Type 0 where
  pub head : 16 ≤ length octets
  pub most : included_in h octets ≤ 262144
  pub room : 16 + included_in h octets ≤ length octets
  pub read : r ≡ read_as h (entry_in h octets)

not_none : {A : Type 0} (b : Bool) (y : Option A) (x : A) → cond b None y ≡ Some x → (b ≡ false) × (y ≡ Some x)
not_none true y x e = cc
not_none false y x e = (refl, e)

not_refused : (b : Bool) (f : RecordFault) (y : Option (Result Record RecordFault)) (r : Record) → cond b (Some (Err f)) y ≡ Some (Ok r) → (b ≡ false) × (y ≡ Some (Ok r))
not_refused true f y r e = cc
not_refused false f y r e = (refl, e)

is_whole : (h : Header) (octets : List ℕ) (r : Record) → answer_in h octets ≡ Some (Ok r) → IsWhole h r octets
is_whole h octets r is =
    let n : ℕ = included_in h octets in
    let a = not_none (length octets == 0) _ (Ok r) is in
    let b = not_refused (nat_lt (length octets) 16) (CutHead (16 - length octets)) _ r a.1 in
    let c = not_refused (nat_lt 262144 n) (TooLong n) _ r b.1 in
    let d = not_refused (nat_lt (length octets) (16 + n)) (CutOctets (16 + n - length octets)) (Some (Ok (read_as h (entry_in h octets)))) r c.1 in
    let read : Some (Ok (read_as h (entry_in h octets))) ≡ Some (Ok r) = d.1 in
    record {
      head = grind (arith, nat_tests, b.0);
      most = grind (arith, nat_tests, c.0);
      room = grind (arith, nat_tests, d.0);
      read = cc;
    }

-- octets that are read as a record are those of one, and what is left
pub record_spelled : (h : Header) (octets : List ℕ) (r : Record) → AreOctets octets → answer_in h octets ≡ Some (Ok r)
    → (e : Entry) × IsEntry e × (octets ≡ entry_octets h.format.order e ++ rest_in h octets) × (r ≡ read_as h e)
record_spelled h octets r each is = (entry_in h octets, fields, spelled, facts.read)
  where
    facts : IsWhole h r octets
    facts = is_whole h octets r is

    inc : ℕ
    inc = included_in h octets

    len : length (take (included_in h octets) (drop 16 octets)) ≡ included_in h octets
    len = omega (arith, length-take (included_in h octets) (drop 16 octets), length-drop 16 octets, (is_whole h octets r is).room)

    fields : IsEntry (entry_in h octets)
    fields = record {
      seconds = omega (arith, number_fits h.format.order 4 octets each);
      fraction = omega (arith, number_fits h.format.order 4 (drop 4 octets) (octets_behind 4 octets each));
      original = omega (arith, number_fits h.format.order 4 (drop 12 octets) (octets_behind 12 octets each));
      included = omega (arith, len, (is_whole h octets r is).most);
    }

    left : rest_in h octets ≡ drop (16 + included_in h octets) octets
    left = ap (λ a. rest_behind (included_in h octets) a octets) is

    spelled : octets ≡ entry_octets h.format.order (entry_in h octets) ++ rest_in h octets
    spelled =
        let o : Order = h.format.order in
        let e : Entry = entry_in h octets in
        let known : IsWhole h r octets = is_whole h octets r is in
        let s : List ℕ = number_octets o 4 e.seconds in
        let f : List ℕ = number_octets o 4 e.fraction in
        let i : List ℕ = number_octets o 4 (length e.octets) in
        let g : List ℕ = number_octets o 4 e.original in
        let at0 : octets ≡ s ++ drop 4 octets = number_spelled o octets each (omega (arith, known.head)) in
        let at4 : drop 4 octets ≡ f ++ drop 8 octets = number_at_place o 4 octets each (omega (arith, known.head)) in
        let at8 : drop 8 octets ≡ i ++ drop 12 octets =
        number_at_place o 8 octets each (omega (arith, known.head)) ∙ ap (λ n. number_octets o 4 n ++ drop 12 octets) (sym len) in
        let at12 : drop 12 octets ≡ g ++ drop 16 octets = number_at_place o 12 octets each (omega (arith, known.head)) in
        let at16 : drop 16 octets ≡ e.octets ++ rest_in h octets =
        sym (take-append-drop (included_in h octets) (drop 16 octets)) ∙ ap (λ ys. e.octets ++ ys) (drop-drop (included_in h octets) 16 octets ∙ sym left) in
        let parts : octets ≡ s ++ (f ++ (i ++ (g ++ (e.octets ++ rest_in h octets)))) =
        at0 ∙ ap (λ ys. s ++ ys) (at4 ∙ ap (λ ys. f ++ ys) (at8 ∙ ap (λ ys. i ++ ys) (at12 ∙ ap (λ ys. g ++ ys) at16))) in
        let regrouped : entry_octets o e ++ rest_in h octets ≡ s ++ (f ++ (i ++ (g ++ (e.octets ++ rest_in h octets)))) = simp append_assoc in
        parts ∙ sym regrouped

-- octets, by their places
pub all_octets : (xs : List ℕ) → All (λ octet. octet < 256) xs → AreOctets xs
all_octets xs each i = ⊎_elim (λ within. All-get_or (λ octet. octet < 256) xs i 0 within each) (λ past. omega (arith, get_or_past xs i 0 past)) (cases_lt i (length xs))
