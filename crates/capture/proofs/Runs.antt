-- Records read one by one.
use Rattle.std.proofs.Common.{◌≡◌, ℕ, zero, suc, ◌+◌, ◌-◌, ◌<◌, ◌≤◌, ◌==◌, true, false, nat_lt, List, [], ◌∷◌, ◌++◌, length, take, drop, map, All, Option, Some, None, Result, Ok, Err, arith, refl, sym, ◌∙◌, ap, subst, ⊎_elim, append_assoc, length-append, length-drop}
use Rattle.std.specs.List.{flat_map}
use Rattle.std.proofs.lemmas.Bool.Decides.{nat_tests}
use Rattle.std.proofs.lemmas.Bool.{cases_lt}
use Rattle.std.proofs.lemmas.List.{length-take}
use Rattle.std.proofs.lemmas.List.Elements.{All-head, All-tail}
use Rattle.std.proofs.Math.Seq.{take-append-add}
use Rattle.capture.specs.declared.fault.RecordFault.{RecordFault}
use Rattle.capture.specs.declared.fault.RecordFault.TheVariants.{CutHead, CutOctets}
use Rattle.capture.specs.declared.format.Order.{Order}
use Rattle.capture.specs.declared.header.Header.{Header}
use Rattle.capture.specs.Capture.{Entry, IsEntry, entry_head, entry_octets}
use Rattle.capture.specs.Cutting.{lack_in, whole_count}
use Rattle.capture.specs.Reading.{AreRead, Record, answer_in, included_in, read_as, rest_behind, rest_in}
use Rattle.capture.proofs.Numbers.{length-number}
use Rattle.capture.proofs.Steps.{IsStep, cut_behind_head, cut_in_head, ended, passed, step, stopped}

-- the same octets, records and end by other names
along : (h : Header) (xs ys : List ℕ) (rs ss : List Record) (a b : Option RecordFault) → xs ≡ ys → rs ≡ ss → a ≡ b → AreRead h ys ss b → AreRead h xs rs a
along h xs ys rs ss a b same_octets same_records same_end are =
    subst (λ zs. AreRead h zs rs a) (sym same_octets) (subst (λ ts. AreRead h ys ts a) (sym same_records) (subst (λ c. AreRead h ys ss c) (sym same_end) are))

-- one record more in front
first_read : (h : Header) (e : Entry) (rest : List ℕ) (rs : List Record) (end : Option RecordFault) → IsEntry e → AreRead h rest rs end
    → AreRead h (entry_octets h.format.order e ++ rest) (read_as h e ∷ rs) end
first_read h e rest rs end is are =
    let one : IsStep h e (entry_octets h.format.order e ++ rest) rest = step h e rest is in
    (one.answer, subst (λ octets. AreRead h octets rs end) (sym one.left) are)

-- whole records are read
pub all_read : (h : Header) (entries : List Entry) → All IsEntry entries
    → AreRead h (flat_map (entry_octets h.format.order) entries) (map (read_as h) entries) None
all_read h [] each = ended h [] refl
all_read h (e ∷ es) each =
    first_read h e (flat_map (entry_octets h.format.order) es) (map (read_as h) es) None (All-head IsEntry e es each)
    (all_read h es (All-tail IsEntry e es each))

-- the length of a head
pub length-head : (o : Order) (e : Entry) → length (entry_head o e) ≡ 16
length-head o e = simp length-append (omega (arith, length-number o 4 e.seconds, length-number o 4 e.fraction, length-number o 4 (length e.octets), length-number o 4 e.original))

pub length-entry : (o : Order) (e : Entry) → length (entry_octets o e) ≡ 16 + length e.octets
length-entry o e = omega (arith, length-append (entry_head o e) e.octets, length-head o e)

-- so many octets of a list with a front of this length
past : (n m : ℕ) (front back : List ℕ) → length front ≡ m → m ≤ n → take n (front ++ back) ≡ front ++ take (n - m) back
past n m front back len within =
    let count : n ≡ length front + (n - m) = omega (arith, len, within) in
    ap (λ k. take k (front ++ back)) count ∙ take-append-add front back (n - m)

-- a test that a number is small
below : (n m : ℕ) → n < m → nat_lt n m ≡ true
below n m less = grind (arith, nat_tests, less)

from : (n m : ℕ) → m ≤ n → nat_lt n m ≡ false
from n m most = grind (arith, nat_tests, most)

-- no record stands whole where the first is cut
none_whole : (h : Header) (e : Entry) (es : List Entry) (n : ℕ) → n < 16 + length e.octets → map (read_as h) (take (whole_count n (e ∷ es)) (e ∷ es)) ≡ []
none_whole h e es n fewer = ap (λ k. map (read_as h) (take k (e ∷ es))) (stopped _ _ _ (below n (16 + length e.octets) fewer))

-- the front of the first record, where that is all there is
front_of : (o : Order) (e : Entry) (back : List ℕ) (n : ℕ) → 16 ≤ n → n < 16 + length e.octets
    → take n (entry_octets o e ++ back) ≡ entry_head o e ++ take (n - 16) (e.octets ++ back)
front_of o e back n head fewer =
    ap (take n) (append_assoc (entry_head o e) e.octets back) ∙ past n 16 (entry_head o e) (e.octets ++ back) (length-head o e) head

-- how many octets are taken of enough
taken : (n : ℕ) (xs : List ℕ) → n ≤ length xs → length (take n xs) ≡ n
taken n xs enough = omega (arith, length-take n xs, enough)

cut_at_end : (h : Header) (e : Entry) (es : List Entry) (octets : List ℕ) → length octets ≡ 0
    → AreRead h octets (map (read_as h) (take (whole_count 0 (e ∷ es)) (e ∷ es))) (lack_in 0 (e ∷ es))
cut_at_end h e es octets none =
    along h octets octets (map (read_as h) (take (whole_count 0 (e ∷ es)) (e ∷ es))) [] (lack_in 0 (e ∷ es)) None refl (none_whole h e es 0 (omega arith)) refl (ended h octets none)

lack_in_head : (e : Entry) (es : List Entry) (n : ℕ) → 0 < n → n < 16 → lack_in n (e ∷ es) ≡ Some (CutHead (16 - n))
lack_in_head e es n some few =
    let t0 : (n == 0) ≡ false = grind (arith, nat_tests, some) in
    passed _ _ _ t0 ∙ stopped _ _ _ (below n 16 few)

cut_within_head : (h : Header) (e : Entry) (es : List Entry) (n : ℕ) (octets : List ℕ) → length octets ≡ n → 0 < n → n < 16
    → AreRead h octets (map (read_as h) (take (whole_count n (e ∷ es)) (e ∷ es))) (lack_in n (e ∷ es))
cut_within_head h e es n octets is some few =
    along h octets octets (map (read_as h) (take (whole_count n (e ∷ es)) (e ∷ es))) [] (lack_in n (e ∷ es)) (Some (CutHead (16 - n))) refl
    (none_whole h e es n (omega (arith, few))) (lack_in_head e es n some few) (cut_in_head h octets n is some few)

lack_in_octets : (e : Entry) (es : List Entry) (n : ℕ) → 16 ≤ n → n < 16 + length e.octets → lack_in n (e ∷ es) ≡ Some (CutOctets (16 + length e.octets - n))
lack_in_octets e es n head fewer =
    let t0 : (n == 0) ≡ false = grind (arith, nat_tests, head) in
    passed _ _ _ t0 ∙ (passed _ _ _ (from n 16 head) ∙ stopped _ _ _ (below n (16 + length e.octets) fewer))

cut_within_octets : (h : Header) (e : Entry) (es : List Entry) (n : ℕ) (back : List ℕ) → IsEntry e → 16 ≤ n → n < 16 + length e.octets
    → AreRead h (take n (entry_octets h.format.order e ++ back)) (map (read_as h) (take (whole_count n (e ∷ es)) (e ∷ es))) (lack_in n (e ∷ es))
cut_within_octets h e es n back is head fewer =
    let body : List ℕ = take (n - 16) (e.octets ++ back) in
    let len : length body ≡ n - 16 = taken (n - 16) (e.octets ++ back) (omega (arith, length-append e.octets back, fewer)) in
    along h (take n (entry_octets h.format.order e ++ back)) (entry_head h.format.order e ++ body) (map (read_as h) (take (whole_count n (e ∷ es)) (e ∷ es))) [] (lack_in n (e ∷ es)) (Some (CutOctets (16 + length e.octets - n)))
    (front_of h.format.order e back n head fewer) (none_whole h e es n fewer) (lack_in_octets e es n head fewer)
    (cut_behind_head h e body n is (omega (arith, len, head)) (omega (arith, len, head, fewer)))

lack_behind : (e : Entry) (es : List Entry) (n : ℕ) → 16 + length e.octets ≤ n → lack_in n (e ∷ es) ≡ lack_in (n - (16 + length e.octets)) es
lack_behind e es n whole =
    let t0 : (n == 0) ≡ false = grind (arith, nat_tests, whole) in
    passed _ _ _ t0 ∙ (passed _ _ _ (from n 16 (omega (arith, whole))) ∙ passed _ _ _ (from n (16 + length e.octets) whole))

cut_behind : (h : Header) (e : Entry) (es : List Entry) (n : ℕ) (back : List ℕ) → IsEntry e → 16 + length e.octets ≤ n
    → AreRead h (take (n - (16 + length e.octets)) back) (map (read_as h) (take (whole_count (n - (16 + length e.octets)) es) es)) (lack_in (n - (16 + length e.octets)) es)
    → AreRead h (take n (entry_octets h.format.order e ++ back)) (map (read_as h) (take (whole_count n (e ∷ es)) (e ∷ es))) (lack_in n (e ∷ es))
cut_behind h e es n back is whole are =
    let m : ℕ = n - (16 + length e.octets) in
    along h (take n (entry_octets h.format.order e ++ back)) (entry_octets h.format.order e ++ take m back) (map (read_as h) (take (whole_count n (e ∷ es)) (e ∷ es))) (read_as h e ∷ map (read_as h) (take (whole_count m es) es)) (lack_in n (e ∷ es)) (lack_in m es)
    (past n (16 + length e.octets) (entry_octets h.format.order e) back (length-entry h.format.order e) whole)
    (ap (λ k. map (read_as h) (take k (e ∷ es))) (passed _ _ _ (from n (16 + length e.octets) whole)))
    (lack_behind e es n whole)
    (first_read h e (take m back) (map (read_as h) (take (whole_count m es) es)) (lack_in m es) is are)

-- the same where the first record is cut
cut_first : (h : Header) (e : Entry) (es : List Entry) (n : ℕ) (back : List ℕ) → IsEntry e → n < 16 + length e.octets
    → AreRead h (take n (entry_octets h.format.order e ++ back)) (map (read_as h) (take (whole_count n (e ∷ es)) (e ∷ es))) (lack_in n (e ∷ es))
cut_first h e es zero back is fewer = cut_at_end h e es (take zero (entry_octets h.format.order e ++ back)) (omega (arith, length-take zero (entry_octets h.format.order e ++ back)))
cut_first h e es (suc m) back is fewer =
    let n : ℕ = suc m in
    let octets : List ℕ = entry_octets h.format.order e ++ back in
    let enough : n ≤ length octets = omega (arith, length-append (entry_octets h.format.order e) back, length-entry h.format.order e, fewer) in
    ⊎_elim (cut_within_head h e es n (take n octets) (taken n octets enough) (omega arith)) (λ head. cut_within_octets h e es n back is head fewer) (cases_lt n 16)

-- records that were cut are read up to the last whole one
pub cut_read : (h : Header) (entries : List Entry) (n : ℕ) → All IsEntry entries
    → AreRead h (take n (flat_map (entry_octets h.format.order) entries)) (map (read_as h) (take (whole_count n entries) entries)) (lack_in n entries)
cut_read h [] n each = ended h (take n []) (omega (arith, length-take {A = ℕ} n []))
cut_read h (e ∷ es) n each =
    let is : IsEntry e = All-head IsEntry e es each in
    let back : List ℕ = flat_map (entry_octets h.format.order) es in
    ⊎_elim (cut_first h e es n back is)
    (λ whole. cut_behind h e es n back is whole (cut_read h es (n - (16 + length e.octets)) (All-tail IsEntry e es each)))
    (cases_lt n (16 + length e.octets))

-- octets are read in one way
pub one_reading : (h : Header) (octets : List ℕ) (rs ss : List Record) (a b : Option RecordFault) → AreRead h octets rs a → AreRead h octets ss b → (rs ≡ ss) × (a ≡ b)
one_reading h octets [] [] None None first second = (refl, refl)
one_reading h octets [] [] None (Some g) first second = let e : None ≡ Some (Err g) = sym first ∙ second in cc
one_reading h octets [] [] (Some f) None first second = let e : None ≡ Some (Err f) = sym second ∙ first in cc
one_reading h octets [] [] (Some f) (Some g) first second =
    let e : Some (Err f) ≡ Some (Err g) = sym first ∙ second in
    let same : f ≡ g = cc in
    (refl, ap Some same)
one_reading h octets [] (s ∷ ss) None b first second = let e : None ≡ Some (Ok s) = sym first ∙ second.0 in cc
one_reading h octets [] (s ∷ ss) (Some f) b first second = let e : Some (Err f) ≡ Some (Ok s) = sym first ∙ second.0 in cc
one_reading h octets (r ∷ rs) [] a None first second = let e : None ≡ Some (Ok r) = sym second ∙ first.0 in cc
one_reading h octets (r ∷ rs) [] a (Some g) first second = let e : Some (Err g) ≡ Some (Ok r) = sym second ∙ first.0 in cc
one_reading h octets (r ∷ rs) (s ∷ ss) a b first second =
    let e : Some (Ok r) ≡ Some (Ok s) = sym first.0 ∙ second.0 in
    let same : r ≡ s = cc in
    let more = one_reading h (rest_in h octets) rs ss a b first.1 second.1 in
    let rest : rs ≡ ss = more.0 in
    (cc, more.1)

-- what a reading is
abbrev pub Reading : Header → List ℕ → Type 0
Reading h octets = (rs : List Record) × (end : Option RecordFault) × AreRead h octets rs end

-- a record takes octets
shorter : (h : Header) (octets : List ℕ) (r : Record) → answer_in h octets ≡ Some (Ok r) → length (rest_in h octets) + 1 ≤ length octets
shorter h [] r is = let none : None ≡ Some (Ok r) = sym (ended h [] refl) ∙ is in cc
shorter h (x ∷ xs) r is =
    let left : rest_in h (x ∷ xs) ≡ drop (16 + included_in h (x ∷ xs)) (x ∷ xs) = ap (λ a. rest_behind (included_in h (x ∷ xs)) a (x ∷ xs)) is in
    let len : length (rest_in h (x ∷ xs)) ≡ length (drop (16 + included_in h (x ∷ xs)) (x ∷ xs)) = ap length left in
    omega (arith, len, length-drop (16 + included_in h (x ∷ xs)) (x ∷ xs))

-- all octets are read in some way, and the reading ends
read_on : (h : Header) (octets : List ℕ) (a : Option (Result Record RecordFault)) → answer_in h octets ≡ a
    → ((r : Record) → answer_in h octets ≡ Some (Ok r) → Reading h (rest_in h octets)) → Reading h octets
read_on h octets None is more = ([], None, is)
read_on h octets (Some (Err fault)) is more = ([], Some fault, is)
read_on h octets (Some (Ok r)) is more = let rest = more r is in (r ∷ rest.0, rest.1, (is, rest.2))

reading_within : (n : ℕ) (h : Header) (octets : List ℕ) → length octets ≤ n → Reading h octets
reading_within zero h octets few = ([], None, ended h octets (omega (arith, few)))
reading_within (suc n) h octets few =
    read_on h octets (answer_in h octets) refl (λ r is. reading_within n h (rest_in h octets) (omega (arith, shorter h octets r is, few)))

pub some_reading : (h : Header) (octets : List ℕ) → Reading h octets
some_reading h octets = reading_within (length octets) h octets (omega arith)
