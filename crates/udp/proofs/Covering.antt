-- The fragments of a payload cover it.
use Rattle.std.proofs.Common.{◌≡◌, ℕ, zero, suc, ◌+◌, ◌-◌, ◌*◌, ◌<◌, ◌≤◌, ◌↔◌, Bool, true, false, nat_lt, IsTrue, min, List, [], ◌∷◌, ◌++◌, length, take, drop, map, replicate, refl, sym, ◌∙◌, ap, arith, All}
use Rattle.std.proofs.lemmas.Bool.Decides.{nat_tests}
use Rattle.std.proofs.lemmas.List.{length-drop, take-append-drop, drop-drop, drop_all, take_min}
use Rattle.std.specs.List.{flat_map}
use Rattle.ipv4.specs.Datagram.{HasPlace}
use Rattle.udp.specs.declared.cutting.Fragment.{Fragment}
use Rattle.udp.specs.Fragments.{fragment, fragments_from, count_of, fragments_of, part_of}

-- what is said of each fragment is true of all
all_from : (P : Fragment → Type 0) (len number rest : ℕ) → ((k : ℕ) → k < number + rest → P (fragment len k)) → All P (fragments_from len number rest)
all_from P len number zero each k d below = absurd (omega (arith, below))
all_from P len number (suc rest) each zero d below = each number (omega arith)
all_from P len number (suc rest) each (suc k) d below = all_from P len (number + 1) rest (λ j h. each j (omega (arith, h))) k d (omega (arith, below))

pub all_of : (P : Fragment → Type 0) (len : ℕ) → ((k : ℕ) → 1480 * k ≤ len → P (fragment len k)) → All P (fragments_of len)
all_of P len each = all_from P len 0 (count_of len) (λ k h. each k (omega (arith, h)))

pub more_is : (len k : ℕ) → 1480 * k ≤ len → IsTrue (fragment len k).more_fragments ↔ (8 * (fragment len k).offset + (fragment len k).len < len)
more_is len k h = grind (arith, nat_tests)

pub full_is : (len k : ℕ) → 1480 * k ≤ len → IsTrue (fragment len k).more_fragments → (fragment len k).len ≡ 1480
full_is len k h more = grind (arith, nat_tests, more)

pub place_is : (len : ℕ) → len ≤ 65515 → (k : ℕ) → 1480 * k ≤ len → HasPlace (fragment len k).more_fragments (fragment len k).offset (fragment len k).len
place_is len fits k h = record { units = λ more. let full = full_is len k h more in (omega (arith, full), omega (arith, full)); reach = omega arith }

-- all but the last tell of more
no_more : (len number : ℕ) → number + 1 ≡ count_of len → len ≤ 1480 * (number + 1)
no_more len number e = omega (arith, e)

pub one_more : (len number rest : ℕ) → number + 2 + rest ≡ count_of len → 1480 * (number + 1) < len
one_more len number rest e = omega (arith, e)

pub count_from : (len number rest : ℕ) → length (fragments_from len number rest) ≡ rest
count_from len number zero = refl
count_from len number (suc rest) = ap (λ (n : ℕ). suc n) (count_from len (number + 1) rest)

flags_from : (len number rest : ℕ) → number + suc rest ≡ count_of len
    → map (λ f. f.more_fragments) (fragments_from len number (suc rest)) ≡ replicate rest true ++ false ∷ []
flags_from len number zero e =
    let none : nat_lt (1480 * (number + 1)) len ≡ false = grind (arith, nat_tests, no_more len number (omega (arith, e))) in
    ap (λ (b : Bool). b ∷ []) none
flags_from len number (suc rest) e =
    let some : nat_lt (1480 * (number + 1)) len ≡ true = grind (arith, nat_tests, one_more len number rest (omega (arith, e))) in
    ap (λ (b : Bool). b ∷ map (λ f. f.more_fragments) (fragments_from len (number + 1) (suc rest))) some
    ∙ ap (λ (bs : List Bool). true ∷ bs) (flags_from len (number + 1) rest (omega (arith, e)))

pub flags_are : (len : ℕ) → map (λ f. f.more_fragments) (fragments_of len) ≡ replicate (length (fragments_of len) - 1) true ++ false ∷ []
flags_are len = of_count (count_of len) refl
  where
    of_count : (n : ℕ) → n ≡ count_of len → map (λ f. f.more_fragments) (fragments_from len 0 n) ≡ replicate (length (fragments_from len 0 n) - 1) true ++ false ∷ []
    of_count zero e = absurd (omega (arith, e))
    of_count (suc n) e =
        let same : n ≡ length (fragments_from len 0 (suc n)) - 1 = omega (arith, count_from len 0 (suc n)) in
        flags_from len 0 n (omega (arith, e)) ∙ ap (λ (k : ℕ). replicate k true ++ false ∷ []) same

-- none but that of an empty payload is empty
pub filled_of : (len : ℕ) → 0 < len → All (λ f. 0 < f.len) (fragments_of len)
filled_of len some = all_from (λ f. 0 < f.len) len 0 (count_of len) (λ k h. omega (arith, h, some))

-- the part of a fragment is 1,480 octets from its place on, or fewer where the payload ends
pub part_is : (payload : List ℕ) (number : ℕ) → part_of payload (fragment (length payload) number) ≡ take 1480 (drop (1480 * number) payload)
part_is payload number =
    let rest : List ℕ = drop (1480 * number) payload in
    let count : 8 * (185 * number) + min 1480 (length payload - 1480 * number) - 8 * (185 * number) ≡ min 1480 (length rest) =
    omega (arith, length-drop (1480 * number) payload) in
    let place : 8 * (185 * number) ≡ 1480 * number = omega arith in
    ap (λ (n : ℕ). take n (drop (8 * (185 * number)) payload)) count ∙ ap (λ (n : ℕ). take (min 1480 (length rest)) (drop n payload)) place ∙ take_min 1480 rest

next : (payload : List ℕ) (number : ℕ) → drop (1480 * (number + 1)) payload ≡ drop 1480 (drop (1480 * number) payload)
next payload number =
    let place : 1480 * (number + 1) ≡ 1480 * number + 1480 = omega arith in
    ap (λ (n : ℕ). drop n payload) place ∙ sym (drop-drop 1480 (1480 * number) payload)

-- the parts from a fragment on, one behind the other, are the payload from its place on
parts_from : (payload : List ℕ) (number rest : ℕ) → number + rest ≡ count_of (length payload)
    → flat_map (part_of payload) (fragments_from (length payload) number rest) ≡ drop (1480 * number) payload
parts_from payload number zero e = sym (drop_all (1480 * number) payload (omega (arith, e)))
parts_from payload number (suc rest) e =
    ap (λ (xs : List ℕ). xs ++ flat_map (part_of payload) (fragments_from (length payload) (number + 1) rest)) (part_is payload number)
    ∙ ap (λ (xs : List ℕ). take 1480 (drop (1480 * number) payload) ++ xs) (parts_from payload (number + 1) rest (omega (arith, e)) ∙ next payload number)
    ∙ take-append-drop 1480 (drop (1480 * number) payload)

pub cover : (payload : List ℕ) → flat_map (part_of payload) (fragments_of (length payload)) ≡ payload
cover payload = parts_from payload 0 (count_of (length payload)) (omega arith)
