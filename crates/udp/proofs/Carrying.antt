-- What the fragments of a UDP datagram carry.
use Rattle.std.proofs.Common.{◌≡◌, ℕ, zero, suc, ◌+◌, ◌-◌, ◌*◌, ◌<◌, ◌≤◌, min, List, [], ◌∷◌, ◌++◌, length, take, drop, slice_range, Some, refl, sym, ◌∙◌, ap, length-append, arith}
use Rattle.std.proofs.lemmas.List.{length-drop, take_all, drop_all, take_min}
use Rattle.std.proofs.lemmas.List.Sums.{sum_by-cons}
use Rattle.std.specs.List.{sum_by, slice_get}
use Rattle.udp.specs.declared.cutting.Fragment.{Fragment}
use Rattle.udp.specs.Datagram.{UserDatagram, datagram_len, header_octets, spelling}
use Rattle.udp.specs.Fragments.{fragment, fragments_from, count_of, fragments_of, part_of}
use Rattle.udp.proofs.Copying.{drop_of_two, take_of_two}
use Rattle.udp.proofs.Covering.{part_is, count_from}

-- the fragment with a number stands at it
numbered_from : (len first rest number : ℕ) → number < rest → slice_get (fragments_from len first rest) number ≡ Some (fragment len (first + number))
numbered_from len first zero number below = absurd (omega (arith, below))
numbered_from len first (suc rest) zero below = let same : first ≡ first + 0 = omega arith in ap (λ (n : ℕ). Some (fragment len n)) same
numbered_from len first (suc rest) (suc number) below =
    let same : first + 1 + number ≡ first + suc number = omega arith in
    numbered_from len (first + 1) rest number (omega (arith, below)) ∙ ap (λ (n : ℕ). Some (fragment len n)) same

pub numbered : (len number : ℕ) → number < count_of len → slice_get (fragments_of len) number ≡ Some (fragment len number)
numbered len number below =
    let same : 0 + number ≡ number = omega arith in
    numbered_from len 0 (count_of len) number below ∙ ap (λ (n : ℕ). Some (fragment len n)) same

-- what the fragments have as their lengths, together
abbrev lens_of : List Fragment → ℕ
lens_of fragments = sum_by (λ f. f.len) fragments

first_of : (f g : Fragment) (fs gs : List Fragment) → f ∷ fs ≡ g ∷ gs → (f ≡ g) × (fs ≡ gs)
first_of f g fs gs same = (cc, cc)

-- a fragment begins where those before it end
begin_from : (len number rest : ℕ) (before after : List Fragment) (f : Fragment) → number + rest ≡ count_of len
    → fragments_from len number rest ≡ before ++ f ∷ after → 8 * f.offset ≡ 1480 * number + lens_of before
begin_from len number zero [] after f count is = cc
begin_from len number zero (g ∷ before) after f count is = cc
begin_from len number (suc rest) [] after f count is =
    let offset : 185 * number ≡ f.offset = ap (λ (g : Fragment). g.offset) (first_of (fragment len number) f (fragments_from len (number + 1) rest) after is).0 in
    let none : lens_of [] ≡ 0 = refl in
    omega (arith, offset, none)
begin_from len number (suc rest) (g ∷ before) after f count is =
    let parts = first_of (fragment len number) g (fragments_from len (number + 1) rest) (before ++ f ∷ after) is in
    let some : 0 < rest = omega (arith, count_from len (number + 1) rest, ap length parts.1, length-append before (f ∷ after)) in
    let full : g.len ≡ 1480 = sym (ap (λ (x : Fragment). x.len) parts.0) ∙ filled len number (omega (arith, count, some)) in
    let further = begin_from len (number + 1) rest before after f (omega (arith, count)) parts.1 in
    omega (arith, further, full, sum_by-cons (λ (x : Fragment). x.len) g before)
  where
    filled : (len number : ℕ) → number + 1 < count_of len → min 1480 (len - 1480 * number) ≡ 1480
    filled len number below = omega (arith, below)

pub begin : (len : ℕ) (before after : List Fragment) (f : Fragment) → fragments_of len ≡ before ++ f ∷ after → 8 * f.offset ≡ lens_of before
begin len before after f is =
    let all : 0 + count_of len ≡ count_of len = omega arith in
    omega (arith, begin_from len 0 (count_of len) before after f all is)

-- a fragment has the number of those before it
place_from : (len number rest : ℕ) (before after : List Fragment) (f : Fragment)
    → fragments_from len number rest ≡ before ++ f ∷ after → (f ≡ fragment len (number + length before)) × (length before < rest)
place_from len number zero [] after f is = cc
place_from len number zero (g ∷ before) after f is = cc
place_from len number (suc rest) [] after f is =
    let same : number ≡ number + 0 = omega arith in (
      sym (first_of (fragment len number) f (fragments_from len (number + 1) rest) after is).0 ∙ ap (λ (n : ℕ). fragment len n) same,
      omega arith,
    )
place_from len number (suc rest) (g ∷ before) after f is =
    let further = place_from len (number + 1) rest before after f (first_of (fragment len number) g (fragments_from len (number + 1) rest) (before ++ f ∷ after) is).1 in
    let same : number + 1 + length before ≡ number + suc (length before) = omega arith in
    (further.0 ∙ ap (λ (n : ℕ). fragment len n) same, omega (arith, further.1))

pub place_is_number : (len : ℕ) (before after : List Fragment) (f : Fragment) → fragments_of len ≡ before ++ f ∷ after
    → (f ≡ fragment len (length before)) × (length before < count_of len)
place_is_number len before after f is =
    let found = place_from len 0 (count_of len) before after f is in
    let same : 0 + length before ≡ length before = omega arith in
    (found.0 ∙ ap (λ (n : ℕ). fragment len n) same, found.1)

-- a part of a UDP datagram, by the length of its octets
part_spelled : (d : UserDatagram) (number : ℕ) → part_of (spelling d) (fragment (datagram_len d) number) ≡ take 1480 (drop (1480 * number) (spelling d))
part_spelled d number =
    let len : datagram_len d ≡ length (spelling d) = omega arith in
    ap (λ (n : ℕ). part_of (spelling d) (fragment n number)) len ∙ part_is (spelling d) number

-- the first has the header and the first octets of the payload
pub first_part : (d : UserDatagram) → part_of (spelling d) (fragment (datagram_len d) 0) ≡ header_octets d ++ take 1472 d.payload
first_part d =
    let header : List ℕ = header_octets d in
    let eight : length header ≡ 8 = omega arith in
    let all : take 1480 header ≡ header = take_all 1480 header (omega (arith, eight)) in
    let left : 1480 - length header ≡ 1472 = omega (arith, eight) in
    part_spelled d 0 ∙ take_of_two 1480 header d.payload ∙ ap (λ (xs : List ℕ). xs ++ take (1480 - length header) d.payload) all
    ∙ ap (λ (n : ℕ). header ++ take n d.payload) left

-- each later one has octets of the payload
pub later_part : (d : UserDatagram) (number : ℕ) → 0 < number
    → part_of (spelling d) (fragment (datagram_len d) number) ≡ take 1480 (drop (1480 * number - 8) d.payload)
later_part d number later =
    let header : List ℕ = header_octets d in
    let eight : length header ≡ 8 = omega arith in
    let none : drop (1480 * number) header ≡ [] = drop_all (1480 * number) header (omega (arith, eight, later)) in
    let place : 1480 * number - length header ≡ 1480 * number - 8 = omega (arith, eight) in
    part_spelled d number ∙ ap (λ (xs : List ℕ). take 1480 xs) (drop_of_two (1480 * number) header d.payload
    ∙ ap (λ (xs : List ℕ). xs ++ drop (1480 * number - length header) d.payload) none ∙ ap (λ (n : ℕ). drop n d.payload) place)

-- which the payload has
pub later_within : (d : UserDatagram) (number : ℕ) → 0 < number → number < count_of (datagram_len d)
    → 1480 * number - 8 + (fragment (datagram_len d) number).len ≤ length d.payload
later_within d number later below = omega (arith, later, below)

-- the same octets as a range of the payload, of the length that the fragment tells
pub first_range : (d : UserDatagram)
    → part_of (spelling d) (fragment (datagram_len d) 0) ≡ header_octets d ++ slice_range d.payload 0 ((fragment (datagram_len d) 0).len - 8)
first_range d =
    let count : (fragment (datagram_len d) 0).len - 8 - 0 ≡ min 1472 (length d.payload) = omega arith in
    first_part d ∙ ap (λ (xs : List ℕ). header_octets d ++ xs) (sym (take_min 1472 d.payload)) ∙ ap (λ (n : ℕ). header_octets d ++ take n d.payload) (sym count)

pub later_range : (d : UserDatagram) (number : ℕ) → 0 < number
    → part_of (spelling d) (fragment (datagram_len d) number)
    ≡ slice_range d.payload (1480 * number - 8) (1480 * number - 8 + (fragment (datagram_len d) number).len)
later_range d number later =
    let rest : List ℕ = drop (1480 * number - 8) d.payload in
    let count : 1480 * number - 8 + (fragment (datagram_len d) number).len - (1480 * number - 8) ≡ min 1480 (length rest) =
    omega (arith, later, length-drop (1480 * number - 8) d.payload) in
    later_part d number later ∙ sym (take_min 1480 rest) ∙ ap (λ (n : ℕ). take n rest) (sym count)
