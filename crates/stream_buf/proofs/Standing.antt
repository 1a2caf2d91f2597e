-- Where octets stand once they are laid over places, and once those without a gap are taken off the front.
use Rattle.std.proofs.Common.{◌≡◌, ℕ, zero, suc, ◌+◌, ◌<◌, ◌≤◌, List, [], ◌∷◌, ◌++◌, length, get_or, map, take, drop, replicate, Option, Some, None, refl, sym, ◌∙◌, ap, length-append, arith}
use Rattle.std.proofs.lemmas.List.{length-take, length-map, get_or_append_left, get_or-append-add, get_or-take, get_or-drop, get_or-map}
use Rattle.stream_buf.specs.Receiving.{front, behind_front, laid}
use Rattle.stream_buf.proofs.Inserting.{some}

-- what stands without a gap and what lies behind it are all
pub front_split : (places : List (Option ℕ)) → map some (front places) ++ behind_front places ≡ places
front_split [] = refl
front_split (None ∷ places) = refl
front_split (Some x ∷ places) = ap (λ (ps : List (Option ℕ)). Some x ∷ ps) (front_split places)

-- octets in front are all of the front that was laid
pub front_octets : (octets : List ℕ) (places : List (Option ℕ)) → front (map some octets ++ places) ≡ octets ++ front places
front_octets [] places = refl
front_octets (x ∷ octets) places = ap (λ (xs : List ℕ). x ∷ xs) (front_octets octets places)

-- where nothing stands in front, the first place is free
pub first_free : (places : List (Option ℕ)) → front places ≡ [] → get_or places 0 None ≡ None
first_free [] gap = refl
first_free (None ∷ places) gap = refl
first_free (Some x ∷ places) gap = absurd (cc)

-- the same number, at the place of another that is equal
pub at_same : (places : List (Option ℕ)) (i j : ℕ) → i ≡ j → get_or places i None ≡ get_or places j None
at_same places i j same = ap (λ (n : ℕ). get_or places n None) same

-- in places behind others
pub at_behind : (first places : List (Option ℕ)) (n i j : ℕ) → length first ≡ n → i ≡ n + j → get_or (first ++ places) i None ≡ get_or places j None
at_behind first places n i j size is =
    at_same (first ++ places) i (length first + j) (omega (arith, size, is)) ∙ get_or-append-add first places j None

length-before : (places : List (Option ℕ)) (distance : ℕ) → distance ≤ length places → length (take distance places) ≡ distance
length-before places distance within = omega (arith, length-take distance places, within)

length-up_to : (places : List (Option ℕ)) (distance : ℕ) (octets : List ℕ) → distance + length octets ≤ length places
    → length (take distance places ++ map some octets) ≡ distance + length octets
length-up_to places distance octets within =
    omega (arith, length-append (take distance places) (map some octets), length-map octets some, length-before places distance (omega (arith, within)))

-- an octet that was laid stands at its place
pub laid_own : (places : List (Option ℕ)) (distance : ℕ) (octets : List ℕ) (k : ℕ) → distance + length octets ≤ length places → k < length octets
    → get_or (laid places distance octets) (distance + k) None ≡ Some (get_or octets k 0)
laid_own places distance octets k within below =
    let before : List (Option ℕ) = take distance places in
    let done : List (Option ℕ) = map some octets in
    get_or_append_left (before ++ done) (drop (distance + length octets) places) None (distance + k) (omega (arith, length-up_to places distance octets within, below))
    ∙ at_behind before done distance (distance + k) k (length-before places distance (omega (arith, within))) refl ∙ get_or-map some octets k 0 None below

-- the places before are as they were
pub laid_before : (places : List (Option ℕ)) (distance : ℕ) (octets : List ℕ) (i : ℕ) → distance + length octets ≤ length places → i < distance
    → get_or (laid places distance octets) i None ≡ get_or places i None
laid_before places distance octets i within below =
    let before : List (Option ℕ) = take distance places in
    let done : List (Option ℕ) = map some octets in
    get_or_append_left (before ++ done) (drop (distance + length octets) places) None i (omega (arith, length-up_to places distance octets within, below))
    ∙ get_or_append_left before done None i (omega (arith, length-before places distance (omega (arith, within)), below)) ∙ get_or-take distance places i None below

-- and so are those behind
pub laid_behind : (places : List (Option ℕ)) (distance : ℕ) (octets : List ℕ) (i j : ℕ) → distance + length octets ≤ length places → i ≡ distance + length octets + j
    → get_or (laid places distance octets) i None ≡ get_or places i None
laid_behind places distance octets i j within is =
    at_behind (take distance places ++ map some octets) (drop (distance + length octets) places) (distance + length octets) i j (length-up_to places distance octets within) is
    ∙ get_or-drop (distance + length octets) places j None ∙ at_same places (distance + length octets + j) i (sym is)

-- free places behind change nothing
pub at_more : (places : List (Option ℕ)) (count i : ℕ) → get_or (places ++ replicate count None) i None ≡ get_or places i None
at_more [] zero i = refl
at_more [] (suc count) zero = refl
at_more [] (suc count) (suc i) = at_more [] count i
at_more (place ∷ places) count zero = refl
at_more (place ∷ places) count (suc i) = at_more places count i

-- an octet among the first places stands there, whatever comes behind them
pub stands_first : (first places : List (Option ℕ)) (i octet : ℕ) → get_or first i None ≡ Some octet → get_or (first ++ places) i None ≡ Some octet
stands_first [] places i octet stands = absurd (cc)
stands_first (place ∷ first) places zero octet stands = stands
stands_first (place ∷ first) places (suc i) octet stands = stands_first first places i octet stands
