-- What octets that came make of the places.
use Rattle.std.proofs.Common.{◌≡◌, ℕ, zero, suc, ◌+◌, ◌<◌, ◌≤◌, Bool, true, false, List, [], ◌∷◌, ◌++◌, length, map, take, drop, replicate, Option, Some, None, refl, ◌∙◌, ap, length-append, arith}
use Rattle.std.proofs.lemmas.List.{length-drop, length-take, length-map, length-replicate, take-append-drop, append-nil}
use Rattle.stream_buf.specs.Receiving.{ReceiveView, front, behind_front, ranges_after, ranges, laid, IsReceiving}
use Rattle.stream_buf.specs.Counting.{ends_kept}
use Rattle.stream_buf.proofs.Counting.{ranges_after-append, ends_kept-append, ranges_begun}

-- an octet at its place
abbrev pub some : ℕ → Option ℕ
some x = Some x

-- as many places as before
pub length-laid : (places : List (Option ℕ)) (distance : ℕ) (octets : List ℕ) → distance + length octets ≤ length places
    → length (laid places distance octets) ≡ length places
length-laid places distance octets within =
    let before : List (Option ℕ) = take distance places in
    let done : List (Option ℕ) = map some octets in
    let after : List (Option ℕ) = drop (distance + length octets) places in
    omega (
      arith,
      length-append (before ++ done) after,
      length-append before done,
      length-take distance places,
      length-map octets some,
      length-drop (distance + length octets) places,
      within,
    )

pub length-front : (places : List (Option ℕ)) → length (front places) ≤ length places
length-front [] = omega arith
length-front (None ∷ places) = omega arith
length-front (Some x ∷ places) = let rest = length-front places in omega (arith, rest)

-- none stands at the first of the places behind the front
pub gap_behind : (places : List (Option ℕ)) → front (behind_front places) ≡ []
gap_behind [] = refl
gap_behind (None ∷ places) = refl
gap_behind (Some x ∷ places) = gap_behind places

-- octets ahead of a gap leave it
pub front_ahead : (places : List (Option ℕ)) (distance : ℕ) (octets : List ℕ) → 0 < distance → distance + length octets ≤ length places → front places ≡ []
    → front (laid places distance octets) ≡ []
front_ahead places zero octets ahead within gap = absurd (omega (arith, ahead))
front_ahead [] (suc distance) octets ahead within gap = absurd (omega (arith, within))
front_ahead (None ∷ places) (suc distance) octets ahead within gap = refl
front_ahead (Some x ∷ places) (suc distance) octets ahead within gap = absurd (cc)

-- where none stands in front, all stand behind it
pub all_behind : (places : List (Option ℕ)) → front places ≡ [] → behind_front places ≡ places
all_behind places gap = ap (λ (xs : List ℕ). drop (length xs) places) gap

-- no more ranges are counted where the place before the first keeps an octet
pub fewer_after : (before : Bool) (places : List (Option ℕ)) → ranges_after true places ≤ ranges_after before places
fewer_after true places = omega arith
fewer_after false [] = omega arith
fewer_after false (None ∷ places) = omega arith
fewer_after false (Some x ∷ places) = omega arith

-- no range begins behind a place that was none
pub fewer_behind : (count : ℕ) (before : Bool) (places : List (Option ℕ)) → ranges_after true (drop count places) ≤ ranges_after before places
fewer_behind zero before places = fewer_after before places
fewer_behind (suc count) before [] = omega arith
fewer_behind (suc count) before (None ∷ places) = fewer_behind count false places
fewer_behind (suc count) true (Some x ∷ places) = fewer_behind count true places
fewer_behind (suc count) false (Some x ∷ places) = let rest = fewer_behind count true places in omega (arith, rest)

pub fewer_behind_front : (before : Bool) (places : List (Option ℕ)) → ranges (behind_front places) ≤ ranges_after before places
fewer_behind_front before [] = omega arith
fewer_behind_front before (None ∷ places) = omega arith
fewer_behind_front true (Some x ∷ places) = fewer_behind_front true places
fewer_behind_front false (Some x ∷ places) = let rest = fewer_behind_front true places in omega (arith, rest)

-- octets in front are none of what lies behind the front
pub behind_octets : (octets : List ℕ) (places : List (Option ℕ)) → behind_front (map some octets ++ places) ≡ behind_front places
behind_octets [] places = refl
behind_octets (x ∷ octets) places = behind_octets octets places

-- octets at RCV.NXT leave no more ranges than there were
pub fewer_joined : (places : List (Option ℕ)) (octets : List ℕ) → ranges (behind_front (laid places 0 octets)) ≤ ranges places
fewer_joined places octets =
    let rest : List (Option ℕ) = drop (0 + length octets) places in
    let shown : ranges (behind_front (laid places 0 octets)) ≡ ranges (behind_front rest) = ap (λ (xs : List (Option ℕ)). ranges xs) (behind_octets octets rest) in
    let first = fewer_behind_front true rest in
    let second = fewer_behind (0 + length octets) false places in
    omega (arith, shown, first, second)

-- no octets change nothing
pub laid_none : (places : List (Option ℕ)) (distance : ℕ) → laid places distance [] ≡ places
laid_none places distance =
    let same : distance + 0 ≡ distance = omega arith in
    ap (λ (n : ℕ). take distance places ++ [] ++ drop n places) same ∙ ap (λ (xs : List (Option ℕ)). xs ++ drop distance places) (append-nil (take distance places))
    ∙ take-append-drop distance places

-- one run of octets begins a range where none goes on into it
run_begun : (before : Bool) (octets : List ℕ) → 0 < length octets → ranges_after before (map some octets) ≡ ranges_begun before true
run_begun before [] has = absurd (omega (arith, has))
run_begun true (x ∷ []) has = refl
run_begun false (x ∷ []) has = refl
run_begun true (x ∷ y ∷ octets) has = run_begun true (y ∷ octets) (omega arith)
run_begun false (x ∷ y ∷ octets) has = let rest = run_begun true (y ∷ octets) (omega arith) in omega (arith, rest)

run_ends : (before : Bool) (octets : List ℕ) → 0 < length octets → ends_kept before (map some octets) ≡ true
run_ends before [] has = absurd (omega (arith, has))
run_ends before (x ∷ []) has = refl
run_ends before (x ∷ y ∷ octets) has = run_ends true (y ∷ octets) (omega arith)

-- the ranges with octets laid: those below, one if it begins with them, and those above
pub ranges_laid : (places : List (Option ℕ)) (distance : ℕ) (octets : List ℕ) → 0 < length octets
    → ranges (laid places distance octets)
    ≡ ranges (take distance places) + ranges_begun (ends_kept false (take distance places)) true + ranges_after true (drop (distance + length octets) places)
ranges_laid places distance octets has =
    let before : List (Option ℕ) = take distance places in
    let done : List (Option ℕ) = map some octets in
    let after : List (Option ℕ) = drop (distance + length octets) places in
    let last : Bool = ends_kept false before in
    ranges_after-append false (before ++ done) after
    ∙ ap (λ (n : ℕ). n + ranges_after (ends_kept false (before ++ done)) after) (ranges_after-append false before done)
    ∙ ap (λ (n : ℕ). ranges before + n + ranges_after (ends_kept false (before ++ done)) after) (run_begun last octets has)
    ∙ ap (λ (b : Bool). ranges before + ranges_begun last true + ranges_after b after) (ends_kept-append false before done ∙ run_ends last octets has)

-- nothing is kept in new places
pub front_more : (places : List (Option ℕ)) (count : ℕ) → front places ≡ [] → front (places ++ replicate count None) ≡ []
front_more [] zero gap = refl
front_more [] (suc count) gap = refl
front_more (None ∷ places) count gap = refl
front_more (Some x ∷ places) count gap = absurd (cc)

pub none_begins : (before : Bool) (count : ℕ) → ranges_after before (replicate count None) ≡ 0
none_begins before zero = refl
none_begins before (suc count) = none_begins false count

pub ranges_more : (places : List (Option ℕ)) (count : ℕ) → ranges (places ++ replicate count None) ≡ ranges places
ranges_more places count =
    let more = none_begins (ends_kept false places) count in
    let parts = ranges_after-append false places (replicate count None) in
    omega (arith, more, parts)

-- each buffer is one
pub receives_nothing : (capacity : ℕ) → IsReceiving (record { readable = []; kept = replicate capacity None; capacity = capacity })
receives_nothing capacity = let none = none_begins false capacity in record {
  places = omega (arith, length-replicate {A = Option ℕ} capacity None);
  gap = front_more [] capacity refl;
  few = omega (arith, none);
}

pub receives_read : (b : ReceiveView) (count : ℕ) → count ≤ length b.readable → IsReceiving b
    → IsReceiving (record { readable = drop count b.readable; kept = b.kept ++ replicate count None; capacity = b.capacity })
receives_read b count within was = let same = ranges_more b.kept count in record {
  places = omega (arith, length-append b.kept (replicate count None), length-replicate {A = Option ℕ} count None, length-drop count b.readable, within, was.places);
  gap = front_more b.kept count was.gap;
  few = omega (arith, same, was.few);
}

pub receives_laid : (b : ReceiveView) (distance : ℕ) (octets : List ℕ) → distance + length octets ≤ length b.kept
    → ranges (behind_front (laid b.kept distance octets)) ≤ 32 → IsReceiving b
    → IsReceiving (record { readable = b.readable ++ front (laid b.kept distance octets); kept = behind_front (laid b.kept distance octets); capacity = b.capacity })
receives_laid b distance octets within few was =
    let places : List (Option ℕ) = laid b.kept distance octets in
    record {
      places = omega (arith, length-append b.readable (front places), length-drop (length (front places)) places, length-front places, length-laid b.kept distance octets within, was.places);
      gap = gap_behind places;
      few = few;
    }

pub ranges_laid_none : (places : List (Option ℕ)) (distance : ℕ) (octets : List ℕ) → length octets ≡ 0 → ranges (laid places distance octets) ≡ ranges places
ranges_laid_none places distance [] none = ap (λ (ps : List (Option ℕ)). ranges ps) (laid_none places distance)
ranges_laid_none places distance (x ∷ octets) none = absurd (omega (arith, none))
