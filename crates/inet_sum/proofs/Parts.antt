-- A part of octets, block by block.
use Rattle.std.proofs.Common.{◌≡◌, ℕ, ◌+◌, ◌-◌, ◌*◌, ◌/◌, ◌%◌, ◌<◌, ◌≤◌, List, ◌++◌, All, length, get_or, take, drop, sym, ◌∙◌, ap, append_assoc, append-nil, length-drop, arith, Fits, w8}
use Rattle.std.proofs.lemmas.List.{take_all, take-append-drop, length-take-le}
use Rattle.std.proofs.lemmas.List.Elements.{All-from_get_or, All-take}
use Rattle.std.proofs.Math.Seq.{take-add}
use Rattle.inet_sum.specs.Sum.{ones_complement}
use Rattle.inet_sum.specs.Lanes.{AreTotals, wide_sum}
use Rattle.inet_sum.proofs.Halves.{wide_sum-append}
use Rattle.inet_sum.proofs.Words.{ones_complement-add}

-- octets are numbers below 256
are_octets : (xs : List ℕ) → ((k : ℕ) → Fits w8 (get_or xs k 0)) → All (λ octet. octet < 256) xs
are_octets xs fit = All-from_get_or (λ octet. octet < 256) xs 0 (λ k below. (fit k).fits)

first_octets : (n : ℕ) (xs : List ℕ) → ((k : ℕ) → Fits w8 (get_or xs k 0)) → All (λ octet. octet < 256) (take n xs)
first_octets n xs fit = All-take (λ octet. octet < 256) n xs (are_octets xs fit)

-- the totals before the first block, with the next one, and with all
pub before_blocks : (total : ℕ) (count : ℕ) (before xs : List ℕ) → AreTotals total count before → AreTotals total (count + 4 * 0) (before ++ take (32 * 0) xs)
before_blocks total count before xs are =
    let words : count + 4 * 0 ≡ count = omega arith in
    rw words (rw (sym (append-nil before)) at are)

pub next_block : (total new : ℕ) (i count : ℕ) (before xs : List ℕ) → AreTotals total (count + 4 * i) (before ++ take (32 * i) xs)
    → ((n : ℕ) (ys : List ℕ) → AreTotals total n ys → AreTotals new (n + 4) (ys ++ take 32 (drop (32 * i) xs)))
    → AreTotals new (count + 4 * (i + 1)) (before ++ take (32 * (i + 1)) xs)
next_block total new i count before xs are with_block =
    let places : 32 * (i + 1) ≡ 32 * i + 32 = omega arith in
    let words : count + 4 * (i + 1) ≡ count + 4 * i + 4 = omega arith in
    let split : before ++ take (32 * (i + 1)) xs ≡ before ++ take (32 * i) xs ++ take 32 (drop (32 * i) xs) =
    ap (λ (n : ℕ). before ++ take n xs) places ∙ ap (λ (ys : List ℕ). before ++ ys) (take-add (32 * i) 32 xs)
    ∙ sym (append_assoc before (take (32 * i) xs) (take 32 (drop (32 * i) xs))) in
    rw (words, split) (with_block (count + 4 * i) (before ++ take (32 * i) xs) are)

pub all_blocks : (total : ℕ) (i count : ℕ) (before xs : List ℕ) → length xs % 32 ≡ 0 → length xs / 32 ≤ i → i ≤ length xs / 32
    → AreTotals total (count + 4 * i) (before ++ take (32 * i) xs) → AreTotals total (count + length xs / 8) (before ++ xs)
all_blocks total i count before xs whole most least are =
    let words : count + length xs / 8 ≡ count + 4 * i = omega (arith, whole, most, least) in
    let all : take (32 * i) xs ≡ xs = take_all (32 * i) xs (omega (arith, whole, most)) in
    let behind : AreTotals total (count + 4 * i) (before ++ xs) = rw all at are in
    rw words behind

-- the totals up to a place, with the blocks from there to another
pub further : (total new : ℕ) (start end count next : ℕ) (xs : List ℕ) → start ≤ end → end ≤ length xs → start ≡ 8 * count → end ≡ 8 * next
    → AreTotals total count (take start xs)
    → ((n : ℕ) (ys : List ℕ) → AreTotals total n ys → AreTotals new (n + length (take (end - start) (drop start xs)) / 8) (ys ++ take (end - start) (drop start xs)))
    → AreTotals new next (take end xs)
further total new start end count next xs ordered within is_start is_end are with_blocks =
    let places : end ≡ start + (end - start) = omega (arith, ordered) in
    let size : length (take (end - start) (drop start xs)) ≡ end - start = length-take-le (end - start) (drop start xs) (omega (arith, within, length-drop start xs)) in
    let words : next ≡ count + length (take (end - start) (drop start xs)) / 8 = omega (arith, size, ordered, is_start, is_end) in
    let split : take end xs ≡ take start xs ++ take (end - start) (drop start xs) = ap (λ (n : ℕ). take n xs) places ∙ take-add start (end - start) xs in
    rw (words, split) (with_blocks count (take start xs) are)

-- stretch by stretch, and with the blocks behind the last one
pub next_stretch : (total new : ℕ) (i : ℕ) (xs : List ℕ) → i < length xs / 480 → AreTotals total (60 * i) (take (480 * i) xs)
    → ((n : ℕ) (ys : List ℕ) → AreTotals total n ys
    → AreTotals new (n + length (take (480 * i + 480 - 480 * i) (drop (480 * i) xs)) / 8) (ys ++ take (480 * i + 480 - 480 * i) (drop (480 * i) xs)))
    → AreTotals new (60 * (i + 1)) (take (480 * (i + 1)) xs)
next_stretch total new i xs below are with_blocks =
    let places : 480 * (i + 1) ≡ 480 * i + 480 = omega arith in
    rw places (further total new (480 * i) (480 * i + 480) (60 * i) (60 * (i + 1)) xs (omega arith) (omega (arith, below)) (omega arith) (omega arith) are with_blocks)

last_blocks : (total new : ℕ) (i : ℕ) (xs : List ℕ) → length xs / 480 ≤ i → i ≤ length xs / 480 → AreTotals total (60 * i) (take (480 * i) xs)
    → (let start = 480 * (length xs / 480) in let end = length xs / 32 * 32 in (n : ℕ) (ys : List ℕ) → AreTotals total n ys
    → AreTotals new (n + length (take (end - start) (drop start xs)) / 8) (ys ++ take (end - start) (drop start xs)))
    → AreTotals new (4 * (length xs / 32)) (take (32 * (length xs / 32)) xs)
last_blocks total new i xs most least are with_blocks =
    let stretches : ℕ = length xs / 480 in
    let all : i ≡ stretches = omega (arith, most, least) in
    let places : 32 * (length xs / 32) ≡ length xs / 32 * 32 = omega arith in
    let before : AreTotals total (60 * stretches) (take (480 * stretches) xs) = rw all at are in
    rw places (further total new (480 * stretches) (length xs / 32 * 32) (60 * stretches) (4 * (length xs / 32)) xs (omega arith) (omega arith) (omega arith) (omega arith) before with_blocks)

-- the blocks and what is left of a part
blocks_and_rest : (xs : List ℕ) (i blocks rest : ℕ) → length xs / 32 ≤ i → i ≤ length xs / 32 → ones_complement blocks ≡ ones_complement (wide_sum (take (32 * i) xs))
    → rest ≡ wide_sum (take (length xs - length xs / 32 * 32) (drop (length xs / 32 * 32) xs)) → ones_complement (blocks + rest) ≡ ones_complement (wide_sum xs)
blocks_and_rest xs i blocks rest most least is_blocks is_rest =
    let cut : length xs / 32 * 32 ≡ 32 * i = omega (arith, most, least) in
    let whole-rest : take (length xs - length xs / 32 * 32) (drop (length xs / 32 * 32) xs) ≡ drop (length xs / 32 * 32) xs =
    take_all (length xs - length xs / 32 * 32) (drop (length xs / 32 * 32) xs) (omega (arith, length-drop (length xs / 32 * 32) xs)) in
    let left : rest ≡ wide_sum (drop (32 * i) xs) = is_rest ∙ ap wide_sum whole-rest ∙ ap (λ (n : ℕ). wide_sum (drop n xs)) cut in
    let whole : length (take (32 * i) xs) ≡ 4 * (8 * i) = length-take-le (32 * i) xs (omega (arith, cut)) ∙ omega arith in
    let joined : wide_sum xs ≡ wide_sum (take (32 * i) xs) + wide_sum (drop (32 * i) xs) =
    ap wide_sum (sym (take-append-drop (32 * i) xs)) ∙ wide_sum-append (8 * i) (take (32 * i) xs) (drop (32 * i) xs) whole in
    let all : wide_sum (take (32 * i) xs) + rest ≡ wide_sum xs = omega (arith, left, joined) in
    ones_complement-add blocks (wide_sum (take (32 * i) xs)) rest is_blocks ∙ ap ones_complement all

pub part_summed : (xs : List ℕ) (total new : ℕ) (i blocks rest : ℕ) → ((k : ℕ) → Fits w8 (get_or xs k 0))
    → length xs / 480 ≤ i → i ≤ length xs / 480 → AreTotals total (60 * i) (take (480 * i) xs)
    → (let start = 480 * (length xs / 480) in let end = length xs / 32 * 32 in (n : ℕ) (ys : List ℕ) → AreTotals total n ys
    → AreTotals new (n + length (take (end - start) (drop start xs)) / 8) (ys ++ take (end - start) (drop start xs)))
    → ((count : ℕ) (octets : List ℕ) → AreTotals new count octets → All (λ octet. octet < 256) octets → ones_complement blocks ≡ ones_complement (wide_sum octets))
    → rest ≡ wide_sum (take (length xs - length xs / 32 * 32) (drop (length xs / 32 * 32) xs)) → ones_complement (blocks + rest) ≡ ones_complement (wide_sum xs)
part_summed xs total new i blocks rest fit most least are with_blocks is_sum is_rest =
    let whole : ℕ = length xs / 32 in
    let all = last_blocks total new i xs most least are with_blocks in
    blocks_and_rest xs whole blocks rest (omega arith) (omega arith) (is_sum (4 * whole) (take (32 * whole) xs) all (first_octets (32 * whole) xs fit)) is_rest
