-- How many ranges there are with octets laid, where they touch what is kept and where they don't.
use Rattle.std.proofs.Common.{◌≡◌, ℕ, zero, suc, ◌+◌, ◌-◌, ◌<◌, ◌≤◌, Bool, true, false, inl, inr, ◌⊎◌, List, [], ◌∷◌, length, get_or, take, drop, Option, Some, None, is_some, refl, sym, ◌∙◌, ap, arith}
use Rattle.std.proofs.lemmas.Bool.{cases_Bool, cases_lt, cases_eq, le-leb, lt-leb}
use Rattle.std.proofs.lemmas.List.{take-append-drop, drop-drop, get_or-drop}
use Rattle.stream_buf.specs.Receiving.{ReceiveView, ranges_after, ranges, laid, is_taken, IsReceiving}
use Rattle.stream_buf.specs.Counting.{ends_kept}
use Rattle.stream_buf.specs.Received.{Touches}
use Rattle.stream_buf.proofs.Counting.{ranges_after-append, ranges_begun, ends_next}
use Rattle.stream_buf.proofs.Inserting.{fewer_behind, ranges_laid, ranges_laid_none}
use Rattle.stream_buf.proofs.Taking.{taken_first, taken_ahead}

-- the ranges below a distance and those from it on
ranges_parts : (places : List (Option ℕ)) (distance : ℕ)
    → ranges places ≡ ranges (take distance places) + ranges_after (ends_kept false (take distance places)) (drop distance places)
ranges_parts places distance =
    ap (λ (ps : List (Option ℕ)). ranges ps) (sym (take-append-drop distance places)) ∙ ranges_after-append false (take distance places) (drop distance places)

-- those above octets that are laid
above : (places : List (Option ℕ)) (distance len : ℕ) → ranges_after true (drop len (drop distance places)) ≡ ranges_after true (drop (distance + len) places)
above places distance len = ap (λ (ps : List (Option ℕ)). ranges_after true ps) (drop-drop len distance places)

begun_some : (before : Bool) → ranges_begun before true ≤ 1
begun_some true = omega arith
begun_some false = omega arith

-- octets make one range more at most
pub one_more : (places : List (Option ℕ)) (distance : ℕ) (octets : List ℕ) → 0 < length octets → ranges (laid places distance octets) ≤ 1 + ranges places
one_more places distance octets has =
    let last : Bool = ends_kept false (take distance places) in
    let now = ranges_laid places distance octets has in
    let was = ranges_parts places distance in
    let over = above places distance (length octets) in
    let fewer = fewer_behind (length octets) last (drop distance places) in
    omega (arith, now, was, over, fewer, begun_some last)

-- where one of the first places keeps an octet, or the one behind them, a range begins there that they would join
touched : (len : ℕ) (places : List (Option ℕ)) (k : ℕ) → k ≤ len → is_some (get_or places k None) ≡ true → suc (ranges_after true (drop len places)) ≤ ranges_after false places
touched len [] k within kept = absurd (cc)
touched zero (None ∷ places) zero within kept = absurd (cc)
touched zero (None ∷ places) (suc k) within kept = absurd (omega (arith, within))
touched zero (Some x ∷ places) k within kept = omega arith
touched (suc len) (None ∷ places) zero within kept = absurd (cc)
touched (suc len) (None ∷ places) (suc k) within kept = touched len places k (omega (arith, within)) kept
touched (suc len) (Some x ∷ places) k within kept = let fewer = fewer_behind len true places in omega (arith, fewer)

-- and where none does, they would join none
untouched : (len : ℕ) (places : List (Option ℕ)) → ((k : ℕ) → k ≤ len → is_some (get_or places k None) ≡ true → ⊥)
    → ranges_after true (drop len places) ≡ ranges_after false places
untouched zero [] none = refl
untouched zero (None ∷ places) none = refl
untouched zero (Some x ∷ places) none = absurd (none 0 (omega arith) refl)
untouched (suc len) [] none = refl
untouched (suc len) (None ∷ places) none = untouched len places (λ k within kept. none (suc k) (omega (arith, within)) kept)
untouched (suc len) (Some x ∷ places) none = absurd (none 0 (omega arith) refl)

-- the place before a distance is the last of those below it
last_below : (places : List (Option ℕ)) (distance k : ℕ) → distance ≡ k + 1 → distance ≤ length places
    → ends_kept false (take distance places) ≡ is_some (get_or places k None)
last_below places distance k is within =
    ap (λ (n : ℕ). ends_kept false (take n places)) is ∙ ends_next false places k (is_some (get_or places k None)) (omega (arith, is, within)) refl

-- octets that touch what is kept make no range more
pub none_more : (places : List (Option ℕ)) (distance : ℕ) (octets : List ℕ) → 0 < length octets → distance + length octets ≤ length places
    → Touches places distance octets → ranges (laid places distance octets) ≤ ranges places
none_more places distance octets has within touches =
    let last : Bool = ends_kept false (take distance places) in
    let now = ranges_laid places distance octets has in
    let was = ranges_parts places distance in
    let over = above places distance (length octets) in
    elim (cases_Bool last) [
      | inl on ↦
          let none = ap (λ (b : Bool). ranges_begun b true) on in
          let fewer = fewer_behind (length octets) last (drop distance places) in
          omega (arith, now, was, over, none, fewer)
      | inr off ↦
          let one = ap (λ (b : Bool). ranges_begun b true) off in
          let rest = ap (λ (b : Bool). ranges_after b (drop distance places)) off in
          elim (cases_lt touches.0 distance) [
            | inl below ↦
                let last_is = last_below places distance touches.0 (omega (arith, touches.1, below)) (omega (arith, within)) in
                absurd (cc (off, last_is, touches.3))
            | inr from ↦
                let j : ℕ = touches.0 - distance in
                let back : distance + j ≡ touches.0 = omega (arith, from) in
                let there : is_some (get_or (drop distance places) j None) ≡ true =
                ap (λ (o : Option ℕ). is_some o) (get_or-drop distance places j None) ∙ ap (λ (n : ℕ). is_some (get_or places n None)) back ∙ touches.3 in
                let more = touched (length octets) (drop distance places) j (omega (arith, touches.2, back)) there in
                omega (arith, now, was, over, one, rest, more)
          ]
    ]

-- octets that touch nothing make one more
pub one_begins : (places : List (Option ℕ)) (distance : ℕ) (octets : List ℕ) → 0 < distance → 0 < length octets → distance + length octets ≤ length places
    → (Touches places distance octets → ⊥) → ranges (laid places distance octets) ≡ 1 + ranges places
one_begins places distance octets ahead has within apart =
    let last : Bool = ends_kept false (take distance places) in
    let k : ℕ = distance - 1 in
    let next : distance ≡ k + 1 = omega (arith, ahead) in
    let last_is = last_below places distance k next (omega (arith, within)) in
    let now = ranges_laid places distance octets has in
    let was = ranges_parts places distance in
    let over = above places distance (length octets) in
    elim (cases_Bool last) [
      | inl on ↦ absurd (apart (k, omega (arith, next), omega (arith, next), sym last_is ∙ on))
      | inr off ↦
          let one = ap (λ (b : Bool). ranges_begun b true) off in
          let rest = ap (λ (b : Bool). ranges_after b (drop distance places)) off in
          let same = untouched (length octets) (drop distance places) (λ j below kept. apart (
            distance + j,
            omega arith,
            omega (arith, below),
            ap (λ (o : Option ℕ). is_some o) (sym (get_or-drop distance places j None)) ∙ kept,
          )) in
          omega (arith, now, was, over, one, rest, same)
    ]

-- octets are taken where there are few ranges with them
pub taken_if_few : (b : ReceiveView) (distance : ℕ) (octets : List ℕ) → IsReceiving b → distance + length octets ≤ length b.kept
    → ranges (laid b.kept distance octets) ≤ 32 → is_taken b distance octets ≡ true
taken_if_few b distance octets was within few =
    elim (cases_eq distance 0) [
      | inl first ↦ taken_first b distance octets first
      | inr ahead ↦
          sym (taken_ahead b distance octets (ranges (laid b.kept distance octets)) was ahead within refl) ∙ le-leb (ranges (laid b.kept distance octets)) 32 few
    ]

pub not_taken : (b : ReceiveView) (distance : ℕ) (octets : List ℕ) → IsReceiving b → 0 < distance → distance + length octets ≤ length b.kept
    → 32 < ranges (laid b.kept distance octets) → is_taken b distance octets ≡ false
not_taken b distance octets was ahead within many =
    sym (taken_ahead b distance octets (ranges (laid b.kept distance octets)) was (λ first. absurd (omega (arith, ahead, first))) within refl)
    ∙ lt-leb (ranges (laid b.kept distance octets)) 32 many

pub empty_or_not : (octets : List ℕ) → length octets ≡ 0 ⊎ 0 < length octets
empty_or_not [] = inl (omega arith)
empty_or_not (x ∷ octets) = inr (omega arith)

pub touching_taken : (b : ReceiveView) (distance : ℕ) (octets : List ℕ) → IsReceiving b → distance + length octets ≤ length b.kept → Touches b.kept distance octets
    → is_taken b distance octets ≡ true
touching_taken b distance octets was within touches =
    taken_if_few b distance octets was within (elim (empty_or_not octets) [
      | inl none ↦ let same = ranges_laid_none b.kept distance octets none in omega (arith, same, was.few)
      | inr has ↦ let fewer = none_more b.kept distance octets has within touches in omega (arith, fewer, was.few)
    ])

pub few_taken : (b : ReceiveView) (distance : ℕ) (octets : List ℕ) → IsReceiving b → distance + length octets ≤ length b.kept → ranges b.kept < 32
    → is_taken b distance octets ≡ true
few_taken b distance octets was within few =
    taken_if_few b distance octets was within (elim (empty_or_not octets) [
      | inl none ↦ let same = ranges_laid_none b.kept distance octets none in omega (arith, same, was.few)
      | inr has ↦ let more = one_more b.kept distance octets has in omega (arith, more, few)
    ])
