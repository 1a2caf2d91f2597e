-- Ranges that are taken out of a list one by one, as they are joined.
use Rattle.std.proofs.Common.{◌≡◌, ℕ, zero, suc, ◌+◌, ◌-◌, ◌<◌, ◌≤◌, List, [], ◌∷◌, ◌++◌, length, get_or, map, take, drop, sym, ◌∙◌, ap, subst, arith}
use Rattle.std.proofs.lemmas.List.{append_assoc, append-nil, length-take, length-map, take_more, drop_more, take_at, drop_at, drop_all, take_all, get_or-append_right, get_or-drop}
use Rattle.std.specs.List.{remove}
use Rattle.stream_buf.specs.declared.ranges.Range.{Range}
use Rattle.stream_buf.specs.Ranges.{range, hull, AreApart, with_range, nearer, further}
use Rattle.stream_buf.proofs.Joining.{with_below, with_touching, apart_with, apart_before, apart_nearer, further_from}

module _ (l : List Range) (place : ℕ) (r joined d : Range) (there : place < length l) (is : r ≡ get_or l place d) where
  rest : with_range (drop place l) joined ≡ with_range (r ∷ drop (place + 1) l) joined
  rest = ap (λ (rs : List Range). with_range rs joined) (drop_more l place d there ∙ ap (λ (s : Range). s ∷ drop (place + 1) l) (sym is))

  pub passed : r.end < joined.start → take place l ++ with_range (drop place l) joined ≡ take (place + 1) l ++ with_range (drop (place + 1) l) joined
  passed below =
      let others : List Range = with_range (drop (place + 1) l) joined in
      ap (λ (rs : List Range). take place l ++ rs) (rest ∙ with_below r (drop (place + 1) l) joined below)
      ∙ sym (append_assoc (take place l) (r ∷ []) others)
      ∙ ap (λ (rs : List Range). rs ++ others) (ap (λ (s : Range). take place l ++ s ∷ []) is ∙ sym (take_more l place d there))

  pub taken : joined.start ≤ r.end → r.start ≤ joined.end
      → take place l ++ with_range (drop place l) joined ≡ take place (remove l place) ++ with_range (drop place (remove l place)) (hull r joined)
  taken first second =
      let size : length (take place l) ≡ place = omega (arith, length-take place l, there) in
      let one : place + 1 ≡ suc place = omega arith in
      ap (λ (rs : List Range). take place l ++ rs) (rest ∙ with_touching r (drop (place + 1) l) joined first second)
      ∙ ap (λ (n : ℕ). take place l ++ with_range (drop n l) (hull r joined)) one
      ∙ ap (λ (rs : List Range). take place l ++ with_range rs (hull r joined)) (sym (drop_at (take place l) (drop (suc place) l) place size))
      ∙ ap (λ (rs : List Range). rs ++ with_range (drop place (remove l place)) (hull r joined)) (sym (take_at (take place l) (drop (suc place) l) place size))

-- each of those that are apart
pub apart_at : (rs : List Range) (place i : ℕ) (d : Range) → AreApart place rs → i < length rs → (place ≤ (get_or rs i d).start) × ((get_or rs i d).start < (get_or rs i d).end)
apart_at [] place i d apart below = absurd (omega (arith, below))
apart_at (r ∷ rs) place zero d apart below = (apart.0, apart.1)
apart_at (r ∷ rs) place (suc i) d apart below =
    let rest = apart_at rs (suc r.end) i d apart.2 (omega (arith, below)) in
    (omega (arith, rest.0, apart.0, apart.1), rest.1)

-- one that a loop has not come to is as it was
pub unmoved : (f : Range → Range) (rs : List Range) (i : ℕ) (d : Range) → i < length rs → get_or (map f (take i rs) ++ drop i rs) i d ≡ get_or rs i d
unmoved f rs i d below =
    let size : length (map f (take i rs)) ≡ i = omega (arith, length-map (take i rs) f, length-take i rs, below) in
    get_or-append_right (map f (take i rs)) (drop i rs) i i d size (omega arith) ∙ get_or-drop i rs (i - i) d ∙ ap (λ (n : ℕ). get_or rs n d) (omega arith)

-- what a slice of as many leaves
pub refilled : (rs new : List Range) → length new ≡ length rs → take (length rs) (new ++ drop (length new) rs) ≡ new
refilled rs new size =
    ap (λ (l : List Range). take (length rs) (new ++ l)) (drop_all (length new) rs (omega (arith, size)))
    ∙ ap (λ (l : List Range). take (length rs) l) (append-nil new) ∙ take_all (length rs) new (omega (arith, size))

-- where places from RCV.NXT up to an end are joined with those that they touch
module _ (rs left : List Range) (end : ℕ) (joined : Range) (apart : AreApart 1 rs) (some : 0 < end) (first : joined.start ≡ 0)
    (is : with_range rs (range 0 end) ≡ joined ∷ left) where
  pub shown : with_range rs (range 0 end) ≡ range 0 joined.end ∷ left
  shown = is ∙ ap (λ (n : ℕ). range n joined.end ∷ left) first

  pub left_apart : AreApart (suc joined.end) left
  left_apart = let all = subst (AreApart 0) is (apart_with rs 0 (range 0 end) (apart_before rs 1 0 (omega arith) apart) (omega arith) some) in all.2

  pub left_nearer : AreApart 1 (map (nearer joined.end) left)
  left_nearer = apart_nearer left 1 joined.end (apart_before left (suc joined.end) (1 + joined.end) (omega arith) left_apart)

  pub left_further : with_range rs (range 0 end) ≡ range 0 joined.end ∷ map (further joined.end) (map (nearer joined.end) left)
  left_further = shown ∙ ap (λ (l : List Range). range 0 joined.end ∷ l) (sym (further_from left (suc joined.end) joined.end (omega arith) left_apart))
