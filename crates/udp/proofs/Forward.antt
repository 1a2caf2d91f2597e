-- What is stored once one of the datagrams stands before the others.
use Rattle.std.proofs.Common.{◌≡◌, ℕ, zero, suc, ◌+◌, ◌-◌, ◌<◌, ◌≤◌, List, [], ◌∷◌, ◌++◌, length, take, drop, slice_range, Some, None, refl, sym, ◌∙◌, ap, length-append, arith}
use Rattle.std.specs.List.{slice_get, remove_range}
use Rattle.std.proofs.lemmas.List.{length-take, length-drop, append_assoc, take-append-drop, take-append-le, drop-append-le, take_at, drop_at, drop-take, take-take}
use Rattle.std.proofs.lemmas.List.Sums.{sum_by-cons, sum_by-append}
use Rattle.circular_buffer.specs.Buffer.{Buffer, buffer}
use Rattle.udp.specs.declared.waiting.Entry.{Entry}
use Rattle.udp.specs.Waiting.{Waiting, brought_forward}
use Rattle.udp.specs.Stored.{items_of, IsStored}
use Rattle.udp.proofs.Storing.{lens_of, length-items_of}

-- a list with an item in a place is what stands before it, the item, and what stands behind
pub record IsSplit {X : Type 0} (xs : List X) (place : ℕ) (x : X) : Type 0 where
  pub front : List X
  pub back : List X
  pub is : xs ≡ front ++ x ∷ back
  pub len : length front ≡ place

pub split : {X : Type 0} (xs : List X) (place : ℕ) (x : X) → slice_get xs place ≡ Some x → IsSplit xs place x
split [] place x there = cc
split (y ∷ ys) zero x there =
    let same : y ≡ x = cc in
    record { front = []; back = ys; is = ap (λ z. z ∷ ys) same; len = refl }
split (y ∷ ys) (suc place) x there =
    let rest = split ys place x there in
    record { front = y ∷ rest.front; back = rest.back; is = ap (λ zs. y ∷ zs) rest.is; len = ap suc rest.len }

-- so it is brought forward
pub brought_split : {X : Type 0} (front back : List X) (x : X) → brought_forward (length front) (front ++ x ∷ back) ≡ x ∷ (front ++ back)
brought_split {X} front back x =
    let whole : List X = front ++ x ∷ back in
    let behind : drop (length front) whole ≡ x ∷ back = drop_at front (x ∷ back) (length front) refl in
    let before : take (length front) whole ≡ front = take_at front (x ∷ back) (length front) refl in
    let past : drop (suc (length front)) whole ≡ back = dropped front in
    ap (λ (ys : List X). take 1 ys ++ (take (length front) whole ++ drop (suc (length front)) whole)) behind
    ∙ ap (λ (ys : List X). x ∷ (ys ++ drop (suc (length front)) whole)) before
    ∙ ap (λ (ys : List X). x ∷ (front ++ ys)) past
  where
    dropped : (ys : List X) → drop (suc (length ys)) (ys ++ x ∷ back) ≡ back
    dropped [] = refl
    dropped (y ∷ ys) = dropped ys

-- a range before what stood before it
pub moved : {X : Type 0} (front range back : List X) (at n : ℕ) → length front ≡ at → length range ≡ n
    → slice_range (front ++ (range ++ back)) at (at + n) ++ remove_range (front ++ (range ++ back)) at (at + n) ≡ range ++ (front ++ back)
moved {X} front range back at n is_at is_n =
    let whole : List X = front ++ (range ++ back) in
    let count : at + n - at ≡ n = omega arith in
    let behind : drop at whole ≡ range ++ back = drop_at front (range ++ back) at is_at in
    let before : take at whole ≡ front = take_at front (range ++ back) at is_at in
    let cut : take n (range ++ back) ≡ range = take_at range back n is_n in
    let len : length (front ++ range) ≡ at + n = omega (arith, length-append front range, is_at, is_n) in
    let past : drop (at + n) whole ≡ back = ap (λ (ys : List X). drop (at + n) ys) (sym (append_assoc front range back)) ∙ drop_at (front ++ range) back (at + n) len in
    ap (λ (m : ℕ). take m (drop at whole) ++ (take at whole ++ drop (at + n) whole)) count
    ∙ ap (λ (ys : List X). take n ys ++ (take at whole ++ drop (at + n) whole)) behind
    ∙ ap (λ (ys : List X). ys ++ (take at whole ++ drop (at + n) whole)) cut
    ∙ ap (λ (ys : List X). range ++ (ys ++ drop (at + n) whole)) before
    ∙ ap (λ (ys : List X). range ++ (front ++ ys)) past

-- the datagrams of entries in two parts
items_of-parts : (front back : List Entry) (xs ys : List ℕ) → lens_of front ≡ length xs → items_of (front ++ back) (xs ++ ys) ≡ items_of front xs ++ items_of back ys
items_of-parts [] back [] ys lens = refl
items_of-parts [] back (x ∷ xs) ys lens = absurd (omega (arith, lens))
items_of-parts (f ∷ front) back xs ys lens =
    let cons = sum_by-cons (λ (x : Entry). x.len) f front in
    let within : f.len ≤ length xs = omega (arith, lens, cons) in
    let rest : lens_of front ≡ length (drop f.len xs) = omega (arith, lens, cons, length-drop f.len xs) in
    ap (λ (os : List ℕ). record { endpoint = f.endpoint; octets = os } ∷ items_of (front ++ back) (drop f.len (xs ++ ys))) (take-append-le f.len xs ys within)
    ∙ ap (λ (os : List ℕ). record { endpoint = f.endpoint; octets = take f.len xs } ∷ items_of (front ++ back) os) (drop-append-le f.len xs ys within)
    ∙ ap (λ (ws : List Waiting). record { endpoint = f.endpoint; octets = take f.len xs } ∷ ws) (items_of-parts front back (drop f.len xs) ys rest)

items_of-first : (e : Entry) (back : List Entry) (xs ys : List ℕ) → length xs ≡ e.len
    → items_of (e ∷ back) (xs ++ ys) ≡ record { endpoint = e.endpoint; octets = xs } ∷ items_of back ys
items_of-first e back xs ys len =
    ap (λ (os : List ℕ). record { endpoint = e.endpoint; octets = os } ∷ items_of back (drop e.len (xs ++ ys))) (take_at xs ys e.len len)
    ∙ ap (λ (os : List ℕ). record { endpoint = e.endpoint; octets = xs } ∷ items_of back os) (drop_at xs ys e.len len)

items_brought : (front back : List Entry) (e : Entry) (xs mid ys : List ℕ) → lens_of front ≡ length xs → length mid ≡ e.len
    → items_of (e ∷ (front ++ back)) (mid ++ (xs ++ ys)) ≡ brought_forward (length front) (items_of (front ++ e ∷ back) (xs ++ (mid ++ ys)))
items_brought front back e xs mid ys lens len =
    let w : Waiting = record { endpoint = e.endpoint; octets = mid } in
    let before : List Waiting = items_of front xs in
    let behind : List Waiting = items_of back ys in
    let whole : items_of (front ++ e ∷ back) (xs ++ (mid ++ ys)) ≡ before ++ w ∷ behind =
    items_of-parts front (e ∷ back) xs (mid ++ ys) lens ∙ ap (λ (ws : List Waiting). before ++ ws) (items_of-first e back mid ys len) in
    items_of-first e (front ++ back) mid (xs ++ ys) len
    ∙ ap (λ (ws : List Waiting). w ∷ ws) (items_of-parts front back xs ys lens)
    ∙ sym (brought_split before behind w)
    ∙ ap (λ (n : ℕ). brought_forward n (before ++ w ∷ behind)) (length-items_of front xs)
    ∙ ap (λ (ws : List Waiting). brought_forward (length front) ws) (sym whole)

-- a list cut in three
pub record IsCut (xs : List ℕ) (at n : ℕ) : Type 0 where
  pub front : List ℕ
  pub range : List ℕ
  pub back : List ℕ
  pub is : xs ≡ front ++ (range ++ back)
  pub at_len : length front ≡ at
  pub len : length range ≡ n

cut : (xs : List ℕ) (at n : ℕ) → at + n ≤ length xs → IsCut xs at n
cut xs at n within = record {
  front = take at xs;
  range = take n (drop at xs);
  back = drop n (drop at xs);
  is = sym (take-append-drop at xs) ∙ ap (λ (ys : List ℕ). take at xs ++ ys) (sym (take-append-drop n (drop at xs)));
  at_len = omega (arith, within, length-take at xs);
  len = omega (arith, within, length-take n (drop at xs), length-drop at xs);
}

-- the lengths of the entries before a place, at it and behind it
lens_split : (front back : List Entry) (e : Entry) → lens_of (front ++ e ∷ back) ≡ lens_of front + (e.len + lens_of back)
lens_split front back e =
    omega (arith, sum_by-append (λ (x : Entry). x.len) front (e ∷ back), sum_by-cons (λ (x : Entry). x.len) e back)

-- the octets before a place and at it are among all
pub range_within : (es : List Entry) (place before held : ℕ) (e : Entry) → slice_get es place ≡ Some e → before ≡ lens_of (take place es) → lens_of es ≡ held → before + e.len ≤ held
range_within es place before held e there is lens =
    let parts = split es place e there in
    let front : take place es ≡ parts.front = ap (λ (xs : List Entry). take place xs) parts.is ∙ take_at parts.front (e ∷ parts.back) place parts.len in
    omega (arith, is, lens, ap lens_of front, ap lens_of parts.is, lens_split parts.front parts.back e)

pub place_within : (es : List Entry) (place : ℕ) (e : Entry) → slice_get es place ≡ Some e → place + 1 ≤ length es
place_within es place e there =
    let parts = split es place e there in
    omega (arith, ap length parts.is, length-append parts.front (e ∷ parts.back), parts.len)

-- what a ring holds then
abbrev pub ranged : {X : Type 0} → ℕ → ℕ → List X → List X
ranged at n xs = slice_range xs at (at + n) ++ remove_range xs at (at + n)

module _ (es : List Entry) (os : List ℕ) (place before : ℕ) (e : Entry) (there : slice_get es place ≡ Some e) (is : before ≡ lens_of (take place es)) (lens : lens_of es ≡ length os) where
  parts : IsSplit es place e
  parts = split es place e there

  pieces : IsCut os before e.len
  pieces = cut os before e.len (range_within es place before (length os) e there is lens)

  front_is : take place es ≡ parts.front
  front_is = ap (λ (xs : List Entry). take place xs) parts.is ∙ take_at parts.front (e ∷ parts.back) place parts.len

  entries_are : ranged place 1 es ≡ e ∷ (parts.front ++ parts.back)
  entries_are = ap (λ (xs : List Entry). ranged place 1 xs) parts.is ∙ moved parts.front (e ∷ []) parts.back place 1 parts.len refl

  octets_are : ranged before e.len os ≡ pieces.range ++ (pieces.front ++ pieces.back)
  octets_are = ap (λ (xs : List ℕ). ranged before e.len xs) pieces.is ∙ moved pieces.front pieces.range pieces.back before e.len pieces.at_len pieces.len

  front_lens : lens_of parts.front ≡ length pieces.front
  front_lens = omega (arith, is, pieces.at_len, ap lens_of front_is)

  pub items_ranged : items_of (ranged place 1 es) (ranged before e.len os) ≡ brought_forward place (items_of es os)
  items_ranged =
      ap (λ (xs : List Entry). items_of xs (ranged before e.len os)) entries_are
      ∙ ap (λ (xs : List ℕ). items_of (e ∷ (parts.front ++ parts.back)) xs) octets_are
      ∙ items_brought parts.front parts.back e pieces.front pieces.range pieces.back front_lens pieces.len
      ∙ ap (λ (n : ℕ). brought_forward n (items_of (parts.front ++ e ∷ parts.back) (pieces.front ++ (pieces.range ++ pieces.back)))) parts.len
      ∙ ap (λ (xs : List Entry). brought_forward place (items_of xs (pieces.front ++ (pieces.range ++ pieces.back)))) (sym parts.is)
      ∙ ap (λ (xs : List ℕ). brought_forward place (items_of es xs)) (sym pieces.is)

  pub entries_kept : (length (ranged place 1 es) ≡ length es) × (lens_of (ranged place 1 es) ≡ lens_of es)
  entries_kept = (
    omega (arith, ap length entries_are, ap length parts.is, length-append parts.front parts.back, length-append parts.front (e ∷ parts.back)),
    omega (arith, ap lens_of entries_are, ap lens_of parts.is, lens_split parts.front parts.back e, sum_by-cons (λ (x : Entry). x.len) e (parts.front ++ parts.back), sum_by-append (λ (x : Entry). x.len) parts.front parts.back),
  )

  pub octets_kept : length (ranged before e.len os) ≡ length os
  octets_kept =
      omega (
        arith,
        ap length octets_are,
        ap length pieces.is,
        length-append pieces.range (pieces.front ++ pieces.back),
        length-append pieces.front pieces.back,
        length-append pieces.front (pieces.range ++ pieces.back),
        length-append pieces.range pieces.back,
      )

-- the rings keep their rules
pub stored_brought : (entries : Buffer Entry) (octets : Buffer ℕ) (place before : ℕ) (e : Entry) → IsStored entries octets → slice_get entries.items place ≡ Some e
    → before ≡ lens_of (take place entries.items)
    → IsStored (buffer (ranged place 1 entries.items) entries.capacity) (buffer (ranged before e.len octets.items) octets.capacity)
stored_brought entries octets place before e stored there is =
    let kept = entries_kept entries.items octets.items place before e there is stored.lens in
    let held = octets_kept entries.items octets.items place before e there is stored.lens in
    record {
      places = stored.places;
      datagrams = omega (arith, kept.0, stored.datagrams);
      lens = omega (arith, kept.1, held, stored.lens);
      within = omega (arith, kept.0, held, stored.within);
    }

-- the first of a list turned, and the others as they are
pub turned_below : {X : Type 0} (xs ys : List X) (at n : ℕ) → at + n ≤ length xs
    → ys ≡ drop (length (take (at + n) xs) - n) (take (at + n) xs) ++ take (length (take (at + n) xs) - n) (take (at + n) xs)
    → ys ++ drop (at + n) xs ≡ ranged at n xs
turned_below {X} xs ys at n within is =
    let below : length (take (at + n) xs) - n ≡ at = omega (arith, within, length-take (at + n) xs) in
    let count : at + n - at ≡ n = omega arith in
    ap (λ (zs : List X). zs ++ drop (at + n) xs) (is ∙ ap (λ (m : ℕ). drop m (take (at + n) xs) ++ take m (take (at + n) xs)) below)
    ∙ ap (λ (zs : List X). (zs ++ take at (take (at + n) xs)) ++ drop (at + n) xs) (drop-take at n xs)
    ∙ ap (λ (zs : List X). (take n (drop at xs) ++ zs) ++ drop (at + n) xs) (take-take at (at + n) xs (omega arith))
    ∙ append_assoc (take n (drop at xs)) (take at xs) (drop (at + n) xs)
    ∙ ap (λ (m : ℕ). take m (drop at xs) ++ (take at xs ++ drop (at + n) xs)) (sym count)

-- one more of the entries
pub next_lens : (es : List Entry) (i : ℕ) (e : Entry) → slice_get es i ≡ Some e
    → (lens_of (take (i + 1) es) ≡ lens_of (take i es) + e.len) × (lens_of (take i es) + e.len ≤ lens_of es)
next_lens es i e there =
    let parts = split es i e there in
    let one : lens_of (e ∷ []) ≡ e.len = omega (arith, sum_by-cons (λ (x : Entry). x.len) e []) in
    let front : take i es ≡ parts.front = ap (λ (xs : List Entry). take i xs) parts.is ∙ take_at parts.front (e ∷ parts.back) i parts.len in
    let more : take (i + 1) es ≡ parts.front ++ e ∷ [] =
    ap (λ (xs : List Entry). take (i + 1) xs) (parts.is ∙ sym (append_assoc parts.front (e ∷ []) parts.back))
    ∙ take_at (parts.front ++ e ∷ []) parts.back (i + 1) (omega (arith, length-append parts.front (e ∷ []), parts.len)) in (
      omega (arith, ap lens_of front, ap lens_of more, sum_by-append (λ (x : Entry). x.len) parts.front (e ∷ []), one),
      omega (arith, ap lens_of front, ap lens_of parts.is, lens_split parts.front parts.back e),
    )

pub some_there : (es : List Entry) (i : ℕ) → i < length es → slice_get es i ≡ None → ⊥
some_there [] i below none = omega (arith, below)
some_there (e ∷ es) zero below none = cc
some_there (e ∷ es) (suc i) below none = some_there es i (omega (arith, below)) none

-- nothing is done where the first is brought forward
pub first_forward : {X : Type 0} (xs : List X) (place : ℕ) → place ≡ 0 → brought_forward place xs ≡ xs
first_forward {X} xs place is = ap (λ (n : ℕ). brought_forward n xs) is ∙ of_list xs
  where
    of_list : (ys : List X) → brought_forward 0 ys ≡ ys
    of_list [] = refl
    of_list (y ∷ ys) = refl

-- of one item the range is the item
pub ranged_one : {X : Type 0} (xs : List X) (place : ℕ) → ranged place 1 xs ≡ brought_forward place xs
ranged_one {X} xs place =
    let count : place + 1 - place ≡ 1 = omega arith in
    let next : place + 1 ≡ suc place = omega arith in
    ap (λ (n : ℕ). take n (drop place xs) ++ (take place xs ++ drop (place + 1) xs)) count
    ∙ ap (λ (n : ℕ). take 1 (drop place xs) ++ (take place xs ++ drop n xs)) next
