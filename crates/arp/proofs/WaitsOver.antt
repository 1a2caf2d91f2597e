-- When the waits of the notes are over.
use Rattle.std.proofs.Common.{◌≡◌, ◌<◌, ◌≤◌, ◌+◌, ◌-◌, ◌^◌, ℕ, suc, min, max, Bool, true, false, not, ◌&&◌, ◌||◌, nat_lt, nat_le, List, [], ◌∷◌, length, filter, fold, count_by, cond, Option, Some, None, refl, sym, ◌∙◌, ap, subst, arith}
use Rattle.std.specs.List.{list_any}
use Rattle.std.proofs.lemmas.Bool.Decides.{nat_tests}
use Rattle.std.proofs.lemmas.List.Sums.{length-filter}
use Rattle.ipv4.specs.declared.addr.Addr.{Addr}
use Rattle.clock.specs.declared.moment.Moment.{Moment}
use Rattle.clock.specs.Moments.{sooner}
use Rattle.arp.specs.declared.entry.Asked.{Asked}
use Rattle.arp.specs.Cache.{is_note_of, is_live_note, live_notes, may_ask, IsNextAsk}
use Rattle.clock.specs.Moments.{later}
use Rattle.arp.specs.Waits.{last_of, own_last, first_last, room_last, following}
use Rattle.arp.proofs.History.{length-filter-le}

-- the live notes, counted
pub count_is : (now : Moment) (asked : List Asked) → count_by (is_live_note now) asked ≡ length (live_notes now asked)
count_is now asked = sym (length-filter (is_live_note now) asked)

and_true : (b : Bool) → b ≡ (b && true)
and_true true = refl
and_true false = refl

and_false : (b : Bool) → false ≡ (b && false)
and_false true = refl
and_false false = refl

-- a test of the live ones
any_live : (p q : Asked → Bool) (notes : List Asked) → list_any p (filter q notes) ≡ list_any (λ note. p note && q note) notes
any_live p q [] = refl
any_live p q (note ∷ notes) = by_test (q note) (any_live p q notes)
  where
    rest : Bool
    rest = list_any (λ other. p other && q other) notes

    by_test : (b : Bool) → list_any p (filter q notes) ≡ rest → list_any p (cond b (note ∷ filter q notes) (filter q notes)) ≡ ((p note && b) || rest)
    by_test true past = ap (λ c. p note || c) past ∙ ap (λ c. c || rest) (and_true (p note))
    by_test false past = past ∙ ap (λ c. c || rest) (and_false (p note))

-- both tests of a request
may_is : (now : Moment) (addr : Addr) (asked : List Asked) (count : ℕ) (any : Bool) → count ≡ length (live_notes now asked)
    → any ≡ list_any (λ note. is_note_of addr note && is_live_note now note) asked → (nat_lt count 64 && not any) ≡ may_ask now addr asked
unfolding may_ask
may_is now addr asked count any counted found =
    ap (λ (n : ℕ). nat_lt n 64 && not any) counted ∙ ap (λ b. nat_lt (length (live_notes now asked)) 64 && not b) (found ∙ sym (any_live (is_note_of addr) (is_live_note now) asked))

pub may_yes : (now : Moment) (addr : Addr) (asked : List Asked) (count : ℕ) (any : Bool) → nat_lt count 64 ≡ true → count ≡ length (live_notes now asked)
    → any ≡ list_any (λ note. is_note_of addr note && is_live_note now note) asked → not any ≡ may_ask now addr asked
may_yes now addr asked count any room counted found = ap (λ b. b && not any) (sym room) ∙ may_is now addr asked count any counted found

pub may_no : (now : Moment) (addr : Addr) (asked : List Asked) (count : ℕ) → nat_lt count 64 ≡ false → count ≡ length (live_notes now asked)
    → nat_lt count 64 ≡ may_ask now addr asked
may_no now addr asked count full counted =
    full ∙ ap (λ b. b && not any) (sym full) ∙ may_is now addr asked count any counted refl
  where
    any : Bool
    any = list_any (λ note. is_note_of addr note && is_live_note now note) asked

-- a last moment is past, where there is one
abbrev pub is_past : Option Moment → Moment → Bool
is_past None now = true
is_past (Some last) now = nat_lt last.0 now.0

-- a note is live until its last moment
live_until : (now : Moment) (note : Asked) → is_past (Some (last_of note)) now ≡ not (is_live_note now note)
live_until now note = apart note.at.0 now.0
  where
    apart : (at now : ℕ) → nat_lt (max at (min (at + 1000) (2 ^ 64 - 1) - 1)) now ≡ not (nat_le now at || nat_lt now (min (at + 1000) (2 ^ 64 - 1)))
    apart at now = grind (arith, nat_tests)

-- the later of two waits is over where both are
both_over : (a b now : Moment) → is_past (later (Some a) (Some b)) now ≡ (is_past (Some a) now && is_past (Some b) now)
both_over a b now = grind (arith, nat_tests)

later_over : (a b : Option Moment) (now : Moment) → is_past (later a b) now ≡ (is_past a now && is_past b now)
later_over None b now = refl
later_over (Some a) None now = and_true (is_past (Some a) now)
later_over (Some a) (Some b) now = both_over a b now

-- the notes for the address

abbrev last_end : Option Moment → List Asked → Option Moment
last_end first notes = fold (λ (latest : Option Moment) (note : Asked). later latest (Some (last_of note))) first notes

own_over : (addr : Addr) (notes : List Asked) (first : Option Moment) (now : Moment)
    → is_past (last_end first (filter (is_note_of addr) notes)) now ≡ (is_past first now && not (list_any (is_note_of addr) (filter (is_live_note now) notes)))
own_over addr [] first now = and_true (is_past first now)
own_over addr (note ∷ notes) first now = by_tests (λ f. own_over addr notes f now) (is_note_of addr note) refl (is_live_note now note) refl
  where
    rest : Bool
    rest = list_any (is_note_of addr) (filter (is_live_note now) notes)

    -- where it is for the address
    own : ((f : Option Moment) → is_past (last_end f (filter (is_note_of addr) notes)) now ≡ (is_past f now && not rest)) → (live : Bool) → is_live_note now note ≡ live
        → is_past (last_end (later first (Some (last_of note))) (filter (is_note_of addr) notes)) now ≡ ((is_past first now && not live) && not rest)
    own past live test =
        past (later first (Some (last_of note)))
        ∙ ap (λ b. b && not rest) (later_over first (Some (last_of note)) now ∙ ap (λ b. is_past first now && b) (live_until now note ∙ ap not test))

    shut : (b : Bool) → ((b && false) && not rest) ≡ (b && false)
    shut true = refl
    shut false = refl

    through : (b : Bool) → ((b && true) && not rest) ≡ (b && not rest)
    through true = refl
    through false = refl

    by_tests : ((f : Option Moment) → is_past (last_end f (filter (is_note_of addr) notes)) now ≡ (is_past f now && not rest)) → (mine : Bool) → is_note_of addr note ≡ mine → (live : Bool) → is_live_note now note ≡ live
        → is_past (last_end first (cond mine (note ∷ filter (is_note_of addr) notes) (filter (is_note_of addr) notes))) now
        ≡ (is_past first now && not (list_any (is_note_of addr) (cond live (note ∷ filter (is_live_note now) notes) (filter (is_live_note now) notes))))
    by_tests past true is true test = own past true test ∙ shut (is_past first now) ∙ ap (λ b. is_past first now && not (b || rest)) (sym is)
    by_tests past true is false test = own past false test ∙ through (is_past first now)
    by_tests past false is true test = past first ∙ ap (λ b. is_past first now && not (b || rest)) (sym is)
    by_tests past false is false test = past first

-- the places

one_less : (a b : ℕ) → nat_lt (suc a) (suc b) ≡ nat_lt a b
one_less a b = grind (arith, nat_tests)

some_dead : (p : Asked → Bool) (notes : List Asked) → nat_lt (length (filter p notes)) (length notes) ≡ list_any (λ note. not (p note)) notes
some_dead p [] = refl
some_dead p (note ∷ notes) = by_test (p note) (some_dead p notes)
  where
    less : nat_lt (length (filter p notes)) (suc (length notes)) ≡ true
    less = let most = length-filter-le p notes in grind (arith, nat_tests, most)

    by_test : (b : Bool) → nat_lt (length (filter p notes)) (length notes) ≡ list_any (λ other. not (p other)) notes
        → nat_lt (length (cond b (note ∷ filter p notes) (filter p notes))) (suc (length notes)) ≡ (not b || list_any (λ other. not (p other)) notes)
    by_test true rest = one_less (length (filter p notes)) (length notes) ∙ rest
    by_test false rest = less

abbrev soonest_end : Option Moment → List Asked → Option Moment
soonest_end first notes = fold (λ (soonest : Option Moment) (note : Asked). sooner soonest (Some (last_of note))) first notes

either_over : (a b now : Moment) → is_past (sooner (Some a) (Some b)) now ≡ (is_past (Some a) now || is_past (Some b) now)
either_over a b now = grind (arith, nat_tests)

or_assoc : (a b c : Bool) → ((a || b) || c) ≡ (a || (b || c))
or_assoc true b c = refl
or_assoc false b c = refl

first_over : (notes : List Asked) (first now : Moment)
    → is_past (soonest_end (Some first) notes) now ≡ (is_past (Some first) now || list_any (λ note. not (is_live_note now note)) notes)
first_over [] first now = or_false (is_past (Some first) now)
  where
    or_false : (b : Bool) → b ≡ (b || false)
    or_false true = refl
    or_false false = refl
first_over (note ∷ notes) first now = by_test (λ f. first_over notes f now) (nat_le first.0 (last_of note).0) refl
  where
    rest : Bool
    rest = list_any (λ other. not (is_live_note now other)) notes

    joined : (b : Bool) → b ≡ (is_past (Some first) now || is_past (Some (last_of note)) now) → (b || rest) ≡ (is_past (Some first) now || (not (is_live_note now note) || rest))
    joined b is = ap (λ c. c || rest) (is ∙ ap (λ c. is_past (Some first) now || c) (live_until now note)) ∙ or_assoc (is_past (Some first) now) (not (is_live_note now note)) rest

    by_test : ((f : Moment) → is_past (soonest_end (Some f) notes) now ≡ (is_past (Some f) now || rest)) → (b : Bool) → nat_le first.0 (last_of note).0 ≡ b
        → is_past (soonest_end (cond b (Some first) (Some (last_of note))) notes) now ≡ (is_past (Some first) now || (not (is_live_note now note) || rest))
    by_test past true test =
        past first ∙ joined (is_past (Some first) now) (ap (λ c. is_past (cond c (Some first) (Some (last_of note))) now) (sym test) ∙ either_over first (last_of note) now)
    by_test past false test =
        past (last_of note) ∙ joined (is_past (Some (last_of note)) now) (ap (λ c. is_past (cond c (Some first) (Some (last_of note))) now) (sym test) ∙ either_over first (last_of note) now)

full_over : (asked : List Asked) (now : Moment) → length asked ≡ 64 → is_past (first_last asked) now ≡ nat_lt (length (live_notes now asked)) 64
full_over [] now full = absurd (omega (arith, full))
full_over (note ∷ notes) now full =
    first_over notes (last_of note) now
    ∙ ap (λ b. b || list_any (λ other. not (is_live_note now other)) notes) (live_until now note)
    ∙ sym (some_dead (is_live_note now) (note ∷ notes))
    ∙ ap (λ (n : ℕ). nat_lt (length (live_notes now (note ∷ notes))) n) full

room_over : (asked : List Asked) (now : Moment) → length asked ≤ 64 → is_past (room_last asked) now ≡ nat_lt (length (live_notes now asked)) 64
room_over asked now few = by_test (nat_lt (length asked) 64) refl
  where
    by_test : (b : Bool) → nat_lt (length asked) 64 ≡ b → is_past (cond b None (first_last asked)) now ≡ nat_lt (length (live_notes now asked)) 64
    by_test true test = let most = length-filter-le (is_live_note now) asked in grind (arith, nat_tests, test, most)
    by_test false test = full_over asked now (grind (arith, nat_tests, test, few))

-- both
pub over_is : (addr : Addr) (asked : List Asked) (now : Moment) → length asked ≤ 64 → may_ask now addr asked ≡ is_past (later (room_last asked) (own_last addr asked)) now
unfolding may_ask
over_is addr asked now few =
    sym (later_over (room_last asked) (own_last addr asked) now
    ∙ ap (λ b. b && is_past (own_last addr asked) now) (room_over asked now few)
    ∙ ap (λ b. nat_lt (length (live_notes now asked)) 64 && b) (own_over addr asked None now))

-- the moment behind the last
next_by : (addr : Addr) (asked : List Asked) (last : Option Moment) → ((now : Moment) → may_ask now addr asked ≡ is_past last now) → IsNextAsk addr asked (following last)
next_by addr asked None may = λ now later within within'. may now ∙ sym (may later)
next_by addr asked (Some last) may = by_test (nat_lt last.0 (2 ^ 64 - 1)) refl
  where
    less : (now : Moment) → nat_lt last.0 now.0 ≡ nat_le (last.0 + 1) now.0
    less now = grind (arith, nat_tests)

    never : (now : Moment) → nat_lt last.0 (2 ^ 64 - 1) ≡ false → now.0 < 2 ^ 64 → nat_lt last.0 now.0 ≡ false
    never now end within = grind (arith, nat_tests, end, within)

    by_test : (b : Bool) → nat_lt last.0 (2 ^ 64 - 1) ≡ b → IsNextAsk addr asked (cond b (Some (record { 0 = last.0 + 1 })) None)
    by_test true ahead = (omega arith, grind (arith, nat_tests, ahead), λ now. may now ∙ less now)
    by_test false end = λ now later within within'. may now ∙ never now end within ∙ sym (may later ∙ never later end within')

pub next_is : (addr : Addr) (asked : List Asked) (next : Option Moment) → length asked ≤ 64 → next ≡ following (later (room_last asked) (own_last addr asked)) → IsNextAsk addr asked next
next_is addr asked next few is = subst (λ o. IsNextAsk addr asked o) (sym is) (next_by addr asked (later (room_last asked) (own_last addr asked)) (λ now. over_is addr asked now few))

-- where there is none, and none may go out at one moment, none may at any of the clock
pub never_again : (addr : Addr) (asked : List Asked) (now then : Moment) → length asked ≤ 64 → following (later (room_last asked) (own_last addr asked)) ≡ None
    → may_ask now addr asked ≡ false → then.0 < 2 ^ 64 → may_ask then addr asked ≡ false
never_again addr asked now then few none not_now within = over_is addr asked then few ∙ by_last (later (room_last asked) (own_last addr asked)) none (sym (over_is addr asked now few) ∙ not_now)
  where
    by_test : (last : ℕ) (b : Bool) → nat_lt last (2 ^ 64 - 1) ≡ b → cond b (Some (let m : Moment = record { 0 = last + 1 } in m)) None ≡ None → nat_lt last then.0 ≡ false
    by_test last true ahead is = absurd cc
    by_test last false end is = grind (arith, nat_tests, end, within)

    by_last : (last : Option Moment) → following last ≡ None → is_past last now ≡ false → is_past last then ≡ false
    by_last None is past = absurd cc
    by_last (Some last) is past = by_test last.0 (nat_lt last.0 (2 ^ 64 - 1)) refl is

-- There is one such moment at most.

below : (a b : ℕ) → nat_le b a ≡ nat_le a a → b ≤ a
below a b e = grind (arith, nat_tests, e)

nat_le-refl : (n : ℕ) → nat_le n n ≡ true
nat_le-refl n = grind (arith, nat_tests)

begins : (n : ℕ) → 0 < n → nat_le n 0 ≡ true → ⊥
begins n some e = grind (arith, nat_tests, some, e)

pub one_next : (addr : Addr) (asked : List Asked) (first second : Option Moment) → IsNextAsk addr asked first → IsNextAsk addr asked second → first ≡ second
one_next addr asked None None p q = refl
one_next addr asked None (Some second) p q = absurd (begins second.0 q.0 (sym (q.2 start) ∙ p start second (omega arith) q.1 ∙ q.2 second ∙ nat_le-refl second.0))
  where
    start : Moment
    start = record { 0 = 0 }
one_next addr asked (Some first) None p q = absurd (begins first.0 p.0 (sym (p.2 start) ∙ q start first (omega arith) p.1 ∙ p.2 first ∙ nat_le-refl first.0))
  where
    start : Moment
    start = record { 0 = 0 }
one_next addr asked (Some first) (Some second) p q =
    let same : first.0 ≡ second.0 = omega (arith, below first.0 second.0 (sym (q.2 first) ∙ p.2 first), below second.0 first.0 (sym (p.2 second) ∙ q.2 second)) in
    ap made same
  where
    made : ℕ → Option Moment
    made n = let m : Moment = record { 0 = n } in Some m
