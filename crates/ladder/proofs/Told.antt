-- The ladder of a run, thing by thing.
use Rattle.std.proofs.Common.{◌≡◌, ◌++◌, ◌+◌, ◌<◌, ◌≤◌, ◌||◌, Bool, true, false, List, ℕ, [], ◌∷◌, length, map, take, drop, get_or, refl, sym, ap, ap₂, ◌∙◌, append_assoc, append-nil}
use Rattle.std.proofs.lemmas.List.{drop_more, drop_all, take_more}
use Rattle.std.proofs.lemmas.List.Folds.{list_any-append}
use Rattle.std.proofs.lemmas.Grind.{flat_map-append}
use Rattle.std.specs.List.{flat_map}
use Rattle.ladder.specs.declared.numbers.Syn.{Syn}
use Rattle.ladder.specs.declared.passage.Passage.{Passage}
use Rattle.ladder.specs.declared.happened.Happened.{Happened}
use Rattle.ladder.specs.declared.happened.Happened.TheVariants.{Said, Passed, Printed}
use Rattle.ladder.specs.Passages.{number_of}
use Rattle.ladder.specs.Ladder.{RunView, arrives_in, ended, fitted, is_arrival, ladder_of, line_of, line_with, lines_from, rung_with, syns_by, syns_seen}

-- a line tells of one frame at most, so it goes by what is said of each frame
rung_same : (r : RunView) (p : Passage) (ever other : ℕ → Bool) (before past : ℕ → Bool) (syns : List Syn) →
    ((index : ℕ) → ever index ≡ other index) → ((index : ℕ) → before index ≡ past index) →
    rung_with r (ever (number_of p)) (before (number_of p)) syns p ≡ rung_with r (other (number_of p)) (past (number_of p)) syns p
rung_same r p ever other before past syns e b = ap₂ (λ now then. rung_with r now then syns p) (e (number_of p)) (b (number_of p))

line_same : (r : RunView) (h : Happened) (ever other : ℕ → Bool) (before past : ℕ → Bool) (syns : List Syn) →
    ((index : ℕ) → ever index ≡ other index) → ((index : ℕ) → before index ≡ past index) →
    line_with r ever before syns h ≡ line_with r other past syns h
line_same r (Said text) ever other before past syns e b = refl
line_same r (Passed p) ever other before past syns e b = rung_same r p ever other before past syns e b
line_same r (Printed text) ever other before past syns e b = refl

-- what is still to be told after so many things
abbrev pub untold : RunView → ℕ → List ℕ
untold r place = flat_map ended (map fitted (lines_from r (take place r.happened) (drop place r.happened)))

-- so many things were told, and this was seen by them
pub record IsTold (r : RunView) (place : ℕ) (ladder : List ℕ) (syns : List Syn) (arrived : ℕ → Bool) : Type 0 where
  pub told : ladder_of r ≡ ladder ++ untold r place
  pub noted : syns ≡ syns_seen r (take place r.happened)
  pub marked : (index : ℕ) → arrived index ≡ arrives_in index (take place r.happened)

-- the next line, and those behind it
next_lines : (r : RunView) (place : ℕ) (h : Happened) → place < length r.happened →
    lines_from r (take place r.happened) (drop place r.happened)
    ≡ line_of r (take place r.happened) (get_or r.happened place h) ∷ lines_from r (take (place + 1) r.happened) (drop (place + 1) r.happened)
next_lines r place h within =
    ap (lines_from r (take place r.happened)) (drop_more r.happened place h within)
    ∙ ap (λ before. line_of r (take place r.happened) (get_or r.happened place h) ∷ lines_from r before (drop (place + 1) r.happened))
    (sym (take_more r.happened place h within))

-- one SYN more, and one arrival more
syns_more : (r : RunView) (before : List Happened) (h : Happened) → syns_seen r before ++ syns_by r h ≡ syns_seen r (before ++ h ∷ [])
syns_more r before h =
    ap (λ last. syns_seen r before ++ last) (sym (append-nil (syns_by r h))) ∙ sym (flat_map-append (syns_by r) before (h ∷ []))

or_false : (b : Bool) → b ≡ (b || false)
or_false true = refl
or_false false = refl

pub arrives_more : (index : ℕ) (before : List Happened) (h : Happened) →
    (arrives_in index before || is_arrival index h) ≡ arrives_in index (before ++ h ∷ [])
arrives_more index before h =
    ap (λ last. arrives_in index before || last) (or_false (is_arrival index h)) ∙ sym (list_any-append (is_arrival index) before (h ∷ []))

-- the line that was told is the one that was to be told
same_line : (r : RunView) (before : List Happened) (h : Happened) (ever arrived : ℕ → Bool) (syns seen : List Syn) →
    ((index : ℕ) → ever index ≡ arrives_in index r.happened) → ((index : ℕ) → arrived index ≡ arrives_in index before) →
    syns ≡ syns_seen r before → seen ≡ syns ++ syns_by r h → line_with r ever arrived seen h ≡ line_of r before h
same_line r before h ever arrived syns seen all marked noted more =
    line_same r h ever (λ index. arrives_in index r.happened) arrived (λ index. arrives_in index before) seen all marked
    ∙ ap (λ s. line_with r (λ index. arrives_in index r.happened) (λ index. arrives_in index before) s h)
    (more ∙ ap (λ s. s ++ syns_by r h) noted ∙ syns_more r before h)

-- one thing more is told
pub told_more : (r : RunView) (place : ℕ) (h : Happened) (ever arrived after : ℕ → Bool) (ladder more : List ℕ) (syns seen : List Syn) → place < length r.happened →
    h ≡ get_or r.happened place h →
    ((index : ℕ) → ever index ≡ arrives_in index r.happened) →
    IsTold r place ladder syns arrived →
    more ≡ ladder ++ ended (fitted (line_with r ever arrived seen h)) →
    seen ≡ syns ++ syns_by r h →
    ((index : ℕ) → after index ≡ (arrived index || is_arrival index h)) →
    IsTold r (place + 1) more seen after
told_more r place h ever arrived after ladder more syns seen within item all is grown noted marked =
    let before = take place r.happened in
    let taken : before ++ h ∷ [] ≡ take (place + 1) r.happened = ap (λ x. before ++ x ∷ []) item ∙ sym (take_more r.happened place h within) in
    let line = line_of r before h in
    record {
      told = is.told ∙ ap (λ lines. ladder ++ flat_map ended (map fitted lines)) (next_lines r place h within)
          ∙ ap (λ x. ladder ++ (ended (fitted (line_of r before x)) ++ untold r (place + 1))) (sym item)
          ∙ sym (append_assoc ladder (ended (fitted line)) (untold r (place + 1)))
          ∙ ap (λ front. front ++ untold r (place + 1))
          (ap (λ told. ladder ++ ended (fitted told)) (sym (same_line r before h ever arrived syns seen all is.marked is.noted noted)) ∙ sym grown);
      noted = noted ∙ ap (λ s. s ++ syns_by r h) is.noted ∙ syns_more r before h ∙ ap (syns_seen r) taken;
      marked = λ index. marked index ∙ ap (λ b. b || is_arrival index h) (is.marked index) ∙ arrives_more index before h ∙ ap (arrives_in index) taken;
    }

-- all was told
pub told_all : (r : RunView) (place : ℕ) (ladder : List ℕ) (syns : List Syn) (arrived : ℕ → Bool) → length r.happened ≤ place →
    IsTold r place ladder syns arrived → ladder ≡ ladder_of r
told_all r place ladder syns arrived done is =
    sym (is.told ∙ ap (λ left. ladder ++ flat_map ended (map fitted (lines_from r (take place r.happened) left))) (drop_all place r.happened done) ∙ append-nil ladder)
