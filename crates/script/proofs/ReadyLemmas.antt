-- Words that are shown one by one, each behind a blank where another stands before it, are the text of those that hold.
use Rattle.std.proofs.Common.{◌≡◌, ℕ, Bool, true, false, ◌||◌, not, List, [], ◌∷◌, ◌++◌, codes, refl, sym, ap}
use Rattle.std.specs.List.{flat_map}
use Rattle.sockets.specs.declared.ready.Ready.{Ready}
use Rattle.script.specs.Text.{ready_text, that_hold, word_shown, words_text}

-- those after the first, or all of them, and `none` where none was shown
abbrev pub shown : Bool → List (Bool × List ℕ) → List ℕ
shown others [] = word_shown (not others) false (codes "none")
shown others ((holds, word) ∷ rest) = word_shown holds others word ++ shown (others || holds) rest

behind_others : (xs : List (Bool × List ℕ)) → shown true xs ≡ flat_map (λ word. codes " " ++ word) (that_hold xs)
behind_others [] = refl
behind_others ((true, word) ∷ rest) = ap (λ l. (codes " " ++ word) ++ l) (behind_others rest)
behind_others ((false, word) ∷ rest) = behind_others rest

pub all_shown : (xs : List (Bool × List ℕ)) → shown false xs ≡ words_text (that_hold xs)
all_shown [] = refl
all_shown ((true, word) ∷ rest) = ap (λ l. word ++ l) (behind_others rest)
all_shown ((false, word) ∷ rest) = all_shown rest

pub ready_in_turn : (r : Ready)
    → ready_text r ≡ word_shown r.accept false (codes "ACCEPT") ++ (word_shown r.read r.accept (codes "READ") ++ (word_shown r.write (r.accept || r.read) (codes "WRITE")
    ++ (word_shown r.ended ((r.accept || r.read) || r.write) (codes "ENDED") ++ (word_shown r.failed (((r.accept || r.read) || r.write) || r.ended) (codes "FAILED")
    ++ (word_shown r.opening ((((r.accept || r.read) || r.write) || r.ended) || r.failed) (codes "OPENING")
    ++ word_shown (not (((((r.accept || r.read) || r.write) || r.ended) || r.failed) || r.opening)) false (codes "none"))))))
ready_in_turn r = sym (all_shown ((r.accept, codes "ACCEPT") ∷ (r.read, codes "READ") ∷ (r.write, codes "WRITE") ∷ (r.ended, codes "ENDED") ∷ (r.failed, codes "FAILED") ∷ (r.opening, codes "OPENING") ∷ []))
