-- What a link in memory tells after one passage more.
use Rattle.std.proofs.Common.{◌≡◌, List, [], ◌∷◌, ◌++◌, refl, sym, ap, append-nil}
use Rattle.devices.specs.declared.link.memory.Passage.{Passage as Kept}
use Rattle.devices.specs.Told.{passage_of, told_of}

pub told_more : (passages : List Kept) (p : Kept) → told_of (passages ++ p ∷ []) ≡ told_of passages ++ passage_of p ∷ []
told_more [] p = refl
told_more (x ∷ xs) p = ap (λ l. passage_of x ∷ l) (told_more xs p)

pub told_same : (passages : List Kept) → told_of passages ≡ told_of passages ++ []
told_same passages = sym (append-nil (told_of passages))
