-- The rooms that are free, and what a removal leaves of a queue.
use Rattle.std.proofs.Common.{◌≡◌, ℕ, zero, suc, ◌+◌, ◌<◌, Bool, true, false, cond, List, [], ◌∷◌, length, get_or, drop, filter, remove, refl, ap, arith}
use Rattle.std.proofs.lemmas.List.Sums.{count_by-le-length}
use Rattle.interface.specs.declared.reply.Waiting.{Waiting}
use Rattle.interface.specs.Queue.{has_room, rooms_held}

-- where fewer wait than may, a room is free
pub some_spare : (spare most : ℕ) (replies : List Waiting) → spare + rooms_held replies ≡ most → length replies < most → 0 < spare
some_spare spare most replies all few = omega (arith, all, few, count_by-le-length (λ (waiting : Waiting). has_room waiting.reply) replies)

-- what is kept of a list whose later elements are all kept
pub kept_from : {X : Type 0} (p : X → Bool) (xs : List X) (k : ℕ) (d : X) → k < length xs → p (get_or xs k d) ≡ true
    → filter p (drop (suc k) xs) ≡ drop (suc k) xs → filter p (drop k xs) ≡ drop k xs
kept_from p [] k d within here rest = absurd (omega (arith, within))
kept_from p (x ∷ xs) zero d within here rest = rw here (ap (λ ys. x ∷ ys) rest)
kept_from p (x ∷ xs) (suc k) d within here rest = kept_from p xs k d (omega (arith, within)) here rest

-- what stands behind an element that was removed
pub drop_removed : {X : Type 0} (xs : List X) (k : ℕ) → drop k (remove xs k) ≡ drop (suc k) xs
drop_removed [] zero = refl
drop_removed [] (suc k) = refl
drop_removed (x ∷ xs) zero = refl
drop_removed (x ∷ xs) (suc k) = drop_removed xs k

-- an element that isn't kept can be removed before
pub filter_removed : {X : Type 0} (p : X → Bool) (xs : List X) (k : ℕ) (d : X) → k < length xs → p (get_or xs k d) ≡ false
    → filter p (remove xs k) ≡ filter p xs
filter_removed p [] k d within out = absurd (omega (arith, within))
filter_removed p (x ∷ xs) zero d within out = rw out refl
filter_removed p (x ∷ xs) (suc k) d within out =
    ap (λ ys. cond (p x) (x ∷ ys) ys) (filter_removed p xs k d (omega (arith, within)) out)
