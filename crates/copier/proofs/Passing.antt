-- What passes through a link while a course goes on.
use Rattle.std.proofs.Common.{◌≡◌, ℕ, Bool, false, List, [], ◌∷◌, ◌++◌, Option, Some, None, Result, Ok, Err, refl, sym, ◌∙◌, ap, subst, append_assoc, append-nil}
use Rattle.std.specs.Option.{IfNone}
use Rattle.std.specs.Result.{OnErr}
use Rattle.std.specs.Prelude.{is_some}
use Rattle.sides.specs.declared.side.Side.{Side}
use Rattle.devices.specs.Passages.{Passage, taken, given, Grows, MayGive, IsFairLink}
use Rattle.copy_law.specs.Course.{IsCourse}
use Rattle.copier.specs.declared.ends.Ends.{Ends}
use Rattle.copier.specs.Moves.{copy_of, Emits, Hears, KeepsTold, Carries}

grown : (told more : List Passage) (new : Option (List Passage)) → Grows (Some told) new more → new ≡ Some (told ++ more)
grown told more None g = absurd g
grown told more (Some longer) g = ap Some g

-- passages more
pub grows-to : (old new : Option (List Passage)) (told more : List Passage) → old ≡ Some told → Grows old new more → new ≡ Some (told ++ more)
grows-to old new told more is g = grown told more new (subst (λ o. Grows o new more) is g)

-- what passed before was fair
pub fair_before : (told more : List Passage) → IsFairLink (told ++ more) → IsFairLink told
fair_before told more fair before after to frame is =
    fair before (after ++ more) to frame (ap (λ l. l ++ more) is ∙ append_assoc (before ++ given to frame ∷ []) after more)

-- and so was the last frame that was given
pub fair_last : (told : List Passage) (to : Side) (frame : List ℕ) → IsFairLink (told ++ given to frame ∷ []) → MayGive told to frame
fair_last told to frame fair = fair told [] to frame (sym (append-nil (told ++ given to frame ∷ [])))

-- One passage, or none.

pub keeps-grown : (old new : Option (List Passage)) (more : List Passage) → Grows old new more → KeepsTold old new
keeps-grown old new more g told is = (told ++ more, grows-to old new told more is g, fair_before told more)

pub carries-taken : (old new : Option (List Passage)) (from : Side) (frame : List ℕ) (a b : Ends) → Grows old new (taken from frame ∷ []) → Emits from frame a b → Carries old new a b
carries-taken old new from frame a b g emits told is =
    (told ++ taken from frame ∷ [], grows-to old new told (taken from frame ∷ []) is g, λ fair. (fair_before told (taken from frame ∷ []) fair, λ sent read closed ended course. emits told sent read closed ended course))

pub carries-given : (old new : Option (List Passage)) (to : Side) (frame : List ℕ) (a b : Ends) → Grows old new (given to frame ∷ []) → Hears to frame a b → Carries old new a b
carries-given old new to frame a b g hears told is =
    (told ++ given to frame ∷ [], grows-to old new told (given to frame ∷ []) is g, λ fair. (fair_before told (given to frame ∷ []) fair, λ sent read closed ended course. hears told sent read closed ended (fair_last told to frame fair) course))

pub carries-nothing : (old new : Option (List Passage)) (a b : Ends) → Grows old new [] → b ≡ a → Carries old new a b
carries-nothing old new a b g same told is =
    (told, grows-to old new told [] is g ∙ ap Some (append-nil told), λ fair. (fair, λ sent read closed ended course. subst (λ e. IsCourse (copy_of e told sent read closed ended)) (sym same) course))

-- Steps in turn.

pub keeps-same : (old : Option (List Passage)) → KeepsTold old old
keeps-same old told is = (told, is, λ fair. fair)

pub keeps-then : (a b c : Option (List Passage)) → KeepsTold a b → KeepsTold b c → KeepsTold a c
keeps-then a b c first second told is =
    let x = first told is in
    let y = second x.0 x.1 in
    (y.0, y.1, λ fair. x.2 (y.2 fair))

pub carries-same : (old : Option (List Passage)) (a : Ends) → Carries old old a a
carries-same old a told is = (told, is, λ fair. (fair, λ sent read closed ended course. course))

pub carries-then : (o p q : Option (List Passage)) (a b c : Ends) → Carries o p a b → Carries p q b c → Carries o q a c
carries-then o p q a b c first second told is =
    let x = first told is in
    let y = second x.0 x.1 in
    (y.0, y.1, λ fair. (let g = y.2 fair in let f = x.2 g.0 in (f.0, λ sent read closed ended course. g.1 sent read closed ended (f.1 sent read closed ended course))))

-- what carries a course keeps what was told
pub carries-keeps : (o p : Option (List Passage)) (a b : Ends) → Carries o p a b → KeepsTold o p
carries-keeps o p a b carries told is = let x = carries told is in (x.0, x.1, λ fair. (x.2 fair).0)

-- what holds after a fault, and where there is nothing
pub on_err : {T E P : Type 0} (r : Result T E) → P → OnErr r P
on_err (Ok x) p = tt
on_err (Err e) p = p

pub if_none : {T P : Type 0} (o : Option T) → P → IfNone o P
if_none None p = p
if_none (Some x) p = tt

pub none_of : {T : Type 0} (o : Option T) → is_some o ≡ false → o ≡ None
none_of None e = refl
none_of (Some x) e = cc

pub some_same : {T : Type 0} (x y : T) → Some x ≡ Some y → x ≡ y
some_same x y e = cc

-- what a carried course is where the link is fair
pub brings-of : (o n : Option (List Passage)) (a b : Ends) (told longer : List Passage) → Carries o n a b → o ≡ Some told → n ≡ Some longer → IsFairLink longer
    → (sent read : List ℕ) (closed ended : Bool) → IsCourse (copy_of a told sent read closed ended) → IsCourse (copy_of b longer sent read closed ended)
brings-of o n a b told longer carries is_old is_new fair =
    let x = carries told is_old in
    let same : x.0 ≡ longer = some_same x.0 longer (sym x.1 ∙ is_new) in
    (subst (λ t. IsFairLink t → IsFairLink told × ((sent read : List ℕ) (closed ended : Bool) → IsCourse (copy_of a told sent read closed ended) → IsCourse (copy_of b t sent read closed ended))) same x.2 fair).1
