-- Tests and what is chosen by them.
use Rattle.std.proofs.Common.{◌≡◌, ◌||◌, ◌&&◌, ◌⊎◌, not, Bool, true, false, if◌then◌else◌, inl, inr, refl}

-- what holds of either holds of the one that is chosen
pub either : (A : Type 0) (P : A → Type 0) (test : Bool) (v w : A) → (test ≡ true → P v) → (test ≡ false → P w) → P (if test then v else w)
either A P true v w if_true if_false = if_true refl
either A P false v w if_true if_false = if_false refl

pub by : (C : Type 0) (b : Bool) → (b ≡ true → C) → (b ≡ false → C) → C
by C true if_true if_false = if_true refl
by C false if_true if_false = if_false refl

-- a test doesn't answer both
pub clash : {C : Type 0} (b : Bool) → b ≡ true → b ≡ false → C
clash true e f = cc
clash false e f = cc

pub and_left : (a b : Bool) → (a && b) ≡ true → a ≡ true
and_left true b e = refl
and_left false b e = cc

pub and_right : (a b : Bool) → (a && b) ≡ true → b ≡ true
and_right true b e = e
and_right false b e = cc

pub and_false : (b : Bool) → (b && false) ≡ false
and_false true = refl
and_false false = refl

pub both : (a b : Bool) → a ≡ true → b ≡ true → (a && b) ≡ true
both true b e f = f
both false b e f = cc

pub or_left : (a b : Bool) → a ≡ true → (a || b) ≡ true
or_left true b e = refl
or_left false b e = cc

pub or_right : (a b : Bool) → b ≡ true → (a || b) ≡ true
or_right true b e = refl
or_right false b e = e

pub or_else : (a b : Bool) → (a || b) ≡ true → (a ≡ true) ⊎ (b ≡ true)
or_else true b e = inl refl
or_else false b e = inr e

-- neither of two
pub neither : (a b : Bool) → (a || b) ≡ false → (a ≡ false) × (b ≡ false)
neither true b e = cc
neither false b e = (refl, e)

pub not_true : (b : Bool) → not b ≡ true → b ≡ false
not_true true e = cc
not_true false e = refl

pub of_false : (b : Bool) → b ≡ false → not b ≡ true
of_false true e = cc
of_false false e = refl

pub then_chosen : (t a b : Bool) → t ≡ true → a ≡ true → (if t then a else b) ≡ true
then_chosen true a b e f = f
then_chosen false a b e f = cc

pub else_chosen : (t a b : Bool) → t ≡ false → b ≡ true → (if t then a else b) ≡ true
else_chosen true a b e f = cc
else_chosen false a b e f = f

-- what isn't without another is with it
pub and_not : (a b : Bool) → (a && not b) ≡ false → a ≡ true → b ≡ true
and_not true true e f = refl
and_not true false e f = cc
and_not false b e f = cc

-- nothing is owed before the end
pub unowed : (owes closed left : Bool) → closed ≡ false → (owes && not (closed && left)) ≡ false → owes ≡ false
unowed true true left c e = cc
unowed true false left c e = cc
unowed false closed left c e = refl
