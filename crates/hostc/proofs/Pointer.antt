-- The machine values of a struct of one pointer: what is owned tells them, and is made of nothing. Assumes `Logic`.
use Rattle.std.proofs.Common.{◌≡◌, List, [], ◌∷◌, ◌++◌, refl, ◌∙◌, lit<}
use seplogic.Ra.Ura.{Ura}
use mir.Syntax.{ty_ptr, Ty, ty_struct, tcons, tnil}
use lib.Dec.{T}
use mir.Val.{Val, vstruct, vcons, vnil, of_list, has_ty, WT}
use base.Logic.{ent, emp}
use base.Fml.{Fml}
use types.Logic.{Logic, sem}
use denote.RattleType.{RattleType}
use denote.RawPtr.{Ptr, RawPtr, block_ptr, null_ptr, ptr_val}
use denote.Shadow.{shadow, makes_shadow}
use denote.Struct.Struct.{Struct}

-- a struct by its fields alone: what it owns does not read its name
abbrev plainly : List RattleType → RattleType
plainly Rs = Struct (record { name = []; args = []; types = []; fields = Rs })

-- a machine value of its type
abbrev pub Good : Ty → Val → Type 0
Good τ v = T (has_ty τ v) × WT v

pub ptr_typed : (p : Ptr) → Good ty_ptr (ptr_val p)
ptr_typed (block_ptr b o) = (tt, tt)
ptr_typed null_ptr = (tt, record { fits = lit< tt })

abbrev pub one_val : Ptr → Val
one_val p = vstruct (vcons (ptr_val p) vnil)

abbrev pub one_own : Ptr → List Val → Fml
one_own p = (plainly (RawPtr ∷ [])).own_val (p, tt)

pub one_told : (p : Ptr) (vs : List Val) → shadow (one_own p vs) → vs ≡ one_val p ∷ []
one_told p vs s = s.1.0 ∙ (λ i. vstruct (of_list (s.1.1.0 i ++ [])) ∷ [])

pub one_made : {M : Type 1} {𝓤 : Ura M} (𝓛 : Logic 𝓤) (p : Ptr) → ent 𝓤 (emp 𝓤) (sem 𝓛 (one_own p (one_val p ∷ [])))
one_made 𝓛 p = makes_shadow 𝓛 (one_own p (one_val p ∷ [])) (λ _. (tt, (tt, tt))) ((ptr_val p ∷ [], tt), (refl, (refl, tt)))

pub one_typed : (p : Ptr) → Good (ty_struct [] (tcons ty_ptr tnil)) (one_val p)
one_typed (block_ptr b o) = (tt, (tt, tt))
one_typed null_ptr = (tt, (record { fits = lit< tt }, tt))
