-- What a contract sees of a `FixedVec`.
use Rattle.std.specs.Prelude.{ℕ, List, ◌++◌, length, take, drop, refl}
use Rattle.std.specs.Coded.{Coded, code_by, coded×, coded_list, coded_ℕ}

-- the elements, in order, and how many there may be
pub record FixedVec (T : Type 0) : Type 0 where
  pub items : List T
  pub most : ℕ

-- a vector is stored as these two
abbrev pub fixed_vec_code : {T : Type 0} → Coded T → Coded (FixedVec T)
fixed_vec_code {T} code =
    code_by (List T × ℕ) (coded× (coded_list code) coded_ℕ) (λ v. (v.items, v.most)) (λ p. record { items = p.0; most = p.1 }) (λ _. refl)

module _ {T : Type 0} where
  -- how many elements there are
  abbrev pub fixed_vec_len : FixedVec T → ℕ
  fixed_vec_len v = length v.items

  -- v after a write of its elements as a slice, which keeps their number
  abbrev pub with_items : FixedVec T → List T → FixedVec T
  with_items v xs = record v { items = take (fixed_vec_len v) (xs ++ drop (length xs) v.items) }
