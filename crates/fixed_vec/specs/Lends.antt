-- What a `FixedVec` ends as, where a `&mut` to its elements is returned.
use Rattle.std.specs.Prelude.{List}
use Rattle.std.specs.Borrow.{Lends, Fml, RattleType, MutBor, Array}
use Rattle.fixed_vec.specs.FixedVec.{FixedVec, with_items}
use Rattle.fixed_vec.specs.contracts.fixed_vec.FixedVec.{the_row}

module _ (T : RattleType) (v : MutBor (FixedVec T.Denot)) where
  -- once the borrow r ends, the elements are those that r shows last
  abbrev pub lends_slice : MutBor (List T.Denot) → Fml
  lends_slice r = Lends (the_row T) (Array T 0) v r (with_items v.now)
