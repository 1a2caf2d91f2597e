use Rattle.std.proofs.Common.{◌∙◌, refl, ap}
use Rattle.std.specs.Int.{div_ceil}
use Rattle.marks.proofs.Kept.{stored_new}
use Rattle.marks.proofs.flags.Marks.new.Goals as goal

pub invariant_of-result : goal.invariant_of-result
invariant_of-result c = (
  stored_new c.args.most c.div_ceil.result c.div_ceil-2.result c.in_ok-words.words.items c.in_ok-summary.summary.items c.requires c.div_ceil.ensures
      (c.div_ceil-2.ensures ∙ ap (λ n. div_ceil n 64) (c.len.ensures ∙ c.in_ok-words.ensures.len))
      (c.in_ok-words.ensures.items_if_clones_equal (λ y e. e))
      (c.in_ok-summary.ensures.items_if_clones_equal (λ y e. e)),
  refl,
)
