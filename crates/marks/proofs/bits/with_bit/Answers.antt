use Rattle.std.proofs.Common.{sym, ◌∙◌, w64}
use Rattle.std.proofs.lemmas.Nat.Bits.{bit_at_set_same, bit_at_set_other, bit_at_clear_same, bit_at_clear_other}
use Rattle.marks.proofs.OneWord.{same_bit, bit_is_set, bit_is_clear}
use Rattle.marks.proofs.bits.with_bit.Goals as goal

pub returns-then-is_set-clause-same : goal.returns-then-is_set-clause-same
returns-then-is_set-clause-same c = bit_is_set _ _ (bit_at_set_same w64 c.args.word c.args.at c.requires) ∙ sym c.if-is_set.true

pub returns-then-is_set-clause-others : goal.returns-then-is_set-clause-others
returns-then-is_set-clause-others c = λ k within other. same_bit _ _ k k (bit_at_set_other w64 c.args.word c.args.at c.requires k other)

pub returns-else-is_set-clause-same : goal.returns-else-is_set-clause-same
returns-else-is_set-clause-same c = bit_is_clear _ _ (bit_at_clear_same w64 c.args.word c.args.at c.requires) ∙ sym c.if-is_set.false

pub returns-else-is_set-clause-others : goal.returns-else-is_set-clause-others
returns-else-is_set-clause-others c = λ k within other. same_bit _ _ k k (bit_at_clear_other w64 c.args.word c.args.at c.requires k within other)
