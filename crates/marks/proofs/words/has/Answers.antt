use Rattle.std.proofs.Common.{◌∙◌, sym}
use Rattle.marks.proofs.ByPlace.{has_at}
use Rattle.marks.proofs.words.has.Goals as goal

pub returns : goal.returns
returns c = c.is_bit_set.ensures ∙ sym (has_at c.args.words.now c.args.place)
