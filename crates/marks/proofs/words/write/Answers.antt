use Rattle.std.proofs.Common.{◌∙◌, refl}
use Rattle.marks.proofs.ByPlace.{in_word, put_others}
use Rattle.marks.proofs.words.write.Goals as goal

pub returns-clause-same : goal.returns-clause-same
returns-clause-same c = in_word c.args.words.now _ c.with_bit.result c.requires c.args.place refl ∙ c.with_bit.ensures.same

pub returns-clause-others : goal.returns-clause-others
returns-clause-others c = put_others c.args.words.now c.args.place c.with_bit.result c.requires c.with_bit.ensures.others
