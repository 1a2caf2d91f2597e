use Rattle.std.proofs.Common.{◌∙◌, refl, ap}
use Rattle.marks.specs.Bits.{has}
use Rattle.marks.proofs.ByPlace.{in_word, put_others}
use Rattle.marks.proofs.levels.put.Goals as goal

pub returns-clause-same : goal.returns-clause-same
returns-clause-same c =
    ap (λ ws. has ws c.args.place) c.replace.ensures.words
    ∙ in_word c.args.words.now _ c.with_bit-word.result c.requires.within c.args.place refl
    ∙ c.with_bit-word.ensures.same

pub returns-clause-others : goal.returns-clause-others
returns-clause-others c = λ k other.
    ap (λ ws. has ws k) c.replace.ensures.words
    ∙ put_others c.args.words.now c.args.place c.with_bit-word.result c.requires.within c.with_bit-word.ensures.others k other
