use Rattle.std.proofs.Common.{◌∙◌, ap}
use Rattle.marks.specs.Bits.{has, has_bit}
use Rattle.marks.proofs.ByPlace.{down_before, down_behind}
use Rattle.marks.proofs.levels.move_down.Goals as goal

pub returns-clause-before : goal.returns-clause-before
returns-clause-before c = λ k lower.
    ap (λ ws. has ws k) c.replace.ensures.words
    ∙ down_before c.args.words.now c.args.place c.without_bit-word.result c.requires.within c.without_bit-word.ensures.before k lower

pub returns-clause-behind : goal.returns-clause-behind
returns-clause-behind c = λ k higher here.
    ap (λ ws. has ws k) c.replace.ensures.words
    ∙ down_behind c.args.words.now c.args.place c.without_bit-word.result c.requires.within c.without_bit-word.ensures.behind
    (c.without_bit-word.ensures.last ∙ ap (λ w. has_bit w 0) c.word_at-next.ensures) k higher here
