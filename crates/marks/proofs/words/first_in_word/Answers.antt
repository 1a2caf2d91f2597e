use Rattle.marks.proofs.ByPlace.{none_in_word, first_in_word}
use Rattle.marks.proofs.words.first_in_word.Goals as goal

pub returns-in_err-at : goal.returns-in_err-at
returns-in_err-at c = rw c.from_residual.ensures (none_in_word c.args.words.now c.args.from c.in_err-at.ensures)

pub returns : goal.returns
returns c = first_in_word c.args.words.now c.args.from c.in_ok-at.at c.in_ok-at.ensures
