use Rattle.std.proofs.Common.{◌<◌, arith}
use Rattle.marks.proofs.ByPlace.{none_past}
use Rattle.marks.proofs.TwoLevels.{none_at_all, none_above, first_under}
use Rattle.marks.proofs.levels.first_from.Goals as goal

pub returns-then-at-words : goal.returns-then-at-words
returns-then-at-words c = λ k behind. none_past c.args.words.now k (omega arith)

pub returns-then-next_marked-summary : goal.returns-then-next_marked-summary
returns-then-next_marked-summary c = λ k behind.
    none_at_all c.args.words.now c.args.summary.now c.requires.summary (λ at within. c.next_marked.ensures.passed at (omega arith) (let here : at < c.next_marked.result = omega (arith, within, c.if-next_marked-summary.true) in here)) k

pub returns-in_err-further : goal.returns-in_err-further
returns-in_err-further c =
    rw c.from_residual.ensures
    (none_above c.args.words.now c.args.summary.now c.requires.summary c.args.from c.in_default.ensures c.in_err-further.ensures)

pub returns : goal.returns
returns c =
    first_under c.args.words.now c.args.summary.now c.requires.summary c.args.from c.in_default.ensures c.in_ok-further.further c.in_ok-further.ensures
    (omega (arith, c.type_inv.words c.in_ok-further.further)) c.first_in_word-2.result c.first_in_word-2.ensures
