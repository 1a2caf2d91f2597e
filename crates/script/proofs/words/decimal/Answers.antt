use Rattle.script.proofs.WordLemmas.{digits_are_utf8, parsed_digits}
use Rattle.script.proofs.words.decimal.Goals as goal

pub returns-in-Ok : goal.returns-in-Ok
returns-in-Ok c =
    let parses = rw c.in-Ok.ensures.cases.0 at c.parse.ensures.value.0 in
    let read = parsed_digits c.args.digits.now c.parse.result parses c.requires.some c.requires.digits in
    rw c.ok.ensures.value read

pub returns-in-Err : goal.returns-in-Err
returns-in-Err c = λ _. c.in-Err.ensures.cases.0 (digits_are_utf8 c.args.digits.now c.requires.digits)
