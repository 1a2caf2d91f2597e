use Rattle.ether.proofs.Reading.{is_spelled, read_ok, read_err}
use Rattle.ether.proofs.laws.read_plainly.Goals as goal

pub returns-clause-ok : goal.returns-clause-ok
returns-clause-ok c = read_ok

pub returns-clause-err : goal.returns-clause-err
returns-clause-err c = read_err

pub returns-clause-spelled : goal.returns-clause-spelled
returns-clause-spelled c = is_spelled
