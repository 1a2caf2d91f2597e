use Rattle.ipv4.proofs.Reading.{is_parsed, read_ok, read_err}
use Rattle.ipv4.proofs.laws.datagram.read_plainly.Goals as goal

pub returns-clause-ok : goal.returns-clause-ok
returns-clause-ok c = read_ok

pub returns-clause-err : goal.returns-clause-err
returns-clause-err c = read_err

pub returns-clause-parsed : goal.returns-clause-parsed
returns-clause-parsed c = is_parsed
