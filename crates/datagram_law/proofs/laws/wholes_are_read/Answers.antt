use Rattle.datagram_law.proofs.Reading.{parsed, read, came}
use Rattle.datagram_law.proofs.laws.wholes_are_read.Goals as goal

pub returns-clause-parsed : goal.returns-clause-parsed
returns-clause-parsed c = parsed

pub returns-clause-read : goal.returns-clause-read
returns-clause-read c = read

pub returns-clause-came : goal.returns-clause-came
returns-clause-came c = came
