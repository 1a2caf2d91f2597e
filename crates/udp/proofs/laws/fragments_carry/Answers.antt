use Rattle.udp.proofs.Carrying.{numbered, begin, first_part, later_part, later_within}
use Rattle.udp.proofs.laws.fragments_carry.Goals as goal

pub returns-clause-numbered : goal.returns-clause-numbered
returns-clause-numbered c = numbered

pub returns-clause-begin : goal.returns-clause-begin
returns-clause-begin c = begin

pub returns-clause-first : goal.returns-clause-first
returns-clause-first c = first_part

pub returns-clause-later : goal.returns-clause-later
returns-clause-later c = later_part

pub returns-clause-within : goal.returns-clause-within
returns-clause-within c = later_within
