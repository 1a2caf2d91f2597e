use Rattle.host.proofs.FirstPlace.{for-none, for-reply, for-entry, only-none}
use Rattle.host.proofs.laws.the_first_place_goes_out.Goals as goal

pub returns-clause-reply : goal.returns-clause-reply
returns-clause-reply c = for-reply

pub returns-clause-entry : goal.returns-clause-entry
returns-clause-entry c = for-entry

pub returns-clause-none : goal.returns-clause-none
returns-clause-none c = for-none

pub returns-clause-only : goal.returns-clause-only
returns-clause-only c = only-none
