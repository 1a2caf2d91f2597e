use Rattle.sockets.proofs.Grants.{given_way}
use Rattle.sockets.proofs.granted.only_openings_and_time_wait_are_given.Goals as goal

pub returns : goal.returns
returns c = given_way
