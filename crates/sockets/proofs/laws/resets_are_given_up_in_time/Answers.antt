use Rattle.sockets.proofs.ResetWaits.{given_up_in_time}
use Rattle.sockets.proofs.laws.resets_are_given_up_in_time.Goals as goal

pub returns : goal.returns
returns c = given_up_in_time
