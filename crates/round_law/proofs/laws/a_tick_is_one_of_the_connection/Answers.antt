use Rattle.round_law.proofs.Ticked.{ticked_alone}
use Rattle.round_law.proofs.laws.a_tick_is_one_of_the_connection.Goals as goal

pub returns : goal.returns
returns c = ticked_alone
