use Rattle.routes.proofs.Ends.{end_decides}
use Rattle.routes.proofs.laws.past_the_prefix_of_an_end_all_bits_are_alike.Goals as goal

pub returns : goal.returns
returns c addr prefix four octets = end_decides prefix addr four octets
