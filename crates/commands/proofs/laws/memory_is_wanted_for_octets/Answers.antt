use Rattle.commands.proofs.WantedLemmas.{wanted}
use Rattle.commands.proofs.laws.memory_is_wanted_for_octets.Goals as goal

pub returns : goal.returns
returns c = wanted
