use Rattle.arp.proofs.GivesWay.{longest_unheard_gives_way}
use Rattle.arp.proofs.laws.the_longest_unheard_gives_way.Goals as goal

pub returns : goal.returns
returns c = longest_unheard_gives_way
