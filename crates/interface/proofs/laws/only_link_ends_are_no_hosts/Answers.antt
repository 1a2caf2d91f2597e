use Rattle.interface.proofs.NoHosts.{no_host}
use Rattle.interface.proofs.laws.only_link_ends_are_no_hosts.Goals as goal

pub returns : goal.returns
returns c = no_host
