use Rattle.host.proofs.Unusable.{untaken_reported, unbound_reported}
use Rattle.host.proofs.laws.unusable_datagrams_are_reported.Goals as goal

pub returns : goal.returns
returns c = record { protocol = untaken_reported; port = unbound_reported }
